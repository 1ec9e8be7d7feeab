-- Laws of a list in which the elements at places that pass are 0, one place after the other from the first on.
-- Assumes nothing.
use Rattle.std.specs.Prelude.{◌≡◌, refl, Bool, true, false, ◌&&◌, ◌≢◌, ◌⊎◌, List, ℕ, ◌+◌, ◌<◌, ltb, length, get_or, set}
use Rattle.std.proofs.Math.Path.{sym}
use Rattle.std.proofs.Common.{◌∙◌, inl, inr, arith, length-set, ext_get_or, get_or-set_same, get_or-set_other}
use Rattle.std.proofs.Math.ListN.{get_or-eq_default}
use Rattle.std.proofs.lemmas.List.{set-get_or}
use borrow.Author.Tests.{ltb-true, ltb-false, lt-ltb, le-ltb}
use Rattle.lists.specs.Lists.{pick, zeroed}
use Rattle.lists.specs.Laws.Tests.{by_same, by_test, pick_same}
use Rattle.lists.specs.Laws.UpTo.{get_d_map_up_to, length_map_up_to}

module _ (f : ℕ → Bool) (l : List ℕ) where
  -- what place j holds
  abbrev zero_at : ℕ → ℕ
  zero_at j = pick (f j) 0 (get_or l j 0)

  pub zeroed_length : length (zeroed f l) ≡ length l
  unfolding zeroed
  zeroed_length = length_map_up_to zero_at (length l)

  -- past the end too, where all is 0
  pub zeroed_at : (j : ℕ) → get_or (zeroed f l) j 0 ≡ zero_at j
  unfolding zeroed
  zeroed_at j =
      by_test (ltb j (length l))
      (λ e. get_d_map_up_to zero_at 0 (length l) j (ltb-true j (length l) e))
      (λ e.
      let h = ltb-false j (length l) e in
      get_or-eq_default (zeroed f l) 0 {n = j} (omega (arith, zeroed_length)) ∙ sym (rw (get_or-eq_default l 0 {n = j} h) (pick_same {A = ℕ} (f j) 0)))

  zeroed_is : (r : List ℕ) → length r ≡ length l → ((j : ℕ) → j < length l → get_or r j 0 ≡ zero_at j) → r ≡ zeroed f l
  zeroed_is r e h = ext_get_or 0 r (zeroed f l) (e ∙ sym zeroed_length) (λ j k. h j (omega arith) ∙ sym (zeroed_at j))

-- the places below n that pass
abbrev pub below : (ℕ → Bool) → ℕ → ℕ → Bool
below f n j = ltb j n && f j

module _ (f : ℕ → Bool) (l : List ℕ) where
  -- from the first place on
  pub zeroed_none : l ≡ zeroed (below f 0) l
  zeroed_none = zeroed_is (below f 0) l l refl (λ j h. rw (le-ltb j 0 (omega arith)))

  module _ (n : ℕ) where
    abbrev now : List ℕ
    now = zeroed (below f n) l

    -- a place not yet come to is as it was
    pub zeroed_later : get_or now n 0 ≡ get_or l n 0
    zeroed_later = zeroed_at (below f n) l n ∙ rw (le-ltb n n (omega arith))

    -- one place more: one that passes, or another
    one_more : set now n (pick (f n) 0 (get_or l n 0)) ≡ zeroed (below f (n + 1)) l
    one_more = zeroed_is (below f (n + 1)) l (set now n (pick (f n) 0 (get_or l n 0))) (length-set now n _ ∙ zeroed_length (below f n) l) (λ j h. each j h (by_same j n))
      where
        each : (j : ℕ) → j < length l → (j ≡ n) ⊎ (j ≢ n) → get_or (set now n (pick (f n) 0 (get_or l n 0))) j 0 ≡ pick (below f (n + 1) j) 0 (get_or l j 0)
        each j h (inl e) = rw (e, lt-ltb n (n + 1) (omega arith)) (get_or-set_same now n (pick (f n) 0 (get_or l n 0)) 0 (omega (arith, zeroed_length (below f n) l)))
        each j h (inr e) =
            get_or-set_other now n j (pick (f n) 0 (get_or l n 0)) 0 e ∙ zeroed_at (below f n) l j
            ∙ by_test (ltb j n) (λ q. rw (q, lt-ltb j (n + 1) (omega (arith, ltb-true j n q)))) (λ q. rw (q, le-ltb j (n + 1) (omega (arith, ltb-false j n q))))

    pub zeroed_own : f n ≡ true → set now n 0 ≡ zeroed (below f (n + 1)) l
    zeroed_own h = rw h at one_more

    pub zeroed_other : f n ≡ false → now ≡ zeroed (below f (n + 1)) l
    zeroed_other h = sym (rw zeroed_later at (set-get_or now n 0)) ∙ rw h at one_more
