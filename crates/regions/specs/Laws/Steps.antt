-- Shares changed in place, one pointer after the other, and that this is `moved`. Code that is lent the shares is stated by these steps: of a lent array
-- neither its length nor the size of its elements is known.
-- Assumes nothing.
use Rattle.std.specs.Prelude.{◌≡◌, ℕ, suc, ◌+◌, ◌-◌, ◌*◌, ◌%◌, ◌<◌, ◌≢◌, ◌⊎◌, List, [], ◌∷◌, ◌++◌, length, ◌==◌, slice_index, slice_set, refl}
use Rattle.std.proofs.Math.Path.{sym, ap}
use Rattle.std.proofs.Common.{◌∙◌, inl, inr, length-set, ne_eqb}
use Rattle.lists.specs.Lists.{pick, times}
use Rattle.lists.specs.Laws.Tests.{by_same, by_test}
use Rattle.regions.specs.Regions.{count_in, moved}
use Rattle.regions.specs.Laws.Counts.{Shares, rolled_zero, entered, left, count_below, count_moved, moved_none, moved_moved, moved_shares, moved_come_skip, moved_gone_skip}

-- filler f's share of the region with tag t and d more, modulo 2^32; tag 0 is no region's
unfoldable pub stepped : ℕ → ℕ → List ℕ → ℕ → List ℕ
stepped d f cs t = pick (t == 0) cs (slice_set cs (4 * (t - 1) + f) ((slice_index cs (4 * (t - 1) + f) + d) % 4294967296))

-- that of each of a list, one after the other
unfoldable pub steps : ℕ → ℕ → List ℕ → List ℕ → List ℕ
steps d f cs [] = cs
steps d f cs (t ∷ ts) = steps d f (stepped d f cs t) ts

-- a pointer into the region with tag t more, and one less, by filler f; pointers into each of a list
abbrev pub entering : ℕ → List ℕ → ℕ → List ℕ
entering = stepped 1

abbrev pub leaving : ℕ → List ℕ → ℕ → List ℕ
leaving = stepped 4294967295

abbrev pub enterings : ℕ → List ℕ → List ℕ → List ℕ
enterings = steps 1

abbrev pub leavings : ℕ → List ℕ → List ℕ → List ℕ
leavings = steps 4294967295

pub steps_append : (d f : ℕ) (cs a b : List ℕ) → steps d f (steps d f cs a) b ≡ steps d f cs (a ++ b)
unfolding steps
steps_append d f cs [] b = refl
steps_append d f cs (t ∷ ts) b = steps_append d f (stepped d f cs t) ts b

stepped_length : (d f : ℕ) (cs : List ℕ) (t : ℕ) → length (stepped d f cs t) ≡ length cs
unfolding stepped
stepped_length d f cs t = by_test (t == 0) (λ e. rw e) (λ e. rw e (length-set cs (4 * (t - 1) + f) ((slice_index cs (4 * (t - 1) + f) + d) % 4294967296)))

pub steps_length : (d f : ℕ) (cs ts : List ℕ) → length (steps d f cs ts) ≡ length cs
unfolding steps
steps_length d f cs [] = refl
steps_length d f cs (t ∷ ts) = steps_length d f (stepped d f cs t) ts ∙ stepped_length d f cs t

module _ (f : ℕ) (small : f < 4) where
  pub enter_moved : (cs : List ℕ) (t : ℕ) → Shares cs → entering f cs t ≡ moved f cs (t ∷ []) []
  unfolding stepped
  enter_moved cs t h = go (by_same t 0)
    where
      go : (t ≡ 0) ⊎ (t ≢ 0) → pick (t == 0) cs (slice_set cs (4 * (t - 1) + f) ((slice_index cs (4 * (t - 1) + f) + 1) % 4294967296)) ≡ moved f cs (t ∷ []) []
      go (inl e) = rw e (sym (moved_come_skip f cs [] [] 0 (inl refl) ∙ moved_none f cs h))
      go (inr e) = rw (ne_eqb t 0 e) (entered f cs small h t e)

  pub leave_moved : (cs : List ℕ) (t : ℕ) → Shares cs → leaving f cs t ≡ moved f cs [] (t ∷ [])
  unfolding stepped
  leave_moved cs t h = go (by_same t 0)
    where
      go : (t ≡ 0) ⊎ (t ≢ 0) → pick (t == 0) cs (slice_set cs (4 * (t - 1) + f) ((slice_index cs (4 * (t - 1) + f) + 4294967295) % 4294967296)) ≡ moved f cs [] (t ∷ [])
      go (inl e) = rw e (sym (moved_gone_skip f cs [] [] 0 (inl refl) ∙ moved_none f cs h))
      go (inr e) = rw (ne_eqb t 0 e) (left f cs small h t e)

  pub enterings_moved : (cs ts : List ℕ) → Shares cs → enterings f cs ts ≡ moved f cs ts []
  unfolding steps
  enterings_moved cs [] h = sym (moved_none f cs h)
  enterings_moved cs (t ∷ ts) h =
      ap (λ c. enterings f c ts) (enter_moved cs t h)
      ∙ enterings_moved (moved f cs (t ∷ []) []) ts (moved_shares f cs (t ∷ []) [] h)
      ∙ moved_moved f cs (t ∷ []) [] ts []

  pub leavings_moved : (cs ts : List ℕ) → Shares cs → leavings f cs ts ≡ moved f cs [] ts
  unfolding steps
  leavings_moved cs [] h = sym (moved_none f cs h)
  leavings_moved cs (t ∷ ts) h =
      ap (λ c. leavings f c ts) (leave_moved cs t h)
      ∙ leavings_moved (moved f cs [] (t ∷ [])) ts (moved_shares f cs [] (t ∷ []) h)
      ∙ moved_moved f cs [] (t ∷ []) [] ts

  -- once the pointers of a list have left them, by whichever filler, a count is 0 exactly if it was the number of those of its region
  pub leavings_zero : (cs ts : List ℕ) → Shares cs → (i : ℕ) → i < 64 → times (suc i) ts < 4294967296
      → (count_in (leavings f cs ts) i ≡ 0 → count_in cs i ≡ times (suc i) ts) × (count_in cs i ≡ times (suc i) ts → count_in (leavings f cs ts) i ≡ 0)
  leavings_zero cs ts h i l k = rw (leavings_moved cs ts h, count_moved f cs [] ts i small l) (rolled_zero (count_in cs i) (times (suc i) ts) (count_below cs i) k)
