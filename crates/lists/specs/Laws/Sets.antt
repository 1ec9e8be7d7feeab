-- Laws of a run of values written into a list (`sets` of lib.Seq): what each place holds afterwards. Zeros are read where they were written, also past the end.
-- Assumes nothing.
use Rattle.std.specs.Prelude.{◌≡◌, refl, ◌⊎◌, List, [], ◌∷◌, ℕ, zero, suc, ◌+◌, ◌≤◌, ◌<◌, ltb, length, get_or, set, replicate}
use Rattle.std.proofs.Common.{◌∙◌, subst, inl, inr, add-zero, not-suc-le-zero, arith, length-set, get_or-set_same, get_or-set_other, ltb-true, ltb-false}
use Rattle.std.proofs.Math.ListN.{get_or-eq_default}
use Rattle.std.proofs.lemmas.List.Edits.{sets}
use Rattle.lists.specs.Laws.Tests.{by_test}

module _ {A : Type 0} where
  pub get_d_sets_out : (vs l : List A) (i j : ℕ) (d : A) → (j < i) ⊎ (i + length vs ≤ j) → get_or (sets l i vs) j d ≡ get_or l j d
  get_d_sets_out [] l i j d h = refl
  get_d_sets_out (a ∷ vs) l i j d (inl h) = get_d_sets_out vs (set l i a) (suc i) j d (inl (omega arith)) ∙ get_or-set_other l i j a d (λ e. omega arith)
  get_d_sets_out (a ∷ vs) l i j d (inr h) = get_d_sets_out vs (set l i a) (suc i) j d (inr (omega arith)) ∙ get_or-set_other l i j a d (λ e. omega arith)

  pub get_d_sets_in : (vs l : List A) (i j : ℕ) (d : A) → i + length vs ≤ length l → j < length vs → get_or (sets l i vs) (i + j) d ≡ get_or vs j d
  get_d_sets_in [] l i j d h k = absurd (not-suc-le-zero k)
  get_d_sets_in (a ∷ vs) l i zero d h k = rw add-zero (get_d_sets_out vs (set l i a) (suc i) i d (inl (omega arith)) ∙ get_or-set_same l i a d (omega arith))
  get_d_sets_in (a ∷ vs) l i (suc j) d h k =
      let e : suc i + j ≡ i + suc j = omega arith in
      subst (λ n. get_or (sets (set l i a) (suc i) vs) n d ≡ get_or vs j d) e (get_d_sets_in vs (set l i a) (suc i) j d (rw length-set (omega arith)) (omega arith))

pub get_d_set_zero : (l : List ℕ) (i : ℕ) → get_or (set l i 0) i 0 ≡ 0
get_d_set_zero l i = by_test (ltb i (length l)) (λ h. get_or-set_same l i 0 0 (ltb-true i (length l) h)) (λ h. get_or-eq_default (set l i 0) 0 {n = i} (omega (arith, length-set l i 0, ltb-false i (length l) h)))

pub get_d_sets_zero : (n : ℕ) (l : List ℕ) (i j : ℕ) → j < n → get_or (sets l i (replicate n 0)) (i + j) 0 ≡ 0
get_d_sets_zero zero l i j h = absurd (not-suc-le-zero h)
get_d_sets_zero (suc n) l i zero h = rw add-zero (get_d_sets_out (replicate n 0) (set l i 0) (suc i) i 0 (inl (omega arith)) ∙ get_d_set_zero l i)
get_d_sets_zero (suc n) l i (suc j) h = let e : suc i + j ≡ i + suc j = omega arith in subst (λ k. get_or (sets (set l i 0) (suc i) (replicate n 0)) k 0 ≡ 0) e (get_d_sets_zero n (set l i 0) (suc i) j (omega arith))
