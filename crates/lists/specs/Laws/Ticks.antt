-- Ticks: one list after the other; and in a list of zeros just those places have one that were ticked.
-- Assumes nothing.
use Rattle.std.specs.Prelude.{◌≡◌, refl, ◌≢◌, ◌⊎◌, ◌||◌, List, [], ◌∷◌, ◌++◌, ℕ, zero, suc, ◌<◌, eqb, length, get_or, set, replicate}
use Rattle.std.proofs.Common.{sym, ◌∙◌, inl, inr, length-set, get_or-set_same, get_or-set_other, eq-eqb, ne_eqb}
use Rattle.std.proofs.Math.Bool.{or-true, or-false}
use Rattle.std.proofs.lemmas.List.{length-replicate}
use Rattle.lists.specs.Lists.{All, among}
use Rattle.lists.specs.Ticks.{ticked, tick_at}
use Rattle.lists.specs.Laws.Tests.{by_same}
use Rattle.lists.specs.Laws.All.{all_map}

pub ticked_append : (l a b : List ℕ) → ticked (ticked l a) b ≡ ticked l (a ++ b)
unfolding ticked
ticked_append l [] b = refl
ticked_append l (q ∷ qs) b = ticked_append (set l q 1) qs b

pub ticked_length : (l qs : List ℕ) → length (ticked l qs) ≡ length l
unfolding ticked
ticked_length l [] = refl
ticked_length l (q ∷ qs) = ticked_length (set l q 1) qs ∙ length-set l q 1

ticked_at : (l qs : List ℕ) (q : ℕ) → All (λ p. p < length l) qs → tick_at (ticked l qs) q ≡ (tick_at l q || among q qs)
unfolding ticked tick_at
ticked_at l [] q h = sym (or-false (eqb (get_or l q 0) 1))
ticked_at l (p ∷ ps) q h = ticked_at (set l p 1) ps q (all_map (λ x k. rw length-set k) ps h.1) ∙ go (by_same q p)
  where
    go : (q ≡ p) ⊎ (q ≢ p) → (eqb (get_or (set l p 1) q 0) 1 || among q ps) ≡ (eqb (get_or l q 0) 1 || (eqb p q || among q ps))
    go (inl e) = rw (e, get_or-set_same l p 1 0 h.0, eq-eqb p p refl) (sym (or-true (eqb (get_or l p 0) 1)))
    go (inr e) = rw (get_or-set_other l p q 1 0 e, ne_eqb p q (λ z. e (sym z)))

-- zeros are 0
pub blank_at : (n q : ℕ) → get_or (replicate {A = ℕ} n 0) q 0 ≡ 0
blank_at zero q = refl
blank_at (suc n) zero = refl
blank_at (suc n) (suc q) = blank_at n q

-- of n zeros, with places below n ticked
pub blank_ticked : (n : ℕ) (qs : List ℕ) (q : ℕ) → All (λ p. p < n) qs → tick_at (ticked (replicate n 0) qs) q ≡ among q qs
unfolding tick_at
blank_ticked n qs q h = ticked_at (replicate n 0) qs q (all_map (λ p k. rw (length-replicate {A = ℕ} n 0) k) qs h) ∙ rw (blank_at n q)
