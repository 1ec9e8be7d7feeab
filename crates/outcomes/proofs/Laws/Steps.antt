-- Ways to an outcome, for the proofs of the calls: a refused call and an accepted one, and a store by its parts.
-- Assumes nothing.
use Rattle.std.specs.Prelude.{◌≡◌, refl, Bool, true, false, List, [], ◌∷◌, ◌++◌, eqb, ltb}
use Rattle.std.proofs.Math.Path.{subst⁻¹}
use Prim.Native.Nat.{ℕ, zero, suc}
use Rattle.std.proofs.Common.{arith, ne_eqb, ltb-true}
use Rattle.lists.specs.Lists.{pick, every}
use Rattle.lists.specs.Laws.Tests.{both}
use Rattle.model.specs.Model.{Answer, Call, refused_by}
use Rattle.model.specs.Calls.{reason}
use Rattle.outcomes.specs.Store.{Store, frames, kinds, regions, pages}
use Rattle.outcomes.specs.Outcome.{Outcome, Accepted, Answered, store, refusal}

module _ (c : Call) (S : Store) (a : Answer) (T : Store) where
  pub by_refusal : (n : ℕ) → refusal S c ≡ n → (n ≡ 0 → ⊥) → a ≡ refused_by n → T ≡ S → Outcome c S a T
  unfolding Outcome
  by_refusal zero e z p q = absurd (z refl)
  by_refusal (suc n) e z p q = subst⁻¹ (λ m. Answered m c S a T) e (p, q)

  pub by_effect : refusal S c ≡ 0 → Accepted c S a T → Outcome c S a T
  unfolding Outcome
  by_effect e h = subst⁻¹ (λ m. Answered m c S a T) e h

-- a store is its parts
pub by_parts : (S T : Store) → frames S ≡ frames T → kinds S ≡ kinds T → regions S ≡ regions T → pages S ≡ pages T → S.heap ≡ T.heap → S ≡ T
by_parts S T f k r p h = λ i. store (record { frames = f i; kinds = k i; regions = r i; pages = p i }) (h i)

-- tests in two parts: the first part decides unless it accepts
pub reason_append : (xs ys : List (Bool × ℕ)) → every (λ t. ltb 0 t.1) xs ≡ true → reason (xs ++ ys) ≡ pick (eqb (reason xs) 0) (reason ys) (reason xs)
reason_append [] ys p = refl
reason_append (x ∷ xs) ys p = let q = both (ltb 0 x.1) _ p in go x.0 x.1 q.0 (reason_append xs ys q.1)
  where
    go : (b : Bool) (n : ℕ) → ltb 0 n ≡ true → reason (xs ++ ys) ≡ pick (eqb (reason xs) 0) (reason ys) (reason xs)
        → pick b n (reason (xs ++ ys)) ≡ pick (eqb (pick b n (reason xs)) 0) (reason ys) (pick b n (reason xs))
    go true n h ih = rw (ne_eqb n 0 (λ e. omega (arith, ltb-true 0 n h)))
    go false n h ih = ih
