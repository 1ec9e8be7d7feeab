-- The climb from a region to those above it: what it meets, how many steps are enough, and when two climbs go together.
-- Assumes nothing.
use Rattle.std.specs.Prelude.{◌≡◌, ◌≢◌, true, [], ◌∷◌, map, eqb}
use Rattle.std.proofs.Math.Path.{refl, sym}
use Rattle.std.proofs.Common.{ap, ◌∙◌, map-id, arith}
use Prim.Native.Nat.{ℕ, zero, suc, ◌≤◌, ◌<◌}
use borrow.Author.Tests.{eqb-true, eqb-false, ne_eqb}
use Rattle.lists.specs.Lists.{All}
use Rattle.lists.specs.Laws.Tests.{by_test, or_other}
use Rattle.lists.specs.Laws.Finds.{all_found}
use Rattle.model.specs.Model.{Model, no_region, called, region, lives_in, parent_in, climb, above}
use Rattle.model.specs.Valid.{Valid, ValidParent}
use Rattle.model.proofs.Laws.Regions.{live_zero, level_is}

pub climb_end : (parent : ℕ → ℕ) (n r : ℕ) → parent r ≡ 0 → climb parent n r ≡ []
unfolding climb
climb_end parent zero r e = refl
climb_end parent (suc n) r e = rw e

-- P holds of where the climb begins and, with each region, of the one above it
module _ (parent : ℕ → ℕ) (P : ℕ → Type 0) (closed : (r : ℕ) → P r → parent r ≢ 0 → P (parent r)) where
  pub climb_all : (n r : ℕ) → P r → All P (climb parent n r)
  unfolding climb
  climb_all zero r p = tt
  climb_all (suc n) r p = by_test (eqb (parent r) 0) (λ e. rw e tt) (λ e. let q = closed r p (eqb-false (parent r) 0 e) in rw e (q, climb_all n (parent r) q))

  -- the level falls at each step: as many steps as the level are enough, and more change nothing
  module _ (level : ℕ → ℕ) (falls : (r : ℕ) → P r → parent r ≢ 0 → level (parent r) < level r) where
    pub climb_top : (r : ℕ) → P r → level r ≤ 0 → parent r ≡ 0
    climb_top r p h = by_test (eqb (parent r) 0) (λ e. eqb-true (parent r) 0 e) (λ e. absurd (omega (arith, falls r p (eqb-false (parent r) 0 e))))

    pub climb_enough : (m n r : ℕ) → P r → level r ≤ m → level r ≤ n → climb parent m r ≡ climb parent n r
    unfolding climb
    climb_enough zero n r p h k = sym (climb_end parent n r (climb_top r p h))
    climb_enough (suc m) zero r p h k = climb_end parent (suc m) r (climb_top r p k)
    climb_enough (suc m) (suc n) r p h k = by_test (eqb (parent r) 0) (λ e. rw e) (λ e.
        let l = falls r p (eqb-false (parent r) 0 e) in
        rw e (ap (λ us. parent r ∷ us) (climb_enough m n (parent r) (closed r p (eqb-false (parent r) 0 e)) (omega (arith, l)) (omega (arith, l)))))

  -- f takes each step of this climb to a step of the other
  module _ (f parent₂ : ℕ → ℕ) (none : f 0 ≡ 0) (some : (r : ℕ) → P r → r ≢ 0 → f r ≢ 0) (step : (r : ℕ) → P r → parent₂ (f r) ≡ f (parent r)) where
    pub climb_map : (n r : ℕ) → P r → climb parent₂ n (f r) ≡ map f (climb parent n r)
    unfolding climb
    climb_map zero r p = refl
    climb_map (suc n) r p = by_test (eqb (parent r) 0)
        (λ e. rw (e, step r p, eqb-true (parent r) 0 e, none))
        (λ e. let q = closed r p (eqb-false (parent r) 0 e) in
        rw (e, step r p, ne_eqb (f (parent r)) 0 (some (parent r) q (eqb-false (parent r) 0 e))) (ap (λ us. f (parent r) ∷ us) (climb_map n (parent r) q)))

-- two climbs by the same steps
pub climb_same : (parent parent₂ : ℕ → ℕ) (P : ℕ → Type 0) → ((r : ℕ) → P r → parent r ≢ 0 → P (parent r)) → ((r : ℕ) → P r → parent₂ r ≡ parent r) → (n r : ℕ) → P r → climb parent₂ n r ≡ climb parent n r
climb_same parent parent₂ P closed step n r p = climb_map parent P closed (λ r. r) parent₂ refl (λ r p h. h) step n r p ∙ map-id (climb parent n r)

-- ---- of a valid model: a region above lives, one level less deep

module _ (L : Model) (v : Valid L) where
  abbrev Lives : ℕ → Type 0
  Lives r = lives_in L r ≡ true

  tree : (r : ℕ) → Lives r → ValidParent L.regions (region L.regions r)
  tree r l = all_found (ValidParent L.regions) (called r) no_region L.regions v.parents l

  pub parent_lives : (r : ℕ) → Lives r → parent_in L r ≢ 0 → Lives (parent_in L r)
  parent_lives r l h = or_other (eqb (parent_in L r) 0) _ (tree r l).parent (ne_eqb (parent_in L r) 0 h)

  pub level_some : (r : ℕ) → Lives r → 1 ≤ (region L.regions r).level
  level_some r l = omega (arith, (tree r l).level)

  pub level_deep : (r : ℕ) → Lives r → (region L.regions r).level ≤ 16
  level_deep r l = (tree r l).deep

  pub level_falls : (r : ℕ) → Lives r → parent_in L r ≢ 0 → (region L.regions (parent_in L r)).level < (region L.regions r).level
  level_falls r l h = omega (arith, (tree r l).level, level_is L.regions (parent_in L r) (live_zero L.regions v.names.named) (parent_lives r l h))

  -- the level bounds the climb, and 16 the level
  pub above_enough : (n r : ℕ) → Lives r → (region L.regions r).level ≤ n → climb (parent_in L) n r ≡ above (parent_in L) r
  above_enough n r l h = climb_enough (parent_in L) Lives parent_lives (λ r. (region L.regions r).level) level_falls n 16 r l h (level_deep r l)
