-- The climb to the regions above, one step at a time.
-- Assumes nothing.
use Rattle.std.specs.Prelude.{◌≡◌, ℕ, zero, suc, ◌-◌, Bool, true, false, ◌≢◌, List, map, refl}
use Rattle.std.proofs.Common.{sym, ◌∙◌}
use native.Mathlib.Omega.{arith}
use borrow.Author.Tests.{eq-eqb, ne_eqb}
use Rattle.lists.specs.Lists.{among}
use Rattle.model.specs.Model.{climb}
use Rattle.model.proofs.Laws.Climb.{climb_end}
use Rattle.regions.specs.Regions.{name_in, up_in}

-- whether a region named n is met on the way up from the one with tag t, in k steps
abbrev pub meets : List ℕ → List ℕ → ℕ → ℕ → ℕ → Bool
meets names parents k t n = among n (map (name_in names) (climb (up_in parents) k t))

-- up is the tag of the region above
module _ (names parents : List ℕ) (n t up : ℕ) (went : up ≡ up_in parents t) where
  pub meets_end : (k : ℕ) → up ≡ 0 → false ≡ meets names parents k t n
  meets_end k e = rw (climb_end (up_in parents) k t (sym went ∙ e))

  pub meets_here : (k : ℕ) → k ≢ 0 → up ≢ 0 → name_in names up ≡ n → true ≡ meets names parents k t n
  unfolding climb
  meets_here zero h e p = absurd (h refl)
  meets_here (suc k) h e p = rw (← went, ne_eqb up 0 e, eq-eqb (name_in names up) n p)

  pub meets_on : (k : ℕ) → k ≢ 0 → up ≢ 0 → name_in names up ≢ n → (r : Bool) → r ≡ meets names parents (k - 1) up n → r ≡ meets names parents k t n
  unfolding climb
  meets_on zero h e p r q = absurd (h refl)
  meets_on (suc k) h e p r q = let z : suc k - 1 ≡ k = omega arith in rw (← went, ne_eqb up 0 e, ne_eqb (name_in names up) n p, ← z) q
