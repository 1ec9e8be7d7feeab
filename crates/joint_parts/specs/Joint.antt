-- Several regions at once (document 02, card 2), those whose tags pass a test: what of them is in a count, an entry. The call's outcome says the same by the list of names (outcomes, Outcome).
-- Assumes nothing.
use Rattle.std.specs.Prelude.{Bool, not, ◌&&◌, List, ℕ, suc, eqb, ltb}
use Rattle.lists.specs.Lists.{any_of, up_to, zeroed}
use Rattle.regions.specs.Regions.{count_in}

-- the count of a region that passes, by the shares, is not 0
unfoldable pub still_counted : List ℕ → (ℕ → Bool) → Bool
still_counted shares member = any_of (λ i. member (suc i) && not (eqb (count_in shares i) 0)) (up_to 64)

-- the names once the entries below n of the regions that pass are given up
unfoldable pub names_left : List ℕ → (ℕ → Bool) → ℕ → List ℕ
names_left names member n = zeroed (λ i. ltb i n && member (suc i)) names
