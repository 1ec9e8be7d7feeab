use Rattle.std.proofs.Common.{◌≡◌, ℕ, Bool, not, ◌&&◌, eqb, List, get_or}
use Rattle.lists.specs.Lists.{count_of, up_to}
use Rattle.regions.proofs.subregions_of.Given as goal

abbrev pub below : List ℕ → List ℕ → ℕ → ℕ → Bool
below names parents t i = not (eqb (get_or names i 0) 0) && eqb (get_or parents i 0) t

abbrev pub invariant-loop-i : goal.invariant-loop-i
invariant-loop-i l = l.k ≡ count_of (below l.names l.parents l.t) (up_to l.i)
