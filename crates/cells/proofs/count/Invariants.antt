use Prim.Native.Nat.{◌≤◌}
use mathlib.Core.Path.{◌≡◌}
use lib.Dec.{eqb}
use lib.ListN.{get_or}
use Rattle.lists.specs.Lists.{count_of, up_to}
use Rattle.cells.proofs.count.Given as goal

-- the elements passed that are x
abbrev pub invariant-loop-c : goal.invariant-loop-c
invariant-loop-c g l = (l.k ≤ l.c-index) × (l.k ≡ count_of (λ j. eqb (g.T.Cell.value (get_or l.s j g.T.Cell.none)) l.x) (up_to l.c-index))
