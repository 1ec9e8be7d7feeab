use mathlib.Core.Path.{◌≡◌}
use mathlib.Core.Bool.{Bool}
use mathlib.Core.List.{List, ◌++◌}
use Prim.Native.Nat.{ℕ}
use lib.Dec.{eqb}
use lib.ListN.{drop}
use Rattle.lists.specs.Lists.{zeroed}
use Rattle.lists.specs.Laws.Zeroed.{below}
use Rattle.outcomes.proofs.Laws.Apart.{mine}
use Rattle.apart.proofs.give_back_one.Given as goal

-- page j is the region's
abbrev pub its : List ℕ → ℕ → ℕ → Bool
its owners tag = mine owners (λ t. eqb t tag)

-- its pages passed are free
abbrev pub invariant-loop-o : goal.invariant-loop-o
invariant-loop-o l = l.o-items ++ drop l.n l.fn.owners ≡ zeroed (below (its l.fn.owners l.tag) l.o-index) l.fn.owners
