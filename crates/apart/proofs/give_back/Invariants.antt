use mathlib.Core.Path.{◌≡◌}
use mathlib.Core.Bool.{Bool}
use mathlib.Core.List.{List}
use Prim.Native.Nat.{ℕ}
use Rattle.lists.specs.Lists.{count_of, up_to, zeroed}
use Rattle.pages.specs.Pages.{page_count_in}
use Rattle.lists.specs.Ticks.{tick_at}
use Rattle.lists.specs.Laws.Zeroed.{below}
use Rattle.outcomes.proofs.Laws.Apart.{mine}
use Rattle.apart.proofs.give_back.Given as goal

-- page j is a member's
abbrev pub held : List ℕ → List ℕ → ℕ → Bool
held owners members = mine owners (tick_at members)

-- the members' pages passed are free and counted
abbrev pub invariant-loop-j : goal.invariant-loop-j
invariant-loop-j l = (l.n ≡ page_count_in l.made) × (l.owners ≡ zeroed (below (held l.initial.owners l.members.ticks) l.j) l.initial.owners) × (l.number ≡ count_of (held l.initial.owners l.members.ticks) (up_to l.j))
