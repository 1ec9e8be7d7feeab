use mathlib.Core.Path.{◌≡◌}
use Rattle.kinds.specs.Kinds.{kinds_with}
use Rattle.regions.specs.Laws.Steps.{leavings}
use Rattle.pages.specs.Pages.{pages_with, page_count_in}
use Rattle.lists.specs.Ticks.{tick_at}
use Rattle.outcomes.proofs.Laws.Apart.{out_from}
use Rattle.apart.proofs.scan.Given as goal

-- the words of the pages passed have left
abbrev pub invariant-loop-j : goal.invariant-loop-j
invariant-loop-j l =
    (l.end ≡ page_count_in l.pages.made) × (l.c ≡ leavings l.filler l.initial.c (out_from (kinds_with l.kinds.declared l.kinds.sizes.now l.kinds.marks.now) l.heap (pages_with l.pages.made l.pages.owners.now l.pages.taken.now) (tick_at l.members.ticks) l.j))
