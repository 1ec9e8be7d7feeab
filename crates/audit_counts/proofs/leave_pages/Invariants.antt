use mathlib.Core.Path.{◌≡◌}
use Rattle.lists.specs.Lists.{joined, up_to}
use Rattle.kinds.specs.Kinds.{kinds_with}
use Rattle.regions.specs.Laws.Steps.{leavings}
use Rattle.audit_counts.specs.Counts.{word_tags}
use Rattle.audit_counts.proofs.leave_pages.Given as goal

-- the pages passed have left
abbrev pub invariant-loop-j : goal.invariant-loop-j
invariant-loop-j l = l.shares ≡ leavings 0 l.initial.shares (joined (word_tags (kinds_with l.kinds.declared l.kinds.sizes.now l.kinds.marks.now) l.heap l.pages.owners.now l.pages.taken.now) (up_to l.j))
