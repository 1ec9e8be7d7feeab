use mathlib.Core.Path.{◌≡◌}
use Rattle.lists.specs.Lists.{joined, up_to}
use Rattle.regions.specs.Laws.Steps.{leavings}
use Rattle.outcomes.specs.Store.{targets_in}
use Rattle.audit_counts.proofs.leave_frames.Given as goal

-- the frames passed have left
abbrev pub invariant-loop-i : goal.invariant-loop-i
invariant-loop-i l = l.shares ≡ leavings 0 l.initial.shares (joined (targets_in l.frames.widths.now l.frames.slots.now l.pages.owners.now) (up_to l.i))
