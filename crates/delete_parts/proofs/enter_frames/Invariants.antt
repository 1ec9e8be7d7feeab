use mathlib.Core.Path.{◌≡◌}
use Prim.Native.Nat.{◌-◌}
use lib.ListN.{length}
use Rattle.lists.specs.Lists.{joined, from}
use Rattle.frames.specs.Frames.{frame_count_in}
use Rattle.regions.specs.Laws.Steps.{enterings}
use Rattle.outcomes.specs.Store.{targets_in}
use Rattle.outcomes.specs.Outcome.{newly_in}
use Rattle.delete_parts.proofs.enter_frames.Given as goal

-- when the frames left enter too, all have entered
abbrev pub invariant-loop-i : goal.invariant-loop-i
invariant-loop-i l =
    (l.n ≡ frame_count_in l.frames.standing - 1) × (length l.shares ≡ length l.initial.shares)
    × (enterings l.filler l.shares (joined (targets_in l.frames.widths.now l.frames.slots.now l.owners) (from l.i (frame_count_in l.frames.standing - 1 - l.i))) ≡ enterings l.filler l.initial.shares (newly_in l.frames.standing l.counted l.frames.widths.now l.frames.slots.now l.owners))
