use mathlib.Core.Path.{◌≡◌}
use Prim.Native.Nat.{◌-◌, ◌≤◌}
use lib.ListN.{length}
use Rattle.kinds.specs.Kinds.{kinds_with}
use Rattle.regions.specs.Laws.Steps.{leavings}
use Rattle.objects.specs.Objects.{out_of}
use Rattle.objects.specs.Laws.Walk.{words_left}
use Rattle.objects.proofs.leave_objects.Given as goal

-- when the words left leave too, all have left
abbrev pub invariant-loop-at : goal.invariant-loop-at
invariant-loop-at l =
    let k = kinds_with l.kinds.declared l.kinds.sizes.now l.kinds.marks.now in
    (l.at ≤ l.end) × (length l.shares ≡ length l.initial.shares) × (leavings l.filler l.shares (out_of l.owners l.own (words_left k l.heap l.at l.end)) ≡ leavings l.filler l.initial.shares (out_of l.owners l.own (words_left k l.heap l.initial.at l.end)))

abbrev pub decreases-loop-at : goal.decreases-loop-at
decreases-loop-at l = l.end - l.at
