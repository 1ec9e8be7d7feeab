use mathlib.Core.Path.{◌≡◌}
use Prim.Native.Nat.{◌-◌, ◌≤◌}
use mathlib.Core.List.{[]}
use lib.ListN.{length}
use Rattle.lists.specs.Ticks.{ticked}
use Rattle.kinds.specs.Kinds.{kinds_with}
use Rattle.objects.specs.Laws.Walk.{headers_left}
use Rattle.audit_heap.proofs.tick_page.Given as goal

-- when the headers left are ticked too, all are
abbrev pub invariant-loop-at : goal.invariant-loop-at
invariant-loop-at l =
    let k = kinds_with l.kinds.declared l.kinds.sizes.now [] in
    (l.at ≤ l.end) × (length l.heads ≡ length l.initial.heads) × (ticked l.heads (headers_left k l.heap l.at l.end) ≡ ticked l.initial.heads (headers_left k l.heap l.initial.at l.end))

abbrev pub decreases-loop-at : goal.decreases-loop-at
decreases-loop-at l = l.end - l.at
