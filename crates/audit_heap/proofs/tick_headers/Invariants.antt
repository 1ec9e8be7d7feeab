use mathlib.Core.Path.{◌≡◌}
use Rattle.lists.specs.Lists.{joined, up_to}
use Rattle.lists.specs.Ticks.{ticked}
use Rattle.audit_heap.specs.Heap.{headers_held}
use Rattle.audit_heap.proofs.tick_headers.Given as goal

-- the headers on the pages passed are ticked
abbrev pub invariant-loop-i : goal.invariant-loop-i
invariant-loop-i l = l.heads ≡ ticked l.initial.heads (joined (headers_held l.kinds.declared l.kinds.sizes.now l.heap l.pages.owners.now l.pages.taken.now) (up_to l.i))
