use mathlib.Core.Path.{◌≡◌}
use Prim.Native.Nat.{ℕ, ◌+◌, ◌-◌, ◌≤◌}
use mathlib.Core.List.{List, []}
use lib.ListN.{get_or}
use Rattle.lists.specs.Lists.{sum_of}
use Rattle.kinds.specs.Kinds.{kinds_with, size_in}
use Rattle.objects.specs.Laws.Walk.{headers_left}
use Rattle.audit_heap.proofs.filled_to.Given as goal

-- the words that the objects take that are left at place `at`
abbrev pub rest : ℕ → List ℕ → List ℕ → ℕ → ℕ → ℕ
rest declared sizes heap end at = sum_of (λ q. 1 + size_in declared sizes (get_or heap q 0)) (headers_left (kinds_with declared sizes []) heap at end)

-- the words passed and those left are all
abbrev pub invariant-loop-at : goal.invariant-loop-at
invariant-loop-at l =
    (l.start ≤ l.at) × (l.at ≤ l.end) × (l.at + rest l.kinds.declared l.kinds.sizes.now l.heap l.end l.at ≡ l.start + rest l.kinds.declared l.kinds.sizes.now l.heap l.end l.start)

abbrev pub decreases-loop-at : goal.decreases-loop-at
decreases-loop-at l = l.end - l.at
