use mathlib.Core.Path.{◌≡◌}
use mathlib.Core.Bool.{Bool}
use mathlib.Core.List.{List}
use Prim.Native.Nat.{ℕ, ◌-◌, ◌≤◌}
use Rattle.lists.specs.Lists.{every}
use Rattle.lists.specs.Ticks.{tick_at}
use Rattle.kinds.specs.Kinds.{kinds_with}
use Rattle.objects.specs.Laws.Walk.{headers_left}
use Rattle.audit_words.specs.Words.{object_holds}
use Rattle.audit_words.proofs.objects_hold.Given as goal

-- the objects left at place `at` hold
abbrev pub rest : List ℕ → List ℕ → List ℕ → List ℕ → List ℕ → ℕ → List ℕ → List ℕ → List ℕ → ℕ → ℕ → ℕ → Bool
rest heads names parents levels owners declared sizes marks heap own end at =
    every (object_holds (tick_at heads) names parents levels owners declared sizes marks heap own) (headers_left (kinds_with declared sizes marks) heap at end)

-- the objects left hold if all do
abbrev pub invariant-loop-at : goal.invariant-loop-at
invariant-loop-at l =
    let holds : ℕ → Bool = rest l.heads l.regions.names.now l.regions.parents.now l.regions.levels.now l.pages.owners.now l.kinds.declared l.kinds.sizes.now l.kinds.marks.now l.heap l.own l.end in
    (l.at ≤ l.end) × (holds l.at ≡ holds l.initial.at)

abbrev pub decreases-loop-at : goal.decreases-loop-at
decreases-loop-at l = l.end - l.at
