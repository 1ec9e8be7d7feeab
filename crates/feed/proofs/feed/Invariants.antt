use Prim.Native.Nat.{◌-◌, ◌≤◌}
use mathlib.Core.Path.{◌≡◌}
use lib.ListN.{length, take}
use Rattle.outcomes.specs.Outcome.{store}
use Rattle.feed.specs.Scripted.{Scripted}
use Rattle.feed.proofs.feed.Given as goal

-- the bytes up to `at` have led to the session as it is, and the output used is their answers
abbrev pub invariant-loop-at : goal.invariant-loop-at
invariant-loop-at l =
    (length l.memory ≡ length l.initial.memory) × (length l.line ≡ length l.initial.line) × (length l.answers.bytes.now ≡ length l.initial.answers.bytes.now) × (l.answers.bytes.ghost_name ≡ l.initial.answers.bytes.ghost_name) × (l.at ≤ length l.chunk) × (l.answers.used ≤ length l.answers.bytes.now) × (l.at ≡ 0 → l.answers.used ≡ 0)
    × (length l.initial.memory ≡ 16448 → length l.initial.line ≡ 4100 → Scripted (record { begun = take l.initial.held l.initial.line; tally = l.initial.c; store = store l.initial.state (take l.initial.words l.initial.memory) }) (take l.at l.chunk) (take l.answers.used l.answers.bytes.now) (record { begun = take l.held l.line; tally = l.c; store = store l.state (take l.words l.memory) }))

abbrev pub decreases-loop-at : goal.decreases-loop-at
decreases-loop-at l = length l.chunk - l.at
