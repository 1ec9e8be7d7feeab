use Rattle.std.proofs.Common.{length, take, ◌-◌, ◌≡◌, List, ℕ, ◌≤◌}
use Rattle.feed.specs.Scripted.{Scripted, talk_of}
use Rattle.drive.proofs.answered.Given as goal

-- the bytes up to `from` have led to the session as it is
abbrev pub invariant-loop-from : goal.invariant-loop-from
invariant-loop-from g l =
    (length l.memory ≡ length l.initial.memory) × (length l.line ≡ length l.initial.line) × (length l.out ≡ length l.initial.out) × (l.from ≤ length l.chunk)
    × ((o : List ℕ) × Scripted (talk_of l.initial.t l.initial.line l.initial.memory) (take l.from l.chunk) o (talk_of l.t l.line l.memory))

abbrev pub decreases-loop-from : goal.decreases-loop-from
decreases-loop-from g l = length l.chunk - l.from
