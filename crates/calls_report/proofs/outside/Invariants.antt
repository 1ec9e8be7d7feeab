use Rattle.std.proofs.Common.{◌≡◌, ℕ, ◌+◌, ◌-◌, ◌%◌, ◌<◌, List}
use Rattle.lists.specs.Lists.{sum_of, from, times}
use Rattle.frames.specs.Frames.{frame_count_in}
use Rattle.outcomes.specs.Store.{targets_in}
use Rattle.calls_report.proofs.outside.Given as goal

-- the slots of the frames from i up to n
abbrev pub left : List ℕ → List ℕ → List ℕ → ℕ → ℕ → ℕ → ℕ
left widths slots owners tag n i = sum_of (λ i. times tag (targets_in widths slots owners i)) (from i (n - i))

-- with those left to look through it is the whole
abbrev pub invariant-loop-i : goal.invariant-loop-i
invariant-loop-i l =
    (l.n ≡ frame_count_in l.frames.standing) × (l.sum < 4294967296) × ((l.sum + left l.frames.widths.now l.frames.slots.now l.owners l.tag l.n l.i) % 4294967296 ≡ (l.stored + left l.frames.widths.now l.frames.slots.now l.owners l.tag l.n l.counted) % 4294967296)
