use mathlib.Core.Path.{◌≡◌}
use Rattle.frames.specs.Frames.{width_in}
use Rattle.regions.specs.Laws.Steps.{steps}
use Rattle.regions.specs.Ways.{by}
use Rattle.checks.specs.Laws.Slots.{tags_to}
use Rattle.checks.proofs.step_slots.Given as goal

-- the slots passed have entered, or left
abbrev pub invariant-loop-s : goal.invariant-loop-s
invariant-loop-s l = (l.n ≡ width_in l.frames.widths.now l.i) × (l.shares ≡ steps (by l.way) l.filler l.initial.shares (tags_to l.frames.slots.now l.owners l.i l.s))
