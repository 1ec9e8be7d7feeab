use mathlib.Core.Path.{◌≡◌, ◌∙◌}
use native.Mathlib.Omega.{arith}
use borrow.Author.Rules.{rules}
use Rattle.frames.specs.Frames.{width_in}
use Rattle.regions.specs.Laws.Steps.{steps}
use Rattle.regions.specs.Ways.{by}
use Rattle.outcomes.specs.Store.{targets_in}
use Rattle.checks.specs.Laws.Slots.{step_next}
use Rattle.checks.proofs.step_slots.Goals as goal

pub loop-s-init : goal.loop-s-init
unfolding steps
loop-s-init c = (search rules, search rules)

pub loop-s-preserved : goal.loop-s-preserved
loop-s-preserved c = (
  c.loop-s.invariant.0,
  c.step.ensures ∙ rw (c.loop-s.invariant.1, c.owner_of-t.ensures, c.slot_at.ensures) (step_next c.args.frames.now.slots.now c.args.owners.now c.args.i (by c.args.way) c.args.filler c.args.shares.now c.loop-s.s),
)

pub returns : goal.returns
unfolding targets_in
returns c =
    let e : width_in c.args.frames.now.widths.now c.args.i ≡ c.loop-s.s = omega arith in
    rw e c.loop-s.invariant.1
