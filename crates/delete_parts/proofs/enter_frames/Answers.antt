use mathlib.Core.Path.{◌≡◌, refl, ap, ◌∙◌}
use mathlib.Core.List.{List}
use Prim.Native.Nat.{ℕ, ◌+◌, ◌-◌}
use native.Mathlib.Omega.{arith}
use lib.ListN.{length}
use Rattle.lists.specs.Lists.{joined, from}
use Rattle.lists.specs.Laws.UpTo.{from_next, from_end}
use Rattle.frames.specs.Frames.{frame_count_in}
use Rattle.regions.specs.Laws.Steps.{steps, steps_append, steps_length}
use Rattle.outcomes.specs.Store.{targets_in}
use Rattle.outcomes.specs.Outcome.{newly_in}
use Rattle.delete_parts.proofs.enter_frames.Goals as goal

pub loop-i-init : goal.loop-i-init
unfolding newly_in
loop-i-init c =
    let far : c.saturating_sub-n.result ≡ frame_count_in c.args.frames.now.standing - 1 = c.saturating_sub-n.ensures ∙ ap (λ n. n - 1) c.frame_count.ensures in
    (far, refl, refl)

pub loop-i-preserved : goal.loop-i-preserved
loop-i-preserved c =
    let g : ℕ → List ℕ = targets_in c.args.frames.now.widths.now c.args.frames.now.slots.now c.args.owners.now in
    let n = frame_count_in c.args.frames.now.standing - 1 in (
      c.loop-i.invariant.0,
      ap length c.step_slots.ensures ∙ steps_length 1 _ c.loop-i.shares (g c.loop-i.i) ∙ c.loop-i.invariant.1,
      rw (c.step_slots.ensures, steps_append 1 c.args.filler c.loop-i.shares (g c.loop-i.i) (joined g (from (c.loop-i.i + 1) (n - (c.loop-i.i + 1))))) (rw (from_next c.loop-i.i n (omega arith)) at c.loop-i.invariant.2),
    )

pub returns : goal.returns
unfolding steps
returns c =
    rw (from_end c.loop-i.i (frame_count_in c.args.frames.now.standing - 1) (omega arith)) at c.loop-i.invariant.2
