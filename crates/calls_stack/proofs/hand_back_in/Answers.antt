use mathlib.Core.Path.{◌≡◌, refl, sym, ap, ◌∙◌}
use Rattle.refusals.specs.Laws.{number_not_0}
use Rattle.frames.specs.Frames.{top_in, top_frame, slot_in, slot_at, put_slot, popped}
use Rattle.regions.specs.Regions.{with_shares}
use Rattle.outcomes.specs.Store.{slot}
use Rattle.outcomes.specs.Outcome.{Accepted, fill_slot}
use Rattle.outcomes.proofs.Laws.Steps.{by_refusal, by_effect}
use Rattle.checks.specs.Laws.Tests.{first_zero, filler_passed}
use Rattle.calls_stack.proofs.Laws.{hand_tests, pop_is}
use Rattle.calls_stack.proofs.hand_back_in.Goals as goal

pub returns-in-Err : goal.returns-in-Err
returns-in-Err c s = by_refusal _ _ _ _ _ (hand_tests _ _ _ _ ∙ sym c.in-Err.ensures) (number_not_0 _) c.refuses.ensures refl

pub returns : goal.returns
unfolding Accepted top_frame popped with_shares slot slot_at fill_slot put_slot
returns c s =
    let beneath : c.top.result ≡ top_in (top_in c.args.standing.now) = c.top.ensures ∙ ap top_in c.top-below.ensures in
    let e = sym c.in_default.ensures in
    by_effect _ _ _ _ (hand_tests _ _ _ _ ∙ e) (
      c.gives.ensures ∙ rw c.top-below.ensures,
      rw (c.put_slot.ensures, beneath, c.top-below.ensures, c.counted_after.ensures, c.slot_of_top-v.ensures)
          (ap (λ T. fill_slot T c.args.beneath (slot_in c.args.slots.now (top_in c.args.standing.now) c.args.slot)) (pop_is _ _ _ (filler_passed _ _ _ (first_zero _ _ e)) (c.told-shares, c.fits-shares) c.uncount_top.ensures)),
    )
