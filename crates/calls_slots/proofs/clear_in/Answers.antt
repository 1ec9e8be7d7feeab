use mathlib.Core.Path.{refl, sym, ◌∙◌}
use Rattle.refusals.specs.Laws.{number_not_0}
use Rattle.frames.specs.Frames.{put_slot, top_frame}
use Rattle.outcomes.specs.Outcome.{Accepted, fill_slot}
use Rattle.outcomes.proofs.Laws.Steps.{by_refusal, by_effect}
use Rattle.calls_slots.proofs.Laws.{clear_tests}
use Rattle.calls_slots.proofs.clear_in.Goals as goal

pub returns-in-Err : goal.returns-in-Err
returns-in-Err c s = by_refusal _ _ _ _ _ (clear_tests _ _ ∙ sym c.in-Err.ensures) (number_not_0 _) c.refuses.ensures refl

pub returns : goal.returns
unfolding Accepted fill_slot put_slot top_frame
returns c s =
    by_effect _ _ _ _ (clear_tests _ _ ∙ sym c.in_default.ensures)
    (c.gives.ensures, rw (c.put_slot.ensures, c.top.ensures))
