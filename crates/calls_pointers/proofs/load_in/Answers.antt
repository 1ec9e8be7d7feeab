use mathlib.Core.Path.{refl, ◌∙◌}
use Rattle.refusals.specs.Laws.{number_not_0}
use Rattle.frames.specs.Frames.{put_slot, top_frame}
use Rattle.outcomes.specs.Outcome.{fill_slot}
use Rattle.outcomes.proofs.Laws.Steps.{by_refusal}
use Rattle.checks.specs.Laws.Tests.{else_first}
use Rattle.calls_pointers.proofs.Laws.{load_tests, load_second, load_effect}
use Rattle.calls_pointers.proofs.load_in.Goals as goal

pub returns-in-Err : goal.returns-in-Err
returns-in-Err c s = by_refusal _ _ _ _ _ (load_tests _ _ _ _ ∙ else_first _ _ _ c.in-Err.ensures (number_not_0 _)) (number_not_0 _) c.refuses.ensures refl

pub returns-in-Err-pointer_refusal : goal.returns-in-Err-pointer_refusal
returns-in-Err-pointer_refusal c s = by_refusal _ _ _ _ _ (load_second _ _ _ _ _ c.slot_of_top-v.ensures c.object_of-object.ensures _ 0 _ c.in_default.ensures refl c.in-Err-pointer_refusal.ensures) (number_not_0 _) c.refuses-in-Err-pointer_refusal.ensures refl

pub returns : goal.returns
unfolding fill_slot put_slot top_frame
returns c s =
    load_effect _ _ _ _ _ c.slot_of_top-v.ensures c.object_of-object.ensures _ 0 0 c.in_default.ensures refl c.in_default-pointer_refusal.ensures _ _ _ refl c.word_at-x.ensures c.gives.ensures
    (rw (c.put_slot.ensures, c.top.ensures))
