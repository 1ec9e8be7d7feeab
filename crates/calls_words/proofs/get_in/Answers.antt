use mathlib.Core.Path.{refl, ◌∙◌}
use Rattle.refusals.specs.Laws.{number_not_0}
use Rattle.outcomes.proofs.Laws.Steps.{by_refusal}
use Rattle.checks.specs.Laws.Tests.{else_first}
use Rattle.calls_words.proofs.Laws.{get_tests, get_second, get_effect}
use Rattle.calls_words.proofs.get_in.Goals as goal

pub returns-in-Err : goal.returns-in-Err
returns-in-Err c s = by_refusal _ _ _ _ _ (get_tests _ _ _ ∙ else_first _ _ _ c.in-Err.ensures (number_not_0 _)) (number_not_0 _) c.refuses.ensures refl

pub returns-in-Err-data_refusal : goal.returns-in-Err-data_refusal
returns-in-Err-data_refusal c s = by_refusal _ _ _ _ _ (get_second _ _ _ _ c.slot_of_top-v.ensures c.object_of-object.ensures _ 0 _ c.in_default.ensures refl c.in-Err-data_refusal.ensures) (number_not_0 _) c.refuses-in-Err-data_refusal.ensures refl

pub returns : goal.returns
returns c s = get_effect _ _ _ _ c.slot_of_top-v.ensures c.object_of-object.ensures _ 0 0 c.in_default.ensures refl c.in_default-data_refusal.ensures _ _ refl c.word_at.ensures c.gives.ensures
