use mathlib.Core.Path.{refl, ap, ◌∙◌}
use Rattle.refusals.specs.Laws.{number_not_0}
use Rattle.outcomes.specs.Outcome.{store, write_word}
use Rattle.outcomes.proofs.Laws.Steps.{by_refusal}
use Rattle.checks.specs.Laws.Tests.{else_first}
use Rattle.calls_words.proofs.Laws.{get_tests, put_tests, get_second, put_effect}
use Rattle.calls_words.proofs.put_in.Goals as goal

pub returns-in-Err : goal.returns-in-Err
returns-in-Err c s = by_refusal _ _ _ _ _ (put_tests _ _ _ _ ∙ get_tests _ _ _ ∙ else_first _ _ _ c.in-Err.ensures (number_not_0 _)) (number_not_0 _) c.refuses.ensures refl

pub returns-in-Err-data_refusal : goal.returns-in-Err-data_refusal
returns-in-Err-data_refusal c s =
    by_refusal _ _ _ _ _ (put_tests _ _ _ _ ∙ get_second _ _ _ _ c.slot_of_top-v.ensures c.object_of-object.ensures _ 0 _ c.in_default.ensures refl c.in-Err-data_refusal.ensures) (number_not_0 _) c.refuses-in-Err-data_refusal.ensures refl

pub returns : goal.returns
unfolding write_word
returns c s =
    put_effect _ _ _ _ c.slot_of_top-v.ensures c.object_of-object.ensures _ 0 0 c.in_default.ensures refl c.in_default-data_refusal.ensures _ _ _ refl c.gives.ensures (ap (store _) c.write.ensures)
