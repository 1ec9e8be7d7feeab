use mathlib.Core.Path.{refl, sym, ◌∙◌}
use Rattle.refusals.specs.Laws.{number_not_0}
use Rattle.frames.specs.Frames.{slot_at, top_frame}
use Rattle.outcomes.specs.Store.{slot}
use Rattle.outcomes.specs.Outcome.{Accepted, query_reply}
use Rattle.outcomes.proofs.Laws.Steps.{by_refusal, by_effect}
use Rattle.calls_about.proofs.Laws.{locate_tests}
use Rattle.calls_about.proofs.locate_in.Goals as goal

pub returns-in-Err : goal.returns-in-Err
returns-in-Err c s = by_refusal _ _ _ _ _ (locate_tests _ _ ∙ sym c.in-Err.ensures) (number_not_0 _) c.refuses.ensures refl

pub returns : goal.returns
unfolding Accepted query_reply slot slot_at top_frame
returns c s =
    by_effect _ _ _ _ (locate_tests _ _ ∙ sym c.in_default.ensures)
    (c.gives.ensures ∙ rw (c.word_of.ensures, c.page_of.ensures, c.slot_of_top-v.ensures), refl)
