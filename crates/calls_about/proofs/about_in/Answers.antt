use mathlib.Core.Path.{refl, sym, ◌∙◌}
use Rattle.refusals.specs.Laws.{number_not_0}
use Rattle.frames.specs.Frames.{slot_at, top_frame}
use Rattle.regions.specs.Regions.{name_of}
use Rattle.pages.specs.Pages.{owner_of}
use Rattle.objects.specs.Laws.Words.{object_header}
use Rattle.outcomes.specs.Store.{slot}
use Rattle.outcomes.specs.Outcome.{Accepted}
use Rattle.outcomes.proofs.Laws.Steps.{by_refusal, by_effect}
use Rattle.calls_about.proofs.Laws.{about_tests}
use Rattle.calls_about.proofs.about_in.Goals as goal

pub returns-in-Err : goal.returns-in-Err
returns-in-Err c s = by_refusal _ _ _ _ _ (about_tests _ _ ∙ sym c.in-Err.ensures) (number_not_0 _) c.refuses.ensures refl

pub returns : goal.returns
unfolding Accepted slot slot_at top_frame owner_of name_of
returns c s =
    by_effect _ _ _ _ (about_tests _ _ ∙ sym c.in_default.ensures)
    (c.gives.ensures ∙ rw (c.kind_of.ensures, c.object_of.ensures, object_header, c.name_of-n.ensures, c.owner_of.ensures, c.slot_of_top-v.ensures), refl)
