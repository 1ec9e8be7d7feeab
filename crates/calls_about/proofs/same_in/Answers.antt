use mathlib.Core.Path.{◌≡◌, refl, sym, ◌∙◌}
use mathlib.Core.Bool.{Bool, true, false}
use lib.Dec.{eqb}
use mir.Val.{bool_byte}
use Rattle.refusals.specs.Laws.{number_not_0}
use Rattle.lists.specs.Lists.{bit}
use Rattle.frames.specs.Frames.{slot_at, top_frame}
use Rattle.outcomes.specs.Store.{slot}
use Rattle.outcomes.specs.Outcome.{Accepted}
use Rattle.outcomes.proofs.Laws.Steps.{by_refusal, by_effect}
use Rattle.calls_about.proofs.Laws.{same_tests}
use Rattle.calls_about.proofs.same_in.Goals as goal

as_bit : (b : Bool) → bool_byte b ≡ bit b
as_bit true = refl
as_bit false = refl

pub returns-in-Err : goal.returns-in-Err
returns-in-Err c s = by_refusal _ _ _ _ _ (same_tests _ _ _ ∙ sym c.in-Err.ensures) (number_not_0 _) c.refuses.ensures refl

pub returns : goal.returns
unfolding Accepted slot slot_at top_frame
returns c s =
    by_effect _ _ _ _ (same_tests _ _ _ ∙ sym c.in_default.ensures)
    (c.gives.ensures ∙ rw (c.from.ensures, as_bit (eqb c.slot_of_top-x.result c.slot_of_top-y.result), c.slot_of_top-x.ensures, c.slot_of_top-y.ensures), refl)
