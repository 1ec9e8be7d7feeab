use mathlib.Core.Path.{refl, sym, ◌∙◌}
use Rattle.refusals.specs.Laws.{number_not_0}
use Rattle.frames.specs.Frames.{pushed}
use Rattle.outcomes.specs.Outcome.{Accepted}
use Rattle.outcomes.proofs.Laws.Steps.{by_refusal, by_effect}
use Rattle.calls_stack.proofs.Laws.{push_tests_lem, push_small}
use Rattle.calls_stack.proofs.push_in.Goals as goal

pub returns-in-Err : goal.returns-in-Err
returns-in-Err c s = by_refusal _ _ _ _ _ (push_tests_lem _ _ ∙ sym c.in-Err.ensures) (number_not_0 _) c.refuses.ensures refl

pub returns : goal.returns
unfolding Accepted pushed
returns c s =
    let e = sym c.in_default.ensures in
    by_effect _ _ _ _ (push_tests_lem _ _ ∙ e) (c.gives.ensures, rw (c.null_frame.ensures, c.put.ensures, (push_small _ _ _ _ e).0))
