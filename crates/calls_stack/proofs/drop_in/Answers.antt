use mathlib.Core.Path.{refl, sym, ◌∙◌}
use Rattle.refusals.specs.Laws.{number_not_0}
use Rattle.frames.specs.Frames.{top_frame, popped}
use Rattle.regions.specs.Regions.{with_shares}
use Rattle.outcomes.specs.Outcome.{Accepted}
use Rattle.outcomes.proofs.Laws.Steps.{by_refusal, by_effect}
use Rattle.checks.specs.Laws.Tests.{first_zero, filler_passed}
use Rattle.calls_stack.proofs.Laws.{drop_tests_lem, pop_is}
use Rattle.calls_stack.proofs.drop_in.Goals as goal

pub returns-in-Err : goal.returns-in-Err
returns-in-Err c s = by_refusal _ _ _ _ _ (drop_tests_lem _ _ ∙ sym c.in-Err.ensures) (number_not_0 _) c.refuses.ensures refl

pub returns : goal.returns
unfolding Accepted top_frame popped with_shares
returns c s =
    let e = sym c.in_default.ensures in
    by_effect _ _ _ _ (drop_tests_lem _ _ ∙ e)
    (c.gives.ensures ∙ rw c.top-below.ensures, rw (c.top-below.ensures, c.counted_after.ensures) (pop_is _ _ _ (filler_passed _ _ _ (first_zero _ _ e)) (c.told-shares, c.fits-shares) c.uncount_top.ensures))
