use mathlib.Core.Path.{◌≡◌, refl, sym, ◌∙◌}
use lib.ListN.{length}
use Rattle.refusals.specs.Laws.{number_not_0}
use Rattle.model.specs.Model.{new_region}
use Rattle.model.specs.Calls.{reason}
use Rattle.regions.specs.Regions.{live_count, unused, with_region}
use Rattle.pages.specs.Pages.{wrong_length}
use Rattle.outcomes.specs.Store.{Store, regions, pages}
use Rattle.outcomes.specs.Outcome.{refusal, checks, bad_length, full, names_out, Accepted}
use Rattle.outcomes.proofs.Laws.Steps.{by_refusal, by_effect}
use Rattle.calls_regions.specs.Tests.{new_tests, more_tests}
use Rattle.calls_regions.proofs.new_region_in.Goals as goal

tests : (S : Store) → refusal S new_region ≡ reason (new_tests (pages S).made (length S.heap) (regions S).names (regions S).given)
unfolding refusal checks bad_length wrong_length full live_count names_out new_tests more_tests
tests S = refl

pub returns-in-Err : goal.returns-in-Err
returns-in-Err c s = by_refusal _ _ _ _ _ (tests _ ∙ sym c.in-Err.ensures) (number_not_0 _) c.refuses.ensures refl

pub returns : goal.returns
unfolding Accepted with_region unused
returns c s =
    by_effect _ _ _ _ (tests _ ∙ sym c.in_default.ensures)
    (c.gives.ensures, rw (c.put-5.ensures, c.put-4.ensures, c.clear_shares.ensures, c.put-3.ensures, c.put-2.ensures, c.put.ensures, c.unused-i.ensures))
