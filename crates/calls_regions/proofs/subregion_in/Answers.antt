use mathlib.Core.Path.{◌≡◌, refl, sym, ◌∙◌}
use Prim.Native.Nat.{ℕ}
use lib.ListN.{length}
use Rattle.refusals.specs.Laws.{number_not_0}
use Rattle.model.specs.Model.{subregion}
use Rattle.model.specs.Calls.{reason}
use Rattle.regions.specs.Regions.{entry_in, entry_of, tag_of, is_live, level_at, live_count, unused, with_region}
use Rattle.pages.specs.Pages.{wrong_length}
use Rattle.outcomes.specs.Store.{Store, regions, pages}
use Rattle.outcomes.specs.Outcome.{refusal, checks, bad_length, dead, full, names_out, Accepted}
use Rattle.outcomes.proofs.Laws.Steps.{by_refusal, by_effect, by_parts}
use Rattle.calls_regions.specs.Tests.{subregion_tests, more_tests}
use Rattle.calls_regions.proofs.subregion_in.Goals as goal

tests : (S : Store) (r e : ℕ) → e ≡ entry_in (regions S).names r → refusal S (subregion r) ≡ reason (subregion_tests (pages S).made (length S.heap) (regions S).names (regions S).levels (regions S).given e)
unfolding refusal checks bad_length wrong_length dead is_live entry_of level_at full live_count names_out subregion_tests more_tests
tests S r e q = rw q

pub returns-in-Err : goal.returns-in-Err
returns-in-Err c s = by_refusal _ _ _ _ _ (tests _ _ _ c.entry_of-e.ensures ∙ sym c.in-Err.ensures) (number_not_0 _) c.refuses.ensures refl

pub returns : goal.returns
unfolding Accepted tag_of entry_of level_at with_region unused
returns c s =
    by_effect _ _ _ _ (tests _ _ _ c.entry_of-e.ensures ∙ sym c.in_default.ensures)
    (c.gives.ensures, by_parts _ _ refl refl (rw (c.put-5.ensures, c.put-4.ensures, c.clear_shares.ensures, c.put-3.ensures, c.put-2.ensures, c.put.ensures, c.unused-at.ensures, c.level_at.ensures, c.entry_of-e.ensures)) refl refl)
