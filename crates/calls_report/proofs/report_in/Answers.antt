use Rattle.std.proofs.Common.{◌≡◌, ℕ, ◌+◌, ◌<◌, Bool, true, false, not, ltb, [], length, sym, refl, ◌∙◌, arith, ltb-true}
use Rattle.refusals.specs.Laws.{number_not_0}
use Rattle.lists.specs.Lists.{pick}
use Rattle.model.specs.Model.{report}
use Rattle.model.specs.Calls.{reason}
use Rattle.regions.specs.Regions.{entry_of, tag_of, count_at, subregions_of}
use Rattle.pages.specs.Pages.{pages_of, wrong_length_in}
use Rattle.outcomes.specs.Store.{Store, regions, pages, slots_beyond, outside_of}
use Rattle.outcomes.specs.Outcome.{refusal, checks, Accepted}
use Rattle.outcomes.proofs.Laws.Steps.{by_refusal, by_effect}
use Rattle.checks.specs.Checks.{region_tests}
use Rattle.checks.specs.Laws.Tests.{named, one_region, or_zero}
use Rattle.calls_report.proofs.report_in.Goals as goal

-- the tests, by the entry found
refused-by : (S : Store) (r e g : ℕ) → e ≡ entry_of (regions S) r → g ≡ reason (region_tests (pages S).made (length S.heap) e) → refusal S (report r) ≡ g
unfolding refusal checks entry_of
refused-by S r e g found asked = one_region S [] r ∙ or_zero (reason (named S r)) ∙ rw (← found) (sym asked)

-- past the tests the entry is one
passed : (made n e : ℕ) → reason (region_tests made n e) ≡ 0 → e < 64
unfolding region_tests
passed made n e z = go (wrong_length_in made n) (ltb e 64) refl z
  where
    go : (a b : Bool) → ltb e 64 ≡ b → pick {A = ℕ} a 21 (pick (not b) 2 0) ≡ 0 → e < 64
    go true b q z = absurd (omega (arith, z))
    go false true q z = ltb-true e 64 q
    go false false q z = absurd (omega (arith, z))

pub returns-in-Err : goal.returns-in-Err
unfolding entry_of
returns-in-Err c s = by_refusal _ _ _ _ _ (refused-by _ _ _ _ c.entry_of-e.ensures c.in-Err.ensures) (number_not_0 _) c.refuses.ensures refl

pub returns : goal.returns
unfolding Accepted tag_of entry_of count_at subregions_of pages_of outside_of slots_beyond
returns c s =
    let entry-low : c.entry_of-e.result < 64 = passed _ _ _ (sym c.in_default.ensures) in
    let tag_is : c.min-t.result + 1 ≡ c.entry_of-e.result + 1 = omega (arith, c.min-t.ensures, entry-low) in
    by_effect _ _ _ _ (refused-by _ _ _ 0 c.entry_of-e.ensures c.in_default.ensures)
    (c.gives.ensures ∙ rw (c.outside-all.ensures, c.pages_of-held.ensures, c.subregions_of-below.ensures, tag_is, c.count_at-stored.ensures, c.entry_of-e.ensures), refl)
