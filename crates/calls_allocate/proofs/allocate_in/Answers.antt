use mathlib.Core.Path.{refl, ◌∙◌}
use native.Mathlib.Omega.{arith}
use Rattle.refusals.specs.Laws.{number_not_0}
use Rattle.frames.specs.Frames.{put_slot, top_frame}
use Rattle.regions.specs.Regions.{oldest_at, with_page}
use Rattle.pages.specs.Pages.{with_taken}
use Rattle.outcomes.specs.Outcome.{fill_slot}
use Rattle.outcomes.proofs.Laws.Steps.{by_refusal, by_parts}
use Rattle.calls_allocate.proofs.Laws.{size_small, at_place, allocate_first, allocate_second, allocate_effect}
use Rattle.calls_allocate.proofs.allocate_in.Goals as goal

pub returns-in-Err : goal.returns-in-Err
returns-in-Err c s = by_refusal _ _ _ _ _ (allocate_first _ _ _ _ _ c.in-Err.ensures (number_not_0 _)) (number_not_0 _) c.refuses.ensures refl

pub place_for-place-requires : goal.place_for-place-requires
place_for-place-requires c = (rw c.newest_at-q.ensures (c.fits-newest c.entry_of-e.result), omega arith, omega (arith, size_small _ _ _ _ c.size_of-n.ensures))

pub returns-in-Err-allocate_refusal : goal.returns-in-Err-allocate_refusal
returns-in-Err-allocate_refusal c s =
    by_refusal _ _ _ _ _
    (allocate_second _ _ _ _ _ _ _ _ _ _ c.entry_of-e.ensures c.size_of-n.ensures c.newest_at-q.ensures c.place_for-place.ensures.place c.in_default.ensures refl c.in-Err-allocate_refusal.ensures.tests)
    (number_not_0 _) c.refuses-in-Err-allocate_refusal.ensures refl

pub returns : goal.returns
unfolding fill_slot put_slot top_frame with_page with_taken oldest_at
returns c s =
    allocate_effect _ _ _ _ _ _ _ _ _ _ c.entry_of-e.ensures c.size_of-n.ensures c.newest_at-q.ensures (c.in-Ok.ensures.place ∙ c.place_for-place.ensures.place) c.in_default.ensures refl
    (at_place _ _ _ _ _ c.in-Ok.ensures.place c.in-Ok.ensures.tests) _ _ refl c.gives.ensures
    (by_parts _ _ (rw (c.put_slot.ensures, c.top.ensures)) refl (rw (c.put-2.ensures, c.put.ensures, c.oldest_with-o.ensures)) (rw (c.put-4.ensures, c.put-3.ensures)) c.lay.ensures)
