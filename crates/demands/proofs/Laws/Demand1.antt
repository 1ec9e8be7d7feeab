-- Demand 1: the promises of the outcomes, and make.
-- Assumes nothing.
use Rattle.std.specs.Prelude.{◌≡◌, refl, Bool, true, false, List, ℕ, ◌/◌, ◌≤◌, ◌<◌, length, replicate}
use Rattle.std.proofs.Common.{sym, ap, ◌∙◌, true≢false, arith}
use Rattle.std.proofs.lemmas.List.{length-replicate}
use Rattle.lists.specs.Laws.All.{all_replicate}
use Rattle.model.specs.Model.{Answer}
use Rattle.model.specs.Calls.{makes}
use Rattle.frames.specs.Frames.{frame_count}
use Rattle.kinds.specs.Kinds.{kind_count}
use Rattle.regions.specs.Regions.{name_at}
use Rattle.pages.specs.Pages.{page_count}
use Rattle.outcomes.specs.Store.{Store}
use Rattle.outcomes.specs.History.{begin, entries, listed_regions, listed_kinds, listed_frames, listed_held, listed_free, met_on}
use Rattle.outcomes.specs.Sound.{Sound}
use Rattle.outcomes.specs.Shape.{Bits32, Shaped}
use Rattle.outcomes.specs.Outcome.{MakeBy, MakeOutcome, blank, store}
use Rattle.outcomes.proofs.Laws.Sized.{blank_sized}
use Rattle.outcomes.proofs.Laws.Bounded.{blank_bounded}
use Rattle.promises.specs.Promises.{Makes, nothing}
use Rattle.promises.specs.Laws.Refused.{total, refusals, audit_exact}
use Rattle.promises.specs.Laws.Length.{length_first}
use Rattle.promises.specs.Laws.Heap.{same_length, only_named}
use Rattle.promises.specs.Laws.Keeps.{keeps_shape}
use Rattle.refinement.specs.Laws.Fresh.{make_pages}
use Rattle.audited.specs.Laws.Audited.{audited}
use Rattle.demands.specs.Demands.{Demand1}
use Rattle.demands.proofs.Laws.Demand2.{made_good}

-- a state of no page lists nothing, and the audit rejects it
blank_lists : (heap : List ℕ) → begin (store (blank 0 0) heap) ≡ nothing
unfolding begin blank frame_count kind_count name_at page_count entries listed_regions listed_kinds listed_frames listed_held listed_free met_on
blank_lists heap = refl

blank_unsound : (heap : List ℕ) → Sound (store (blank 0 0) heap) → ⊥
unfolding blank
blank_unsound heap h = true≢false (sym h.made)

-- what make leaves is of the language's types
made_shaped : (b : Bool) (heap : List ℕ) (a : Answer) (T : Store) → Bits32 heap → (b ≡ true → length heap / 64 ≤ 256) → MakeBy b heap a T → Shaped T
made_shaped true heap a T h few o = rw o.1 (record {
  sized = blank_sized (length heap / 64) 1 (replicate (length heap) 0);
  bounded = blank_bounded (length heap / 64) 1 (few refl) (omega arith) (replicate (length heap) 0) (all_replicate (λ x. x < 4294967296) (length heap) 0 (omega arith));
})
made_shaped false heap a T h few o = rw o.1 (record { sized = blank_sized 0 0 heap; bounded = blank_bounded 0 0 (omega arith) (omega arith) heap h })

pub makes_kept : Makes
unfolding Makes MakeOutcome
makes_kept heap a T o = (
  (λ h. made_shaped (makes (length heap)) heap a T h (λ e. (make_pages (length heap) e).1) o),
  (λ e.
      let q = rw e at o in
      let g = made_good heap a T e o in (
        q.0,
        ap (λ U. length U.heap) q.1 ∙ length-replicate (length heap) 0,
        rw q.1 (all_replicate (λ w. w ≡ 0) (length heap) 0 refl),
        audited T g.valid g.represents g.sized,
      )),
  (λ e.
      let q = rw e at o in
      (q.0, ap (λ U. U.heap) q.1, rw q.1 (blank_lists heap), λ other h. blank_unsound other (rw q.1 at h))),
)

pub demand1 : Demand1
unfolding Demand1
demand1 = (total, refusals, length_first, same_length, only_named, keeps_shape, audit_exact, makes_kept)
