-- The tests of each call, and the effect of a drop.
-- Assumes nothing.
use mathlib.Core.Path.{◌≡◌, refl, ap, ◌∙◌}
use mathlib.Core.Bool.{◌||◌}
use mathlib.Core.List.{List, [], ◌∷◌}
use Prim.Native.Nat.{ℕ, ◌-◌, ◌%◌, ◌<◌}
use native.Mathlib.Omega.{arith}
use lib.Dec.{eqb, ltb}
use lib.ListN.{length}
use borrow.Author.Tests.{ltb-false, leb-false}
use Rattle.lists.specs.Lists.{pick}
use Rattle.lists.specs.Laws.Tests.{neither}
use Rattle.model.specs.Model.{push, drop_frame, hand_back}
use Rattle.model.specs.Calls.{reason, ◌yields◌}
use Rattle.model.proofs.Laws.Passed.{all_passed}
use Rattle.frames.specs.Frames.{top_in, uncounts_in, top_frame, uncounts, popped}
use Rattle.regions.specs.Regions.{with_shares}
use Rattle.regions.specs.Laws.Counts.{Shares}
use Rattle.regions.specs.Laws.Steps.{leavings}
use Rattle.regions.specs.Laws.Recount.{leave_recount}
use Rattle.pages.specs.Pages.{wrong_length}
use Rattle.outcomes.specs.Store.{Store, frames, regions, pages, targets_in, slot_targets}
use Rattle.outcomes.specs.Outcome.{refusal, checks, bad_length, no_frame, one_frame, lacks, lacks_beneath, with_frames, with_regions, pop_frame, recounted}
use Rattle.outcomes.proofs.Laws.Steps.{reason_append}
use Rattle.checks.specs.Checks.{first_refusal, filler_tests}
use Rattle.checks.specs.Laws.Tests.{beneath, filler_first, slot_beneath, or_zero}
use Rattle.calls_stack.specs.Stack.{push_tests, drop_tests}

module _ (S : Store) where
  pub push_tests_lem : (w : ℕ) → refusal S (push w) ≡ reason (push_tests (pages S).made (length S.heap) (frames S).standing w)
  unfolding refusal checks bad_length wrong_length push_tests
  push_tests_lem w = refl

  pub drop_tests_lem : (f : ℕ) → refusal S (drop_frame f) ≡ first_refusal (reason (filler_tests (pages S).made (length S.heap) f)) (reason (drop_tests (frames S).standing))
  unfolding refusal checks bad_length wrong_length no_frame filler_tests drop_tests
  drop_tests_lem f = reason_append (filler_tests (pages S).made (length S.heap) f) (drop_tests (frames S).standing) refl

  pub hand_tests : (s b f : ℕ) → refusal S (hand_back s b f) ≡ first_refusal (reason (filler_tests (pages S).made (length S.heap) f)) (reason (beneath S s b))
  unfolding refusal checks
  hand_tests s b f =
      let first = reason (filler_tests (pages S).made (length S.heap) f) in
      filler_first S (one_frame S yields 6 ∷ (lacks S s || lacks_beneath S b) yields 9 ∷ []) f ∙ ap (first_refusal first) (slot_beneath S [] s b ∙ or_zero (reason (beneath S s b)))

  -- the frame gone and the shares put back, which the pointers of the new top have left where it was counted
  pub pop_is : (f : ℕ) (cs : List ℕ) → f < 4 → Shares (regions S).shares
      → let fs = frames S in cs ≡ leavings f (regions S).shares (pick (uncounts_in fs.standing fs.counted) (targets_in fs.widths fs.slots (pages S).owners (top_in fs.standing - 1)) [])
      → with_frames (with_regions S (with_shares (regions S) cs)) (popped (frames S)) ≡ pop_frame S f
  unfolding pop_frame recounted uncounts top_frame slot_targets
  pop_is f cs few fits e = rw (e, leave_recount (regions S) f few fits)

-- a push that is accepted: at most 8 slots, and room for a frame
pub push_small : (made n standing w : ℕ) → reason (push_tests made n standing w) ≡ 0 → (w % 256 ≡ w) × (standing < 32)
unfolding push_tests
push_small made n standing w e =
    let t = all_passed (push_tests made n standing w) refl e in
    (omega (arith, ltb-false 8 w (neither (eqb w 0) (ltb 8 w) t.1.0).1), leb-false 32 standing t.1.1.0)
