-- The kinds and frames of the model that an audited memory lists are valid and agree with the state.
-- Assumes nothing.
use Rattle.std.specs.Prelude.{◌≡◌, true, ◌||◌, leb, get_or}
use Rattle.std.proofs.Math.Path.{refl, ap}
use Rattle.std.proofs.Common.{sym, ◌∙◌}
use Rattle.std.proofs.Math.Bool.{Bool}
use mathlib.Core.List.{[]}
use Prim.Native.Nat.{ℕ, suc, ◌-◌, ◌≤◌, ◌<◌}
use native.Mathlib.Omega.{arith}
use Rattle.std.proofs.Math.Dec.{eqb}
use Rattle.std.proofs.Math.ListN.{length}
use borrow.Author.Tests.{lt-ltb, leb-true, le-leb}
use Rattle.lists.specs.Lists.{every, All, up_to}
use Rattle.lists.specs.Laws.Tests.{both}
use Rattle.lists.specs.Laws.All.{all_map, all_change}
use Rattle.lists.specs.Laws.Finds.{every_true}
use Rattle.lists.specs.Laws.UpTo.{all_up_to, every_each, get_d_map_up_to, length_map_up_to}
use Rattle.lists.specs.Laws.Kept.{all_places}
use Rattle.lists.specs.Laws.Every.{every_map}
use Rattle.model.specs.Model.{lives_in, home_in}
use Rattle.model.specs.Valid.{ValidKinds, ValidFrames, known as lead}
use Rattle.frames.specs.Frames.{frame_count, width_at, slot_at}
use Rattle.kinds.specs.Kinds.{kind_count, size_of, size_in}
use Rattle.outcomes.specs.Store.{Store, frames, kinds}
use Rattle.outcomes.specs.History.{begin, listed_kinds, listed_frames, slots_lead, leads}
use Rattle.outcomes.specs.Sound.{Sound, within}
use Rattle.outcomes.specs.Shape.{Sized}
use Rattle.outcomes.proofs.Laws.Pointers.{kinds_length, marks_length, marks_at_lem, every_slot}
use Rattle.refinement.specs.Represents.{FramesAgree, KindsAgree}
use Rattle.audited.specs.Rebuild.{places, id_of, read_frame, rebuilt}
use Rattle.audited.specs.Laws.RebuildIds.{Known, known}

-- a number from a to b, both in
pub within_is : (a b n : ℕ) → within a b n ≡ true → (a ≤ n) × (n ≤ b)
within_is a b n e = let t = both (leb a n) (leb n b) e in (leb-true a n t.0, leb-true n b t.1)

pub is_within : (a b n : ℕ) → a ≤ n → n ≤ b → within a b n ≡ true
is_within a b n h k = rw (le-leb a n h, le-leb n b k)

module _ (S : Store) (sh : Sized S) (so : Sound S) where
  -- ---- kinds

  sizes_few : (n : ℕ) → n < (kinds S).declared → (1 ≤ get_or (kinds S).sizes n 0) × (get_or (kinds S).sizes n 0 ≤ 16)
  sizes_few n h = within_is 1 16 (get_or (kinds S).sizes n 0) (every_each (λ k. within 1 16 (get_or (kinds S).sizes k 0)) (kinds S).declared so.sizes n h)

  listed_all : length (listed_kinds S) ≡ (kinds S).declared
  unfolding kind_count
  listed_all = omega (arith, kinds_length S, leb-true (kinds S).declared 16 so.declared)

  pub kinds_agree : KindsAgree (listed_kinds S) (kinds S)
  kinds_agree = record {
    declared = sym listed_all;
    sizes = marks_length S;
    few = λ n h. (sizes_few n (omega (arith, listed_all))).1;
    marks_agree = marks_at_lem S;
  }

  size_few : (n : ℕ) → n < kind_count (kinds S) → (1 ≤ size_of (kinds S) (suc n)) × (size_of (kinds S) (suc n) ≤ 16)
  unfolding size_of kind_count size_in
  size_few n h =
      let e : suc n - 1 ≡ n = omega arith in
      rw (lt-ltb 0 (suc n) (omega arith), le-leb (suc n) (kind_count (kinds S)) (omega arith), e) (omega (arith, sizes_few n (omega arith)))

  pub kinds_valid : ValidKinds (listed_kinds S)
  kinds_valid = record {
    many = omega (arith, listed_all, leb-true (kinds S).declared 16 so.declared);
    sized = all_places (λ ms. (1 ≤ length ms) × (length ms ≤ 16)) (listed_kinds S) [] (λ n h. omega (arith, marks_length S (suc n), size_few n (omega (arith, kinds_length S))));
    marks = all_map (λ ms e. all_map (λ m. leb-true m 4) ms (every_true (λ m. leb m 4) ms e)) (listed_kinds S) (every_true (every (λ m. leb m 4)) (listed_kinds S) so.marks);
  }

  -- ---- frames

  frames_all : frame_count (frames S) ≡ (frames S).standing
  unfolding frame_count
  frames_all = omega (arith, leb-true (frames S).standing 32 so.standing)

  frames_length : length (rebuilt S).frames ≡ frame_count (frames S)
  unfolding rebuilt
  frames_length = length_map_up_to (read_frame S) (frame_count (frames S))

  frame_at : (i : ℕ) → i < frame_count (frames S) → get_or (rebuilt S).frames i [] ≡ read_frame S i
  unfolding rebuilt
  frame_at i h = get_d_map_up_to (read_frame S) [] (frame_count (frames S)) i h

  frame_length : (i : ℕ) → length (read_frame S i) ≡ width_at (frames S) i
  unfolding read_frame
  frame_length i = length_map_up_to (λ s. id_of (places S) (slot_at (frames S) i s)) (width_at (frames S) i)

  slot_known : (i s : ℕ) → i < frame_count (frames S) → s < width_at (frames S) i → Known S (slot_at (frames S) i s)
  unfolding slots_lead
  slot_known i s h k =
      let test : ℕ → Bool = λ v. eqb v 0 || leads (begin S) v in
      let e = every_each (λ i. every (λ s. test (slot_at (frames S) i s)) (up_to (width_at (frames S) i))) (frame_count (frames S)) (sym (every_slot S test) ∙ so.slots) i h in
      known S sh (slot_at (frames S) i s) (every_each (λ s. test (slot_at (frames S) i s)) (width_at (frames S) i) e s k)

  counted_is : (frames S).counted ≡ (rebuilt S).counted
  unfolding rebuilt
  counted_is = refl

  pub frames_agree : FramesAgree (places S) (rebuilt S).frames (rebuilt S).counted (frames S)
  unfolding read_frame
  frames_agree = record {
    standing = omega (arith, frames_all, frames_length);
    counted = counted_is;
    widths = λ i h. let l : i < frame_count (frames S) = omega (arith, frames_length) in rw (frame_at i l) (sym (frame_length i));
    slots = λ i s h k.
        let l : i < frame_count (frames S) = omega (arith, frames_length) in
        let m : s < width_at (frames S) i = omega (arith, ap length (frame_at i l), frame_length i) in
        rw (frame_at i l, get_d_map_up_to (λ s. id_of (places S) (slot_at (frames S) i s)) 0 (width_at (frames S) i) s m) (sym (slot_known i s l m).back);
  }

  width_few : (i : ℕ) → i < frame_count (frames S) → (1 ≤ width_at (frames S) i) × (width_at (frames S) i ≤ 8)
  unfolding listed_frames
  width_few i h = within_is 1 8 (width_at (frames S) i) (every_each (λ i. within 1 8 (width_at (frames S) i)) (frame_count (frames S)) (sym (every_map (within 1 8) (width_at (frames S)) (up_to (frame_count (frames S)))) ∙ so.widths) i h)

  slots_known : (i : ℕ) → i < frame_count (frames S) → All (λ p. lead (lives_in (rebuilt S)) (home_in (rebuilt S)) p ≡ true) (read_frame S i)
  unfolding read_frame
  slots_known i h = all_change _ _ (λ s. id_of (places S) (slot_at (frames S) i s)) (λ s k. k.live) (up_to (width_at (frames S) i)) (all_up_to (λ s. Known S (slot_at (frames S) i s)) (width_at (frames S) i) (λ s l. slot_known i s h l))

  pub frames_valid : ValidFrames (lives_in (rebuilt S)) (home_in (rebuilt S)) (rebuilt S).frames (rebuilt S).counted
  unfolding rebuilt
  frames_valid = record {
    mark = omega (arith, frames_all, frames_length, leb-true (frames S).counted ((frames S).standing - 1) so.counted);
    many = omega (arith, frames_all, frames_length, leb-true (frames S).standing 32 so.standing);
    sized = all_change _ _ (read_frame S) (λ i k. rw (frame_length i) k) (up_to (frame_count (frames S)))
        (all_up_to (λ i. (1 ≤ width_at (frames S) i) × (width_at (frames S) i ≤ 8)) (frame_count (frames S)) width_few);
    slots = all_change _ _ (read_frame S) (λ i k. k) (up_to (frame_count (frames S))) (all_up_to _ (frame_count (frames S)) slots_known);
  }
