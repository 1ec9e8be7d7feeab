-- Push, drop and hand back: what the store leaves represents what the model leaves, and the answers are the same.
-- Assumes nothing.
use Rattle.std.specs.Prelude.{◌≡◌, ◌⊎◌, ◌≢◌, Bool, ◌&&◌, eqb, get_or, set, take, replicate}
use Rattle.std.proofs.Math.Path.{refl, sym, ap}
use Rattle.std.proofs.Common.{◌∙◌, inl, inr, arith, length-append, get_or-set_same, get_or-set_other}
use Rattle.std.proofs.Math.Bool.{true, false}
use mathlib.Core.List.{List, [], ◌∷◌, ◌++◌}
use Prim.Native.Nat.{ℕ, suc, ◌+◌, ◌-◌, ◌*◌, ◌≤◌, ◌<◌}
use Rattle.std.proofs.Math.Dec.{ltb, leb}
use Rattle.std.proofs.Math.ListN.{length, length-take, get_or-append}
use Rattle.std.proofs.lemmas.List.{length-replicate, get_or-replicate}
use Rattle.std.proofs.lemmas.List.Edits.{sets}
use Rattle.std.proofs.Math.Seq.{get_or-append_seam, get_or-take}
use borrow.Author.Tests.{ltb-true, ltb-false, leb-true, leb-false, le-leb}
use Rattle.lists.specs.Lists.{pick, times, All}
use Rattle.lists.specs.Laws.Tests.{by_test, neither, by_same}
use Rattle.lists.specs.Laws.Sets.{get_d_sets_in, get_d_sets_out}
use Rattle.model.specs.Model.{Model, Answer, lives_in, home_in, top_place, top, beneath, slot, in_frames, stored, gives, push, drop_frame, hand_back}
use Rattle.model.specs.Calls.{checks, refusal, reply, accepted, lacks, pop_frame}
use Rattle.model.specs.Valid.{Valid}
use Rattle.model.proofs.Laws.Passed.{passed, filler_one}
use Rattle.model.proofs.Laws.Slots.{pop_valid}
use Rattle.model.specs.Moves.{uncounted}
use Rattle.model.proofs.Laws.Counts.{push_stored, pop_stored, zero_uncounted, none_uncounted, top_uncounted}
use Rattle.frames.specs.declared.Frames.{Frames}
use Rattle.frames.specs.Frames.{top_frame, width_at, slot_at, pushed, uncounts, popped, uncounts_in}
use Rattle.regions.specs.Regions.{tag_of}
use Rattle.regions.specs.Laws.Recount.{beside_same, recount_beside}
use Rattle.outcomes.specs.Store.{Store, frames, regions, slot_targets}
use Rattle.outcomes.specs.Shape.{Sized, FramesSized}
use Rattle.outcomes.specs.Outcome.{Accepted, recounted, pop_frame as store_pop}
use Rattle.refinement.specs.Represents.{spot, FramesAgree, Represents}
use Rattle.refinement.specs.Laws.Reads.{frame_small, top_frame_lem, beneath_frame, slot_is}
use Rattle.refinement.specs.Laws.Kept.{framed}
use Rattle.refinement.specs.Laws.Slots.{fill_represents}
use Rattle.refinement.specs.Laws.Counts.{count_is, slots_into_lem}

-- ---- push

push_frames : (sp : List ℕ) (fs : List (List ℕ)) (m : ℕ) (f : Frames) (n : ℕ) → FramesSized f → length fs < 32 → n ≤ 8 → All (λ x. (1 ≤ length x) × (length x ≤ 8)) fs → FramesAgree sp fs m f
    → FramesAgree sp (fs ++ (replicate n 0 ∷ [])) m (pushed f n)
unfolding pushed width_at slot_at
push_frames sp fs m f n z few small sized h = record {
  standing = simp length-append (omega (arith, h.standing));
  counted = h.counted;
  widths = λ i k. wide i k (by_same i (length fs));
  slots = λ i s k l. hold i s k l (by_same i (length fs));
}
  where
    old : (i : ℕ) → i < length (fs ++ (replicate n 0 ∷ [])) → i ≢ length fs → i < length fs
    old i k n = omega (arith, simp length-append at k)

    wide : (i : ℕ) → i < length (fs ++ (replicate n 0 ∷ [])) → (i ≡ length fs) ⊎ (i ≢ length fs)
        → get_or (set f.widths f.standing n) i 0 ≡ length (get_or (fs ++ (replicate n 0 ∷ [])) i [])
    wide i k (inl e) = rw (e, h.standing, get_or-set_same f.widths (length fs) n 0 (omega (arith, z.widths)), get_or-append_seam fs (replicate n 0) [] [], length-replicate)
    wide i k (inr e) = rw (h.standing, get_or-set_other f.widths (length fs) i n 0 e, get_or-append fs (replicate n 0 ∷ []) [] i (old i k e)) (h.widths i (old i k e))

    hold : (i s : ℕ) → i < length (fs ++ (replicate n 0 ∷ [])) → s < length (get_or (fs ++ (replicate n 0 ∷ [])) i []) → (i ≡ length fs) ⊎ (i ≢ length fs)
        → get_or (sets f.slots (8 * f.standing) (replicate 8 0)) (8 * i + s) 0 ≡ spot sp (get_or (get_or (fs ++ (replicate n 0 ∷ [])) i []) s 0)
    hold i s k l (inl e) =
        let b : s < n = simp length-replicate at (rw (e, get_or-append_seam fs (replicate n 0) [] []) at l) in
        rw (
          e,
          h.standing,
          get_or-append_seam fs (replicate n 0) [] [],
          get_or-replicate {A = ℕ} n s 0 0 b,
          get_d_sets_in (replicate 8 0) f.slots (8 * length fs) s 0 (omega (arith, z.slots)) (omega arith),
        ) (get_or-replicate {A = ℕ} 8 s 0 0 (omega arith))
    hold i s k l (inr e) =
        let b : s < length (get_or fs i []) = rw (get_or-append fs (replicate n 0 ∷ []) [] i (old i k e)) at l in
        rw (
          h.standing,
          get_d_sets_out (replicate 8 0) f.slots (8 * length fs) (8 * i + s) 0 (inl (omega (arith, old i k e, frame_small fs sized i))),
          get_or-append fs (replicate n 0 ∷ []) [] i (old i k e),
        ) (h.slots i s (old i k e) b)

-- ---- a frame goes

-- whether n frames are left or none, m falls by the same rule: with none it is 0
pub mark_falls : (n m : ℕ) → m ≤ n → pick (ltb 0 n && leb n m) (m - 1) m ≡ pick (leb n m) (m - 1) m
mark_falls n m low = by_test (ltb 0 n) (λ e. rw e) (λ e. let z = ltb-false 0 n e in rw (e, le-leb n m (omega arith)) (omega arith))

uncounts_is : {sp : List ℕ} {fs : List (List ℕ)} {m : ℕ} {f : Frames} → FramesAgree sp fs m f → uncounts f ≡ (ltb 0 (top_place fs) && leb (top_place fs) m)
unfolding uncounts uncounts_in top_frame
uncounts_is h = rw (top_frame_lem h, h.counted)

pop_frames : (sp : List ℕ) (fs : List (List ℕ)) (m : ℕ) (f : Frames) → m ≤ top_place fs → FramesAgree sp fs m f
    → FramesAgree sp (take (top_place fs) fs) (pick (leb (top_place fs) m) (m - 1) m) (popped f)
unfolding popped uncounts width_at slot_at
pop_frames sp fs m f low h = record {
  standing = simp length-take (omega (arith, top_frame_lem h));
  counted = rw (uncounts_is h, h.counted) (mark_falls (top_place fs) m low);
  widths = λ i k. rw (get_or-take (top_place fs) fs i [] (below i k)) (h.widths i (stands i k));
  slots = λ i s k l. rw (get_or-take (top_place fs) fs i [] (below i k)) (h.slots i s (stands i k) (rw (get_or-take (top_place fs) fs i [] (below i k)) at l));
}
  where
    below : (i : ℕ) → i < length (take (top_place fs) fs) → i < top_place fs
    below i k = omega (arith, simp length-take at k)

    stands : (i : ℕ) → i < length (take (top_place fs) fs) → i < length fs
    stands i k = omega (arith, below i k)

module _ (L : Model) (sp : List ℕ) (ids : ℕ → List ℕ) (S : Store) (v : Valid L) (h : Represents L sp ids S) where
  -- the slots that leave the count of a live region r
  slots_out : (r : ℕ) → lives_in L r ≡ true → times (tag_of (regions S) r) (pick (uncounts (frames S)) (slot_targets S (top_frame (frames S) - 1)) []) ≡ in_frames (home_in L) r (uncounted L)
  unfolding in_frames
  slots_out r l = rw (uncounts_is h.on_frames, beneath_frame h.on_frames) (go (ltb 0 (top_place L.frames)) refl (leb (top_place L.frames) L.counted) refl)
    where
      go : (a : Bool) → ltb 0 (top_place L.frames) ≡ a → (b : Bool) → leb (top_place L.frames) L.counted ≡ b
          → times (tag_of (regions S) r) (pick (a && b) (slot_targets S (length L.frames - 2)) []) ≡ in_frames (home_in L) r (uncounted L)
      go true e true d =
          let k = ltb-true 0 (top_place L.frames) e in
          let m : L.counted ≡ suc (length L.frames - 2) = omega (arith, leb-true (top_place L.frames) L.counted d, v.frames.mark) in
          rw (top_uncounted L (length L.frames - 2) (omega arith) m) (slots_into_lem S v h.on_frames h.on_regions h.on_objects r l (length L.frames - 2) (omega arith) ∙ omega arith)
      go true e false d = rw (none_uncounted L (leb-false (top_place L.frames) L.counted d))
      go false e b d = rw (zero_uncounted L (omega (arith, v.frames.mark, ltb-false 0 (top_place L.frames) e)))

  pub popped_represents : (f : ℕ) → f < 4 → ((r : ℕ) → stored L r ≤ 16640) → Represents (pop_frame L) sp ids (store_pop S f)
  unfolding pop_frame store_pop recounted
  popped_represents f k small = framed (recount_beside (regions S) f [] gone)
      (pop_frames sp L.frames L.counted (frames S) v.frames.mark h.on_frames)
      (λ r l. count_is h.on_regions r f k l [] gone (stored (pop_frame L) r) (omega (arith, slots_out r l, pop_stored L r v, h.counts r l)) (omega (arith, small r, pop_stored L r v)))
      h
    where
      gone : List ℕ
      gone = pick (uncounts (frames S)) (slot_targets S (top_frame (frames S) - 1)) []

-- ---- the calls

module _ (L : Model) (sp : List ℕ) (ids : ℕ → List ℕ) (S : Store) (v : Valid L) (h : Represents L sp ids S) (a : Answer) (T : Store) where
  pub push_step : Sized S → (n : ℕ) → refusal L (push n) ≡ 0 → Accepted (push n) S a T → (a ≡ reply L (push n)) × Represents (accepted L (push n)) sp ids T
  unfolding checks Accepted reply accepted
  push_step z n e x =
      let t = passed L (push n) e in
      let small = ltb-false 8 n (neither (eqb n 0) (ltb 8 n) t.0).1 in
      let few = leb-false 32 (length L.frames) t.1.0 in (
        x.0 ∙ ap (λ k. gives ((k + 1) ∷ [])) h.on_frames.standing,
        rw x.1 (framed (beside_same (regions S))
            (push_frames sp L.frames L.counted (frames S) n z.in_frames few small v.frames.sized h.on_frames) (λ r l. h.counts r l ∙ sym (push_stored L r v (replicate n 0))) h),
      )

  pub drop_step : ((r : ℕ) → stored L r ≤ 16640) → (f : ℕ) → refusal L (drop_frame f) ≡ 0 → Accepted (drop_frame f) S a T → (a ≡ reply L (drop_frame f)) × Represents (accepted L (drop_frame f)) sp ids T
  unfolding checks Accepted reply accepted
  drop_step small f e x = (x.0 ∙ ap (λ k. gives (k ∷ [])) (top_frame_lem h.on_frames), rw x.1 (popped_represents L sp ids S v h f (filler_one f (passed L (drop_frame f) e).0) small))

  pub hand_step : Sized S → ((r : ℕ) → stored L r ≤ 16640) → (s b f : ℕ) → refusal L (hand_back s b f) ≡ 0 → Accepted (hand_back s b f) S a T
      → (a ≡ reply L (hand_back s b f)) × Represents (accepted L (hand_back s b f)) sp ids T
  unfolding checks Accepted reply accepted pop_frame store_pop recounted popped
  hand_step z small s b f e x =
      let t = passed L (hand_back s b f) e in
      let two = ltb-false (length L.frames) 2 t.1.0 in
      let q = neither (lacks (top L) s) (lacks (beneath L) b) t.1.1.0 in
      let d : length (take (top_place L.frames) L.frames) - 1 ≡ length L.frames - 2 = simp length-take (omega arith) in
      let u : top (pop_frame L) ≡ beneath L = rw (d, get_or-take (top_place L.frames) L.frames (length L.frames - 2) [] (omega arith)) in
      let k : b < length (top (pop_frame L)) = rw u (leb-false (length (beneath L)) b q.1) in (
        x.0 ∙ ap (λ k. gives (k ∷ [])) (top_frame_lem h.on_frames),
        rw (x.1, slot_is h s q.0) (fill_represents (pop_frame L) sp ids (store_pop S f) (pop_valid L v) (popped_represents L sp ids S v h f (filler_one f t.0) small) z.in_frames.slots b (slot L s) k),
      )
