-- The calls that fill a slot of the top frame (first, copy, fetch, clear, load), and those that only read (get, view, same, about, totals, locate):
-- what the store leaves represents what the model leaves, and the answers are the same.
-- Assumes nothing.
use Rattle.std.specs.Prelude.{◌≡◌, ◌⊎◌, ◌≢◌, true, false, List, [], ◌∷◌, ℕ, ◌+◌, ◌*◌, ◌≤◌, ◌<◌, eqb, length, get_or, set, take, drop}
use Rattle.std.proofs.Math.Path.{refl, sym, ap}
use Rattle.std.proofs.Common.{◌∙◌, inl, inr, arith, length-set, length-take, length-drop, get_or-set_same, get_or-set_other, get_or-take, get_or-drop, ext_get_or, leb-false}
use Rattle.std.proofs.lemmas.Bool.{not-false}
use Rattle.lists.specs.Lists.{every, All}
use Rattle.lists.specs.Laws.Tests.{neither, by_same, eqb_sym}
use Rattle.lists.specs.Laws.All.{all_in}
use Rattle.lists.specs.Laws.Finds.{every_true}
use Rattle.model.specs.Model.{Model, Answer, region, lives_in, top_place, top, beneath, slot, in_slot, slot_marks, mark_at, gives, four, first, copy, fetch, clear, load, get, view, same, about, totals, Query, locate, ask}
use Rattle.model.specs.Calls.{checks, query_checks, refusal, reply, query_reply, accepted, fill_slot, lacks, null, no_word}
use Rattle.model.specs.Valid.{Valid}
use Rattle.model.proofs.Laws.Passed.{passed}
use Rattle.model.proofs.Laws.Slots.{slot_lives}
use Rattle.model.proofs.Laws.Counts.{fill_stored}
use Rattle.frames.specs.declared.Frames.{Frames}
use Rattle.frames.specs.Frames.{top_frame, width_at, slot_at, put_slot}
use Rattle.regions.specs.Laws.Recount.{beside_same}
use Rattle.objects.specs.Objects.{word_at, word_count}
use Rattle.outcomes.specs.Store.{Store, frames, kinds, regions, slot as store_slot}
use Rattle.outcomes.specs.Shape.{Sized}
use Rattle.outcomes.specs.Outcome.{Accepted, query_reply as store_reply, fill_slot as store_fill}
use Rattle.refinement.specs.Represents.{spot, image_of, FramesAgree, Represents}
use Rattle.refinement.specs.Laws.Tags.{live_count_lem}
use Rattle.refinement.specs.Laws.Reads.{frame_in, frame_small, top_frame_lem, top_known, slot_is, beneath_slot, sized_known, spot_same, word_is, size_is, kind_is, owner_name, free_are, page_is, word_of_lem}
use Rattle.refinement.specs.Laws.Kept.{framed}

-- ---- a slot is filled

fill_frames : (sp : List ℕ) (fs : List (List ℕ)) (m : ℕ) (f : Frames) (s p : ℕ) → length f.slots ≡ 256 → length fs ≤ 32 → All (λ x. (1 ≤ length x) × (length x ≤ 8)) fs
    → s < length (get_or fs (top_place fs) []) → FramesAgree sp fs m f → FramesAgree sp (set fs (top_place fs) (set (get_or fs (top_place fs) []) s p)) m (put_slot f (top_frame f) s (spot sp p))
unfolding put_slot width_at slot_at
fill_frames sp fs m f s p room few sized k h = record {
  standing = h.standing ∙ sym (simp length-set);
  counted = h.counted;
  widths = λ i b. h.widths i (simp length-set at b) ∙ sym (wide i (by_same i t));
  slots = λ i u b c. hold i u (simp length-set at b) (rw (wide i (by_same i t)) at c) (by_same i t) (by_same u s);
}
  where
    t : ℕ
    t = top_place fs

    new : List ℕ
    new = set (get_or fs t []) s p

    there : t < length fs
    there = frame_in fs t s k

    wide : (i : ℕ) → (i ≡ t) ⊎ (i ≢ t) → length (get_or (set fs t new) i []) ≡ length (get_or fs i [])
    wide i (inl e) = rw (e, get_or-set_same fs t new [] there) (simp length-set)
    wide i (inr e) = ap length (get_or-set_other fs t i new [] e)

    hold : (i u : ℕ) → i < length fs → u < length (get_or fs i []) → (i ≡ t) ⊎ (i ≢ t) → (u ≡ s) ⊎ (u ≢ s)
        → get_or (set f.slots (8 * top_frame f + s) (spot sp p)) (8 * i + u) 0 ≡ spot sp (get_or (get_or (set fs t new) i []) u 0)
    hold i u b c (inl e) (inl d) = rw (
      top_frame_lem h,
      e,
      d,
      get_or-set_same f.slots (8 * t + s) (spot sp p) 0 (omega (arith, frame_small fs sized t)),
      get_or-set_same fs t new [] there,
      get_or-set_same (get_or fs t []) s p 0 k,
    )
    hold i u b c (inl e) (inr d) = rw (
      top_frame_lem h,
      e,
      get_or-set_other f.slots (8 * t + s) (8 * t + u) (spot sp p) 0 (λ q. d (omega arith)),
      get_or-set_same fs t new [] there,
      get_or-set_other (get_or fs t []) s u p 0 d,
    ) (h.slots t u there (rw e at c))
    hold i u b c (inr e) d = rw (
      top_frame_lem h,
      get_or-set_other f.slots (8 * t + s) (8 * i + u) (spot sp p) 0 (λ q. e (omega (arith, frame_small fs sized i, frame_small fs sized t))),
      get_or-set_other fs t i new [] e,
    ) (h.slots i u b c)

module _ (L : Model) (sp : List ℕ) (ids : ℕ → List ℕ) (S : Store) (v : Valid L) (h : Represents L sp ids S) where
  pub fill_represents : length (frames S).slots ≡ 256 → (s p : ℕ) → s < length (top L) → Represents (fill_slot L s p) sp ids (store_fill S s (spot sp p))
  unfolding fill_slot store_fill
  fill_represents room s p k = framed (beside_same (regions S))
      (fill_frames sp L.frames L.counted (frames S) s p room v.frames.many v.frames.sized k h.on_frames) (λ r l. h.counts r l ∙ sym (fill_stored L r v s p)) h

  -- what word w of the object in slot s holds, as its mark says
  pub word_at_lem : (s w : ℕ) → lacks (top L) s ≡ false → null L s ≡ false → no_word L s w ≡ false
      → word_at S.heap (store_slot S s) w ≡ image_of sp (mark_at L s w) (get_or (in_slot L s).words w 0)
  word_at_lem s w k n o = rw (slot_is h s k) (word_is h.on_objects (slot L s) w (slot_lives L v s n) (leb-false (length (in_slot L s).words) w o))

  -- the part of the heap that has all words of the object in slot s, where they are data
  words_at_lem : (s : ℕ) → lacks (top L) s ≡ false → null L s ≡ false → every (eqb 0) (slot_marks L s) ≡ true
      → take (word_count (kinds S) S.heap (store_slot S s)) (drop (store_slot S s) S.heap) ≡ (in_slot L s).words
  words_at_lem s k n d =
      let p = spot sp (slot L s) in
      let ws = (in_slot L s).words in
      let o = h.on_objects.laid (slot L s) (slot_lives L v s n) in
      let len : length (take (length ws) (drop p S.heap)) ≡ length ws = simp (length-take, length-drop) (omega (arith, o.inside)) in
      rw (slot_is h s k, size_is h.on_objects h.on_kinds v (slot L s) (top_known v s)) (ext_get_or 0 (take (length ws) (drop p S.heap)) ws len (λ i b.
      let c : i < length ws = omega arith in
      let z = all_in (λ m. eqb 0 m ≡ true) (slot_marks L s) i 0 (every_true (eqb 0) (slot_marks L s) d) (omega (arith, sized_known v (slot L s) (top_known v s))) in
      get_or-take (length ws) (drop p S.heap) i 0 c ∙ get_or-drop p S.heap i 0 ∙ o.words i c ∙ rw (eqb_sym (mark_at L s i) 0 ∙ z)))

  module _ (a : Answer) (T : Store) where
    -- ---- calls that fill a slot

    module _ (z : Sized S) where
      filled : (s p x : ℕ) → lacks (top L) s ≡ false → x ≡ spot sp p → (a ≡ gives []) × (T ≡ store_fill S s x) → (a ≡ gives []) × Represents (fill_slot L s p) sp ids T
      filled s p x k e t = (t.0, rw (t.1, e) (fill_represents z.in_frames.slots s p (leb-false (length (top L)) s k)))

      pub first_step : (s r : ℕ) → refusal L (first s r) ≡ 0 → Accepted (first s r) S a T → (a ≡ reply L (first s r)) × Represents (accepted L (first s r)) sp ids T
      unfolding checks Accepted reply accepted
      first_step s r e x =
          let t = passed L (first s r) e in
          filled s (region L.regions r).oldest _ t.1.0 (h.on_regions.entry r (not-false (lives_in L r) t.1.1.0)).oldest x

      pub copy_step : (s t : ℕ) → refusal L (copy s t) ≡ 0 → Accepted (copy s t) S a T → (a ≡ reply L (copy s t)) × Represents (accepted L (copy s t)) sp ids T
      unfolding checks Accepted reply accepted
      copy_step s t e x =
          let q = neither (lacks (top L) s) (lacks (top L) t) (passed L (copy s t) e).1.0 in
          filled t (slot L s) _ q.1 (slot_is h s q.0) x

      pub fetch_step : (b s : ℕ) → refusal L (fetch b s) ≡ 0 → Accepted (fetch b s) S a T → (a ≡ reply L (fetch b s)) × Represents (accepted L (fetch b s)) sp ids T
      unfolding checks Accepted reply accepted
      fetch_step b s e x =
          let q = neither (lacks (beneath L) b) (lacks (top L) s) (passed L (fetch b s) e).1.0 in
          filled s (get_or (beneath L) b 0) _ q.1 (beneath_slot h.on_frames b (leb-false (length (beneath L)) b q.0)) x

      pub clear_step : (s : ℕ) → refusal L (clear s) ≡ 0 → Accepted (clear s) S a T → (a ≡ reply L (clear s)) × Represents (accepted L (clear s)) sp ids T
      unfolding checks Accepted reply accepted
      clear_step s e x = filled s 0 0 (passed L (clear s) e).1.0 refl x

      pub load_step : (s w t : ℕ) → refusal L (load s w t) ≡ 0 → Accepted (load s w t) S a T → (a ≡ reply L (load s w t)) × Represents (accepted L (load s w t)) sp ids T
      unfolding checks Accepted reply accepted
      load_step s w t e x =
          let c = passed L (load s w t) e in
          let q = neither (lacks (top L) s) (lacks (top L) t) c.1.0 in
          filled t (get_or (in_slot L s).words w 0) _ q.1 (word_at_lem s w q.0 c.1.1.0 c.1.1.1.0 ∙ rw c.1.1.1.1.0) x

    -- ---- calls that read

    pub get_step : (s w : ℕ) → refusal L (get s w) ≡ 0 → Accepted (get s w) S a T → (a ≡ reply L (get s w)) × Represents (accepted L (get s w)) sp ids T
    unfolding checks Accepted reply accepted
    get_step s w e x =
        let c = passed L (get s w) e in
        (x.0 ∙ ap (λ n. gives (n ∷ [])) (word_at_lem s w c.1.0 c.1.1.0 c.1.1.1.0 ∙ rw (not-false (eqb (mark_at L s w) 0) c.1.1.1.1.0)), rw x.1 h)

    pub view_step : (s : ℕ) → refusal L (view s) ≡ 0 → Accepted (view s) S a T → (a ≡ reply L (view s)) × Represents (accepted L (view s)) sp ids T
    unfolding checks Accepted reply accepted
    view_step s e x =
        let c = passed L (view s) e in
        (x.0 ∙ ap (λ p. record { refusal = 0; values = four []; part = p }) (words_at_lem s c.1.0 c.1.1.0 (not-false (every (eqb 0) (slot_marks L s)) c.1.1.1.0)), rw x.1 h)

    pub same_step : (s t : ℕ) → refusal L (same s t) ≡ 0 → Accepted (same s t) S a T → (a ≡ reply L (same s t)) × Represents (accepted L (same s t)) sp ids T
    unfolding checks Accepted reply accepted
    same_step s t e x =
        let q = neither (lacks (top L) s) (lacks (top L) t) (passed L (same s t) e).1.0 in
        (x.0 ∙ rw (slot_is h s q.0, slot_is h t q.1, spot_same h.on_objects (slot L s) (slot L t) (top_known v s) (top_known v t)), rw x.1 h)

    pub about_step : (s : ℕ) → refusal L (about s) ≡ 0 → Accepted (about s) S a T → (a ≡ reply L (about s)) × Represents (accepted L (about s)) sp ids T
    unfolding checks Accepted reply accepted
    about_step s e x =
        (x.0 ∙ rw (slot_is h s (passed L (about s) e).1.0, owner_name h.on_objects h.on_regions (slot L s) (top_known v s), kind_is h.on_objects (slot L s) (top_known v s)), rw x.1 h)

    -- calls that only ask
    query_is : (q : Query) → refusal L (ask q) ≡ 0 → store_reply S q ≡ query_reply L q
    unfolding store_reply query_reply checks query_checks
    query_is (locate s) e = rw (slot_is h s (passed L (ask (locate s)) e).1.0, page_is h.on_objects (slot L s) (top_known v s), word_of_lem h.on_objects (slot L s) (top_known v s))

    pub ask_step : (q : Query) → refusal L (ask q) ≡ 0 → Accepted (ask q) S a T → (a ≡ reply L (ask q)) × Represents (accepted L (ask q)) sp ids T
    unfolding Accepted reply accepted
    ask_step q e x = (x.0 ∙ query_is q e, rw x.1 h)

    pub totals_step : Accepted totals S a T → (a ≡ reply L totals) × Represents (accepted L totals) sp ids T
    unfolding Accepted reply accepted
    totals_step x = (x.0 ∙ rw (free_are h.on_regions h.on_pages, live_count_lem h.on_regions, h.on_frames.standing, h.on_frames.counted), rw x.1 h)
