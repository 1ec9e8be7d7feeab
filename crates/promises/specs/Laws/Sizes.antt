-- Every outcome keeps the lengths of the arrays, whatever the call is given.
-- Assumes nothing.
use Rattle.std.proofs.Math.Path.{subst⁻¹}
use mathlib.Core.List.{List, [], ◌∷◌, map}
use Rattle.std.specs.Prelude.{ℕ, zero, suc}
use Rattle.model.specs.Model.{Answer, Call, declare, new_region, subregion, push, drop_frame, hand_back, allocate, first, copy, fetch, clear, load, set_pointer, put, get, view, same, about, report, totals, audit, delete, delete_all, ask}
use Rattle.frames.specs.declared.Frames.{Frames}
use Rattle.frames.specs.Frames.{top_frame}
use Rattle.regions.specs.declared.Regions.{Regions}
use Rattle.regions.specs.Regions.{entry_of, tag_of}
use Rattle.pages.specs.declared.Pages.{Pages}
use Rattle.outcomes.specs.Store.{Store, frames, kinds, regions, pages}
use Rattle.outcomes.specs.Shape.{FramesSized, RegionsSized, PagesSized, Sized}
use Rattle.outcomes.specs.Outcome.{Outcome, Accepted, Answered, refusal, with_frames, with_regions, with_pages, with_heap, fill_slot, write_word, recounted, pointed, pop_frame, allocated, outgoing, newly_counted, deleted}
use Rattle.outcomes.proofs.Laws.Sized.{put_slot_lem, push_frame, pop_frame_lem, raise_mark, with_kind_lem, with_region_lem, without_regions_lem, with_page_lem, recount_sized, with_taken_lem, free_pages}

-- ---- a store with another part

module _ (S : Store) (h : Sized S) where
  with_frames_lem : (f : Frames) → FramesSized f → Sized (with_frames S f)
  with_frames_lem f k = record { in_frames = k; in_kinds = h.in_kinds; in_regions = h.in_regions; in_pages = h.in_pages }

  with_regions_lem : (g : Regions) → RegionsSized g → Sized (with_regions S g)
  with_regions_lem g k = record { in_frames = h.in_frames; in_kinds = h.in_kinds; in_regions = k; in_pages = h.in_pages }

  with_pages_lem : (p : Pages) → PagesSized p → Sized (with_pages S p)
  with_pages_lem p k = record { in_frames = h.in_frames; in_kinds = h.in_kinds; in_regions = h.in_regions; in_pages = k }

  with_heap_lem : (l : List ℕ) → Sized (with_heap S l)
  with_heap_lem l = record { in_frames = h.in_frames; in_kinds = h.in_kinds; in_regions = h.in_regions; in_pages = h.in_pages }

-- ---- the steps that several calls share

module _ (S : Store) (h : Sized S) where
  filled : (s v : ℕ) → Sized (fill_slot S s v)
  unfolding fill_slot
  filled s v = with_frames_lem S h _ (put_slot_lem (frames S) h.in_frames (top_frame (frames S)) s v)

  written : (v w x : ℕ) → Sized (write_word S v w x)
  unfolding write_word
  written v w x = with_heap_lem S h _

  recounted_sized : (f : ℕ) (come gone : List ℕ) → Sized (recounted S f come gone)
  unfolding recounted
  recounted_sized f come gone = with_regions_lem S h _ (recount_sized (regions S) h.in_regions f come gone)

  popped_sized : (f : ℕ) → Sized (pop_frame S f)
  unfolding pop_frame
  popped_sized f = with_frames_lem _ (recounted_sized f [] _) _ (pop_frame_lem (frames S) h.in_frames)

  deleted_sized : (rs : List ℕ) (f : ℕ) → Sized (deleted S rs f)
  unfolding deleted
  deleted_sized rs f =
      let ts = map (tag_of (regions S)) rs in
      let T = recounted S f (newly_counted S) (outgoing S ts) in
      let m = recounted_sized f (newly_counted S) (outgoing S ts) in
      let g = with_regions_lem T m _ (without_regions_lem (regions T) m.in_regions (map (entry_of (regions S)) rs)) in
      with_frames_lem _ (with_pages_lem _ g _ (free_pages (pages S) h.in_pages ts)) _ (raise_mark (frames S) h.in_frames)

pointed_sized : (S : Store) → Sized S → (v w x f : ℕ) → Sized (pointed S v w x f)
unfolding pointed
pointed_sized S h v w x f = written _ (recounted_sized S h f _ _) v w x

allocated_sized : (S : Store) (s i k j : ℕ) → Sized S → Sized (allocated S s i k j)
unfolding allocated
allocated_sized S s i k j h =
    let p = with_pages_lem _ (with_heap_lem S h _) _ (with_taken_lem (pages S) h.in_pages j _ _) in
    filled _ (with_regions_lem _ p _ (with_page_lem (regions S) h.in_regions i _ _)) s _

-- ---- every call

accepted_sized : (c : Call) (S : Store) (a : Answer) (T : Store) → Sized S → Accepted c S a T → Sized T
unfolding Accepted
accepted_sized (declare ms) S a T h q =
    subst⁻¹ Sized q.1 (record { in_frames = h.in_frames; in_kinds = with_kind_lem (kinds S) ms h.in_kinds; in_regions = h.in_regions; in_pages = h.in_pages })
accepted_sized new_region S a T h q = subst⁻¹ Sized q.1 (with_regions_lem S h _ (with_region_lem (regions S) h.in_regions _ _ _))
accepted_sized (subregion r) S a T h q = subst⁻¹ Sized q.1 (with_regions_lem S h _ (with_region_lem (regions S) h.in_regions _ _ _))
accepted_sized (push n) S a T h q = subst⁻¹ Sized q.1 (with_frames_lem S h _ (push_frame (frames S) h.in_frames n))
accepted_sized (drop_frame f) S a T h q = subst⁻¹ Sized q.1 (popped_sized S h f)
accepted_sized (hand_back s b f) S a T h q = subst⁻¹ Sized q.1 (filled _ (popped_sized S h f) _ _)
accepted_sized (allocate s r k) S a T h q = subst⁻¹ Sized q.1 (allocated_sized S _ _ _ _ h)
accepted_sized (first s r) S a T h q = subst⁻¹ Sized q.1 (filled S h _ _)
accepted_sized (copy s t) S a T h q = subst⁻¹ Sized q.1 (filled S h _ _)
accepted_sized (fetch b s) S a T h q = subst⁻¹ Sized q.1 (filled S h _ _)
accepted_sized (clear s) S a T h q = subst⁻¹ Sized q.1 (filled S h _ _)
accepted_sized (load s w t) S a T h q = subst⁻¹ Sized q.1 (filled S h _ _)
accepted_sized (set_pointer s w v f) S a T h q = subst⁻¹ Sized q.1 (pointed_sized S h _ _ _ f)
accepted_sized (put s w x) S a T h q = subst⁻¹ Sized q.1 (written S h _ _ _)
accepted_sized (get s w) S a T h q = subst⁻¹ Sized q.1 h
accepted_sized (view s) S a T h q = subst⁻¹ Sized q.1 h
accepted_sized (same s t) S a T h q = subst⁻¹ Sized q.1 h
accepted_sized (about s) S a T h q = subst⁻¹ Sized q.1 h
accepted_sized (report r) S a T h q = subst⁻¹ Sized q.1 h
accepted_sized totals S a T h q = subst⁻¹ Sized q.1 h
accepted_sized audit S a T h q = subst⁻¹ Sized q.1 h
accepted_sized (delete r f) S a T h q = subst⁻¹ Sized q.1 (deleted_sized S h (r ∷ []) f)
accepted_sized (delete_all rs f) S a T h q = subst⁻¹ Sized q.1 (deleted_sized S h rs f)
accepted_sized (ask x) S a T h q = subst⁻¹ Sized q.1 h

pub keeps_size : (c : Call) (S : Store) (a : Answer) (T : Store) → Sized S → Outcome c S a T → Sized T
unfolding Outcome
keeps_size c S a T h o = go (refusal S c) o
  where
    go : (n : ℕ) → Answered n c S a T → Sized T
    go zero k = accepted_sized c S a T h k
    go (suc n) k = subst⁻¹ Sized k.1 h
