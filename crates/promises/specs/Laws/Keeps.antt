-- Every outcome keeps the size of each number, and so, with the lengths, is a value of the language's types.
-- Assumes nothing.
use Rattle.std.specs.Prelude.{◌≡◌, refl, Bool, true, false, not, ◌||◌, ℕ, zero, suc, ◌+◌, ◌-◌, ◌*◌, ◌/◌, ◌%◌, ◌≤◌, ◌<◌, min, eqb, ltb, leb, length, replicate}
use Rattle.std.proofs.Common.{sym, true≢false, arith, eqb-true, ltb-true, ltb-false, leb-false}
use Rattle.std.proofs.Math.Path.{subst⁻¹}
use mathlib.Core.List.{List, [], ◌∷◌, map}
use Rattle.lists.specs.Lists.{bit, pick, any_of, repeats}
use Rattle.lists.specs.Laws.Tests.{neither, both}
use Rattle.lists.specs.Laws.All.{all_map, all_set, all_replicate}
use Rattle.lists.specs.Laws.Finds.{any_false}
use Rattle.lists.specs.Laws.Sums.{sum_most}
use Rattle.lists.specs.Laws.Kept.{all_each}
use Rattle.model.specs.Model.{Answer, Call, declare, new_region, subregion, push, drop_frame, hand_back, allocate, first, copy, fetch, clear, load, set_pointer, put, get, view, same, about, report, totals, audit, delete, delete_all, Query, locate, ask, gives}
use Rattle.model.specs.Calls.{wrong_names}
use Rattle.frames.specs.declared.Frames.{Frames}
use Rattle.frames.specs.Frames.{top_frame}
use Rattle.kinds.specs.declared.Kinds.{Kinds}
use Rattle.kinds.specs.Kinds.{kind_count, size_of, wrong_marks}
use Rattle.regions.specs.declared.Regions.{Regions}
use Rattle.regions.specs.Regions.{entry_of, tag_of, is_live, newest_at, oldest_at, level_at}
use Rattle.regions.specs.Laws.Recount.{total_below}
use Rattle.pages.specs.declared.Pages.{Pages}
use Rattle.pages.specs.Pages.{page_count, is_free, taken_at, page_of, word_of, pages_of}
use Rattle.outcomes.specs.Store.{Store, frames, kinds, regions, pages, slot, size, roomy, roomy_in}
use Rattle.outcomes.specs.Sound.{sound}
use Rattle.outcomes.specs.Shape.{FramesBounded, KindsBounded, RegionsBounded, PagesBounded, Bounded, Bits32}
use Rattle.outcomes.specs.Outcome.{Outcome, Accepted, Answered, query_reply, refusal, checks, dead, names_out, with_frames, with_kinds, with_regions, with_pages, with_heap, fill_slot, write_word, recounted, pointed, pop_frame, allocated, outgoing, newly_counted, deleted}
use Rattle.promises.specs.Promises.{Sent, KeepsShape}
use Rattle.promises.specs.Laws.Sizes.{keeps_size}
use Rattle.promises.specs.Laws.Passed.{passed}
use Rattle.outcomes.proofs.Laws.Bounded.{below_at, all_sets, pick_below, slot_below, put_slot_lem, push_frame, pop_frame_lem, raise_mark, with_kind_lem, with_region_lem, without_regions_lem, with_page_lem, recount_bounded, with_taken_lem, free_pages}
use Rattle.outcomes.proofs.Laws.PageFor.{NewestOrFree, newest_or_free}
use Rattle.outcomes.proofs.Laws.Values.{size_most, outside_below, word_below, kind_below, live_below, subregions_below, pages_below, name_below, oldest_below}

zeros : Bits32 (gives []).values
zeros = (omega arith, (omega arith, (omega arith, (omega arith, tt))))

one : (x : ℕ) → x < 4294967296 → Bits32 (gives (x ∷ [])).values
one x h = (h, (omega arith, (omega arith, (omega arith, tt))))

four_small : (x y z w : ℕ) → x < 4294967296 → y < 4294967296 → z < 4294967296 → w < 4294967296 → Bits32 (gives (x ∷ y ∷ z ∷ w ∷ [])).values
four_small x y z w h k l m = (h, (k, (l, (m, tt))))

-- ---- a store with another part

module _ (S : Store) (h : Bounded S) where
  with_frames_lem : (f : Frames) → FramesBounded f → Bounded (with_frames S f)
  with_frames_lem f k = record { in_frames = k; in_kinds = h.in_kinds; in_regions = h.in_regions; in_pages = h.in_pages; heap = h.heap }

  with_kinds_lem : (k : Kinds) → KindsBounded k → Bounded (with_kinds S k)
  with_kinds_lem n k = record { in_frames = h.in_frames; in_kinds = k; in_regions = h.in_regions; in_pages = h.in_pages; heap = h.heap }

  with_regions_lem : (g : Regions) → RegionsBounded g → Bounded (with_regions S g)
  with_regions_lem g k = record { in_frames = h.in_frames; in_kinds = h.in_kinds; in_regions = k; in_pages = h.in_pages; heap = h.heap }

  with_pages_lem : (p : Pages) → PagesBounded p → Bounded (with_pages S p)
  with_pages_lem p k = record { in_frames = h.in_frames; in_kinds = h.in_kinds; in_regions = h.in_regions; in_pages = k; heap = h.heap }

  with_heap_lem : (l : List ℕ) → Bits32 l → Bounded (with_heap S l)
  with_heap_lem l k = record { in_frames = h.in_frames; in_kinds = h.in_kinds; in_regions = h.in_regions; in_pages = h.in_pages; heap = k }

-- ---- the steps that several calls share

module _ (S : Store) (h : Bounded S) where
  filled : (s v : ℕ) → v < 4294967296 → Bounded (fill_slot S s v)
  unfolding fill_slot
  filled s v b = with_frames_lem S h _ (put_slot_lem (frames S) h.in_frames (top_frame (frames S)) s v b)

  slot_small : (s : ℕ) → slot S s < 4294967296
  unfolding slot
  slot_small s = slot_below (frames S) h.in_frames (top_frame (frames S)) s

  written : (v w x : ℕ) → x < 4294967296 → Bounded (write_word S v w x)
  unfolding write_word
  written v w x b = with_heap_lem S h _ (all_set (λ x. x < 4294967296) S.heap (v + w) x h.heap b)

  recounted_bounded : (f : ℕ) (come gone : List ℕ) → Bounded (recounted S f come gone)
  unfolding recounted
  recounted_bounded f come gone = with_regions_lem S h _ (recount_bounded (regions S) h.in_regions f come gone)

  popped_bounded : (f : ℕ) → Bounded (pop_frame S f)
  unfolding pop_frame
  popped_bounded f = with_frames_lem _ (recounted_bounded f [] _) _ (pop_frame_lem (frames S) h.in_frames)

  deleted_bounded : (rs : List ℕ) (f : ℕ) → Bounded (deleted S rs f)
  unfolding deleted
  deleted_bounded rs f =
      let ts = map (tag_of (regions S)) rs in
      let T = recounted S f (newly_counted S) (outgoing S ts) in
      let m = recounted_bounded f (newly_counted S) (outgoing S ts) in
      let g = with_regions_lem T m _ (without_regions_lem (regions T) m.in_regions (map (entry_of (regions S)) rs)) in
      with_frames_lem _ (with_pages_lem _ g _ (free_pages (pages S) h.in_pages ts)) _ (raise_mark (frames S) h.in_frames)

pointed_bounded : (S : Store) → Bounded S → (v w x f : ℕ) → x < 4294967296 → Bounded (pointed S v w x f)
unfolding pointed
pointed_bounded S h v w x f b = written _ (recounted_bounded S h f _ _) v w x b

entry_below : (S : Store) (r : ℕ) → dead S r ≡ false → entry_of (regions S) r < 64
unfolding dead is_live
entry_below S r e = go (ltb (entry_of (regions S) r) 64) refl e
  where
    go : (b : Bool) → ltb (entry_of (regions S) r) 64 ≡ b → not b ≡ false → entry_of (regions S) r < 64
    go true q e = ltb-true (entry_of (regions S) r) 64 q
    go false q e = absurd (true≢false e)

tag_below : (g : Regions) (r : ℕ) → entry_of g r < 64 → tag_of g r < 256
unfolding tag_of
tag_below g r h = omega arith

top_below : (S : Store) → Bounded S → top_frame (frames S) < 4294967296
unfolding top_frame
top_below S h = omega (arith, h.in_frames.standing)

size_below : (S : Store) (k : ℕ) → size S k ≤ 17
unfolding size
size_below S k = omega (arith, size_most (kinds S) k)

kind_most : (S : Store) (k : ℕ) → ltb (kind_count (kinds S)) k ≡ false → k ≤ 16
unfolding kind_count
kind_most S k e = omega (arith, ltb-false (min (kinds S).declared 16) k e)

newest_below : (g : Regions) → RegionsBounded g → (i : ℕ) → newest_at g i < 65536
unfolding newest_at
newest_below g h i = below_at 65536 g.newest i (omega arith) h.newest

-- an object on the page that it goes to: where it starts, and that page, fit their types
roomy_fits : (S : Store) (i n : ℕ) → roomy S i n ≡ true → taken_at (pages S) (newest_at (regions S) i - 1) + n ≤ 64
unfolding roomy roomy_in taken_at
roomy_fits S i n e = go (eqb (newest_at (regions S) i) 0) (leb 65 (taken_at (pages S) (newest_at (regions S) i - 1) + n)) refl e
  where
    go : (b d : Bool) → leb 65 (taken_at (pages S) (newest_at (regions S) i - 1) + n) ≡ d → not (b || d) ≡ true → taken_at (pages S) (newest_at (regions S) i - 1) + n ≤ 64
    go true d q e = absurd (true≢false (sym e))
    go false true q e = absurd (true≢false (sym e))
    go false false q e = omega (arith, leb-false 65 (taken_at (pages S) (newest_at (regions S) i - 1) + n) q)

free_below : (S : Store) (j : ℕ) → is_free (pages S) j ≡ true → j < 256
unfolding is_free page_count
free_below S j e = omega (arith, ltb-true j (min (pages S).made 256) (both _ _ e).0)

place_fits : (S : Store) (i n j : ℕ) → Bounded S → n ≤ 17 → NewestOrFree S i n j → (j + 1 < 65536) × (pick (roomy S i n) (taken_at (pages S) j) 0 + n ≤ 64)
place_fits S i n j h b c = go (roomy S i n) refl c
  where
    go : (r : Bool) → roomy S i n ≡ r → pick r (eqb (newest_at (regions S) i) (j + 1)) (is_free (pages S) j) ≡ true → (j + 1 < 65536) × (pick r (taken_at (pages S) j) 0 + n ≤ 64)
    go true q c =
        let e = eqb-true (newest_at (regions S) i) (j + 1) c in
        let d : newest_at (regions S) i - 1 ≡ j = omega arith in
        (omega (arith, e, newest_below (regions S) h.in_regions i), rw d at (roomy_fits S i n q))
    go false q c = (omega (arith, free_below S j c), omega arith)

allocated_bounded : (S : Store) (s i k j : ℕ) → Bounded S → i < 64 → k ≤ 16 → NewestOrFree S i (size S k) j → Bounded (allocated S s i k j)
unfolding allocated
allocated_bounded S s i k j h b m c =
    let f = place_fits S i (size S k) j h (size_below S k) c in
    let start = pick (roomy S i (size S k)) (taken_at (pages S) j) 0 in
    let o = oldest_at (regions S) i in
    let v : 64 * j + start + 1 < 4294967296 = omega (arith, f.0, f.1) in
    let x = with_heap_lem S h _ (all_sets (λ x. x < 4294967296) (k ∷ replicate (size_of (kinds S) k) 0) S.heap (64 * j + start) h.heap (omega arith, all_replicate (λ x. x < 4294967296) (size_of (kinds S) k) 0 (omega arith))) in
    let y = with_pages_lem _ x _ (with_taken_lem (pages S) h.in_pages j (i + 1) (start + size S k) (omega arith) (omega (arith, f.1))) in
    let z = with_regions_lem _ y _ (with_page_lem (regions S) h.in_regions i (j + 1) (pick (eqb o 0) (64 * j + start + 1) o) f.0 (pick_below (eqb o 0) (64 * j + start + 1) o 4294967296 v (oldest_below (regions S) h.in_regions i))) in
    filled _ z s (64 * j + start + 1) v

-- ---- every call

both_of : (a b : Answer) (T U : Store) → (a ≡ b) × (T ≡ U) → Bounded U → Bits32 b.values → Bounded T × Bits32 a.values
both_of a b T U q h k = (subst⁻¹ Bounded q.1 h, subst⁻¹ (λ x. Bits32 x.values) q.0 k)

bit_below : (b : Bool) → bit b < 4294967296
bit_below true = omega arith
bit_below false = omega arith

query_below : (S : Store) → Bounded S → (q : Query) → Bits32 (query_reply S q).values
unfolding query_reply page_of word_of
query_below S h (locate s) =
    let v = slot S s in
    let b = slot_small S h s in
    four_small _ _ 0 0 (pick_below (eqb v 0) 256 ((v - 1) / 64) 4294967296 (omega arith) (omega arith)) (pick_below (eqb v 0) 0 ((v - 1) % 64) 4294967296 (omega arith) (omega arith)) (omega arith) (omega arith)

accepted_keeps : (c : Call) (S : Store) (a : Answer) (T : Store) → Sent c → Bounded S → refusal S c ≡ 0 → Accepted c S a T → Bounded T × Bits32 a.values
unfolding Accepted checks names_out wrong_marks wrong_names
accepted_keeps (declare ms) S a T x h e q =
    let t = passed S (declare ms) e in
    let d = leb-false 16 (kinds S).declared t.1.1.0 in
    let m = neither (eqb (length ms) 0 || ltb 16 (length ms)) (any_of (ltb 4) ms) t.1.0 in
    let n = neither (eqb (length ms) 0) (ltb 16 (length ms)) m.0 in
    let k = with_kind_lem (kinds S) ms h.in_kinds d (ltb-false 16 (length ms) n.1) (all_map (λ m f. ltb-false 4 m f) ms (any_false (ltb 4) ms m.1)) in
    both_of a _ T _ q (with_kinds_lem S h _ k) (one ((kinds S).declared + 1) (omega arith))
accepted_keeps new_region S a T x h e q =
    let t = passed S new_region e in
    let g = leb-false 1000000 (regions S).given t.1.1.0 in
    let r = with_region_lem (regions S) h.in_regions _ 0 1 g (omega arith) (omega arith) in
    both_of a _ T _ q (with_regions_lem S h _ r) (one ((regions S).given + 1) (omega arith))
accepted_keeps (subregion p) S a T x h e q =
    let t = passed S (subregion p) e in
    let i = entry_below S p t.1.0 in
    let l = leb-false 16 (level_at (regions S) (entry_of (regions S) p)) t.1.1.0 in
    let g = leb-false 1000000 (regions S).given t.1.1.1.1.0 in
    let r = with_region_lem (regions S) h.in_regions _ (tag_of (regions S) p) (level_at (regions S) (entry_of (regions S) p) + 1) g (tag_below (regions S) p i) (omega arith) in
    both_of a _ T _ q (with_regions_lem S h _ r) (one ((regions S).given + 1) (omega arith))
accepted_keeps (push n) S a T x h e q =
    let t = passed S (push n) e in
    let b = ltb-false 8 n (neither (eqb n 0) (ltb 8 n) t.1.0).1 in
    let d = leb-false 32 (frames S).standing t.1.1.0 in
    let f = push_frame (frames S) h.in_frames n d b in
    both_of a _ T _ q (with_frames_lem S h _ f) (one ((frames S).standing + 1) (omega arith))
accepted_keeps (drop_frame f) S a T x h e q = both_of a _ T _ q (popped_bounded S h f) (one (top_frame (frames S)) (top_below S h))
accepted_keeps (hand_back s b f) S a T x h e q = both_of a _ T _ q (filled (pop_frame S f) (popped_bounded S h f) b (slot S s) (slot_small S h s)) (one (top_frame (frames S)) (top_below S h))
accepted_keeps (allocate s r k) S a T x h e q =
    let t = passed S (allocate s r k) e in
    let i = entry_below S r t.1.1.1.0 in
    let m = kind_most S k (neither (eqb k 0) (ltb (kind_count (kinds S)) k) t.1.1.1.1.0).1 in
    both_of a _ T _ q (allocated_bounded S s (entry_of (regions S) r) k _ h i m (newest_or_free S (entry_of (regions S) r) (size S k) t.1.1.1.1.1.0)) zeros
accepted_keeps (first s r) S a T x h e q = both_of a _ T _ q (filled S h s _ (oldest_below (regions S) h.in_regions _)) zeros
accepted_keeps (copy s t) S a T x h e q = both_of a _ T _ q (filled S h t _ (slot_small S h s)) zeros
accepted_keeps (fetch b s) S a T x h e q = both_of a _ T _ q (filled S h s _ (slot_below (frames S) h.in_frames _ b)) zeros
accepted_keeps (clear s) S a T x h e q = both_of a _ T _ q (filled S h s 0 (omega arith)) zeros
accepted_keeps (load s w t) S a T x h e q = both_of a _ T _ q (filled S h t _ (word_below S h (slot S s) w)) zeros
accepted_keeps (set_pointer s w v f) S a T x h e q = both_of a _ T _ q (pointed_bounded S h (slot S s) w (slot S v) f (slot_small S h v)) zeros
accepted_keeps (put s w y) S a T x h e q = both_of a _ T _ q (written S h (slot S s) w y (x s w y refl)) zeros
accepted_keeps (get s w) S a T x h e q = both_of a _ T _ q h (one _ (word_below S h (slot S s) w))
accepted_keeps (view s) S a T x h e q = both_of a _ T _ q h zeros
accepted_keeps (same s t) S a T x h e q = both_of a _ T _ q h (one _ (bit_below (eqb (slot S s) (slot S t))))
accepted_keeps (about s) S a T x h e q = both_of a _ T _ q h (four_small _ _ 0 0 (name_below (regions S) h.in_regions _) (kind_below S h (slot S s)) (omega arith) (omega arith))
accepted_keeps (report r) S a T x h e q =
    let t = tag_of (regions S) r in
    both_of a _ T _ q h (four_small _ _ _ _ (total_below (regions S) _) (outside_below S _) (omega (arith, pages_below (pages S) t)) (omega (arith, subregions_below (regions S) t)))
accepted_keeps totals S a T x h e q =
    both_of a _ T _ q h (four_small _ _ _ _ (omega (arith, pages_below (pages S) 0)) (omega (arith, live_below (regions S))) h.in_frames.standing h.in_frames.counted)
accepted_keeps audit S a T x h e q = both_of a _ T _ q h (one _ (bit_below (sound S)))
accepted_keeps (delete r f) S a T x h e q = both_of a _ T _ q (deleted_bounded S h (r ∷ []) f) (one _ (omega (arith, pages_below (pages S) (tag_of (regions S) r))))
accepted_keeps (delete_all rs f) S a T x h e q =
    let t = passed S (delete_all rs f) e in
    let m = neither (eqb (length rs) 0 || ltb 16 (length rs)) (repeats rs) t.1.1.0 in
    let n = neither (eqb (length rs) 0) (ltb 16 (length rs)) m.0 in
    let most = sum_most (λ r. pages_of (pages S) (tag_of (regions S) r)) 256 rs (all_each _ (λ r. pages_below (pages S) (tag_of (regions S) r)) rs) in
    both_of a _ T _ q (deleted_bounded S h rs f) (one _ (omega (arith, most, ltb-false 16 (length rs) n.1)))
accepted_keeps (ask y) S a T x h e q = both_of a _ T _ q h (query_below S h y)

keeps_bounds : (c : Call) (S : Store) (a : Answer) (T : Store) → Sent c → Bounded S → Outcome c S a T → Bounded T × Bits32 a.values
unfolding Outcome
keeps_bounds c S a T x h o = go (refusal S c) refl o
  where
    go : (n : ℕ) → refusal S c ≡ n → Answered n c S a T → Bounded T × Bits32 a.values
    go zero e k = accepted_keeps c S a T x h e k
    go (suc n) e k = both_of a _ T _ k h zeros

pub keeps_shape : KeepsShape
unfolding KeepsShape
keeps_shape c S a T x h o =
    let k = keeps_bounds c S a T x h.bounded o in
    (record { sized = keeps_size c S a T h.sized o; bounded = k.0 }, k.1)
