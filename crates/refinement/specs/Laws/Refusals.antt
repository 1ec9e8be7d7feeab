-- A store that represents a valid model refuses a call just where the model does, by the same number.
-- Assumes nothing.
use Rattle.std.specs.Prelude.{◌≡◌, Bool, true, false, ◌&&◌, List, length, drop}
use Rattle.std.proofs.Math.Path.{refl, sym, ap}
use Rattle.std.proofs.Common.{ap₂, ◌∙◌}
use Rattle.std.proofs.Math.Bool.{not, ◌||◌}
use Prim.Native.Nat.{ℕ, zero, suc, ◌+◌, ◌-◌, ◌≤◌}
use native.Mathlib.Omega.{arith}
use Rattle.std.proofs.Math.Dec.{eqb, ltb, leb}
use borrow.Author.Tests.{eqb-false, ne_eqb, leb-true, leb-false, ltb-false, le-leb, lt-leb, not-false}
use Rattle.lists.specs.Lists.{pick, any_of, every, up_to, repeats}
use Rattle.lists.specs.Laws.Tests.{by_test, neither, eqb_sym}
use Rattle.lists.specs.Laws.All.{all_map}
use Rattle.lists.specs.Laws.Finds.{every_same}
use Rattle.lists.specs.Laws.Kept.{repeats_once}
use Rattle.lists.specs.Laws.UpTo.{all_up_to, every_places}
use Rattle.model.specs.Model.{Model, Call, declare, new_region, subregion, push, drop_frame, hand_back, allocate, first, copy, fetch, clear, load, set_pointer, put, get, view, same, about, report, totals, audit, delete, delete_all, Query, locate, ask}
use Rattle.model.specs.Model.{region, lives_in, home_in, parent_in, held_by, top, beneath, slot, in_slot, slot_marks, mark_at, above, allowed, in_frames, stored, outside, subregions, closed, outside_but}
use Rattle.model.specs.Calls.{wrong_names, checks, query_checks, refusal, lacks, no_frame, one_frame, null, no_word, no_filler, dead, size, fits}
use Rattle.model.specs.Valid.{Valid}
use Rattle.model.proofs.Laws.Passed.{step, names_agree}
use Rattle.model.proofs.Laws.Slots.{slot_lives}
use Rattle.model.proofs.Laws.Counts.{outside_stored}
use Rattle.kinds.specs.Kinds.{size_of, mark_at as kind_mark, wrong_marks, all_data as only_data}
use Rattle.regions.specs.Regions.{count_at, name_of, entry_of, tag_of, newest_at, above_in, allows_in}
use Rattle.pages.specs.Pages.{taken_at, owner_of}
use Rattle.outcomes.specs.Store.{Store, regions, pages, slot as store_slot, led_into, breaks, roomy, size as store_size, breaks_in, roomy_in}
use Rattle.outcomes.specs.Outcome.{checks as store_checks, query_checks as store_query_checks, refusal as store_refusal, bad_length, no_frame as store_no_frame, one_frame as store_one_frame, lacks as store_lacks, lacks_beneath, dead as store_dead, full, names_out, no_word as store_no_word, is_data, all_data}
use Rattle.refinement.specs.Represents.{Represents, RoomAgrees, spot}
use Rattle.refinement.specs.Laws.Tags.{live_is, live_count_lem, above_is, subregions_are}
use Rattle.refinement.specs.Laws.Together.{closed_is, look_is, either_not, pointed_is}
use Rattle.refinement.specs.Laws.Reads.{top_width_lem, beneath_width, kind_count_lem, right_length, top_known, slot_is, spot_zero, kind_is, size_is, mark_is, owner_name, free_are}

-- the last tests agree
end : (a b : Bool) (n : ℕ) → a ≡ b → pick a n 0 ≡ pick b n 0
end a b n e = step a b n 0 0 e (λ _. refl)

module _ {L : Model} {sp : List ℕ} {ids : ℕ → List ℕ} {S : Store} (v : Valid L) (h : Represents L sp ids S) where
  -- ---- each test

  right : bad_length S ≡ false
  unfolding bad_length
  right = right_length h.on_pages

  no_frame_lem : store_no_frame S ≡ no_frame L
  unfolding store_no_frame
  no_frame_lem = ap (λ n. eqb n 0) h.on_frames.standing

  one_frame_lem : store_one_frame S ≡ one_frame L
  unfolding store_one_frame
  one_frame_lem = ap (λ n. ltb n 2) h.on_frames.standing

  lacks_is : no_frame L ≡ false → (s : ℕ) → store_lacks S s ≡ lacks (top L) s
  unfolding store_lacks
  lacks_is e s = ap (λ n. leb n s) (top_width_lem h.on_frames (eqb-false (length L.frames) 0 e))

  lacks_beneath_lem : one_frame L ≡ false → (s : ℕ) → lacks_beneath S s ≡ lacks (beneath L) s
  unfolding lacks_beneath
  lacks_beneath_lem e s = ap (λ n. leb n s) (beneath_width h.on_frames (ltb-false (length L.frames) 2 e))

  two_frames : one_frame L ≡ false → no_frame L ≡ false
  two_frames e = ne_eqb (length L.frames) 0 (λ z. omega (arith, ltb-false (length L.frames) 2 e))

  dead_is : (r : ℕ) → store_dead S r ≡ dead L r
  unfolding store_dead
  dead_is r = ap not (live_is h.on_regions r)

  full_is : full S ≡ leb 64 (length L.regions)
  unfolding full
  full_is = ap (leb 64) (live_count_lem h.on_regions)

  names_out_lem : names_out S ≡ leb 1000000 L.given
  unfolding names_out
  names_out_lem = ap (leb 1000000) h.on_regions.given

  module _ (s : ℕ) (k : lacks (top L) s ≡ false) where
    null_is : eqb (store_slot S s) 0 ≡ null L s
    null_is = rw (slot_is h s k) (spot_zero h.on_objects (slot L s) (top_known v s))

    word_none : (w : ℕ) → store_no_word S s w ≡ no_word L s w
    unfolding store_no_word
    word_none w = rw (slot_is h s k) (ap (λ n. leb n w) (size_is h.on_objects h.on_kinds v (slot L s) (top_known v s)))

    data_is : (w : ℕ) → no_word L s w ≡ false → is_data S s w ≡ eqb (mark_at L s w) 0
    unfolding is_data
    data_is w n = rw (slot_is h s k) (ap (λ m. eqb m 0) (mark_is h.on_objects h.on_kinds v (slot L s) w (top_known v s) (leb-false (length (in_slot L s).words) w n)))

    all_data_lem : all_data S s ≡ every (eqb 0) (slot_marks L s)
    unfolding all_data only_data size_of kind_mark
    all_data_lem =
        rw (slot_is h s k, kind_is h.on_objects (slot L s) (top_known v s), h.on_kinds.sizes (in_slot L s).kind)
        (every_same _ _ (up_to (length (slot_marks L s))) (all_up_to _ (length (slot_marks L s)) (λ w b. rw (h.on_kinds.marks_agree (in_slot L s).kind w b) (eqb_sym (mark_at L s w) 0)))
        ∙ every_places (eqb 0) (slot_marks L s) 0)

  -- the regions above that of a live object
  above_of : (q : ℕ) → lives_in L (home_in L q) ≡ true → let g = regions S in above_in g.names g.parents g.levels (owner_of (pages S) (spot sp q)) ≡ above (parent_in L) (home_in L q)
  above_of q l = let g = regions S in ap (above_in g.names g.parents g.levels) (h.on_objects.owned q l) ∙ above_is h.on_regions v (home_in L q) l

  breaks_is : (s w t : ℕ) → lacks (top L) s ≡ false → lacks (top L) t ≡ false → null L s ≡ false → no_word L s w ≡ false
      → breaks S (store_slot S s) w (store_slot S t) ≡ not (allowed (parent_in L) (home_in L) (in_slot L s).home (mark_at L s w) (slot L t))
  unfolding breaks allowed breaks_in allows_in name_of
  breaks_is s w t k m n o = rw (
    slot_is h s k,
    slot_is h t m,
    spot_zero h.on_objects (slot L t) (top_known v t),
    mark_is h.on_objects h.on_kinds v (slot L s) w (top_known v s) (leb-false (length (in_slot L s).words) w o),
    owner_name h.on_objects h.on_regions (slot L t) (top_known v t),
    owner_name h.on_objects h.on_regions (slot L s) (top_known v s),
    above_of (slot L s) (slot_lives L v s n),
  )

  pub size_same : (k : ℕ) → store_size S k ≡ size L k
  unfolding store_size
  size_same k = omega (arith, h.on_kinds.sizes k)

  pub roomy_is : (r n : ℕ) → lives_in L r ≡ true → 1 ≤ n → roomy S (entry_of (regions S) r) n ≡ fits (region L.regions r) n
  unfolding roomy taken_at roomy_in
  roomy_is r n l k = go (newest_at (regions S) (entry_of (regions S) r)) (h.on_pages.room r l)
    where
      go : (j : ℕ) → RoomAgrees (region L.regions r) (pages S) (tag_of (regions S) r) j
          → not (eqb j 0 || leb 65 (taken_at (pages S) (j - 1) + n)) ≡ leb n (region L.regions r).room
      go zero a = sym (lt-leb n (region L.regions r).room (omega arith))
      go (suc j) a =
          let e : suc j - 1 ≡ j = omega arith in
          by_test (leb n (region L.regions r).room)
          (λ b. rw (b, ne_eqb (suc j) 0 (λ z. omega arith), e, lt-leb 65 (taken_at (pages S) j + n) (omega (arith, a.left, leb-true n (region L.regions r).room b))))
          (λ b. rw (b, ne_eqb (suc j) 0 (λ z. omega arith), e, le-leb 65 (taken_at (pages S) j + n) (omega (arith, a.left, leb-false n (region L.regions r).room b))))

  led_is : (r : ℕ) → lives_in L r ≡ true → (not (eqb (count_at (regions S) (entry_of (regions S) r)) 0) || led_into S (tag_of (regions S) r)) ≡ not (eqb (outside L r) 0)
  led_is r l = rw (look_is v h r l, h.counts r l, outside_stored L r) (either_not (stored L r) (in_frames (home_in L) r (drop L.counted L.frames)))

  -- ---- tests that calls share

  module _ {x y : ℕ} where
    slot_6_9 : (s : ℕ) → (lacks (top L) s ≡ false → x ≡ y) → pick (store_no_frame S) 6 (pick (store_lacks S s) 9 x) ≡ pick (no_frame L) 6 (pick (lacks (top L) s) 9 y)
    slot_6_9 s e = step _ (no_frame L) 6 _ _ no_frame_lem (λ n. step _ (lacks (top L) s) 9 x y (lacks_is n s) e)

    slots_6_9 : (s t : ℕ) → (lacks (top L) s ≡ false → lacks (top L) t ≡ false → x ≡ y)
        → pick (store_no_frame S) 6 (pick (store_lacks S s || store_lacks S t) 9 x) ≡ pick (no_frame L) 6 (pick (lacks (top L) s || lacks (top L) t) 9 y)
    slots_6_9 s t e = step _ (no_frame L) 6 _ _ no_frame_lem (λ n. step _ (lacks (top L) s || lacks (top L) t) 9 x y (ap₂ ◌||◌ (lacks_is n s) (lacks_is n t))
        (λ k. let q = neither (lacks (top L) s) (lacks (top L) t) k in e q.0 q.1))

    word_14_15 : (s w : ℕ) → lacks (top L) s ≡ false → (null L s ≡ false → no_word L s w ≡ false → x ≡ y)
        → pick (eqb (store_slot S s) 0) 14 (pick (store_no_word S s w) 15 x) ≡ pick (null L s) 14 (pick (no_word L s w) 15 y)
    word_14_15 s w k e = step _ (null L s) 14 _ _ (null_is s k) (λ n. step _ (no_word L s w) 15 x y (word_none s k w) (e n))

  -- 23, of the same number
  by_filler : (f : ℕ) {x y : ℕ} → x ≡ y → pick (no_filler f) 23 x ≡ pick (no_filler f) 23 y
  by_filler f = ap (λ n. pick (no_filler f) 23 n)

  regions_4_5 : pick {A = ℕ} (full S) 4 (pick (names_out S) 5 0) ≡ pick (leb 64 (length L.regions)) 4 (pick (leb 1000000 L.given) 5 0)
  regions_4_5 = step _ (leb 64 (length L.regions)) 4 _ _ full_is (λ n. end _ (leb 1000000 L.given) 5 names_out_lem)

  -- put has the tests of get
  get_agrees : (s w : ℕ) → store_refusal S (get s w) ≡ refusal L (get s w)
  unfolding store_refusal store_checks refusal checks
  get_agrees s w = rw right (slot_6_9 s (λ k. word_14_15 s w k (λ n o. end _ (not (eqb (mark_at L s w) 0)) 16 (ap not (data_is s k w o)))))

  -- calls that only ask
  query_agrees : (q : Query) → store_refusal S (ask q) ≡ refusal L (ask q)
  unfolding store_refusal store_checks store_query_checks refusal checks query_checks
  query_agrees (locate s) = rw right (slot_6_9 s (λ k. refl))

  -- small counts: a joint delete tests a count that some words have left
  module _ (small : (q : ℕ) → outside L q ≤ 16640) where
    pub refusals_agree : (c : Call) → store_refusal S c ≡ refusal L c
    unfolding store_refusal store_checks refusal checks wrong_marks wrong_names
    refusals_agree (declare ms) = rw right (ap (λ n. pick (eqb (length ms) 0 || ltb 16 (length ms) || any_of (ltb 4) ms) 11 n) (end _ (leb 16 (length L.kinds)) 10 (ap (leb 16) h.on_kinds.declared)))
    refusals_agree new_region = rw right regions_4_5
    refusals_agree (subregion r) = rw right (step _ (dead L r) 2 _ _ (dead_is r)
        (λ l. step _ (leb 16 (region L.regions r).level) 20 _ _ (ap (leb 16) (h.on_regions.entry r (not-false (lives_in L r) l)).level) (λ n. regions_4_5)))
    refusals_agree (push n) = rw right (ap (λ m. pick (eqb n 0 || ltb 8 n) 8 m) (end _ (leb 32 (length L.frames)) 7 (ap (leb 32) h.on_frames.standing)))
    refusals_agree (drop_frame f) = rw right (by_filler f (end _ (no_frame L) 6 no_frame_lem))
    refusals_agree (hand_back s b f) = rw right (by_filler f (step _ (one_frame L) 6 _ _ one_frame_lem
        (λ n. end _ (lacks (top L) s || lacks (beneath L) b) 9 (ap₂ ◌||◌ (lacks_is (two_frames n) s) (lacks_beneath_lem n b)))))
    refusals_agree (allocate s r k) = rw right (slot_6_9 s (λ m. step _ (dead L r) 2 _ _ (dead_is r) (λ l.
        step _ (eqb k 0 || ltb (length L.kinds) k) 12 _ _ (ap (λ n. eqb k 0 || ltb n k) (kind_count_lem h.on_kinds v.kinds.many)) (λ n.
        end _ (not (fits (region L.regions r) (size L k)) && eqb (held_by L 0) 0) 13
        (ap₂ (λ a b. not a && eqb b 0) (ap (roomy S (entry_of (regions S) r)) (size_same k) ∙ roomy_is r (size L k) (not-false (lives_in L r) l) (omega arith)) (free_are h.on_regions h.on_pages))))))
    refusals_agree (first s r) = rw right (slot_6_9 s (λ k. end _ (dead L r) 2 (dead_is r)))
    refusals_agree (copy s t) = rw right (slots_6_9 s t (λ k m. refl))
    refusals_agree (fetch b s) = rw right (step _ (one_frame L) 6 _ _ one_frame_lem
        (λ n. end _ (lacks (beneath L) b || lacks (top L) s) 9 (ap₂ ◌||◌ (lacks_beneath_lem n b) (lacks_is (two_frames n) s))))
    refusals_agree (clear s) = rw right (slot_6_9 s (λ k. refl))
    refusals_agree (load s w t) = rw right (slots_6_9 s t (λ k m. word_14_15 s w k (λ n o. end _ (eqb (mark_at L s w) 0) 16 (data_is s k w o))))
    refusals_agree (set_pointer s w t f) = rw right (by_filler f (slots_6_9 s t (λ k m. word_14_15 s w k (λ n o. step _ (eqb (mark_at L s w) 0) 16 _ _ (data_is s k w o) (λ d.
        end _ (not (allowed (parent_in L) (home_in L) (in_slot L s).home (mark_at L s w) (slot L t))) 17 (breaks_is s w t k m n o))))))
    refusals_agree (put s w x) = get_agrees s w
    refusals_agree (get s w) = get_agrees s w
    refusals_agree (view s) = rw right (slot_6_9 s (λ k. step _ (null L s) 14 _ _ (null_is s k) (λ n. end _ (not (every (eqb 0) (slot_marks L s))) 16 (ap not (all_data_lem s k)))))
    refusals_agree (same s t) = rw right (slots_6_9 s t (λ k m. refl))
    refusals_agree (about s) = rw right (slot_6_9 s (λ k. refl))
    refusals_agree (report r) = rw right (end _ (dead L r) 2 (dead_is r))
    refusals_agree totals = refl
    refusals_agree audit = refl
    refusals_agree (delete r f) = rw right (by_filler f (step _ (dead L r) 2 _ _ (dead_is r) (λ l. ap (λ n. pick (eqb r 1) 3 n)
        (step _ (not (eqb (subregions L r) 0)) 18 _ _ (ap (λ n. not (eqb n 0)) (subregions_are h.on_regions v r (not-false (lives_in L r) l))) (λ n.
        end _ (not (eqb (outside L r) 0)) 19 (led_is r (not-false (lives_in L r) l)))))))
    refusals_agree (delete_all rs f) = rw right (by_filler f (step _ (wrong_names rs) 22 _ _ refl (λ w. names_agree (store_dead S) (dead L) dead_is rs _ _ (λ ns.
        let ls = all_map (λ r n. not-false (lives_in L r) n.0) rs ns in
        let once = repeats_once rs (neither (eqb (length rs) 0 || ltb 16 (length rs)) (repeats rs) w).1 in
        step _ (not (closed L.regions rs)) 18 _ _ (ap not (closed_is v h.on_regions rs ls)) (λ c.
        end _ (any_of (λ r. not (eqb (outside_but L rs r) 0)) rs) 19 (pointed_is v h small rs ls once))))))
    refusals_agree (ask q) = query_agrees q
