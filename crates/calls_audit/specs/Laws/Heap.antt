-- The tests of pages, newest pages, oldest objects, slots and pointer words are Sound's clauses, where names are distinct and pages are owned by regions that live;
-- that of words where the regions also form a tree.
-- Assumes nothing.
use Rattle.std.specs.Prelude.{◌≡◌, ◌≢◌, Bool, not, ◌&&◌, ◌||◌, length, replicate}
use Rattle.std.proofs.Math.Path.{refl, ap}
use Rattle.std.proofs.Common.{sym, ◌∙◌, add-one}
use Rattle.std.proofs.Math.Bool.{true, false}
use mathlib.Core.List.{List, []}
use Prim.Native.Nat.{ℕ, zero, suc, ◌+◌, ◌-◌, ◌*◌, ◌/◌, ◌<◌}
use native.Mathlib.Omega.{arith}
use Rattle.std.proofs.Math.Dec.{eqb, ltb, eqb-suc-zero}
use Rattle.std.proofs.Math.ListN.{get_or}
use borrow.Author.Tests.{eqb-true, eqb-false, ne_eqb, not-true}
use Rattle.lists.specs.Lists.{every, sum_of, All, up_to}
use Rattle.lists.specs.Ticks.{ticked, tick_at}
use Rattle.lists.specs.Laws.Tests.{both, by_test, or_other, or_right}
use Rattle.lists.specs.Laws.All.{all_map}
use Rattle.lists.specs.Laws.Finds.{every_same}
use Rattle.lists.specs.Laws.UpTo.{all_up_to, every_each, each_every}
use Rattle.lists.specs.Laws.Kept.{joined_same, all_joined}
use Rattle.lists.specs.Laws.Every.{every_map, every_joined, every_below}
use Rattle.model.specs.Model.{rule}
use Rattle.frames.specs.Frames.{frame_count, width_at, slot_at}
use Rattle.kinds.specs.Kinds.{size_in, size_of, mark_at}
use Rattle.regions.specs.Regions.{name_at, name_of, newest_at, oldest_at, above_in, allows_in}
use Rattle.regions.specs.Laws.Entries.{name_none}
use Rattle.pages.specs.Pages.{page_count, owner_at, owner_of, taken_at}
use Rattle.objects.specs.Objects.{headers_to, headers_on}
use Rattle.objects.specs.Laws.Walk.{walk_sizes}
use Rattle.outcomes.specs.Store.{Store, frames, kinds, regions, pages}
use Rattle.outcomes.specs.History.{Object, begin, listed_held, pointers_of, leads, home_of, above_of, slots_lead, words_lead, pages_held}
use Rattle.outcomes.specs.Sound.{Sound, filled, newest_own, oldest_own}
use Rattle.outcomes.proofs.Laws.Begin.{holder_of, headers_of, headers, object_at, holding, begin_objects, page_of_lem, leads_among, pages_held_lem, pages_filled, home_none}
use Rattle.outcomes.proofs.Laws.Tree.{Tree, above_same}
use Rattle.outcomes.proofs.Laws.Pointers.{Ordered, value_at, every_slot, every_pointer, home_name, home_tag}
use Rattle.audit_heap.specs.Heap.{headers_in, filled_to, page_fits, pages_fit, headers_held, all_headers}
use Rattle.audit_slots.specs.Leads.{newest_fits, oldest_fits, entries_own, known, frame_leads, frames_lead}
use Rattle.lists.specs.Laws.Ticks.{blank_ticked}
use Rattle.audit_words.specs.Words.{word_holds, object_holds, objects_hold, page_holds, pages_hold}

module _ (S : Store) where
  -- ---- the tests over lists, of those of S

  abbrev pub page_passes : ℕ → Bool
  page_passes = page_fits (kinds S).declared (kinds S).sizes S.heap (regions S).names (pages S).owners (pages S).taken

  abbrev pub pages_pass : Bool
  pages_pass = pages_fit (kinds S).declared (kinds S).sizes S.heap (regions S).names (pages S).made (pages S).owners (pages S).taken

  -- the headers ticked among zeros, and the test of a place there
  abbrev pub held_headers : List ℕ
  held_headers = all_headers (kinds S).declared (kinds S).sizes S.heap (pages S).made (pages S).owners (pages S).taken

  abbrev pub stands : ℕ → Bool
  stands = tick_at (ticked (replicate 16384 0) held_headers)

  abbrev pub newest_passes : ℕ → Bool
  newest_passes = newest_fits (regions S).newest (pages S).made (pages S).owners

  abbrev pub oldest_passes : ℕ → Bool
  oldest_passes = oldest_fits stands (regions S).oldest (pages S).owners

  abbrev pub entries_pass : Bool
  entries_pass = entries_own stands (regions S).names (regions S).newest (regions S).oldest (pages S).made (pages S).owners

  abbrev pub slots_pass : Bool
  slots_pass = frames_lead stands (frames S).standing (frames S).widths (frames S).slots

  abbrev pub word_passes : ℕ → ℕ → ℕ → Bool
  word_passes = word_holds stands (regions S).names (regions S).parents (regions S).levels (pages S).owners

  abbrev pub object_passes : ℕ → ℕ → Bool
  object_passes = object_holds stands (regions S).names (regions S).parents (regions S).levels (pages S).owners (kinds S).declared (kinds S).sizes (kinds S).marks S.heap

  abbrev pub page_words_pass : ℕ → Bool
  page_words_pass = page_holds stands (regions S).names (regions S).parents (regions S).levels (pages S).owners (kinds S).declared (kinds S).sizes (kinds S).marks S.heap (pages S).taken

  abbrev pub words_pass : Bool
  words_pass = pages_hold stands (regions S).names (regions S).parents (regions S).levels (pages S).owners (kinds S).declared (kinds S).sizes (kinds S).marks S.heap (pages S).made (pages S).taken

  -- ---- pages

  -- a free page has no holder
  free_none : (j : ℕ) → owner_at (pages S) j ≡ 0 → holder_of S j ≡ 0
  free_none j e = ap (name_of (regions S)) e ∙ name_none (regions S)

  headers_in_lem : (j : ℕ) → headers_on (kinds S) S.heap (pages S) j ≡ headers_in (kinds S).declared (kinds S).sizes S.heap j (taken_at (pages S) j)
  unfolding headers_on headers_to
  headers_in_lem j = walk_sizes (kinds S) [] S.heap 64 (64 * j) (64 * j + taken_at (pages S) j)

  fills : (names : length (regions S).names ≡ 64) (j : ℕ) → filled S (holding S names j) ≡ eqb (filled_to (kinds S).declared (kinds S).sizes S.heap j (taken_at (pages S) j)) (get_or (pages S).taken j 0)
  unfolding filled filled_to size_of
  fills names j = ap (λ l. eqb (sum_of (λ q. 1 + size_in (kinds S).declared (kinds S).sizes (get_or S.heap q 0)) l) (get_or (pages S).taken j 0)) (headers_in_lem j)

  module _ (names : length (regions S).names ≡ 64) where
    pub pages_pass_lem : Sound S → pages_pass ≡ true
    unfolding pages_fit page_fits page_count owner_at name_of taken_at
    pages_pass_lem h = each_every page_passes (page_count (pages S)) (λ j l. by_test (eqb (owner_at (pages S) j) 0) (λ e. rw e) (λ e.
        let held = or_other (eqb (owner_at (pages S) j) 0) _ (every_each _ (page_count (pages S)) (sym (pages_held_lem S names) ∙ h.held) j l) e in
        let full = or_other (eqb (holder_of S j) 0) _ (every_each _ (page_count (pages S)) (sym (pages_filled S names) ∙ h.filling) j l) (not-true (eqb (holder_of S j) 0) held) in
        rw (e, held) (sym (fills names j) ∙ full)))

    module _ (e : pages_pass ≡ true) where
      -- of a page that is not free
      page_parts : (j : ℕ) → j < page_count (pages S) → owner_at (pages S) j ≢ 0
          → (not (eqb (holder_of S j) 0) ≡ true) × (eqb (filled_to (kinds S).declared (kinds S).sizes S.heap j (taken_at (pages S) j)) (get_or (pages S).taken j 0) ≡ true)
      unfolding pages_fit page_fits page_count owner_at name_of taken_at
      page_parts j l n = both (not (eqb (holder_of S j) 0)) _ (or_other (eqb (owner_at (pages S) j) 0) _ (every_each page_passes (page_count (pages S)) e j l) (ne_eqb (owner_at (pages S) j) 0 n))

      pub owned : (j : ℕ) → j < page_count (pages S) → owner_at (pages S) j ≢ 0 → holder_of S j ≢ 0
      owned j l n = eqb-false (holder_of S j) 0 (not-true (eqb (holder_of S j) 0) (page_parts j l n).0)

      pub held : pages_held (begin S) ≡ true
      held = pages_held_lem S names ∙ each_every _ (page_count (pages S)) (λ j l. by_test (eqb (owner_at (pages S) j) 0) (λ z. rw z) (λ z. or_right (eqb (owner_at (pages S) j) 0) _ (page_parts j l (eqb-false (owner_at (pages S) j) 0 z)).0))

      pub filling : every (filled S) (listed_held S) ≡ true
      filling = pages_filled S names ∙ each_every _ (page_count (pages S)) (λ j l. by_test (eqb (holder_of S j) 0) (λ z. rw z) (λ z.
          or_right (eqb (holder_of S j) 0) _ (fills names j ∙ (page_parts j l (λ o. eqb-false (holder_of S j) 0 z (free_none j o))).1)))

  pub newest_same : (i : ℕ) → newest_own S i ≡ newest_passes i
  unfolding newest_own newest_fits newest_at page_count owner_at
  newest_same i = go (newest_at (regions S) i)
    where
      go : (n : ℕ) → elim n [ zero ↦ true | suc j ↦ ltb j (page_count (pages S)) && eqb (owner_at (pages S) j) (i + 1) ]
          ≡ (eqb n 0 || (ltb (n - 1) (page_count (pages S)) && eqb (owner_at (pages S) (n - 1)) (i + 1)))
      go zero = refl
      go (suc j) = let e : suc j - 1 ≡ j = omega arith in rw (eqb-suc-zero j, e)

  -- ---- pointers

  -- every header is that of a word of the heap
  headers_below : All (λ q. q < 16384) (headers S)
  unfolding page_count
  headers_below = all_joined (λ q. q < 16384) (headers_of S) (up_to (page_count (pages S)))
      (all_up_to (λ j. All (λ q. q < 16384) (headers_of S j)) (page_count (pages S)) (λ j l. all_map (λ q e. omega arith) (headers_of S j) (page_of_lem S j)))

  module _ (h : Ordered S) where
    -- the headers ticked are those met
    held_same : (j : ℕ) → j < page_count (pages S) → headers_held (kinds S).declared (kinds S).sizes S.heap (pages S).owners (pages S).taken j ≡ headers_of S j
    unfolding headers_held owner_at taken_at
    held_same j l = by_test (eqb (owner_at (pages S) j) 0)
        (λ e. rw (e, free_none j (eqb-true (owner_at (pages S) j) 0 e)))
        (λ e. rw (e, ne_eqb (holder_of S j) 0 (h.owned j l (eqb-false (owner_at (pages S) j) 0 e))) (sym (headers_in_lem j)))

    headers_same : held_headers ≡ headers S
    unfolding all_headers page_count
    headers_same = joined_same _ (headers_of S) (up_to (page_count (pages S))) (all_up_to _ (page_count (pages S)) held_same)

    stands_same : (q : ℕ) → leads (begin S) (suc q) ≡ stands q
    stands_same q =
        leads_among S q
        ∙ sym (blank_ticked 16384 (headers S) q headers_below)
        ∙ ap (λ qs. tick_at (ticked (replicate 16384 0) qs) q) (sym headers_same)

    -- the same after a test that the pointer is not null, with more tests on it
    pointer_same : (v : ℕ) (a b : Bool) → (leads (begin S) v ≡ true → a ≡ b) → (eqb v 0 || (leads (begin S) v && a)) ≡ (eqb v 0 || (stands (v - 1) && b))
    pointer_same zero a b k = refl
    pointer_same (suc q) a b k =
        let e : suc q - 1 ≡ q = omega arith in
        rw (e, eqb-suc-zero q, ← stands_same q) (go (leads (begin S) (suc q)) k)
      where
        go : (t : Bool) → (t ≡ true → a ≡ b) → (t && a) ≡ (t && b)
        go true k = k refl
        go false k = refl

    pub known_same : (v : ℕ) → (eqb v 0 || leads (begin S) v) ≡ known stands v
    unfolding known
    known_same zero = refl
    known_same (suc q) = let e : suc q - 1 ≡ q = omega arith in rw (e, eqb-suc-zero q) (stands_same q)

    led : (v : ℕ) → leads (begin S) v ≡ true → (eqb v 0 || leads (begin S) v) ≡ true
    led v e = or_right (eqb v 0) (leads (begin S) v) e

    pub oldest_same : (i : ℕ) → name_at (regions S) i ≢ 0 → oldest_own S i ≡ oldest_passes i
    unfolding oldest_own oldest_fits oldest_at owner_of
    oldest_same i n =
        let v = oldest_at (regions S) i in
        ap (λ b. eqb v 0 || b) (go v (leads (begin S) v) refl)
        ∙ pointer_same v (eqb (home_of (begin S) v) (name_at (regions S) i)) (eqb (owner_of (pages S) v) (i + 1)) (λ e. home_tag S h v i (led v e) n ∙ ap (eqb (owner_of (pages S) v)) (sym (add-one i)))
      where
        go : (v : ℕ) (b : Bool) → leads (begin S) v ≡ b → eqb (home_of (begin S) v) (name_at (regions S) i) ≡ (b && eqb (home_of (begin S) v) (name_at (regions S) i))
        go v true e = refl
        go v false e = rw (home_none S v e) (ne_eqb 0 (name_at (regions S) i) (λ z. n (sym z)))

    pub slots_same : slots_lead (begin S) S ≡ slots_pass
    unfolding slots_lead frames_lead frame_leads frame_count width_at slot_at
    slots_same =
        every_slot S (λ v. eqb v 0 || leads (begin S) v)
        ∙ every_below _ _ (frame_count (frames S)) (λ i l. every_below _ _ (width_at (frames S) i) (λ s m. known_same (slot_at (frames S) i s)))

    -- ---- words

    -- a pointer word's test, in an object of the region named own, below those named us
    abbrev fine : ℕ → List ℕ → ℕ → ℕ → Bool
    fine own us m x = eqb x 0 || (leads (begin S) x && rule m (home_of (begin S) x) own us)

    -- the regions above the one with tag t
    abbrev above_tag : ℕ → List ℕ
    above_tag = above_in (regions S).names (regions S).parents (regions S).levels

    word_same : (t m x : ℕ) → (eqb m 0 || fine (name_of (regions S) t) (above_tag t) m x) ≡ word_passes t m x
    unfolding word_holds allows_in name_of owner_of
    word_same t m x =
        let own = name_of (regions S) t in
        let us = above_tag t in
        ap (λ b. eqb m 0 || b)
        (pointer_same x (rule m (home_of (begin S) x) own us) (rule m (name_of (regions S) (owner_of (pages S) x)) own us) (λ e. ap (λ r. rule m r own us) (home_name S h x (led x e))))

    abbrev test : Object → Bool
    test o = every (λ w. fine o.home (above_of (begin S) o.home) w.mark w.value) (pointers_of (begin S) S o)

    object_same : (q : ℕ) → let t = owner_at (pages S) (q / 64) in above_of (begin S) (name_of (regions S) t) ≡ above_tag t → test (object_at S q) ≡ object_passes t q
    unfolding object_holds size_of mark_at
    object_same q e =
        let t = owner_at (pages S) (q / 64) in
        let k = get_or S.heap q 0 in
        ap (λ us. every (λ w. fine (name_of (regions S) t) us w.mark w.value) (pointers_of (begin S) S (object_at S q))) e
        ∙ every_pointer S (object_at S q) (fine (name_of (regions S) t) (above_tag t))
        ∙ every_below _ _ (size_of (kinds S) k) (λ w l. word_same t (mark_at (kinds S) k w) (value_at S q w))

    module _ (tree : Tree S) where
      page_same : (j : ℕ) → j < page_count (pages S) → every (λ q. test (object_at S q)) (headers_of S j) ≡ page_words_pass j
      unfolding page_holds objects_hold headers_on owner_at taken_at
      page_same j l = by_test (eqb (owner_at (pages S) j) 0)
          (λ e. rw (e, free_none j (eqb-true (owner_at (pages S) j) 0 e)))
          (λ e.
          let t = owner_at (pages S) j in
          let n = h.owned j l (eqb-false t 0 e) in
          let z = ne_eqb (holder_of S j) 0 n in
          let hs = headers_on (kinds S) S.heap (pages S) j in
          rw (e, z)
          (every_same (λ q. test (object_at S q)) (object_passes t) hs (all_map (λ q i. rw (← i) (object_same q (rw i (above_same S h.names h.few tree t n)))) hs (rw z at (page_of_lem S j)))))

      pub words_same : words_lead (begin S) S ≡ words_pass
      unfolding words_lead pages_hold page_count
      words_same =
          ap (every test) (begin_objects S)
          ∙ every_map test (object_at S) (headers S)
          ∙ every_joined (λ q. test (object_at S q)) (headers_of S) (up_to (page_count (pages S)))
          ∙ every_below (λ j. every (λ q. test (object_at S q)) (headers_of S j)) page_words_pass (page_count (pages S)) page_same
