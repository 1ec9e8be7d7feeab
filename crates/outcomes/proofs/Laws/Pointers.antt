-- The pointers that a memory lists, slot by slot and word by word; and, where names are distinct and pages are owned by regions that live, a region's pointers by its tag.
-- Assumes nothing.
use Rattle.std.specs.Prelude.{◌≡◌, ◌≢◌, ◌&&◌, ◌||◌, ltb, length}
use Rattle.std.proofs.Math.Path.{refl, sym, ap}
use Rattle.std.proofs.Common.{◌∙◌}
use Rattle.std.proofs.Math.Bool.{Bool, true, false, not}
use mathlib.Core.List.{List, [], ◌∷◌, map}
use Prim.Native.Nat.{ℕ, zero, suc, ◌+◌, ◌-◌, ◌/◌, ◌<◌, min}
use native.Mathlib.Omega.{arith}
use Rattle.std.proofs.Math.Dec.{eqb, eqb-suc-zero}
use Rattle.std.proofs.Math.ListN.{get_or, get_or-eq_default}
use borrow.Author.Tests.{eqb-true, eqb-false, ne_eqb, ltb-true, ltb-false, lt-leb}
use Rattle.lists.specs.Lists.{bit, pick, every, keep, sum_of, count_of, All, joined, up_to, times}
use Rattle.lists.specs.Laws.Tests.{by_test, or_other, pick_same}
use Rattle.lists.specs.Laws.All.{all_map, all_both}
use Rattle.lists.specs.Laws.Sums.{sum_map, sum_keep, sum_same, sum_joined}
use Rattle.lists.specs.Laws.UpTo.{get_d_map_up_to, length_map_up_to, sum_below}
use Rattle.lists.specs.Laws.Every.{every_map, every_keep, every_below}
use Rattle.model.specs.Model.{marks}
use Rattle.frames.specs.Frames.{frame_count, width_at, slot_at, width_in, slot_in}
use Rattle.kinds.specs.Kinds.{kind_count, size_of, mark_at, size_in}
use Rattle.regions.specs.Regions.{name_at, name_of, name_in}
use Rattle.pages.specs.Pages.{page_count, owner_at, owner_in, owner_of}
use Rattle.objects.specs.Objects.{headers_on, free_words, free_words_on}
use Rattle.outcomes.specs.Store.{Store, frames, kinds, regions, pages, slot_targets, targets_in}
use Rattle.outcomes.specs.History.{Object, Word, begin, listed_kinds, listed_frames, slots_of, pointers_of, leads, home_of}
use Rattle.outcomes.specs.History as history
use Rattle.outcomes.proofs.Laws.Begin.{holder_of, headers_of, headers, object_at, begin_objects, page_of_lem, leads_null, home_is, home_none, name_same}

-- how many words marked 1 on page j lead into the region with tag t: none if the page is free or is that region's
unfoldable pub words_into : Store → ℕ → ℕ → ℕ
words_into S t j = pick (eqb (owner_at (pages S) j) 0 || eqb (owner_at (pages S) j) t) 0 (count_of (λ v. eqb (owner_of (pages S) v) t) (free_words_on (kinds S) S.heap (pages S) j))

-- how many slots of frame i do; and slot by slot
unfoldable pub slots_into : Store → ℕ → ℕ → ℕ
slots_into S t i = times t (slot_targets S i)

pub slots_sum : (S : Store) (t i : ℕ) → slots_into S t i ≡ count_of (λ s. eqb (owner_of (pages S) (slot_at (frames S) i s)) t) (up_to (width_at (frames S) i))
unfolding slots_into slot_targets targets_in owner_of slot_at width_at
slots_sum S t i = sum_map (λ o. bit (eqb o t)) (λ s. owner_in (pages S).owners (slot_in (frames S).slots i s)) (up_to (width_in (frames S).widths i))

module _ (S : Store) where
  -- ---- marks and slots

  -- the marks of kind n + 1, if it is listed; else there are none
  abbrev marks_at : ℕ → List ℕ
  marks_at n = map (mark_at (kinds S) (suc n)) (up_to (size_of (kinds S) (suc n)))

  kind_listed : (n : ℕ) → n < kind_count (kinds S) → marks (listed_kinds S) (suc n) ≡ marks_at n
  unfolding listed_kinds
  kind_listed n h = get_d_map_up_to marks_at [] (kind_count (kinds S)) n h

  pub kinds_length : length (listed_kinds S) ≡ kind_count (kinds S)
  unfolding listed_kinds
  kinds_length = length_map_up_to marks_at (kind_count (kinds S))

  -- for every n the marks listed are those that the state reads
  pub marks_length : (n : ℕ) → size_of (kinds S) n ≡ length (marks (listed_kinds S) n)
  unfolding size_of size_in kind_count
  marks_length zero = refl
  marks_length (suc n) = by_test (ltb n (kind_count (kinds S)))
      (λ e. rw (kind_listed n (ltb-true n _ e)) (sym (length_map_up_to (mark_at (kinds S) (suc n)) (size_of (kinds S) (suc n)))))
      (λ e. rw (get_or-eq_default (listed_kinds S) [] {n = n} (omega (arith, kinds_length, ltb-false n _ e)), lt-leb (suc n) (kind_count (kinds S)) (omega (arith, ltb-false n _ e))) (go (ltb 0 (suc n))))
    where
      go : (b : Bool) → pick (b && false) (min (get_or (kinds S).sizes (suc n - 1) 0) 16) 0 ≡ 0
      go true = refl
      go false = refl

  pub marks_at_lem : (n w : ℕ) → w < length (marks (listed_kinds S) n) → mark_at (kinds S) n w ≡ get_or (marks (listed_kinds S) n) w 0
  marks_at_lem zero w h = absurd (omega arith)
  marks_at_lem (suc n) w h = by_test (ltb n (kind_count (kinds S)))
      (λ e. rw (kind_listed n (ltb-true n _ e)) (sym (get_d_map_up_to (mark_at (kinds S) (suc n)) 0 (size_of (kinds S) (suc n)) w (omega (arith, marks_length (suc n))))))
      (λ e. absurd (omega (arith, ap length (get_or-eq_default (listed_kinds S) [] {n = n} (omega (arith, kinds_length, ltb-false n _ e))))))

  pub frames_length : length (listed_frames S) ≡ frame_count (frames S)
  unfolding listed_frames
  frames_length = length_map_up_to (width_at (frames S)) (frame_count (frames S))

  pub width_is : (i : ℕ) → i < frame_count (frames S) → get_or (listed_frames S) i 0 ≡ width_at (frames S) i
  unfolding listed_frames
  width_is i h = get_d_map_up_to (width_at (frames S)) 0 (frame_count (frames S)) i h

  pub every_slot : (f : ℕ → Bool) → every (λ i. every f (slots_of (begin S) S i)) (up_to (length (begin S).frames)) ≡ every (λ i. every (λ s. f (slot_at (frames S) i s)) (up_to (width_at (frames S) i))) (up_to (frame_count (frames S)))
  unfolding begin slots_of
  every_slot f = rw frames_length (every_below _ _ (frame_count (frames S)) (λ i h. rw (width_is i h) (every_map f (slot_at (frames S) i) (up_to (width_at (frames S) i)))))

  -- ---- the pointer words of an object

  abbrev pub value_at : ℕ → ℕ → ℕ
  value_at q w = get_or S.heap (q + 1 + w) 0

  module _ (o : Object) where
    abbrev word_marked : ℕ → Word
    word_marked w = record { mark = get_or (marks (listed_kinds S) o.kind) w 0; value = value_at o.place w }

    pub every_pointer : (f : ℕ → ℕ → Bool) → every (λ x. f x.mark x.value) (pointers_of (begin S) S o)
        ≡ every (λ w. eqb (mark_at (kinds S) o.kind w) 0 || f (mark_at (kinds S) o.kind w) (value_at o.place w)) (up_to (size_of (kinds S) o.kind))
    unfolding begin pointers_of
    every_pointer f =
        let ms = marks (listed_kinds S) o.kind in
        every_keep (λ x. f x.mark x.value) (λ x. eqb x.mark 0) (map word_marked (up_to (length ms)))
        ∙ every_map (λ x. eqb x.mark 0 || f x.mark x.value) word_marked (up_to (length ms))
        ∙ every_below _ (λ w. eqb (mark_at (kinds S) o.kind w) 0 || f (mark_at (kinds S) o.kind w) (value_at o.place w)) (length ms) (λ w h. rw (marks_at_lem o.kind w h))
        ∙ ap (λ n. every (λ w. eqb (mark_at (kinds S) o.kind w) 0 || f (mark_at (kinds S) o.kind w) (value_at o.place w)) (up_to n)) (sym (marks_length o.kind))

    -- those marked 1 that pass
    abbrev passing : (ℕ → Bool) → ℕ → ℕ
    passing f w = pick (eqb (mark_at (kinds S) o.kind w) 1) (bit (f (value_at o.place w))) 0

    count_pointers : (f : ℕ → Bool) → count_of (λ x. eqb x.mark 1 && f x.value) (pointers_of (begin S) S o) ≡ sum_of (passing f) (up_to (size_of (kinds S) o.kind))
    unfolding begin pointers_of
    count_pointers f =
        let ms = marks (listed_kinds S) o.kind in
        let g : Word → ℕ = λ x. bit (eqb x.mark 1 && f x.value) in
        sum_keep g (λ x. not (eqb x.mark 0)) (map word_marked (up_to (length ms)))
        ∙ sum_map (λ x. pick (not (eqb x.mark 0)) (g x) 0) word_marked (up_to (length ms))
        ∙ sum_below _ (passing f) (length ms) (λ w h. rw (marks_at_lem o.kind w h) (go (get_or ms w 0) (f (value_at o.place w))))
        ∙ ap (λ n. sum_of (passing f) (up_to n)) (sym (marks_length o.kind))
      where
        go : (m : ℕ) (b : Bool) → pick (not (eqb m 0)) (bit (eqb m 1 && b)) 0 ≡ pick (eqb m 1) (bit b) 0
        go m b = by_test (eqb m 1) (λ e. rw (e, ne_eqb m 0 (λ z. omega (arith, eqb-true m 1 e)))) (λ e. rw e (pick_same {A = ℕ} (not (eqb m 0)) 0))

  pub free_count : (q : ℕ) (f : ℕ → Bool) → count_of (λ x. eqb x.mark 1 && f x.value) (pointers_of (begin S) S (object_at S q)) ≡ count_of f (free_words (kinds S) S.heap q)
  unfolding free_words
  free_count q f =
      let k = get_or S.heap q 0 in
      count_pointers (object_at S q) f
      ∙ sym (sum_map (λ v. bit (f v)) (value_at q) (keep (λ w. eqb (mark_at (kinds S) k w) 1) (up_to (size_of (kinds S) k))) ∙ sum_keep (λ w. bit (f (value_at q w))) (λ w. eqb (mark_at (kinds S) k w) 1) (up_to (size_of (kinds S) k)))

-- names are distinct, and a page that is not free is owned by a region that lives
pub record Ordered (S : Store) : Type 0 where
  pub names : length (regions S).names ≡ 64
  pub few : (i : ℕ) → name_at (regions S) i ≢ 0 → count_of (λ k. eqb (name_at (regions S) k) (name_at (regions S) i)) (up_to 64) ≡ 1
  pub owned : (j : ℕ) → j < page_count (pages S) → owner_at (pages S) j ≢ 0 → holder_of S j ≢ 0

module _ (S : Store) (h : Ordered S) where
  -- null, or leading to an object
  abbrev pub Known : ℕ → Type 0
  Known v = (eqb v 0 || leads (begin S) v) ≡ true

  -- its region by name is the owner of its page
  pub home_name : (v : ℕ) → Known v → home_of (begin S) v ≡ name_of (regions S) (owner_of (pages S) v)
  unfolding owner_of owner_in name_of owner_at name_in
  home_name zero k = home_none S 0 (leads_null S)
  home_name (suc q) k =
      let e : suc q - 1 ≡ q = omega arith in
      home_is S q (or_other (eqb (suc q) 0) (leads (begin S) (suc q)) k (eqb-suc-zero q)) ∙ rw (eqb-suc-zero q, e)

  pub home_tag : (v i : ℕ) → Known v → name_at (regions S) i ≢ 0 → eqb (home_of (begin S) v) (name_at (regions S) i) ≡ eqb (owner_of (pages S) v) (suc i)
  home_tag v i k n = ap (λ r. eqb r (name_at (regions S) i)) (home_name v k) ∙ name_same S h.names h.few (owner_of (pages S) v) i n

  -- ---- the pointers into the region at entry i

  module _ (i : ℕ) (n : name_at (regions S) i ≢ 0) where
    pub slots_into_lem : (f : ℕ) → f < frame_count (frames S) → ((s : ℕ) → s < width_at (frames S) f → Known (slot_at (frames S) f s))
        → history.slots_leading_to (begin S) S (name_at (regions S) i) f ≡ slots_into S (suc i) f
    unfolding history.slots_leading_to slots_of begin
    slots_into_lem f l k =
        rw (width_is S f l, slots_sum S (suc i) f)
        (sum_map (λ v. bit (eqb (home_of (begin S) v) (name_at (regions S) i))) (slot_at (frames S) f) (up_to (width_at (frames S) f))
        ∙ sum_below _ _ (width_at (frames S) f) (λ s m. ap bit (home_tag (slot_at (frames S) f s) i (k s m) n)))

    -- what the objects of page j add
    on_page_lem : (j : ℕ) → j < page_count (pages S) → (owner_at (pages S) j ≢ 0 → All (λ q. All Known (free_words (kinds S) S.heap q)) (headers_on (kinds S) S.heap (pages S) j))
        → sum_of (λ q. history.words_leading_to (begin S) S (name_at (regions S) i) (object_at S q)) (headers_of S j) ≡ words_into S (suc i) j
    unfolding history.words_leading_to words_into free_words_on name_of name_in headers_on
    on_page_lem j l k = by_test (eqb (owner_at (pages S) j) 0)
        (λ z. rw (z, eqb-true (owner_at (pages S) j) 0 z))
        (λ z.
        let m = eqb-false (owner_at (pages S) j) 0 z in
        let hs = headers_on (kinds S) S.heap (pages S) j in
        let t : Bool = eqb (owner_at (pages S) j) (suc i) in
        let e = ne_eqb (holder_of S j) 0 (h.owned j l m) in
        rw (z, e)
        (sum_same _ (λ q. pick t 0 (count_of (λ v. eqb (owner_of (pages S) v) (suc i)) (free_words (kinds S) S.heap q))) hs (all_map (λ q a. one j q a.0 a.1) hs (all_both _ _ hs (rw e at (page_of_lem S j)) (k m)))
        ∙ all t hs))
      where
        one : (j q : ℕ) → q / 64 ≡ j → All Known (free_words (kinds S) S.heap q)
            → pick (eqb (holder_of S (q / 64)) (name_at (regions S) i)) 0 (count_of (λ x. eqb x.mark 1 && eqb (home_of (begin S) x.value) (name_at (regions S) i)) (pointers_of (begin S) S (object_at S q)))
            ≡ pick (eqb (owner_at (pages S) j) (suc i)) 0 (count_of (λ v. eqb (owner_of (pages S) v) (suc i)) (free_words (kinds S) S.heap q))
        one j q e a =
            rw (free_count S q (λ v. eqb (home_of (begin S) v) (name_at (regions S) i)), e, name_same S h.names h.few (owner_at (pages S) j) i n)
            (ap (pick (eqb (owner_at (pages S) j) (suc i)) 0) (sum_same _ _ (free_words (kinds S) S.heap q) (all_map (λ v b. ap bit (home_tag v i b n)) (free_words (kinds S) S.heap q) a)))

        all : (t : Bool) (hs : List ℕ) → sum_of (λ q. pick t 0 (count_of (λ v. eqb (owner_of (pages S) v) (suc i)) (free_words (kinds S) S.heap q))) hs
            ≡ pick t 0 (count_of (λ v. eqb (owner_of (pages S) v) (suc i)) (joined (free_words (kinds S) S.heap) hs))
        all true [] = refl
        all true (q ∷ qs) = omega (arith, all true qs)
        all false hs = sym (sum_joined (λ v. bit (eqb (owner_of (pages S) v) (suc i))) (free_words (kinds S) S.heap) hs)

    pub words_into_lem : ((j : ℕ) → j < page_count (pages S) → owner_at (pages S) j ≢ 0 → All (λ q. All Known (free_words (kinds S) S.heap q)) (headers_on (kinds S) S.heap (pages S) j))
        → sum_of (history.words_leading_to (begin S) S (name_at (regions S) i)) (begin S).objects ≡ sum_of (words_into S (suc i)) (up_to (page_count (pages S)))
    words_into_lem k =
        let f = history.words_leading_to (begin S) S (name_at (regions S) i) in
        ap (sum_of f) (begin_objects S)
        ∙ sum_map f (object_at S) (headers S)
        ∙ sum_joined (λ q. f (object_at S q)) (headers_of S) (up_to (page_count (pages S)))
        ∙ sum_below (λ j. sum_of (λ q. f (object_at S q)) (headers_of S j)) (words_into S (suc i)) (page_count (pages S)) (λ j l. on_page_lem j l (k j l))
