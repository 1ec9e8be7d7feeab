-- The test of the stored counts is Sound's clause, where names are distinct, pages are owned by regions that live, and all pointers lead to objects.
-- Assumes nothing.
use Rattle.std.specs.Prelude.{◌≡◌, ◌≢◌, ◌||◌, List, map, leb}
use Rattle.std.proofs.Math.Path.{ap}
use Rattle.std.proofs.Common.{◌∙◌}
use Rattle.std.proofs.Math.Bool.{Bool, true, false, not}
use Prim.Native.Nat.{ℕ, suc, ◌+◌, ◌-◌, ◌≤◌, ◌<◌, min}
use native.Mathlib.Omega.{arith}
use Rattle.std.proofs.Math.Dec.{eqb}
use Rattle.std.proofs.Math.ListN.{get_or}
use borrow.Author.Tests.{eqb-true, eqb-false, eq-eqb, ne_eqb, leb-true}
use Rattle.lists.specs.Lists.{bit, pick, keep, sum_of, count_of, All, joined, up_to, times}
use Rattle.lists.specs.Laws.Tests.{both, by_test, or_other, eqb_sym, or_known, pick_not}
use Rattle.lists.specs.Laws.All.{all_map, all_change}
use Rattle.lists.specs.Laws.Sums.{sum_map, sum_append, sum_joined, sum_most, count_most}
use Rattle.lists.specs.Laws.Finds.{every_true, times_keep}
use Rattle.lists.specs.Laws.UpTo.{all_up_to, length_up_to, every_each, sum_below}
use Rattle.lists.specs.Laws.Kept.{each_kept, sum_above}
use Rattle.lists.specs.Laws.Every.{every_map, every_below}
use Rattle.frames.specs.Frames.{frame_count, width_at, slot_at}
use Rattle.kinds.specs.Kinds.{size_of, mark_at}
use Rattle.regions.specs.Regions.{name_at, name_of, parent_at, count_in, count_at}
use Rattle.regions.specs.Laws.Counts.{Shares}
use Rattle.regions.specs.Laws.Steps.{leavings, leavings_zero}
use Rattle.pages.specs.Pages.{page_count, owner_at, taken_at, owner_in, owner_of}
use Rattle.objects.specs.Objects.{headers_on, free_words, free_words_on, out_of}
use Rattle.outcomes.specs.Store.{Store, frames, kinds, regions, pages, targets_in, slot_targets}
use Rattle.outcomes.specs.History.{begin, entries, listed_regions, counts_exact, outside, uncounted_into, stored_count}
use Rattle.outcomes.specs.History as history
use Rattle.outcomes.specs.Sound.{within}
use Rattle.outcomes.proofs.Laws.Values.{page_most}
use Rattle.outcomes.proofs.Laws.Begin.{every_entry, entry_is}
use Rattle.outcomes.proofs.Laws.Pointers.{Ordered, Known, words_into, value_at, frames_length, slots_sum, slots_into_lem, words_into_lem, slots_into}
use Rattle.audit_state.specs.Fits.{widths_fit}
use Rattle.audit_slots.specs.Leads.{known, frame_leads, frames_lead}
use Rattle.audit_words.specs.Words.{word_holds, object_holds, objects_hold, page_holds, pages_hold}
use Rattle.audit_counts.specs.Counts.{word_tags, counted_tags, is_zero, all_zero, counts_fit}
use Rattle.calls_audit.specs.Laws.Heap.{stands, slots_pass, word_passes, object_passes, page_words_pass, words_pass, known_same}

eqb_iff : (a b c d : ℕ) → (a ≡ b → c ≡ d) → (c ≡ d → a ≡ b) → eqb a b ≡ eqb c d
eqb_iff a b c d f g = by_test (eqb c d) (λ e. rw e (eq-eqb a b (g (eqb-true c d e)))) (λ e. rw e (ne_eqb a b (λ q. eqb-false c d e (f q))))

module _ (S : Store) where
  -- ---- the test over lists, of those of S; cs are the shares that pointers leave

  abbrev pub counts_pass : List ℕ → Bool
  counts_pass cs = counts_fit (regions S).names cs (kinds S) S.heap (pages S).made (pages S).owners (pages S).taken (frames S).counted (frames S).widths (frames S).slots

  -- ---- tags

  abbrev tags : List ℕ
  tags = counted_tags (kinds S) S.heap (pages S).made (pages S).owners (pages S).taken (frames S).counted (frames S).widths (frames S).slots

  abbrev tags_on : ℕ → List ℕ
  tags_on = word_tags (kinds S) S.heap (pages S).owners (pages S).taken

  word_tags_lem : (t j : ℕ) → times t (tags_on j) ≡ words_into S t j
  unfolding word_tags words_into owner_of out_of free_words_on headers_on taken_at owner_at
  word_tags_lem t j = by_test (eqb own 0) (λ e. rw e) (λ e.
      rw e (times_keep t (λ x. not (eqb x own)) (map (owner_in (pages S).owners) vs)
      ∙ rw (eqb_sym t own) (pick_not (eqb own t) _ ∙ ap (pick (eqb own t) 0) (sum_map (λ x. bit (eqb x t)) (owner_in (pages S).owners) vs))))
    where
      own : ℕ
      own = owner_at (pages S) j

      vs : List ℕ
      vs = free_words_on (kinds S) S.heap (pages S) j

  all_tags : (t : ℕ) → times t tags ≡ sum_of (words_into S t) (up_to (page_count (pages S))) + sum_of (slots_into S t) (up_to (frames S).counted)
  unfolding counted_tags page_count slots_into slot_targets
  all_tags t =
      let n : ℕ → ℕ = λ x. bit (eqb x t) in
      let fs = targets_in (frames S).widths (frames S).slots (pages S).owners in
      let a = sum_joined n tags_on (up_to (page_count (pages S))) ∙ sum_below (λ j. times t (tags_on j)) (words_into S t) (page_count (pages S)) (λ j l. word_tags_lem t j) in
      let b = sum_joined n fs (up_to (frames S).counted) in
      omega (arith, a, b, sum_append n (joined tags_on (up_to (page_count (pages S)))) (joined fs (up_to (frames S).counted)))

  words_few : (t j : ℕ) → words_into S t j ≤ 1024
  unfolding words_into
  words_few t j = go (eqb (owner_at (pages S) j) 0 || eqb (owner_at (pages S) j) t)
    where
      go : (b : Bool) → pick b 0 (count_of (λ v. eqb (owner_of (pages S) v) t) (free_words_on (kinds S) S.heap (pages S) j)) ≤ 1024
      go true = omega arith
      go false = omega (arith, count_most (λ v. eqb (owner_of (pages S) v) t) (free_words_on (kinds S) S.heap (pages S) j), page_most (kinds S) S.heap (pages S) j)

  -- ---- the lowest m frames

  module _ (standing : leb (frames S).standing 32 ≡ true) (below : leb (frames S).counted ((frames S).standing - 1) ≡ true) (widths : widths_fit (frames S).standing (frames S).widths ≡ true) where
    m_fits : ((frames S).counted ≤ frame_count (frames S)) × ((frames S).counted ≤ 32)
    unfolding frame_count
    m_fits = let a = leb-true (frames S).standing 32 standing in let b = leb-true (frames S).counted ((frames S).standing - 1) below in (omega arith, omega arith)

    slots_few : (t f : ℕ) → f < frame_count (frames S) → slots_into S t f ≤ 8
    unfolding widths_fit frame_count width_at
    slots_few t f l =
        let n = width_at (frames S) f in
        let w = both (leb 1 n) (leb n 8) (every_each (λ i. within 1 8 (width_at (frames S) i)) (frame_count (frames S)) widths f l) in
        omega (arith, slots_sum S t f, leb-true n 8 w.1, count_most (λ s. eqb (owner_of (pages S) (slot_at (frames S) f s)) t) (up_to n), length_up_to n)

    tags_below : (t : ℕ) → times t tags < 4294967296
    unfolding page_count
    tags_below t =
        let m = (frames S).counted in
        let n = page_count (pages S) in
        omega (
          arith,
          all_tags t,
          m_fits,
          length_up_to m,
          length_up_to n,
          sum_most (words_into S t) 1024 (up_to n) (all_up_to (λ j. words_into S t j ≤ 1024) n (λ j l. words_few t j)),
          sum_most (slots_into S t) 8 (up_to m) (all_up_to (λ f. slots_into S t f ≤ 8) m (λ f l. slots_few t f (omega (arith, m_fits)))),
        )

    -- ---- where all pointers lead to objects, and the shares cs come to the stored counts

    module _ (h : Ordered S) (cs : List ℕ) (fits : Shares cs) (kept : (i : ℕ) → i < 64 → count_in cs i ≡ count_at (regions S) i) (slots : slots_pass S ≡ true) (holds : words_pass S ≡ true) where
      slot_known : (f : ℕ) → f < frame_count (frames S) → (s : ℕ) → s < width_at (frames S) f → Known S h (slot_at (frames S) f s)
      unfolding frames_lead frame_leads frame_count width_at slot_at
      slot_known f l s m =
          known_same S h (slot_at (frames S) f s)
          ∙ every_each (λ s. known (stands S) (slot_at (frames S) f s)) (width_at (frames S) f) (every_each (frame_leads (stands S) (frames S).widths (frames S).slots) (frame_count (frames S)) slots f l) s m

      word_known : (own m x : ℕ) → m ≡ 1 → word_passes S own m x ≡ true → Known S h x
      unfolding word_holds known
      word_known own m x e t = known_same S h x ∙ or_known (eqb x 0) _ _ (or_other (eqb m 0) _ t (ne_eqb m 0 (λ z. omega arith)))

      object_known : (own q : ℕ) → object_passes S own q ≡ true → All (Known S h) (free_words (kinds S) S.heap q)
      unfolding object_holds free_words size_of mark_at
      object_known own q e =
          let k = get_or S.heap q 0 in
          let n = size_of (kinds S) k in
          let free : ℕ → Bool = λ w. eqb (mark_at (kinds S) k w) 1 in
          all_change (λ w. Known S h (value_at S q w)) (Known S h) (value_at S q) (λ w a. a) (keep free (up_to n))
          (each_kept (λ w. Known S h (value_at S q w)) free n (λ w l m. word_known own (mark_at (kinds S) k w) (value_at S q w) (eqb-true (mark_at (kinds S) k w) 1 m) (every_each _ n e w l)))

      page_known : (j : ℕ) → j < page_count (pages S) → owner_at (pages S) j ≢ 0 → All (λ q. All (Known S h) (free_words (kinds S) S.heap q)) (headers_on (kinds S) S.heap (pages S) j)
      unfolding pages_hold page_holds objects_hold headers_on page_count owner_at taken_at
      page_known j l n =
          let t = owner_at (pages S) j in
          let hs = headers_on (kinds S) S.heap (pages S) j in
          all_map (object_known t) hs
          (every_true (object_passes S t) hs
          (or_other (eqb t 0) _ (every_each (page_words_pass S) (page_count (pages S)) holds j l) (ne_eqb t 0 n)))

      count_same : (i : ℕ) → i < 64 → name_at (regions S) i ≢ 0
          → eqb (stored_count S (name_at (regions S) i) + uncounted_into (begin S) S (name_at (regions S) i)) (outside (begin S) S (name_at (regions S) i)) ≡ eqb (count_in (leavings 0 cs tags) i) 0
      unfolding stored_count uncounted_into outside begin
      count_same i l n =
          let m = (frames S).counted in
          let r = name_at (regions S) i in
          let f = history.slots_leading_to (begin S) S r in
          let e : min m (frame_count (frames S)) ≡ m = omega (arith, m_fits) in
          let a = sum_below f (slots_into S (suc i)) m (λ k b. slots_into_lem S h i n k (omega (arith, m_fits)) (slot_known k (omega (arith, m_fits)))) in
          let b = words_into_lem S h i n page_known in
          let u = rw e at (sum_above f m (frame_count (frames S))) in
          let z = leavings_zero 0 (omega arith) cs tags fits i l (tags_below (suc i)) in
          rw (entry_is S h.names h.few i n, frames_length S)
          (eqb_iff (count_at (regions S) i + sum_of (λ k. pick (leb m k) (f k) 0) (up_to (frame_count (frames S)))) (sum_of f (up_to (frame_count (frames S))) + sum_of (history.words_leading_to (begin S) S r) (begin S).objects) (count_in (leavings 0 cs tags) i) 0
          (λ q. z.1 (omega (arith, a, b, u, all_tags (suc i), kept i l)))
          (λ q. omega (arith, a, b, u, all_tags (suc i), kept i l, z.0 q)))

      pub counts_same : counts_exact (begin S) S ≡ counts_pass cs
      unfolding counts_exact begin listed_regions counts_fit all_zero is_zero name_at
      counts_same =
          let exact : ℕ → Bool = λ r. eqb (stored_count S r + uncounted_into (begin S) S r) (outside (begin S) S r) in
          let zero : ℕ → Bool = λ i. eqb (count_in (leavings 0 cs tags) i) 0 in
          every_map (λ g. exact g.name) (λ i. record { name = name_at (regions S) i; parent = name_of (regions S) (parent_at (regions S) i) }) (entries S)
          ∙ every_entry S (λ i. exact (name_at (regions S) i))
          ∙ every_below (λ i. eqb (name_at (regions S) i) 0 || exact (name_at (regions S) i)) (λ i. eqb (name_at (regions S) i) 0 || zero i) 64 (λ i l.
          by_test (eqb (name_at (regions S) i) 0) (λ e. rw e) (λ e. ap (λ b. eqb (name_at (regions S) i) 0 || b) (count_same i l (eqb-false (name_at (regions S) i) 0 e))))
