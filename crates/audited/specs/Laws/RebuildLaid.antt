-- The objects of the model that an audited memory lists are valid and lie in the heap.
-- Assumes nothing.
use Rattle.std.specs.Prelude.{◌≡◌, refl, ◌≢◌, true, false, ◌&&◌, ◌||◌, List, [], map, ltb, leb, length}
use Rattle.std.proofs.Math.Path.{sym, ap, subst, fun_ext}
use Rattle.std.proofs.Common.{◌∙◌, true≢false, arith}
use Rattle.std.proofs.Math.Bool.{Bool}
use Rattle.std.proofs.lemmas.Simd.{map-map}
use Prim.Native.Nat.{ℕ, zero, suc, ◌-◌, ◌*◌, ◌/◌, ◌%◌, ◌≤◌, ◌<◌}
use Rattle.std.proofs.Math.Dec.{eqb}
use Rattle.std.proofs.Math.ListN.{get_or, length-map, get_or-eq_default}
use borrow.Author.Tests.{ltb-true, ltb-false, leb-true, leb-false, eqb-true, eqb-false, ne_eqb}
use Rattle.lists.specs.Lists.{pick, every, find_or, All}
use Rattle.lists.specs.Laws.Tests.{by_test, both, or_other, or_known}
use Rattle.lists.specs.Laws.All.{all_in, all_change}
use Rattle.lists.specs.Laws.Finds.{every_true}
use Rattle.lists.specs.Laws.UpTo.{every_each, get_d_map_up_to, length_map_up_to}
use Rattle.lists.specs.Laws.Kept.{map_all, all_places, find_map, all₂_each}
use Rattle.model.specs.Model.{no_object, no_region, marks, lives_in, home_in, parent_in, above, rule, allowed}
use Rattle.model.specs.Valid.{ValidObject, fine}
use Rattle.model.proofs.Laws.Regions.{live_all}
use Rattle.pages.specs.Pages.{owner_at, taken_at}
use Rattle.outcomes.specs.Store.{Store, pages}
use Rattle.outcomes.specs.History.{begin, entries, listed_kinds, listed_regions, pointers_of, words_lead, leads, home_of, parent_of, above_of}
use Rattle.outcomes.specs.History as history
use Rattle.outcomes.specs.Sound.{Sound}
use Rattle.outcomes.specs.Shape.{Sized}
use Rattle.outcomes.proofs.Laws.Begin.{holder_of, headers, object_at, begin_objects}
use Rattle.outcomes.proofs.Laws.Pointers.{value_at, marks_length, marks_at_lem, every_pointer}
use Rattle.refinement.specs.Represents.{spot, Alive, Laid}
use Rattle.audited.specs.Rebuild.{places, id_of, read_word, read_object, read_region, rebuilt}
use Rattle.refinement.specs.Laws.Tags.{zero_dead}
use Rattle.histories.specs.Laws.Tells.{listed}
use Rattle.audited.specs.Laws.RebuildObjects.{words_at}
use Rattle.audited.specs.Laws.RebuildIds.{header, spot_at, stands_at, Known, known}
use Rattle.audited.specs.Laws.RebuildRegions.{live_name}
use Rattle.audited.specs.Laws.RebuildTree.{regions_agree, names_valid}
use Rattle.audited.specs.Laws.RebuildPages.{pages_all}

-- of two tests, one of them null
or_rule : (a b c : Bool) → (a || (b && c)) ≡ true → (a || c) ≡ true
or_rule true b c e = refl
or_rule false b c e = (both b c e).1

module _ (S : Store) where
  pub begin_regions : (begin S).regions ≡ map listed (rebuilt S).regions
  unfolding begin listed_regions rebuilt read_region
  begin_regions = sym (map-map listed (read_region S) (entries S))

  -- the marks of the object at place q, and the value of its word w
  abbrev marks_of : ℕ → List ℕ
  marks_of q = marks (listed_kinds S) (get_or S.heap q 0)

  pub words_length : (q : ℕ) → length (read_object S q).words ≡ words_at S q
  unfolding read_object
  words_length q = length_map_up_to (read_word S q) (words_at S q)

  word_at_lem : (q w : ℕ) → w < words_at S q → get_or (read_object S q).words w 0 ≡ pick (eqb (get_or (marks_of q) w 0) 0) (value_at S q w) (id_of (places S) (value_at S q w))
  unfolding read_object read_word
  word_at_lem q w h =
      get_d_map_up_to (read_word S q) 0 (words_at S q) w h
      ∙ ap (λ k. pick (eqb k 0) (value_at S q w) (id_of (places S) (value_at S q w))) (marks_at_lem S (get_or S.heap q 0) w (omega (arith, marks_length S (get_or S.heap q 0))))

  module _ (sh : Sized S) (so : Sound S) where
    -- what the audit's test says of a pointer word
    abbrev test : ℕ → ℕ → ℕ → Bool
    test q k x = eqb x 0 || (leads (begin S) x && rule k (home_of (begin S) x) (holder_of S (q / 64)) (above_of (begin S) (holder_of S (q / 64))))

    word_passes_lem : (i w : ℕ) → i < length (headers S) → w < words_at S (header S i) → get_or (marks_of (header S i)) w 0 ≢ 0 → test (header S i) (get_or (marks_of (header S i)) w 0) (value_at S (header S i) w) ≡ true
    unfolding words_lead
    word_passes_lem i w h k n =
        let q = header S i in
        let m = get_or (marks_of q) w 0 in
        let right : ℕ → ℕ → ℕ → Bool = λ r k x. eqb x 0 || (leads (begin S) x && rule k (home_of (begin S) x) r (above_of (begin S) r)) in
        let all = subst (All (λ o. every (λ x. right o.home x.mark x.value) (pointers_of (begin S) S o) ≡ true)) (begin_objects S) (every_true _ (begin S).objects so.words) in
        let one = all_in (λ q. every (λ x. right (holder_of S (q / 64)) x.mark x.value) (pointers_of (begin S) S (object_at S q)) ≡ true) (headers S) i 0 (map_all _ (object_at S) (headers S) all) h in
        let e = every_each _ (words_at S q) (sym (every_pointer S (object_at S q) (right (holder_of S (q / 64)))) ∙ one) w k in
        or_other (eqb m 0) (test q m (value_at S q w)) (rw (marks_at_lem S (get_or S.heap q 0) w (omega (arith, marks_length S (get_or S.heap q 0)))) at e) (ne_eqb m 0 n)

    -- so the value is known
    pub word_known : (i w : ℕ) → i < length (headers S) → w < words_at S (header S i) → get_or (marks_of (header S i)) w 0 ≢ 0 → Known S (value_at S (header S i) w)
    word_known i w h k n = known S sh (value_at S (header S i) w) (or_known (eqb (value_at S (header S i) w) 0) _ _ (word_passes_lem i w h k n))

    -- ---- valid

    parents_same : (r : ℕ) → parent_of (begin S) r ≡ parent_in (rebuilt S) r
    parents_same r = ap (λ gs. (find_or (λ (g : history.Region). eqb g.name r) (record { name = 0; parent = 0 }) gs).parent) begin_regions
        ∙ ap (λ g. g.parent) (find_map (λ g. eqb g.name r) listed no_region (rebuilt S).regions)

    above_same : (r : ℕ) → above_of (begin S) r ≡ above (parent_in (rebuilt S)) r
    above_same r = ap (λ p. above p r) (fun_ext parents_same)

    word_fine : (i w : ℕ) → i < length (headers S) → w < words_at S (header S i)
        → fine (lives_in (rebuilt S)) (parent_in (rebuilt S)) (home_in (rebuilt S)) (holder_of S (header S i / 64)) (get_or (marks_of (header S i)) w 0) (get_or (read_object S (header S i)).words w 0) ≡ true
    unfolding allowed
    word_fine i w h l =
        let q = header S i in
        let x = value_at S q w in
        let m = get_or (marks_of q) w 0 in
        rw (word_at_lem q w l) (by_test (eqb m 0) (λ e. rw e) (λ e.
        let k = word_known i w h l (eqb-false m 0 e) in
        rw (e, k.live, k.null, k.home, ← (above_same (holder_of S (q / 64))))
        (or_rule (eqb x 0) (leads (begin S) x) (rule m (home_of (begin S) x) (holder_of S (q / 64)) (above_of (begin S) (holder_of S (q / 64)))) (word_passes_lem i w h l (eqb-false m 0 e)))))

    marks_few : (k : ℕ) → 0 < length (marks (listed_kinds S) k) → (1 ≤ k) × (k ≤ length (listed_kinds S))
    marks_few zero h = absurd (omega arith)
    marks_few (suc k) h = (
      omega arith,
      by_test (leb (length (listed_kinds S)) k)
          (λ e. absurd (omega (arith, ap length (get_or-eq_default (listed_kinds S) [] {n = k} (leb-true (length (listed_kinds S)) k e)))))
          (λ e. leb-false (length (listed_kinds S)) k e),
    )

    object_valid : (i : ℕ) → i < length (headers S) → ValidObject (lives_in (rebuilt S)) (parent_in (rebuilt S)) (home_in (rebuilt S)) (listed_kinds S) (rebuilt S).given (read_object S (header S i))
    unfolding read_object
    object_valid i h =
        let q = header S i in
        let t = stands_at S i h in
        let l = marks_length S (get_or S.heap q 0) in
        record {
          home_given = live_all (λ r. r ≤ (rebuilt S).given) (rebuilt S).regions (holder_of S (q / 64)) (names_valid S sh so).names_given (omega arith) (live_name S sh (owner_at (pages S) (q / 64)) t.held);
          kind = marks_few (get_or S.heap q 0) (omega (arith, l, t.some));
          sized = words_length q ∙ l;
          fine_words = λ a. all₂_each _ (marks_of q) (read_object S q).words 0 0 (λ w b c. word_fine i w h (omega (arith, words_length q)));
        }

    pub objects_valid : All (ValidObject (lives_in (rebuilt S)) (parent_in (rebuilt S)) (home_in (rebuilt S)) (rebuilt S).kinds (rebuilt S).given) (rebuilt S).objects
    unfolding rebuilt
    objects_valid = all_change _ _ (read_object S) (λ q k. k) (headers S) (all_places _ (headers S) 0 object_valid)

    -- ---- laid

    pub alive_index : (q : ℕ) → Alive (rebuilt S) q → (i : ℕ) × (i < length (headers S)) × (q ≡ suc i)
    unfolding rebuilt
    alive_index zero l = absurd (true≢false (sym l ∙ zero_dead (regions_agree S sh so)))
    alive_index (suc i) l = by_test (ltb i (length (headers S))) (λ e. (i, ltb-true i _ e, refl)) (λ e.
        absurd (true≢false (sym l ∙ ap (λ o. lives_in (rebuilt S) o.home) (get_or-eq_default (rebuilt S).objects no_object {n = i} (omega (arith, length-map (headers S) (read_object S), ltb-false i (length (headers S)) e))) ∙ zero_dead (regions_agree S sh so))))

    pub laid : (i : ℕ) → i < length (headers S) → Laid S.heap (places S) (marks_of (header S i)) (suc i) (read_object S (header S i))
    unfolding read_object taken_at
    laid i h =
        let q = header S i in
        let t = stands_at S i h in
        let e : spot (places S) (suc i) - 1 ≡ q = omega (arith, spot_at S i h) in
        record {
          placed = omega (arith, spot_at S i h);
          page = ap (λ n. n / 64) e;
          word = ap (λ n. n % 64) e;
          inside = omega (arith, spot_at S i h, words_length q, t.within, t.page, pages_all S sh so, eqb-true (length S.heap) (64 * (pages S).made) so.heap_length);
          header = rw e;
          words = λ w l.
              let k : w < words_at S q = omega (arith, words_length q) in
              let m = get_or (marks_of q) w 0 in
              rw (spot_at S i h, word_at_lem q w k) (by_test (eqb m 0) (λ z. rw z) (λ z. rw z (sym (word_known i w h k (eqb-false m 0 z)).back)));
        }
