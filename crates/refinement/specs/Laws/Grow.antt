-- Declare, new region and subregion: a store that represents a model represents what the call leaves, and the answers are the same.
-- Assumes nothing.
use Rattle.std.specs.Prelude.{◌≡◌, ◌⊎◌, ◌≢◌, Bool, false, not, ◌&&◌, ◌||◌, eqb, leb, set, take}
use Rattle.std.proofs.Math.Path.{refl, sym, ap}
use Rattle.std.proofs.Common.{◌∙◌}
use Rattle.std.proofs.Math.Logic.{inl, inr}
use Rattle.std.proofs.Math.Bool.{true}
use mathlib.Core.List.{List, [], ◌∷◌, ◌++◌}
use Prim.Native.Nat.{ℕ, zero, suc, ◌+◌, ◌-◌, ◌*◌, ◌≤◌, ◌<◌, min}
use native.Mathlib.Omega.{arith}
use Rattle.std.proofs.Math.Dec.{ltb}
use Rattle.std.proofs.Math.ListN.{length, get_or, length-append, get_or-eq_default}
use Rattle.std.proofs.Math.Seq.{get_or-set_same, get_or-set_other}
use Rattle.std.proofs.lemmas.List.{get_or_at}
use borrow.Author.Tests.{eq-eqb, ne_eqb, lt-ltb, ltb-false, le-leb, lt-leb, leb-true, leb-false, not-false}
use Rattle.lists.specs.Lists.{pick, any_of, sum_of, sum_of₂, up_to}
use Rattle.lists.specs.Laws.Tests.{neither, pick_same, by_test, by_same}
use Rattle.lists.specs.Laws.Sums.{sum_append, sum_nothing, sum₂_nothing}
use Rattle.lists.specs.Laws.Finds.{find_append}
use Rattle.lists.specs.Laws.UpTo.{sum_below, sum_change}
use Rattle.lists.specs.Laws.All.{all_map, all_at}
use Rattle.lists.specs.Laws.Sets.{get_d_sets_in, get_d_sets_out}
use Rattle.model.specs.Model.{Model, Region, Object, Answer, no_object, no_region, called, live, region, object, marks, lives_in, home_in, into, free_into, in_frames, from_object, in_words, stored, declare, new_region, subregion}
use Rattle.model.specs.Calls.{checks, refusal, reply, accepted, with_kinds, add_region}
use Rattle.model.specs.Valid.{Valid}
use Rattle.model.proofs.Laws.Passed.{passed}
use Rattle.model.proofs.Laws.Slots.{object_valid}
use Rattle.model.proofs.Laws.Regions.{live_all, live_more, live_less, region_more}
use Rattle.model.proofs.Laws.Grows.{marks_append}
use Rattle.model.proofs.Laws.Counts.{declare_stored, region_stored}
use Rattle.kinds.specs.declared.Kinds.{Kinds}
use Rattle.kinds.specs.Kinds.{kind_count, size_of, mark_at, with_kind, size_in}
use Rattle.regions.specs.declared.Regions.{Regions}
use Rattle.regions.specs.Regions.{name_at, entry_of, tag_of, parent_at, level_at, newest_at, oldest_at, count_at, unused, with_region}
use Rattle.regions.specs.Laws.Added.{name_new, name_old, entry_old, entry_new, count_new, count_old}
use Rattle.regions.specs.Laws.Recount.{beside_same}
use Rattle.pages.specs.declared.Pages.{Pages}
use Rattle.pages.specs.Pages.{owner_at}
use Rattle.outcomes.specs.Store.{Store, kinds, regions, pages}
use Rattle.outcomes.specs.Shape.{Sized, KindsSized, RegionsSized}
use Rattle.outcomes.specs.Outcome.{Accepted, with_regions}
use Rattle.refinement.specs.Represents.{tag_for, KindsAgree, EntryAgrees, RegionsAgree, RoomAgrees, PagesAgree, Alive, ids_in, ObjectsAgree, Represents, Owned}
use Rattle.refinement.specs.Laws.Tags.{Named, live_named, entry_name, entry_live, live_for, tag_for_lem, parent_known, unused_free}
use Rattle.refinement.specs.Laws.Kept.{regions_kept, pages_kept, tiles_kept}

-- ---- declare

-- the marks of a kind: of an old one, of the new one and of none
by_kind : (P : List ℕ → Type 0) (ks : List (List ℕ)) (ms : List ℕ) (m : ℕ) → (m < length ks → P (marks ks (suc m))) → (m ≡ length ks → P ms) → (length ks < m → P []) → P (marks (ks ++ (ms ∷ [])) (suc m))
by_kind P ks ms m old new none = go (by_same m (length ks)) (leb m (length ks)) refl
  where
    go : (m ≡ length ks) ⊎ (m ≢ length ks) → (b : Bool) → leb m (length ks) ≡ b → P (marks (ks ++ (ms ∷ [])) (suc m))
    go (inl e) b q = rw (get_or_at ks ms [] [] m (sym e)) (new e)
    go (inr n) true q = rw (marks_append ks ms (suc m) (omega (arith, leb-true m (length ks) q))) (old (omega (arith, leb-true m (length ks) q)))
    go (inr n) false q = rw (get_or-eq_default (ks ++ (ms ∷ [])) [] {n = m} (rw length-append (omega (arith, leb-false m (length ks) q)))) (none (leb-false m (length ks) q))

module _ (ks : List (List ℕ)) (ms : List ℕ) (k : Kinds) (a : KindsAgree ks k) (s : KindsSized k) (few : length ks < 16) (short : length ms ≤ 16)
    (shorts : (n : ℕ) → length (marks ks n) ≤ 16) where
  kind_size : (n : ℕ) → size_of (with_kind k ms) n ≡ length (marks (ks ++ (ms ∷ [])) n)
  unfolding size_of kind_count with_kind size_in
  kind_size zero = refl
  kind_size (suc m) = by_kind (λ l. size_of (with_kind k ms) (suc m) ≡ length l) ks ms m
      (λ h. rw (d, lt-ltb 0 (suc m) (omega arith), le-leb (suc m) (min (k.declared + 1) 16) (omega (arith, a.declared)), get_or-set_other k.sizes k.declared m (length ms) 0 (λ e. omega (arith, a.declared)))
      (rw (d, lt-ltb 0 (suc m) (omega arith), le-leb (suc m) (min k.declared 16) (omega (arith, a.declared))) at (a.sizes (suc m))))
      (λ e. rw (d, lt-ltb 0 (suc m) (omega arith), le-leb (suc m) (min (k.declared + 1) 16) (omega (arith, a.declared)), e, ← a.declared, get_or-set_same k.sizes k.declared (length ms) 0 (omega (arith, a.declared, s.sizes))) (omega arith))
      (λ h. rw (lt-ltb 0 (suc m) (omega arith), lt-leb (suc m) (min (k.declared + 1) 16) (omega (arith, a.declared))))
    where
      d : suc m - 1 ≡ m
      d = omega arith

  kind_few : (n : ℕ) → n < length (ks ++ (ms ∷ [])) → get_or (with_kind k ms).sizes n 0 ≤ 16
  unfolding with_kind
  kind_few n h = go (by_same n k.declared)
    where
      go : (n ≡ k.declared) ⊎ (n ≢ k.declared) → get_or (set k.sizes k.declared (length ms)) n 0 ≤ 16
      go (inl e) = rw (e, get_or-set_same k.sizes k.declared (length ms) 0 (omega (arith, a.declared, s.sizes))) short
      go (inr d) = rw (get_or-set_other k.sizes k.declared n (length ms) 0 d) (a.few n (omega (arith, a.declared, length-append ks (ms ∷ []))))

  kind_marks : (n w : ℕ) → w < length (marks (ks ++ (ms ∷ [])) n) → mark_at (with_kind k ms) n w ≡ get_or (marks (ks ++ (ms ∷ [])) n) w 0
  unfolding mark_at with_kind
  kind_marks zero w = λ h. absurd (omega arith)
  kind_marks (suc m) w = by_kind (λ l. w < length l → mark_at (with_kind k ms) (suc m) w ≡ get_or l w 0) ks ms m
      (λ h l. get_d_sets_out ms k.marks (16 * k.declared) (16 * (suc m - 1) + w) 0 (inl (omega (arith, a.declared, shorts (suc m)))) ∙ a.marks_agree (suc m) w l)
      (λ e l. rw (d, e, ← a.declared) (get_d_sets_in ms k.marks (16 * k.declared) w 0 (omega (arith, a.declared, s.marks)) l))
      (λ h l. absurd (omega arith))
    where
      d : suc m - 1 ≡ m
      d = omega arith

  pub kinds_more : KindsAgree (ks ++ (ms ∷ [])) (with_kind k ms)
  unfolding with_kind
  kinds_more = record { declared = simp length-append (omega (arith, a.declared)); sizes = kind_size; few = kind_few; marks_agree = kind_marks }

module _ (L : Model) (sp : List ℕ) (ids : ℕ → List ℕ) (S : Store) (v : Valid L) (sh : Sized S) (rep : Represents L sp ids S) where
  pub declare_step : (ms : List ℕ) → refusal L (declare ms) ≡ 0 → (a : Answer) (T : Store) → Accepted (declare ms) S a T
      → (a ≡ reply L (declare ms)) × Represents (accepted L (declare ms)) sp ids T
  unfolding checks reply accepted Accepted
  declare_step ms e a T o =
      let c = passed L (declare ms) e in
      let q = neither (eqb (length ms) 0 || ltb 16 (length ms)) (any_of (ltb 4) ms) c.0 in
      let few = leb-false 16 (length L.kinds) c.1.0 in
      let short = ltb-false 16 (length ms) (neither (eqb (length ms) 0) (ltb 16 (length ms)) q.0).1 in
      let ks = L.kinds ++ (ms ∷ []) in
      let g = beside_same (regions S) in
      let b = rep.on_objects in (
        rw (← rep.on_kinds.declared) o.0,
        rw o.1 (record {
          on_frames = rep.on_frames;
          on_kinds = kinds_more L.kinds ms (kinds S) rep.on_kinds sh.in_kinds few short (λ n. all_at (λ l. length l ≤ 16) ([] ∷ L.kinds) n [] (omega arith, all_map (λ l h. h.1) L.kinds v.kinds.sized) (omega arith));
          on_regions = regions_kept L ks L.frames L.counted L.objects g sp rep.on_regions;
          on_pages = pages_kept L ks L.frames L.counted L.objects g (pages S) (length S.heap) rep.on_pages;
          on_objects = record {
            known = b.known;
            laid = λ p l. rw (marks_append L.kinds ms (object L.objects p).kind (object_valid L v p l).kind.1) (b.laid p l);
            apart = b.apart;
            owned = b.owned;
            within = b.within;
            full = b.full;
            tiled = λ j h n. tiles_kept L (with_kinds L ks) sp sp (λ p l. (l, refl, refl)) (64 * j) (64 * j + get_or (pages S).taken j 0) (ids j) (b.tiled j h n);
            once = b.once;
          };
          counts = λ r l. rep.counts r l ∙ sym (declare_stored L r v ms);
        }),
      )

-- ---- new region, subregion

-- a region that no pointer leads into has no count
stored_none : (L : Model) (r : ℕ) → ((p : ℕ) → home_in L p ≢ r) → stored L r ≡ 0
unfolding stored in_words in_frames from_object
stored_none L r h = omega (
  arith,
  sum_nothing (from_object (lives_in L) (home_in L) L.kinds r) (λ o. rw (words o) (pick_same (lives_in L o.home && not (eqb o.home r)) 0)) L.objects,
  sum_nothing (sum_of (into (home_in L) r)) (sum_nothing (into (home_in L) r) none) (take L.counted L.frames),
)
  where
    none : (p : ℕ) → into (home_in L) r p ≡ 0
    none p = rw (ne_eqb (home_in L p) r (h p))

    words : (o : Object) → sum_of₂ (free_into (home_in L) r) (marks L.kinds o.kind) o.words ≡ 0
    words o = sum₂_nothing (free_into (home_in L) r) (λ k p. rw (none p) (pick_same (eqb k 1) 0)) (marks L.kinds o.kind) o.words

-- the region that comes, with the next name
abbrev added : Model → ℕ → ℕ → Region
added L u l = record { name = L.given + 1; parent = u; level = l; newest = 0; room = 0; oldest = 0 }

abbrev more : Model → ℕ → ℕ → List Region
more L u l = L.regions ++ (added L u l ∷ [])

-- region u is above the new one, 0 for none; the entry i is free, and t is the tag of u
module _ (L : Model) (sp : List ℕ) (g : Regions) (v : Valid L) (a : RegionsAgree L sp g) (sh : RegionsSized g) (i u l t : ℕ)
    (i_in : i < 64) (i_free : name_at g i ≡ 0) (hu : Named L u) (ht : t ≡ tag_for g u) where
  past : (r : ℕ) → lives_in L r ≡ true → r ≢ g.given + 1
  past r q e = omega (arith, live_all (λ x. x ≤ L.given) L.regions r v.names.names_given (omega arith) q, a.given)

  entry_same : (r : ℕ) → lives_in L r ≡ true → entry_of (with_region g i t l) r ≡ entry_of g r
  entry_same r q = entry_old g i t l (omega (arith, sh.names)) i_free r (live_named a r q) (past r q)

  tag_same : (r : ℕ) → lives_in L r ≡ true → tag_of (with_region g i t l) r ≡ tag_of g r
  unfolding tag_of
  tag_same r q = ap (λ x. x + 1) (entry_same r q)

  for_same : (r : ℕ) → Named L r → tag_for (with_region g i t l) r ≡ tag_for g r
  for_same zero k = refl
  for_same (suc r) k = tag_same (suc r) (rw (ne_eqb (suc r) 0 (λ e. omega arith)) at k)

  -- the entry of a live region is another
  entry_other : (r : ℕ) → lives_in L r ≡ true → entry_of g r ≢ i
  entry_other r q e = live_named a r q (sym (entry_name a r q) ∙ ap (name_at g) e ∙ i_free)

  new_dead : lives_in L (L.given + 1) ≡ false
  new_dead = by_test (lives_in L (L.given + 1)) (λ q. absurd (past (L.given + 1) q (ap (λ x. x + 1) (sym a.given)))) (λ q. q)

  entry_last : entry_of (with_region g i t l) (L.given + 1) ≡ i
  entry_last = ap (λ n. entry_of (with_region g i t l) (n + 1)) (sym a.given)
      ∙ entry_new g i t l (omega (arith, sh.names)) i_free i_in (λ j h e. past (name_at g j) (entry_live a j h (λ z. omega arith)) e)

  -- a region that lives afterwards lived, or is the new one
  by_live : (P : ℕ → Type 0) (r : ℕ) → live (more L u l) r ≡ true → (lives_in L r ≡ true → P r) → P (L.given + 1) → P r
  by_live P r q old last = go (by_same r (L.given + 1))
    where
      go : (r ≡ L.given + 1) ⊎ (r ≢ L.given + 1) → P r
      go (inl e) = rw e last
      go (inr n) = old (sym (live_less L.regions (added L u l) r (λ e. n (sym e))) ∙ q)

  region_last : region (more L u l) (L.given + 1) ≡ added L u l
  region_last = rw (find_append (called (L.given + 1)) no_region L.regions (added L u l ∷ []), new_dead, eq-eqb (L.given + 1) (L.given + 1) refl)

  region_rows : (f : ℕ → ℕ) → sum_of (λ j. pick (eqb (name_at (with_region g i t l) j) 0) 0 (f (name_at (with_region g i t l) j))) (up_to 64) ≡ sum_of (λ r. f r.name) (more L u l)
  region_rows f =
      let c = sum_change (row (with_region g i t l)) (row g) 64 i i_in (λ j h d. ap at (name_old g i t l (omega (arith, sh.names)) i_free j d)) in
      let n : row (with_region g i t l) i ≡ f (L.given + 1) = ap at (name_new g i t l (omega (arith, sh.names)) i_free) ∙ rw (a.given, ne_eqb (L.given + 1) 0 (λ e. omega arith)) in
      let z : row g i ≡ 0 = rw i_free in
      step _ _ _ _ _ _ _ c z n (a.rows f) (sum_append (λ r. f r.name) L.regions (added L u l ∷ []))
    where
      step : (x y z w k s q : ℕ) → x + z ≡ y + w → z ≡ 0 → w ≡ k → y ≡ s → q ≡ s + (k + 0) → x ≡ q
      step x y z w k s q c d e f h = omega arith

      at : ℕ → ℕ
      at n = pick (eqb n 0) 0 (f n)

      row : Regions → ℕ → ℕ
      row h j = at (name_at h j)

  pub regions_more : RegionsAgree (add_region L u l) sp (with_region g i t l)
  unfolding add_region with_region parent_at level_at oldest_at
  regions_more = record {
    given = ap (λ n. n + 1) a.given;
    rows = region_rows;
    entry = λ r q. by_live (λ n. EntryAgrees sp (region (more L u l) n) (with_region g i t l) (entry_of (with_region g i t l) n)) r q
        (λ o. let e = a.entry r o in let d = entry_other r o in rw (region_more L.regions (added L u l) r o, entry_same r o) (record {
          parent = get_or-set_other g.parents i (entry_of g r) t 0 d ∙ e.parent ∙ sym (for_same (region L.regions r).parent (parent_known a v r));
          level = get_or-set_other g.levels i (entry_of g r) l 0 d ∙ e.level;
          oldest = get_or-set_other g.oldest i (entry_of g r) 0 0 d ∙ e.oldest;
        }))
        (rw (region_last, entry_last) (record {
          parent = get_or-set_same g.parents i t 0 (omega (arith, sh.parents)) ∙ ht ∙ sym (for_same u hu);
          level = get_or-set_same g.levels i l 0 (omega (arith, sh.levels));
          oldest = get_or-set_same g.oldest i 0 0 (omega (arith, sh.oldest));
        }));
  }

  -- no page is held under the free entry
  unowned : (p : Pages) (words : ℕ) → PagesAgree L g p words → (j : ℕ) → j < p.made → eqb (owner_at p j) (i + 1) ≡ false
  unfolding tag_of
  unowned p words b j h = ne_eqb (owner_at p j) (i + 1) (λ e. go e (b.owned j h))
    where
      go : owner_at p j ≡ i + 1 → Owned L g p j → ⊥
      go e (inl (z, o)) = omega arith
      go e (inr (q, o)) = entry_other (get_or L.holders j 0) q (omega arith)

  tag_last : tag_of (with_region g i t l) (L.given + 1) ≡ i + 1
  unfolding tag_of
  tag_last = ap (λ x. x + 1) entry_last

  newest_old : (e : ℕ) → e ≢ i → newest_at (with_region g i t l) e ≡ newest_at g e
  unfolding newest_at with_region
  newest_old e d = get_or-set_other g.newest i e 0 0 d

  newest_new : newest_at (with_region g i t l) i ≡ 0
  unfolding newest_at with_region
  newest_new = get_or-set_same g.newest i 0 0 (omega (arith, sh.newest))

  pub pages_more : (p : Pages) (words : ℕ) → PagesAgree L g p words → PagesAgree (add_region L u l) (with_region g i t l) p words
  unfolding add_region
  pages_more p words b = record {
    some = b.some;
    most = b.most;
    whole = b.whole;
    listed = b.listed;
    owned = λ j h. go j (b.owned j h);
    room = λ r q. by_live (λ n. RoomAgrees (region (more L u l) n) p (tag_of (with_region g i t l) n) (newest_at (with_region g i t l) (entry_of (with_region g i t l) n))) r q
        (λ o. rw (region_more L.regions (added L u l) r o, tag_same r o, entry_same r o, newest_old (entry_of g r) (entry_other r o)) (b.room r o)) (rw (region_last, entry_last, newest_new) refl);
  }
    where
      go : (j : ℕ) → Owned L g p j
          → let r = get_or L.holders j 0 in ((r ≡ 0) × (owner_at p j ≡ 0)) ⊎ ((live (more L u l) r ≡ true) × (owner_at p j ≡ tag_of (with_region g i t l) r))
      go j (inl z) = inl z
      go j (inr (q, o)) = let r = get_or L.holders j 0 in inr (live_more L.regions (added L u l) r q, o ∙ sym (tag_same r q))

  homes_past : (q : ℕ) → home_in L q ≢ L.given + 1
  homes_past q e = omega (arith, all_at (λ o. o.home ≤ L.given) (no_object ∷ L.objects) q no_object (omega arith, all_map (λ o h. h.home_given) L.objects v.objects) (omega arith))

  pub objects_more : (ids : ℕ → List ℕ) (p : Pages) (heap : List ℕ) → PagesAgree L g p (length heap) → ObjectsAgree L sp ids g p heap → ObjectsAgree (add_region L u l) sp ids (with_region g i t l) p heap
  unfolding add_region
  objects_more ids p heap b o = record {
    known = o.known;
    laid = λ q k. o.laid q (back q k);
    apart = λ q r k m d. o.apart q r (back q k) (back r m) d;
    owned = λ q k. o.owned q (back q k) ∙ sym (tag_same (home_in L q) (back q k));
    within = λ q k. o.within q (back q k);
    full = o.full;
    tiled = λ j h n. tiles_kept L (add_region L u l) sp sp (λ q k. (live_more L.regions (added L u l) (home_in L q) k, refl, refl)) (64 * j) (64 * j + get_or p.taken j 0) (ids j) (o.tiled j h n);
    once = λ r q f. by_live (λ n. sum_of (λ j. pick (eqb (owner_at p j) (tag_of (with_region g i t l) n)) (sum_of f (ids j)) 0) (up_to p.made) ≡ sum_of (λ x. pick (eqb (home_in L x) n) (f x) 0) (ids_in L)) r q
        (λ k. rw (tag_same r k) (o.once r k f))
        (rw tag_last (
        sum_below (λ j. pick (eqb (owner_at p j) (i + 1)) (sum_of f (ids j)) 0) (λ j. 0) p.made (λ j h. rw (unowned p (length heap) b j h))
        ∙ sum_nothing (λ j. 0) (λ j. refl) (up_to p.made)
        ∙ sym (sum_nothing (λ x. pick (eqb (home_in L x) (L.given + 1)) (f x) 0) (λ x. rw (ne_eqb (home_in L x) (L.given + 1) (homes_past x))) (ids_in L))));
  }
    where
      back : (q : ℕ) → live (more L u l) (home_in L q) ≡ true → Alive L q
      back q k = sym (live_less L.regions (added L u l) (home_in L q) (λ e. homes_past q (sym e))) ∙ k

  pub counts_more : ((r : ℕ) → lives_in L r ≡ true → count_at g (entry_of g r) ≡ stored L r)
      → (r : ℕ) → live (more L u l) r ≡ true → count_at (with_region g i t l) (entry_of (with_region g i t l) r) ≡ stored (add_region L u l) r
  counts_more c r q = by_live (λ n. count_at (with_region g i t l) (entry_of (with_region g i t l) n) ≡ stored (add_region L u l) n) r q
      (λ k. rw (entry_same r k, region_stored L r v u l) (count_old g i t l (entry_of g r) (entry_other r k) ∙ c r k))
      (rw (entry_last, region_stored L (L.given + 1) v u l, stored_none L (L.given + 1) homes_past) (count_new g i t l))

module _ (L : Model) (sp : List ℕ) (ids : ℕ → List ℕ) (S : Store) (v : Valid L) (sh : Sized S) (rep : Represents L sp ids S) where
  -- a region more, below region u or below none
  region_step : (u l t : ℕ) → Named L u → t ≡ tag_for (regions S) u → length L.regions < 64
      → Represents (add_region L u l) sp ids (with_regions S (with_region (regions S) (unused (regions S)) t l))
  unfolding add_region
  region_step u l t hu ht few =
      let g = regions S in
      let a = rep.on_regions in
      let i = unused_free a few in
      record {
        on_frames = rep.on_frames;
        on_kinds = rep.on_kinds;
        on_regions = regions_more L sp g v a sh.in_regions (unused g) u l t i.0 i.1 hu ht;
        on_pages = pages_more L sp g v a sh.in_regions (unused g) u l t i.0 i.1 hu ht (pages S) (length S.heap) rep.on_pages;
        on_objects = objects_more L sp g v a sh.in_regions (unused g) u l t i.0 i.1 hu ht ids (pages S) S.heap rep.on_pages rep.on_objects;
        counts = counts_more L sp g v a sh.in_regions (unused g) u l t i.0 i.1 hu ht rep.counts;
      }

  pub new_step : refusal L new_region ≡ 0 → (a : Answer) (T : Store) → Accepted new_region S a T → (a ≡ reply L new_region) × Represents (accepted L new_region) sp ids T
  unfolding checks reply accepted Accepted
  new_step e a T o =
      let c = passed L new_region e in
      (rw (← rep.on_regions.given) o.0, rw o.1 (region_step 0 1 0 refl refl (leb-false 64 (length L.regions) c.0)))

  pub sub_step : (r : ℕ) → refusal L (subregion r) ≡ 0 → (a : Answer) (T : Store) → Accepted (subregion r) S a T → (a ≡ reply L (subregion r)) × Represents (accepted L (subregion r)) sp ids T
  unfolding checks reply accepted Accepted
  sub_step r e a T o =
      let c = passed L (subregion r) e in
      let k = not-false (lives_in L r) c.0 in (
        rw (← rep.on_regions.given) o.0,
        rw (o.1, (rep.on_regions.entry r k).level)
            (region_step r ((region L.regions r).level + 1) (tag_of (regions S) r) (live_for rep.on_regions r k) (sym (tag_for_lem rep.on_regions r k)) (leb-false 64 (length L.regions) c.1.1.0)),
      )
