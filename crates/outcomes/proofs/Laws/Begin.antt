-- What a memory lists at the start, page by page and entry by entry, on any memory that keeps 64 names.
-- Assumes nothing.
use Rattle.std.specs.Prelude.{◌≡◌, ◌≢◌, ◌⊎◌, Bool, ◌&&◌, ◌||◌, ltb, leb, length, get_or}
use Rattle.std.proofs.Math.Path.{refl, sym, ap, fun_ext, subst⁻¹}
use Rattle.std.proofs.Common.{◌∙◌, inl, inr, true≢false, add-one}
use Rattle.std.proofs.Math.Bool.{true, false, not}
use mathlib.Core.List.{List, [], ◌∷◌, map}
use Prim.Native.Nat.{ℕ, zero, suc, ◌+◌, ◌*◌, ◌/◌, ◌≤◌, ◌<◌}
use native.Mathlib.Omega.{arith}
use Rattle.std.proofs.Math.Dec.{eqb, eqb-zero-suc, eqb-suc-suc}
use Rattle.std.proofs.Math.ListN.{length-map, get_or-eq_default}
use borrow.Author.Tests.{eqb-true, eqb-false, eq-eqb, ne_eqb, ltb-true, ltb-false, lt-ltb, le-ltb, leb-true, not-true}
use Rattle.lists.specs.Lists.{bit, pick, any_of, every, keep, find_or, count_of, All, joined, up_to, times, among}
use Rattle.lists.specs.Laws.Tests.{both, or_other, by_test, by_same, pick_same, bit_pick}
use Rattle.lists.specs.Laws.All.{all_map, all_change}
use Rattle.lists.specs.Laws.Sums.{sum_map, sum_keep, length_keep}
use Rattle.lists.specs.Laws.Finds.{any_map, any_keep, find_keep, find_none, find_passes, all_found, all_keep, false_any, true_every, times_keep}
use Rattle.lists.specs.Laws.UpTo.{all_up_to, every_each, any_one, sum_below, find_found, find_first}
use Rattle.lists.specs.Laws.Kept.{map_same, joined_same, joined_kept, map_joined, all_each, find_changed, sum_single, sum_two}
use Rattle.lists.specs.Laws.Every.{every_map, every_keep, every_below}
use Rattle.kinds.specs.declared.Kinds.{Kinds}
use Rattle.kinds.specs.Kinds.{size_of}
use Rattle.regions.specs.Regions.{name_at, name_of, entry_of, parent_at, is_live, entry_in, name_in}
use Rattle.pages.specs.Pages.{page_count, owner_at, taken_at, is_free}
use Rattle.objects.specs.Objects.{walk, headers_to, headers_on}
use Rattle.outcomes.specs.Store.{Store, kinds, regions, pages}
use Rattle.outcomes.specs.History.{Region, Object, Holding, begin, entries, listed_regions, listed_held, listed_free, met_on, leads, at, home_of, parent_of, holders, pages_held}
use Rattle.outcomes.specs.History as history
use Rattle.outcomes.specs.Sound.{filled}

-- the places that a walk meets lie between its ends
walk_within : (k : Kinds) (heap : List ℕ) (n p e : ℕ) → All (λ q. (p ≤ q) × (q < e)) (walk k heap n p e)
unfolding walk
walk_within k heap zero p e = tt
walk_within k heap (suc n) p e = go (ltb 0 s && leb (p + 1 + s) e) refl (walk_within k heap n (p + 1 + s) e)
  where
    s : ℕ
    s = size_of k (get_or heap p 0)

    go : (b : Bool) → (ltb 0 s && leb (p + 1 + s) e) ≡ b → All (λ q. (p + 1 + s ≤ q) × (q < e)) (walk k heap n (p + 1 + s) e)
        → All (λ q. (p ≤ q) × (q < e)) (pick b (p ∷ walk k heap n (p + 1 + s) e) [])
    go true t ih = ((omega arith, omega (arith, leb-true (p + 1 + s) e (both (ltb 0 s) (leb (p + 1 + s) e) t).1)), all_map (λ q h. (omega (arith, h.0), h.1)) (walk k heap n (p + 1 + s) e) ih)
    go false t ih = tt

-- the first number below n that passes is below n if one does
find_any : (f : ℕ → Bool) (n : ℕ) → ltb (find_or f n (up_to n)) n ≡ any_of f (up_to n)
find_any f n = go (any_of f (up_to n)) refl
  where
    go : (b : Bool) → any_of f (up_to n) ≡ b → ltb (find_or f n (up_to n)) n ≡ b
    go true e = lt-ltb (find_or f n (up_to n)) n (find_found f n n e).0
    go false e = rw (find_none f n (up_to n) e) (le-ltb n n (omega arith))

-- where one number below n passes, no two do
only_one : (f : ℕ → Bool) (n i k : ℕ) → count_of f (up_to n) ≡ 1 → i < n → k < n → f i ≡ true → f k ≡ true → i ≡ k
only_one f n i k e h l a b = go (by_same i k)
  where
    go : (i ≡ k) ⊎ (i ≢ k) → i ≡ k
    go (inl q) = q
    go (inr q) = absurd (omega (arith, sum_two (λ j. bit (f j)) n i k h l q, ap bit a, ap bit b))

module _ (S : Store) where
  -- ---- objects

  -- the name of the region that holds page j, 0 where none does; the headers met there, if one does; and all headers met
  abbrev pub holder_of : ℕ → ℕ
  holder_of j = name_of (regions S) (owner_at (pages S) j)

  abbrev pub headers_of : ℕ → List ℕ
  headers_of j = pick (eqb (holder_of j) 0) [] (headers_on (kinds S) S.heap (pages S) j)

  abbrev pub headers : List ℕ
  headers = joined headers_of (up_to (page_count (pages S)))

  -- the object whose header stands at place q
  abbrev pub object_at : ℕ → Object
  object_at q = record { place = q; kind = get_or S.heap q 0; home = holder_of (q / 64) }

  on_page_lem : (j : ℕ) → All (λ q. q / 64 ≡ j) (headers_on (kinds S) S.heap (pages S) j)
  unfolding headers_on headers_to taken_at
  on_page_lem j = all_map (λ q h. omega (arith, h.0, h.1)) (headers_on (kinds S) S.heap (pages S) j) (walk_within (kinds S) S.heap 64 (64 * j) (64 * j + taken_at (pages S) j))

  pub page_of_lem : (j : ℕ) → All (λ q. q / 64 ≡ j) (headers_of j)
  page_of_lem j = go (eqb (holder_of j) 0)
    where
      go : (b : Bool) → All (λ q. q / 64 ≡ j) (pick b [] (headers_on (kinds S) S.heap (pages S) j))
      go true = tt
      go false = on_page_lem j

  pub begin_objects : (begin S).objects ≡ map object_at headers
  unfolding begin listed_held met_on
  begin_objects =
      joined_kept (met_on S) (λ t. not (eqb t.region 0)) (λ j. record { page = j; region = holder_of j }) (up_to (page_count (pages S)))
      ∙ joined_same _ _ (up_to (page_count (pages S))) (all_up_to _ (page_count (pages S)) (λ j h. go j (eqb (holder_of j) 0)))
      ∙ sym (map_joined object_at headers_of (up_to (page_count (pages S))))
    where
      go : (j : ℕ) (b : Bool) → pick (not b) (met_on S (record { page = j; region = holder_of j })) [] ≡ map object_at (pick b [] (headers_on (kinds S) S.heap (pages S) j))
      go j true = refl
      go j false = map_same _ _ (headers_on (kinds S) S.heap (pages S) j) (all_map (λ q k. rw k) (headers_on (kinds S) S.heap (pages S) j) (on_page_lem j))

  -- a pointer leads to an object where its header is met
  pub leads_among : (q : ℕ) → leads (begin S) (suc q) ≡ among q headers
  unfolding leads
  leads_among q =
      ap (any_of (at (suc q))) begin_objects
      ∙ any_map (at (suc q)) object_at headers
      ∙ ap (λ f. any_of f headers) (fun_ext (λ x. rw (add-one x) (eqb-suc-suc x q)))

  -- its region is the one that holds that page
  home_page : All (λ o. o.home ≡ holder_of (o.place / 64)) (begin S).objects
  home_page = subst⁻¹ (All (λ o. o.home ≡ holder_of (o.place / 64))) begin_objects (all_change (λ q. q ≡ q) (λ o. o.home ≡ holder_of (o.place / 64)) object_at (λ q h. refl) headers (all_each (λ q. q ≡ q) (λ q. refl) headers))

  abbrev nothing : Object
  nothing = record { place = 0; kind = 0; home = 0 }

  pub home_is : (q : ℕ) → leads (begin S) (suc q) ≡ true → home_of (begin S) (suc q) ≡ holder_of (q / 64)
  unfolding leads home_of
  home_is q e =
      let o : Object = find_or (at (suc q)) nothing (begin S).objects in
      let z : o.place + 1 ≡ suc q = eqb-true (o.place + 1) (suc q) (find_passes (at (suc q)) nothing (begin S).objects e) in
      let y : o.place ≡ q = omega arith in
      all_found (λ o. o.home ≡ holder_of (o.place / 64)) (at (suc q)) nothing (begin S).objects home_page e ∙ ap (λ x. holder_of (x / 64)) y

  pub home_none : (v : ℕ) → leads (begin S) v ≡ false → home_of (begin S) v ≡ 0
  unfolding leads home_of
  home_none v e = ap (λ o. o.home) (find_none (at v) nothing (begin S).objects e)

  pub leads_null : leads (begin S) 0 ≡ false
  unfolding leads
  leads_null = false_any (at 0) (begin S).objects (all_each _ (λ o. ne_eqb (o.place + 1) 0 (λ e. omega arith)) (begin S).objects)

  -- ---- entries

  pub every_entry : (f : ℕ → Bool) → every f (entries S) ≡ every (λ i. eqb (name_at (regions S) i) 0 || f i) (up_to 64)
  unfolding entries
  every_entry f = every_keep f (λ i. eqb (name_at (regions S) i) 0) (up_to 64)

  -- such a test says something of each entry in use
  pub each_entry : (f : ℕ → Bool) → every f (entries S) ≡ true → (i : ℕ) → i < 64 → name_at (regions S) i ≢ 0 → f i ≡ true
  each_entry f e i l h = or_other (eqb (name_at (regions S) i) 0) (f i) (every_each (λ i. eqb (name_at (regions S) i) 0 || f i) 64 (sym (every_entry f) ∙ e) i l) (ne_eqb (name_at (regions S) i) 0 h)

  abbrev named : ℕ → ℕ → Bool
  named r i = eqb (name_at (regions S) i) r

  -- an entry with a name is in use
  named_used : (r : ℕ) → r ≢ 0 → (i : ℕ) → named r i ≡ true → not (eqb (name_at (regions S) i) 0) ≡ true
  named_used r h i e = rw (ne_eqb (name_at (regions S) i) 0 (λ z. h (sym (eqb-true (name_at (regions S) i) r e) ∙ z)))

  -- how often a name stands
  pub name_times : (r : ℕ) → r ≢ 0 → times r (map (name_at (regions S)) (entries S)) ≡ count_of (named r) (up_to 64)
  unfolding entries
  name_times r h =
      sum_map (λ x. bit (eqb x r)) (name_at (regions S)) (entries S)
      ∙ sum_keep (λ i. bit (named r i)) (λ i. not (eqb (name_at (regions S) i) 0)) (up_to 64)
      ∙ sum_below (λ i. pick (not (eqb (name_at (regions S) i) 0)) (bit (named r i)) 0) (λ i. bit (named r i)) 64 (λ i l. go i (named r i) refl)
    where
      go : (i : ℕ) (b : Bool) → named r i ≡ b → pick (not (eqb (name_at (regions S) i) 0)) (bit b) 0 ≡ bit b
      go i true e = rw (named_used r h i e)
      go i false e = pick_same {A = ℕ} (not (eqb (name_at (regions S) i) 0)) 0

  pub one_lives : among 1 (map (name_at (regions S)) (entries S)) ≡ is_live (regions S) 1
  unfolding entries is_live entry_of entry_in name_at
  one_lives =
      any_map (λ x. eqb x 1) (name_at (regions S)) (entries S)
      ∙ any_keep (named 1) (λ i. not (eqb (name_at (regions S) i) 0)) (named_used 1 (λ e. omega arith)) (up_to 64)
      ∙ sym (find_any (named 1) 64)

  module _ (names : length (regions S).names ≡ 64) where
    pub used_below : (i : ℕ) → name_at (regions S) i ≢ 0 → i < 64
    unfolding name_at
    used_below i h = by_test (ltb i 64) (ltb-true i 64) (λ e. absurd (h (get_or-eq_default (regions S).names 0 (omega (arith, ltb-false i 64 e)))))

    -- a region that holds a page lives
    live_name : (t : ℕ) → name_of (regions S) t ≢ 0 → history.is_live (begin S) (name_of (regions S) t) ≡ true
    unfolding begin listed_regions entries name_of name_at name_in
    live_name zero h = absurd (h refl)
    live_name (suc i) h =
        let r = name_at (regions S) i in
        any_map (λ g. eqb g.name r) (λ i. record { name = name_at (regions S) i; parent = name_of (regions S) (parent_at (regions S) i) }) (entries S)
        ∙ any_keep (named r) (λ i. not (eqb (name_at (regions S) i) 0)) (named_used r h) (up_to 64)
        ∙ any_one (named r) 64 i (used_below i h) (eq-eqb r r refl)

    -- ---- pages

    abbrev pub holding : ℕ → Holding
    holding j = record { page = j; region = holder_of j }

    -- how often page j is entered: as free, and as a region's
    free_times : (j : ℕ) → j < page_count (pages S) → times j (listed_free S) ≡ bit (eqb (owner_at (pages S) j) 0)
    unfolding listed_free is_free
    free_times j h =
        times_keep j (is_free (pages S)) (up_to (page_count (pages S)))
        ∙ rw (lt-ltb j (page_count (pages S)) h, sum_single (λ i. bit (eqb i j)) (page_count (pages S)) j h (λ i d. rw (ne_eqb i j d)), eq-eqb j j refl) (sym (bit_pick (eqb (owner_at (pages S) j) 0)))

    held_times : (j : ℕ) → j < page_count (pages S) → length (holders (begin S) j) ≡ bit (not (eqb (holder_of j) 0))
    unfolding begin listed_held
    held_times j h =
        length-map (keep (λ t. eqb t.page j) (listed_held S)) (λ t. t.region)
        ∙ length_keep (λ t. eqb t.page j) (listed_held S)
        ∙ sum_keep (λ t. bit (eqb t.page j)) (λ t. not (eqb t.region 0)) (map holding (up_to (page_count (pages S))))
        ∙ sum_map (λ t. pick (not (eqb t.region 0)) (bit (eqb t.page j)) 0) holding (up_to (page_count (pages S)))
        ∙ sum_single (λ i. pick (not (eqb (holder_of i) 0)) (bit (eqb i j)) 0) (page_count (pages S)) j h (λ i d. rw (ne_eqb i j d) (pick_same {A = ℕ} (not (eqb (holder_of i) 0)) 0))
        ∙ rw (eq-eqb j j refl) (sym (bit_pick (not (eqb (holder_of j) 0))))

    holders_live : (j : ℕ) → every (history.is_live (begin S)) (holders (begin S) j) ≡ true
    unfolding begin listed_held
    holders_live j =
        true_every (history.is_live (begin S)) (holders (begin S) j)
        (all_change _ (λ r. history.is_live (begin S) r ≡ true) (λ t. t.region) (λ t h. h.0) (keep (λ t. eqb t.page j) (listed_held S))
        (all_keep (λ t. history.is_live (begin S) t.region ≡ true) (λ t. eqb t.page j) (listed_held S)
        (all_map (λ t h. rw h.0 (live_name (owner_at (pages S) t.page) (λ z. eqb-false t.region 0 (not-true (eqb t.region 0) h.1) (h.0 ∙ z)))) (listed_held S)
        (all_keep (λ t. t.region ≡ holder_of t.page) (λ t. not (eqb t.region 0)) (map holding (up_to (page_count (pages S))))
        (all_change (λ j. j ≡ j) (λ t. t.region ≡ holder_of t.page) holding (λ j e. refl) (up_to (page_count (pages S))) (all_each (λ j. j ≡ j) (λ j. refl) (up_to (page_count (pages S)))))))))

    -- each page is free or a live region's
    pub pages_held_lem : pages_held (begin S) ≡ every (λ j. eqb (owner_at (pages S) j) 0 || not (eqb (holder_of j) 0)) (up_to (page_count (pages S)))
    unfolding pages_held begin name_of name_in
    pages_held_lem = every_below _ _ (page_count (pages S)) (λ j h. rw (free_times j h, held_times j h, holders_live j) (go (eqb (owner_at (pages S) j) 0) (eqb (holder_of j) 0) (λ e. rw (eqb-true (owner_at (pages S) j) 0 e))))
      where
        go : (a b : Bool) → (a ≡ true → b ≡ true) → (eqb (bit a + bit (not b)) 1 && true) ≡ (a || not b)
        go true true h = refl
        go true false h = absurd (true≢false (sym (h refl)))
        go false true h = refl
        go false false h = refl

    pub pages_filled : every (filled S) (listed_held S) ≡ every (λ j. eqb (holder_of j) 0 || filled S (holding j)) (up_to (page_count (pages S)))
    unfolding listed_held
    pages_filled = every_keep (filled S) (λ t. eqb t.region 0) (map holding (up_to (page_count (pages S)))) ∙ every_map (λ t. eqb t.region 0 || filled S t) holding (up_to (page_count (pages S)))

    -- ---- names that are no other entry's

    module _ (few : (i : ℕ) → name_at (regions S) i ≢ 0 → count_of (named (name_at (regions S) i)) (up_to 64) ≡ 1) where
      one_entry : (i k : ℕ) → name_at (regions S) i ≢ 0 → name_at (regions S) k ≡ name_at (regions S) i → k ≡ i
      one_entry i k h e =
          let r = name_at (regions S) i in
          only_one (named r) 64 k i (few i h) (used_below k (λ z. h (sym e ∙ z))) (used_below i h) (eq-eqb (name_at (regions S) k) r e) (eq-eqb r r refl)

      -- a region is known by its name as by its tag
      pub name_same : (t i : ℕ) → name_at (regions S) i ≢ 0 → eqb (name_of (regions S) t) (name_at (regions S) i) ≡ eqb t (suc i)
      unfolding name_of name_at name_in
      name_same zero i h = ne_eqb 0 (name_at (regions S) i) (λ e. h (sym e)) ∙ sym (eqb-zero-suc i)
      name_same (suc k) i h = by_test (eqb k i)
          (λ e. rw (eqb-suc-suc k i, e) (eq-eqb (name_at (regions S) k) (name_at (regions S) i) (ap (name_at (regions S)) (eqb-true k i e))))
          (λ e. rw (eqb-suc-suc k i, e) (ne_eqb (name_at (regions S) k) (name_at (regions S) i) (λ q. eqb-false k i e (one_entry i k h q))))

      find_entry : (i : ℕ) → name_at (regions S) i ≢ 0 → find_or (named (name_at (regions S) i)) 64 (up_to 64) ≡ i
      find_entry i h =
          let r = name_at (regions S) i in
          find_first (named r) 64 64 i (used_below i h) (eq-eqb r r refl) (λ k l. ne_eqb (name_at (regions S) k) r (λ e. omega (arith, one_entry i k h e)))

      pub entry_is : (i : ℕ) → name_at (regions S) i ≢ 0 → entry_of (regions S) (name_at (regions S) i) ≡ i
      unfolding entry_of entry_in name_at
      entry_is i h = rw (ne_eqb (name_at (regions S) i) 0 h) (find_entry i h)

      pub parent_is : (i : ℕ) → name_at (regions S) i ≢ 0 → parent_of (begin S) (name_at (regions S) i) ≡ name_of (regions S) (parent_at (regions S) i)
      unfolding begin listed_regions entries
      parent_is i h =
          let r = name_at (regions S) i in
          let f : ℕ → Region = λ i. record { name = name_at (regions S) i; parent = name_of (regions S) (parent_at (regions S) i) } in
          let some : any_of (named r) (entries S) ≡ true = any_keep (named r) (λ i. not (eqb (name_at (regions S) i) 0)) (named_used r h) (up_to 64) ∙ any_one (named r) 64 i (used_below i h) (eq-eqb r r refl) in
          ap (λ g. g.parent) (find_changed (λ g. eqb g.name r) f (record { name = 0; parent = 0 }) 64 (entries S) some)
          ∙ ap (λ k. name_of (regions S) (parent_at (regions S) k)) (find_keep (named r) (λ i. not (eqb (name_at (regions S) i) 0)) 64 (named_used r h) (up_to 64) ∙ find_entry i h)
