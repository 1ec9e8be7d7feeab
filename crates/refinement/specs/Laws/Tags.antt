-- Entries and tags of a store whose regions agree with a model's: each live region has one entry, and its tag gives back its name.
-- Assumes nothing.
use Rattle.std.specs.Prelude.{◌≡◌, ◌⊎◌, ◌≢◌, Bool, not, ◌&&◌, ◌||◌, List, map, ltb, length}
use Rattle.std.proofs.Math.Path.{refl, sym, ap, fun_ext}
use Rattle.std.proofs.Common.{◌∙◌, inl, inr, true≢false, add-one, arith}
use Rattle.std.proofs.Math.Bool.{true, false}
use Prim.Native.Nat.{ℕ, zero, suc, ◌<◌, ◌≤◌, min}
use Rattle.std.proofs.Math.Dec.{eqb}
use borrow.Author.Tests.{eqb-true, eqb-false, eq-eqb, ne_eqb, lt-ltb}
use Rattle.lists.specs.Lists.{bit, pick, any_of, sum_of, count_of, All, up_to, among}
use Rattle.lists.specs.Laws.Tests.{by_test, by_same}
use Rattle.lists.specs.Laws.All.{all_map, all_both, all_change}
use Rattle.lists.specs.Laws.Sums.{sum_same, sum_ones, sum_pick}
use Rattle.lists.specs.Laws.Finds.{any_map, any_same, false_any, any_count, find_none, all_find}
use Rattle.lists.specs.Laws.Kept.{all_each, among_self, all_among}
use Rattle.lists.specs.Laws.UpTo.{any_one, one_passes, sum_below}
use Rattle.model.specs.Model.{Model, no_region, called, region, lives_in, parent_in, subregions, climb, above}
use Rattle.model.specs.Valid.{Valid}
use Rattle.model.proofs.Laws.Regions.{distinct_once, found_itself}
use Rattle.model.proofs.Laws.Climb.{climb_map, parent_lives, level_deep, above_enough}
use Rattle.regions.specs.declared.Regions.{Regions}
use Rattle.regions.specs.Laws.Entries.{name_none, name_of_lem, entry_find, entry_found, unused_found}
use Rattle.regions.specs.Regions.{name_at, name_of, entry_of, tag_of, is_live, live_count, parent_at, subregions_of, unused, entry_in, live_in, name_in, subregions_in, level_at, up_in, level_in, above_in}
use Rattle.refinement.specs.Represents.{RegionsAgree, tag_for}

pub tag_some : (g : Regions) (r : ℕ) → tag_of g r ≢ 0
unfolding tag_of
tag_some g r e = omega arith

pub for_some : (g : Regions) (r : ℕ) → r ≢ 0 → tag_for g r ≡ tag_of g r
for_some g zero n = absurd (n refl)
for_some g (suc r) n = refl

abbrev holds : Regions → ℕ → ℕ → Bool
holds g r i = eqb (name_at g i) r

-- r is 0, for none, or lives
abbrev pub Named : Model → ℕ → Type 0
Named L r = (eqb r 0 || lives_in L r) ≡ true

module _ {L : Model} {sp : List ℕ} {g : Regions} (a : RegionsAgree L sp g) where
  -- ---- names

  -- as many entries have a name as regions
  entries_named : (r : ℕ) → r ≢ 0 → count_of (holds g r) (up_to 64) ≡ count_of (called r) L.regions
  entries_named r n = ap (λ f. sum_of f (up_to 64)) (fun_ext (λ i. go i (eqb (name_at g i) 0) refl)) ∙ a.rows (λ x. bit (eqb x r))
    where
      go : (i : ℕ) (b : Bool) → eqb (name_at g i) 0 ≡ b → bit (eqb (name_at g i) r) ≡ pick b 0 (bit (eqb (name_at g i) r))
      go i true e = rw (eqb-true (name_at g i) 0 e, ne_eqb 0 r (λ q. n (sym q)))
      go i false e = refl

  some_entry : (r : ℕ) → r ≢ 0 → any_of (holds g r) (up_to 64) ≡ lives_in L r
  some_entry r n = any_count (holds g r) (up_to 64) ∙ ap (ltb 0) (entries_named r n) ∙ sym (any_count (called r) L.regions)

  -- no live region has the name 0
  pub zero_dead : lives_in L 0 ≡ false
  zero_dead = any_count (called 0) L.regions ∙ ap (ltb 0) (sym (a.rows (λ x. bit (eqb x 0))) ∙ ap (λ f. sum_of f (up_to 64)) (fun_ext (λ i. go (eqb (name_at g i) 0))) ∙ sum_pick false (λ i. 0) (up_to 64))
    where
      go : (b : Bool) → pick b 0 (bit b) ≡ 0
      go true = refl
      go false = refl

  pub live_named : (r : ℕ) → lives_in L r ≡ true → r ≢ 0
  live_named r l e = true≢false (sym l ∙ ap (lives_in L) e ∙ zero_dead)

  module _ (r : ℕ) (l : lives_in L r ≡ true) where
    pub entry_in_lem : entry_of g r < 64
    entry_in_lem = (entry_found g r (live_named r l) (some_entry r (live_named r l) ∙ l)).0

    pub entry_name : name_at g (entry_of g r) ≡ r
    entry_name = (entry_found g r (live_named r l) (some_entry r (live_named r l) ∙ l)).1

    pub tag_name : name_of g (tag_of g r) ≡ r
    unfolding tag_of
    tag_name = name_of_lem g (entry_of g r) ∙ entry_name

    pub tag_for_lem : tag_for g r ≡ tag_of g r
    tag_for_lem = for_some g r (live_named r l)

  pub live_is : (r : ℕ) → is_live g r ≡ lives_in L r
  unfolding is_live entry_of entry_in name_at
  live_is r = by_test (lives_in L r) (λ l. lt-ltb (entry_of g r) 64 (entry_in_lem r l) ∙ sym l) (λ l. go r l (by_same r 0))
    where
      go : (r : ℕ) → lives_in L r ≡ false → (r ≡ 0) ⊎ (r ≢ 0) → is_live g r ≡ lives_in L r
      go r l (inl e) = rw (e, zero_dead)
      go r l (inr n) = rw (l, entry_find g r n, find_none (holds g r) 64 (up_to 64) (some_entry r n ∙ l))

  pub for_name : (r : ℕ) → Named L r → name_of g (tag_for g r) ≡ r
  unfolding name_of name_in
  for_name zero k = refl
  for_name (suc r) k = tag_name (suc r) (rw (ne_eqb (suc r) 0 (λ e. omega arith)) at k)

  pub for_same : (r q : ℕ) → Named L r → Named L q → eqb (tag_for g r) (tag_for g q) ≡ eqb r q
  for_same r q k m = by_test (eqb r q) (λ e. rw (eqb-true r q e, eq-eqb (tag_for g q) (tag_for g q) refl, eq-eqb q q refl))
      (λ e. rw e (ne_eqb (tag_for g r) (tag_for g q) (λ t. eqb-false r q e (sym (for_name r k) ∙ ap (name_of g) t ∙ for_name q m))))

  pub live_for : (r : ℕ) → lives_in L r ≡ true → Named L r
  live_for r l = rw (ne_eqb r 0 (live_named r l)) l

  pub tag_same : (r q : ℕ) → lives_in L r ≡ true → lives_in L q ≡ true → eqb (tag_of g r) (tag_of g q) ≡ eqb r q
  tag_same r q l m = rw (← (tag_for_lem r l), ← (tag_for_lem q m)) (for_same r q (live_for r l) (live_for q m))

  pub tag_injective : (r q : ℕ) → lives_in L r ≡ true → lives_in L q ≡ true → tag_of g r ≡ tag_of g q → r ≡ q
  tag_injective r q l m e = sym (tag_name r l) ∙ ap (name_of g) e ∙ tag_name q m

  -- ---- several live regions

  module _ (rs : List ℕ) (ls : All (λ r. lives_in L r ≡ true) rs) where
    -- a live region is one of them where its tag is one of theirs
    pub tag_among : (q : ℕ) → lives_in L q ≡ true → among (tag_of g q) (map (tag_of g) rs) ≡ among q rs
    tag_among q l = any_map (λ t. eqb t (tag_of g q)) (tag_of g) rs ∙ any_same _ _ rs (all_map (λ r k. tag_same r q k l) rs ls)

    pub zero_tag : among 0 (map (tag_of g) rs) ≡ false
    zero_tag = any_map (λ t. eqb t 0) (tag_of g) rs ∙ false_any _ rs (all_each _ (λ r. ne_eqb (tag_of g r) 0 (tag_some g r)) rs)

    -- an entry of one of them has its name
    pub name_among : (i : ℕ) → among i (map (entry_of g) rs) ≡ true → among (name_at g i) rs ≡ true
    name_among = all_among (λ i. among (name_at g i) rs ≡ true) (map (entry_of g) rs)
        (all_change _ _ (entry_of g) (λ r h. rw (entry_name r h.0) h.1) rs (all_both _ _ rs ls (among_self rs)))

  -- ---- entries in use

  pub entry_live : (i : ℕ) → i < 64 → name_at g i ≢ 0 → lives_in L (name_at g i) ≡ true
  entry_live i h n = sym (some_entry (name_at g i) n) ∙ any_one (holds g (name_at g i)) 64 i h (eq-eqb (name_at g i) (name_at g i) refl)

  pub live_count_lem : live_count g ≡ length L.regions
  unfolding live_count live_in name_at
  live_count_lem = ap (λ f. sum_of f (up_to 64)) (fun_ext (λ i. go (eqb (name_at g i) 0))) ∙ a.rows (λ x. 1) ∙ sum_ones L.regions
    where
      go : (b : Bool) → bit (not b) ≡ pick b 0 1
      go true = refl
      go false = refl

  -- an entry is free while fewer than 64 live
  pub unused_free : length L.regions < 64 → (unused g < 64) × (name_at g (unused g) ≡ 0)
  unused_free h = unused_found g (rw live_count_lem h)

  module _ (v : Valid L) where
    -- an entry in use is the one of its name
    pub entry_own : (i : ℕ) → i < 64 → name_at g i ≢ 0 → entry_of g (name_at g i) ≡ i
    entry_own i h n =
        let r = name_at g i in
        let l = entry_live i h n in
        one_passes (holds g r) 64 i (entry_of g r) (rw (entries_named r n) (distinct_once L.regions v.names.distinct r)) h (entry_in_lem r l)
        (eq-eqb r r refl) (eq-eqb (name_at g (entry_of g r)) r (entry_name r l))

    pub entry_among : (rs : List ℕ) → All (λ r. lives_in L r ≡ true) rs → (i : ℕ) → i < 64 → among i (map (entry_of g) rs) ≡ among (name_at g i) rs
    entry_among rs ls i h = any_map (λ e. eqb e i) (entry_of g) rs ∙ any_same _ _ rs (all_map same rs ls)
      where
        same : (r : ℕ) → lives_in L r ≡ true → eqb (entry_of g r) i ≡ eqb r (name_at g i)
        same r l = by_test (eqb r (name_at g i))
            (λ e. let d = eqb-true r (name_at g i) e in rw e (eq-eqb (entry_of g r) i (ap (entry_of g) d ∙ entry_own i h (λ z. live_named r l (d ∙ z)))))
            (λ e. rw e (ne_eqb (entry_of g r) i (λ d. eqb-false r (name_at g i) e (sym (entry_name r l) ∙ ap (name_at g) d))))

    pub parent_known : (r : ℕ) → Named L (parent_in L r)
    parent_known r = all_find (λ x. Named L x.parent) (called r) no_region L.regions (all_map (λ x p. p.parent) L.regions v.parents) refl

    pub parent_name : (r : ℕ) → lives_in L r ≡ true → name_of g (parent_at g (entry_of g r)) ≡ parent_in L r
    parent_name r l = ap (name_of g) (a.entry r l).parent ∙ for_name (parent_in L r) (parent_known r)

    -- t is the tag of a live region
    abbrev Tag : ℕ → Type 0
    Tag t = (r : ℕ) × (lives_in L r ≡ true) × (t ≡ tag_of g r)

    -- one step up, by tags
    up_is : (r : ℕ) → lives_in L r ≡ true → up_in g.parents (tag_of g r) ≡ tag_for g (parent_in L r)
    unfolding up_in tag_of parent_at
    up_is r l = rw (add-one (entry_of g r)) (a.entry r l).parent

    up_tag : (t : ℕ) → Tag t → up_in g.parents t ≢ 0 → Tag (up_in g.parents t)
    up_tag t (r, l, e) h =
        let u = ap (up_in g.parents) e ∙ up_is r l in
        let n : parent_in L r ≢ 0 = λ z. h (u ∙ ap (tag_for g) z) in
        (parent_in L r, parent_lives L v r l n, u ∙ for_some g (parent_in L r) n)

    level_bound : (r : ℕ) → lives_in L r ≡ true → (region L.regions r).level ≤ min (level_in g.levels (tag_of g r)) 16
    unfolding level_in tag_of level_at
    level_bound r l =
        let e : level_in g.levels (tag_of g r) ≡ (region L.regions r).level = rw (add-one (entry_of g r)) (a.entry r l).level in
        omega (arith, e, level_deep L v r l)

    -- the climb by tags from a live region meets the regions above it, by name
    pub above_is : (r : ℕ) → lives_in L r ≡ true → above_in g.names g.parents g.levels (tag_of g r) ≡ above (parent_in L) r
    unfolding above_in name_of
    above_is r l =
        let n = min (level_in g.levels (tag_of g r)) 16 in
        sym (climb_map (up_in g.parents) Tag up_tag (name_of g) (parent_in L) (name_none g) named step n (tag_of g r) (r, l, refl))
        ∙ ap (climb (parent_in L) n) (tag_name r l)
        ∙ above_enough L v n r l (level_bound r l)
      where
        named : (t : ℕ) → Tag t → t ≢ 0 → name_of g t ≢ 0
        named t (q, m, e) h z = live_named q m (sym (tag_name q m) ∙ ap (name_of g) (sym e) ∙ z)

        step : (t : ℕ) → Tag t → parent_in L (name_of g t) ≡ name_of g (up_in g.parents t)
        step t (q, m, e) = ap (parent_in L) (ap (name_of g) e ∙ tag_name q m) ∙ sym (ap (name_of g) (ap (up_in g.parents) e ∙ up_is q m) ∙ for_name (parent_in L q) (parent_known q))

    pub subregions_are : (r : ℕ) → lives_in L r ≡ true → subregions_of g (tag_of g r) ≡ subregions L r
    unfolding subregions_of subregions_in name_at parent_at
    subregions_are r l = sum_below (λ i. bit (not (eqb (name_at g i) 0) && eqb (parent_at g i) (tag_of g r))) (λ i. pick (eqb (name_at g i) 0) 0 (bit (eqb (parent_in L (name_at g i)) r))) 64 below
        ∙ a.rows (λ n. bit (eqb (parent_in L n) r))
        ∙ sum_same _ _ L.regions (all_map (λ x e. ap (λ y. bit (eqb y.parent r)) e) L.regions (found_itself L.regions v.names.distinct))
      where
        below : (i : ℕ) → i < 64 → bit (not (eqb (name_at g i) 0) && eqb (parent_at g i) (tag_of g r)) ≡ pick (eqb (name_at g i) 0) 0 (bit (eqb (parent_in L (name_at g i)) r))
        below i h = go (eqb (name_at g i) 0) refl
          where
            go : (b : Bool) → eqb (name_at g i) 0 ≡ b → bit (not b && eqb (parent_at g i) (tag_of g r)) ≡ pick b 0 (bit (eqb (parent_in L (name_at g i)) r))
            go true e = refl
            go false e =
                let n = eqb-false (name_at g i) 0 e in
                let p : parent_at g i ≡ tag_for g (parent_in L (name_at g i)) = rw (entry_own i h n) at (a.entry (name_at g i) (entry_live i h n)).parent in
                rw (p, ← (tag_for_lem r l)) (ap bit (for_same (parent_in L (name_at g i)) r (parent_known (name_at g i)) (live_for r l)))
