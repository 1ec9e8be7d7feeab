-- What a memory lists, where it represents a valid model: the regions.
-- Assumes nothing.
use Rattle.std.specs.Prelude.{◌≡◌, ◌≢◌, Bool, ◌&&◌, ◌||◌, List, map, leb}
use Rattle.std.proofs.Math.Path.{refl, sym, ap}
use Rattle.std.proofs.Common.{◌∙◌, subst, arith}
use Rattle.std.proofs.Math.Bool.{true}
use Prim.Native.Nat.{ℕ, zero, suc, ◌+◌, ◌≤◌}
use Rattle.std.proofs.Math.Numerals.{add-one}
use Rattle.std.proofs.Math.Dec.{eqb, ltb}
use borrow.Author.Tests.{lt-ltb, le-leb, eqb-true, eq-eqb, ne_eqb}
use Rattle.lists.specs.Lists.{bit, any_of, every, count_of, times, among}
use Rattle.lists.specs.Laws.Tests.{by_test, or_right, or_other}
use Rattle.lists.specs.Laws.Sums.{sum_map}
use Rattle.lists.specs.Laws.Finds.{any_map, any_count, all_found, true_every}
use Rattle.model.specs.Model.{Model, Region, no_region, called, region, lives_in, home_in, parent_in}
use Rattle.model.specs.Valid.{ValidParent, OwnOldest, level_of}
use Rattle.model.proofs.Laws.Regions.{live_all, name_is, distinct_one}
use Rattle.regions.specs.Regions.{name_at, entry_of, tag_of, level_at, newest_at}
use Rattle.pages.specs.Pages.{page_count, owner_at}
use Rattle.outcomes.specs.Store.{Store, regions, pages}
use Rattle.outcomes.specs.History.{entries}
use Rattle.outcomes.specs.Sound.{placed, newest_own, oldest_own}
use Rattle.refinement.specs.Represents.{spot, tag_for, RoomAgrees}
use Rattle.refinement.specs.Laws.Tags.{entry_name}
use Rattle.refinement.specs.Laws.Reads.{page_count_lem}
use Rattle.audited.specs.Laws.RebuildRegions.{entries_by}
use Rattle.histories.specs.Laws.Tells.{home_is}
use Rattle.audited.specs.Laws.AuditedObjects.{Agrees}
use Rattle.audited.specs.Laws.AuditedLists.{entries_all, begin_tells}

module _ {L : Model} {sp : List ℕ} {ids : ℕ → List ℕ} (S : Store) (a : Agrees L sp ids S) where
  -- a test over the entries holds if it does at each live region's
  pub entries_every : (f : ℕ → Bool) → ((r : ℕ) → lives_in L r ≡ true → f (entry_of (regions S) r) ≡ true) → every f (entries S) ≡ true
  entries_every f h = true_every f (entries S) (entries_all S a (λ i. f i ≡ true) h)

  -- how often a name is listed
  entries_named : (r : ℕ) → count_of (λ i. eqb (name_at (regions S) i) r) (entries S) ≡ count_of (called r) L.regions
  entries_named r = entries_by S (λ n. bit (eqb n r)) ∙ a.on_regions.rows (λ n. bit (eqb n r))

  entries_live : (r : ℕ) → any_of (λ i. eqb (name_at (regions S) i) r) (entries S) ≡ lives_in L r
  entries_live r = any_count (λ i. eqb (name_at (regions S) i) r) (entries S) ∙ ap (ltb 0) (entries_named r) ∙ sym (any_count (called r) L.regions)

  pub permanent : among 1 (map (name_at (regions S)) (entries S)) ≡ true
  permanent = any_map (λ x. eqb x 1) (name_at (regions S)) (entries S) ∙ entries_live 1 ∙ a.valid.names.permanent

  -- ---- the audit's tests of an entry

  module _ (r : ℕ) (l : lives_in L r ≡ true) where
    -- region r and its entry
    abbrev g : Region
    g = region L.regions r

    abbrev i : ℕ
    i = entry_of (regions S) r

    valid_parent : ValidParent L.regions g
    valid_parent = all_found (ValidParent L.regions) (called r) no_region L.regions a.valid.parents l

    pub distinct : eqb (times (name_at (regions S) i) (map (name_at (regions S)) (entries S))) 1 ≡ true
    distinct = rw (entry_name a.on_regions r l) (eq-eqb (times r (map (name_at (regions S)) (entries S))) 1
        (sum_map (λ x. bit (eqb x r)) (name_at (regions S)) (entries S) ∙ entries_named r ∙ distinct_one L.regions r a.valid.names.distinct l))

    pub deep : leb (level_at (regions S) i) 16 ≡ true
    deep = le-leb (level_at (regions S) i) 16 (omega (arith, (a.on_regions.entry r l).level, valid_parent.deep))

    pub names_given : leb (name_at (regions S) i) (regions S).given ≡ true
    names_given = le-leb (name_at (regions S) i) (regions S).given (rw (entry_name a.on_regions r l, a.on_regions.given) (live_all (λ r. r ≤ L.given) L.regions r a.valid.names.names_given (omega arith) l))

    -- its level by the region above
    level_by : (u : ℕ) → parent_in L r ≡ u → level_at (regions S) i ≡ level_of L.regions u + 1
    level_by u e = (a.on_regions.entry r l).level ∙ valid_parent.level ∙ ap (λ u. level_of L.regions u + 1) e

    pub stands : placed S i ≡ true
    unfolding placed tag_of
    stands = go (parent_in L r) refl
      where
        go : (u : ℕ) → parent_in L r ≡ u → placed S i ≡ true
        go zero e = rw ((a.on_regions.entry r l).parent ∙ ap (tag_for (regions S)) e, placed) (eq-eqb (level_at (regions S) i) 1 (level_by 0 e))
        go (suc u) e =
            let w = entry_of (regions S) (suc u) in
            let m : lives_in L (suc u) ≡ true = rw (ne_eqb (suc u) 0 (λ z. omega arith)) at (subst (λ x. (eqb x 0 || lives_in L x) ≡ true) e valid_parent.parent) in
            let n : name_at (regions S) w ≢ 0 = λ z. omega (arith, entry_name a.on_regions (suc u) m) in
            let o : name_at (regions S) i ≢ 1 = λ z. omega (arith, sym e ∙ ap (parent_in L) (sym (entry_name a.on_regions r l) ∙ z) ∙ a.valid.names.root) in
            rw ((a.on_regions.entry r l).parent ∙ ap (tag_for (regions S)) e ∙ add-one w, placed) (rw (
              ne_eqb (name_at (regions S) w) 0 n,
              eq-eqb (level_at (regions S) i) (level_at (regions S) w + 1) (omega (arith, level_by (suc u) e, (a.on_regions.entry (suc u) m).level)),
              ne_eqb (name_at (regions S) i) 1 o,
            ))

    pub own_newest : newest_own S i ≡ true
    unfolding newest_own tag_of
    own_newest = go (newest_at (regions S) i) (a.on_pages.room r l)
      where
        go : (n : ℕ) → RoomAgrees g (pages S) (tag_of (regions S) r) n → elim n [ zero ↦ true | suc j ↦ ltb j (page_count (pages S)) && eqb (owner_at (pages S) j) (i + 1) ] ≡ true
        go zero h = refl
        go (suc j) h = rw (lt-ltb j (page_count (pages S)) (omega (arith, page_count_lem a.on_pages, h.made)), eq-eqb (owner_at (pages S) j) (i + 1) h.own)

    pub own_oldest : oldest_own S i ≡ true
    unfolding oldest_own
    own_oldest =
        let o = g.oldest in
        rw ((a.on_regions.entry r l).oldest, entry_name a.on_regions r l) (by_test (eqb o 0) (λ e. rw (eqb-true o 0 e)) (λ e.
        let h : home_in L o ≡ r = eqb-true (home_in L o) g.name (or_other (eqb o 0) (eqb (home_in L o) g.name) own e) ∙ name_is L.regions r l in
        or_right (eqb (spot sp o) 0) _ (rw (home_is (begin_tells S a) a.valid a.on_objects o (or_right (eqb o 0) (lives_in L (home_in L o)) (rw h l)), h) (eq-eqb r r refl))))
      where
        own : OwnOldest (home_in L) g
        own = all_found (OwnOldest (home_in L)) (called r) no_region L.regions a.valid.oldest l
