-- A history goes on telling of the pages: new region, allocate and delete. The other calls leave names and owners.
-- Assumes nothing.
use Rattle.std.specs.Prelude.{◌≡◌, refl, ◌⊎◌, ◌≢◌, true, false, ◌&&◌, List, [], ◌∷◌, ◌++◌, map, eqb, ltb, length, set}
use Rattle.std.proofs.Math.Path.{sym, ap, fun_ext}
use Rattle.std.proofs.Common.{◌∙◌, inl, inr, true≢false, append-nil, add-zero, get_or-set_other, eq-eqb, ne_eqb, ltb-true}
use Rattle.std.proofs.Math.Bool.{Bool, not}
use Rattle.std.proofs.lemmas.List.{map-append}
use Prim.Native.Nat.{ℕ, zero, suc, ◌+◌, ◌/◌, ◌≤◌, ◌<◌}
use native.Mathlib.Omega.{arith}
use Rattle.std.proofs.Math.ListN.{get_or}
use Rattle.lists.specs.Lists.{bit, pick, every, keep, sum_of, All, joined, times, among}
use Rattle.lists.specs.Laws.Tests.{by_test, by_same, pick_same, eqb_sym}
use Rattle.lists.specs.Laws.Sums.{sum_append, sum_nothing, sum_map, sum_joined, sum_keep}
use Rattle.lists.specs.Laws.Finds.{any_count, times_keep, keep_append}
use Rattle.model.specs.Model.{Model, lives_in}
use Rattle.regions.specs.declared.Regions.{Regions}
use Rattle.regions.specs.Regions.{name_at, entry_of, tag_of, cleared_at}
use Rattle.regions.specs.Laws.Removed.{cleared_at_lem}
use Rattle.pages.specs.declared.Pages.{Pages}
use Rattle.pages.specs.Pages.{owner_at, with_taken, freed, owners_to}
use Rattle.pages.specs.Laws.Taken.{owner_here, owner_else}
use Rattle.pages.specs.Laws.Gone.{gone_owner}
use Rattle.outcomes.specs.History.{History, Holding, holders}
use Rattle.refinement.specs.Represents.{RegionsAgree, Owned, PagesAgree}
use Rattle.refinement.specs.Laws.Tags.{entry_name, live_named, tag_some, tag_among, name_among}
use Rattle.refinement.specs.Laws.Reads.{page_count_lem}
use Rattle.demands.specs.Told.{object_made, pages_held_by, ended}
use Rattle.histories.specs.Laws.TellsPages.{holding, TellsPages, holding_tag, held_by, held_kept}

-- a name written at another entry
holding_else : (names : List ℕ) (i x t : ℕ) → t ≢ i + 1 → holding (set names i x) t ≡ holding names t
holding_else names i x zero n = refl
holding_else names i x (suc k) n = ap (λ m. m ∷ []) (get_or-set_other names i k x 0 (λ e. n (omega arith)))

-- the entries es given up, of which this owner's is none
holding_left : (names es : List ℕ) (t : ℕ) → ((i : ℕ) → t ≡ i + 1 → among i es ≡ false) → holding (cleared_at names es) t ≡ holding names t
holding_left names es zero n = refl
holding_left names es (suc k) n = ap (λ m. m ∷ []) (cleared_at_lem names es k ∙ rw (n k (omega arith)))

-- how often r holds page j, by its pages
times_held : (j r : ℕ) (l : List Holding) → times j (map (λ t. t.page) (keep (λ t. eqb t.region r) l)) ≡ times r (held_by j l)
times_held j r l =
    sum_map (λ x. bit (eqb x j)) (λ t. t.page) (keep (λ t. eqb t.region r) l) ∙ sum_keep (λ t. bit (eqb t.page j)) (λ t. eqb t.region r) l
    ∙ ap (λ f. sum_of f l) (fun_ext (λ t. go (eqb t.region r) (eqb t.page j)))
    ∙ sym (sum_map (λ x. bit (eqb x r)) (λ t. t.region) (keep (λ t. eqb t.page j) l) ∙ sum_keep (λ t. bit (eqb t.region r)) (λ t. eqb t.page j) l)
  where
    go : (a b : Bool) → pick a (bit b) 0 ≡ pick b (bit a) 0
    go true true = refl
    go true false = refl
    go false true = refl
    go false false = refl

held_more : (j : ℕ) (l : List Holding) (t : Holding) → held_by j (l ++ (t ∷ [])) ≡ held_by j l ++ held_by j (t ∷ [])
held_more j l t = ap (map (λ t. t.region)) (keep_append (λ t. eqb t.page j) l (t ∷ [])) ∙ map-append (λ t. t.region) (keep (λ t. eqb t.page j) l) _

-- a call that tells nothing of pages
pub same_pages : {h k : History} {names : List ℕ} {p : Pages} → k.held ≡ h.held → k.free ≡ h.free → k.pages ≡ h.pages → TellsPages h names p → TellsPages k names p
same_pages a b c u = record { pages = c ∙ u.pages; free = λ j l. ap (times j) b ∙ u.free j l; held = λ j l. ap (held_by j) a ∙ u.held j l; none = λ j l. (ap (times j) b ∙ (u.none j l).0, ap (held_by j) a ∙ (u.none j l).1) }

module _ {L : Model} {sp : List ℕ} {h : History} {g : Regions} {p : Pages} {words : ℕ} (ra : RegionsAgree L sp g) (pa : PagesAgree L g p words) (u : TellsPages h g.names p) where
  -- a name at an entry that was not in use
  pub named_pages : (i x : ℕ) → name_at g i ≡ 0 → TellsPages h (set g.names i x) p
  unfolding tag_of
  named_pages i x z = record { pages = u.pages; free = u.free; held = λ j l. u.held j l ∙ sym (holding_else g.names i x (owner_at p j) (other j (pa.owned j l))); none = u.none }
    where
      other : (j : ℕ) → Owned L g p j → owner_at p j ≢ i + 1
      other j (inl (y, o)) e = omega arith
      other j (inr (l, o)) e =
          let r = get_or L.holders j 0 in
          let d : entry_of g r ≡ i = omega arith in
          live_named ra r l (sym (entry_name ra r l) ∙ ap (name_at g) d ∙ z)

  -- ---- delete, of several regions that live, each named once

  module _ (rs : List ℕ) (ls : All (λ r. lives_in L r ≡ true) rs) (once : (q : ℕ) → times q rs ≤ 1) where
    -- how often a page is freed that these hold: once for each of them that holds it, if no other does
    abbrev freeings : List ℕ → ℕ
    freeings qs = pick (every (λ q. among q rs) qs) (sum_of (λ r. times r qs) rs) 0

    freeings_none : freeings [] ≡ 0
    freeings_none = sum_nothing (λ r. 0) (λ r. refl) rs

    freeings_one : (q : ℕ) → freeings (q ∷ []) ≡ bit (among q rs)
    freeings_one q = ap (λ f. pick (among q rs && true) (sum_of f rs) 0) (fun_ext (λ r. add-zero (bit (eqb q r)) ∙ ap bit (eqb_sym q r))) ∙ go (among q rs) (any_count (λ r. eqb r q) rs)
      where
        go : (b : Bool) → b ≡ ltb 0 (times q rs) → pick (b && true) (times q rs) 0 ≡ bit b
        go true e = omega (arith, once q, ltb-true 0 (times q rs) (sym e))
        go false e = refl

    ended_free : (j : ℕ) → times j (ended h rs).free ≡ times j h.free + freeings (holders h j)
    unfolding ended
    ended_free j =
        let alone : ℕ → Bool = λ j. every (λ q. among q rs) (holders h j) in
        sum_append (λ x. bit (eqb x j)) h.free (keep alone (joined (pages_held_by h) rs))
        ∙ ap (λ n. times j h.free + n) (times_keep j alone (joined (pages_held_by h) rs)
        ∙ ap (λ n. pick (alone j) n 0) (sum_joined (λ x. bit (eqb x j)) (pages_held_by h) rs ∙ ap (λ f. sum_of f rs) (fun_ext (λ r. times_held j r h.held))))

    other_entry : (q : ℕ) → among q rs ≡ false → lives_in L q ≡ true → (i : ℕ) → tag_of g q ≡ i + 1 → among i (map (entry_of g) rs) ≡ false
    unfolding tag_of
    other_entry q n lq i z =
        let d : i ≡ entry_of g q = omega arith in
        by_test (among i (map (entry_of g) rs)) (λ e. absurd (true≢false (sym (name_among ra rs ls i e) ∙ ap (λ x. among x rs) (ap (name_at g) d ∙ entry_name ra q lq) ∙ n))) (λ e. e)

    ended_page : (j : ℕ) → j < p.made → Owned L g p j
        → let o = owner_at (freed p (map (tag_of g) rs)) j in
        (times j (ended h rs).free ≡ bit (eqb o 0)) × (keep (λ q. not (among q rs)) (holders h j) ≡ holding (cleared_at g.names (map (entry_of g) rs)) o)
    ended_page j l (inl (z, o)) =
        rw (ended_free j, gone_owner p (map (tag_of g) rs) j (omega (arith, page_count_lem pa)), u.free j l, u.held j l, o, pick_same {A = ℕ} (among 0 (map (tag_of g) rs)) 0) (omega (arith, freeings_none), refl)
    ended_page j l (inr (lq, o)) =
        let q = get_or L.holders j 0 in
        rw (ended_free j, gone_owner p (map (tag_of g) rs) j (omega (arith, page_count_lem pa)), u.free j l, u.held j l, o, holding_tag ra q lq, tag_among ra rs ls q lq, ne_eqb (tag_of g q) 0 (tag_some g q), freeings_one q)
        (by_test (among q rs) (λ e. rw e (refl, refl))
        (λ e. rw (e, ne_eqb (tag_of g q) 0 (tag_some g q)) (refl, sym (holding_left g.names (map (entry_of g) rs) (tag_of g q) (other_entry q e lq) ∙ holding_tag ra q lq))))

    pub ended_pages : TellsPages (ended h rs) (cleared_at g.names (map (entry_of g) rs)) (freed p (map (tag_of g) rs))
    unfolding ended freed owners_to owner_at
    ended_pages = record {
      pages = u.pages;
      free = λ j l. (ended_page j l (pa.owned j l)).0;
      held = λ j l. held_kept j (λ q. not (among q rs)) h.held ∙ (ended_page j l (pa.owned j l)).1;
      none = λ j l. (
        ended_free j ∙ rw ((u.none j l).0, (u.none j l).1) (omega (arith, freeings_none)),
        held_kept j (λ q. not (among q rs)) h.held ∙ ap (keep (λ q. not (among q rs))) (u.none j l).1,
      );
    }

  module _ (r : ℕ) (lr : lives_in L r ≡ true) where
    -- ---- allocate

    module _ (k n x : ℕ) (room : x / 64 < length p.owners) (made : x / 64 < p.made) where
      abbrev p₂ : Pages
      p₂ = with_taken p (x / 64) (tag_of g r) n

      placed_free : (j : ℕ) → j < p.made → times j (keep (λ j. not (eqb j (x / 64))) h.free) ≡ bit (eqb (owner_at p₂ j) 0)
      placed_free j l = times_keep j (λ j. not (eqb j (x / 64))) h.free ∙ go (by_same j (x / 64))
        where
          go : (j ≡ x / 64) ⊎ (j ≢ x / 64) → pick (not (eqb j (x / 64))) (times j h.free) 0 ≡ bit (eqb (owner_at p₂ j) 0)
          go (inl e) = rw (e, eq-eqb (x / 64) (x / 64) refl, owner_here p (x / 64) (tag_of g r) n room, ne_eqb (tag_of g r) 0 (tag_some g r))
          go (inr d) = rw (ne_eqb j (x / 64) d, owner_else p (x / 64) (tag_of g r) n j d) (u.free j l)

      -- it was the region's, or free
      placed_held : (owner_at p (x / 64) ≡ tag_of g r) ⊎ (owner_at p (x / 64) ≡ 0) → (j : ℕ) → j < p.made
          → held_by j (pick (among r (holders h (x / 64))) h.held (h.held ++ (record { page = x / 64; region = r } ∷ []))) ≡ holding g.names (owner_at p₂ j)
      placed_held (inl o) j l =
          rw (u.held (x / 64) made, o, holding_tag ra r lr, eq-eqb r r refl) (u.held j l ∙ go (by_same j (x / 64)))
        where
          go : (j ≡ x / 64) ⊎ (j ≢ x / 64) → holding g.names (owner_at p j) ≡ holding g.names (owner_at p₂ j)
          go (inl e) = rw (e, o, owner_here p (x / 64) (tag_of g r) n room)
          go (inr d) = rw (owner_else p (x / 64) (tag_of g r) n j d)
      placed_held (inr o) j l = rw (u.held (x / 64) made, o) (held_more j h.held (record { page = x / 64; region = r }) ∙ go (by_same j (x / 64)))
        where
          go : (j ≡ x / 64) ⊎ (j ≢ x / 64) → held_by j h.held ++ held_by j (record { page = x / 64; region = r } ∷ []) ≡ holding g.names (owner_at p₂ j)
          go (inl e) = rw (u.held j l, e, o, eq-eqb (x / 64) (x / 64) refl, owner_here p (x / 64) (tag_of g r) n room, holding_tag ra r lr)
          go (inr d) = rw (ne_eqb (x / 64) j (λ e. d (sym e)), append-nil, owner_else p (x / 64) (tag_of g r) n j d) (u.held j l)

      -- no page that was not made is told of
      placed_none : (j : ℕ) → p.made ≤ j
          → (times j (keep (λ j. not (eqb j (x / 64))) h.free) ≡ 0) × (held_by j (pick (among r (holders h (x / 64))) h.held (h.held ++ (record { page = x / 64; region = r } ∷ []))) ≡ [])
      placed_none j l =
          let d : j ≢ x / 64 = λ e. omega arith in
          (times_keep j (λ j. not (eqb j (x / 64))) h.free ∙ rw (ne_eqb j (x / 64) d) (u.none j l).0, go (λ e. d (sym e)) (among r (holders h (x / 64))))
        where
          go : x / 64 ≢ j → (b : Bool) → held_by j (pick b h.held (h.held ++ (record { page = x / 64; region = r } ∷ []))) ≡ []
          go d true = (u.none j l).1
          go d false = held_more j h.held (record { page = x / 64; region = r }) ∙ rw (ne_eqb (x / 64) j d, append-nil) (u.none j l).1

      pub placed_pages : (owner_at p (x / 64) ≡ tag_of g r) ⊎ (owner_at p (x / 64) ≡ 0) → TellsPages (object_made h r k (suc x)) g.names p₂
      unfolding with_taken
      placed_pages o = record { pages = u.pages; free = placed_free; held = placed_held o; none = placed_none }
