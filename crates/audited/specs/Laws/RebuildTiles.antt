-- The objects of the model that an audited memory lists fill the held pages.
-- Assumes nothing.
use Rattle.std.specs.Prelude.{◌≡◌, ◌≢◌, ◌⊎◌, Bool, true, false, ◌&&◌, ltb, length, get_or}
use Rattle.std.proofs.Common.{sym, ap₂, ◌∙◌, subst, inl, inr}
use Rattle.std.proofs.Math.Path.{ap, subst⁻¹}
use mathlib.Core.List.{List, [], ◌∷◌, map}
use Prim.Native.Nat.{ℕ, zero, suc, ◌+◌, ◌-◌, ◌*◌, ◌/◌, ◌≤◌, ◌<◌}
use native.Mathlib.Omega.{arith}
use Rattle.std.proofs.Math.Dec.{eqb, leb}
use Rattle.std.proofs.Math.ListN.{length-map}
use borrow.Author.Tests.{ltb-true, ltb-false, eqb-true, eqb-false, ne_eqb}
use Rattle.lists.specs.Lists.{pick, sum_of, All, up_to, among}
use Rattle.lists.specs.Laws.Tests.{by_test, pick_same}
use Rattle.lists.specs.Laws.All.{all_map}
use Rattle.lists.specs.Laws.Sums.{sum_map, sum_joined, sum_same, sum_pick}
use Rattle.lists.specs.Laws.Finds.{any_joined}
use Rattle.lists.specs.Laws.UpTo.{any_one, sum_below, sum_places}
use Rattle.lists.specs.Laws.Kept.{any_index, among_self, sum_later}
use Rattle.model.specs.Model.{object, marks, lives_in, home_in}
use Rattle.regions.specs.Regions.{tag_of}
use Rattle.pages.specs.Pages.{page_count, owner_at, owner_in, owner_of, taken_at}
use Rattle.objects.specs.Objects.{walk, headers_to, headers_on}
use Rattle.outcomes.specs.Store.{Store, kinds, regions, pages}
use Rattle.outcomes.specs.Sound.{Sound}
use Rattle.outcomes.specs.Shape.{Sized}
use Rattle.outcomes.proofs.Laws.Begin.{holder_of, headers_of, headers}
use Rattle.refinement.specs.Represents.{spot, Alive, words_in, ids_in, Laid, Tiles, ObjectsAgree}
use Rattle.audited.specs.Rebuild.{places, id_of, ids_on, read_object, rebuilt}
use Rattle.refinement.specs.Laws.Tags.{tag_same}
use Rattle.audited.specs.Laws.RebuildObjects.{words_at, on_page_lem}
use Rattle.audited.specs.Laws.RebuildIds.{header, places_length, spot_at, object_at_lem, stands_at, apart_at, alive_at, id_at}
use Rattle.audited.specs.Laws.RebuildRegions as region
use Rattle.audited.specs.Laws.RebuildTree.{regions_agree}
use Rattle.audited.specs.Laws.RebuildPages.{pages_all, held, taken_sum, full}
use Rattle.audited.specs.Laws.RebuildLaid.{words_length, alive_index, laid}

-- a header met on a page is one of those listed
met_index : (S : Store) (j : ℕ) → j < page_count (pages S) → All (λ q. (i : ℕ) × (i < length (headers S)) × (header S i ≡ q)) (headers_of S j)
met_index S j h = all_map (λ q e.
    let t = any_index (λ x. eqb x q) (headers S) 0 (any_joined (λ x. eqb x q) (headers_of S) (up_to (page_count (pages S))) ∙ any_one (λ j. among q (headers_of S j)) (page_count (pages S)) j h e) in
    (t.0, t.1, eqb-true (header S t.0) q t.2)) (headers_of S j) (among_self (headers_of S j))

module _ (S : Store) (sh : Sized S) (so : Sound S) where
  -- the id of the object at place q, and what the model says of it
  abbrev id : ℕ → ℕ
  id q = id_of (places S) (q + 1)

  record Tile (q : ℕ) : Type 0 where
    spot : spot (places S) (id q) ≡ q + 1
    alive : Alive (rebuilt S) (id q)
    words : length (words_in (rebuilt S) (id q)) ≡ words_at S q

  tile : (i : ℕ) → i < length (headers S) → Tile (header S i)
  tile i h =
      let e = id_at S i h in
      record { spot = rw e (spot_at S i h); alive = rw e (alive_at S sh i h); words = rw e (ap (λ o. length o.words) (object_at_lem S i h) ∙ words_length S (header S i)) }

  tiles_on : (j : ℕ) → j < (pages S).made → All Tile (headers_of S j)
  tiles_on j h = all_map (λ q t. subst Tile t.2 (tile t.0 t.1)) (headers_of S j) (met_index S j (omega (arith, pages_all S sh so)))

  tiles_walk : (n a e : ℕ) → All Tile (walk (kinds S) S.heap n a e)
      → Tiles (rebuilt S) (places S) a (a + sum_of (λ q. 1 + words_at S q) (walk (kinds S) S.heap n a e)) (map id (walk (kinds S) S.heap n a e))
  unfolding walk
  tiles_walk zero a e t = omega arith
  tiles_walk (suc n) a e t = go (ltb 0 (words_at S a) && leb (a + 1 + words_at S a) e) t (tiles_walk n (a + 1 + words_at S a) e)
    where
      rest : List ℕ
      rest = walk (kinds S) S.heap n (a + 1 + words_at S a) e

      go : (b : Bool) → All Tile (pick b (a ∷ rest) [])
          → (All Tile rest → Tiles (rebuilt S) (places S) (a + 1 + words_at S a) (a + 1 + words_at S a + sum_of (λ q. 1 + words_at S q) rest) (map id rest))
          → Tiles (rebuilt S) (places S) a (a + sum_of (λ q. 1 + words_at S q) (pick b (a ∷ rest) [])) (map id (pick b (a ∷ rest) []))
      go false t ih = omega arith
      go true t ih =
          let e : a + 1 + words_at S a + sum_of (λ q. 1 + words_at S q) rest ≡ a + (1 + words_at S a + sum_of (λ q. 1 + words_at S q) rest) = omega arith in
          (t.0.spot, t.0.alive, rw (t.0.words, ← e) (ih t.1))

  on_held : (j : ℕ) → j < (pages S).made → owner_at (pages S) j ≢ 0 → headers_of S j ≡ headers_on (kinds S) S.heap (pages S) j
  on_held j h n = rw (ne_eqb (holder_of S j) 0 (held S sh so j h n))

  tiled : (j : ℕ) → j < (pages S).made → owner_at (pages S) j ≢ 0 → Tiles (rebuilt S) (places S) (64 * j) (64 * j + get_or (pages S).taken j 0) (ids_on S j)
  unfolding ids_on headers_on headers_to
  tiled j h n = rw (on_held j h n, ← (taken_sum S sh so j h n)) (tiles_walk 64 (64 * j) (64 * j + taken_at (pages S) j) (rw (on_held j h n) at (tiles_on j h)))

  objects_length : length (rebuilt S).objects ≡ length (headers S)
  unfolding rebuilt
  objects_length = length-map (headers S) (read_object S)

  home_of : (i : ℕ) → i < length (headers S) → home_in (rebuilt S) (suc i) ≡ holder_of S (header S i / 64)
  unfolding read_object
  home_of i h = ap (λ o. o.home) (object_at_lem S i h)

  -- whatever is added up over the objects of page j, if region r holds it
  page_sum : (r : ℕ) → lives_in (rebuilt S) r ≡ true → (f : ℕ → ℕ) (j : ℕ) → j < (pages S).made
      → sum_of (λ q. pick (eqb (holder_of S (q / 64)) r) (f (id q)) 0) (headers_of S j) ≡ pick (eqb (owner_at (pages S) j) (tag_of (regions S) r)) (sum_of f (ids_on S j)) 0
  unfolding ids_on
  page_sum r l f j h = by_test (eqb (holder_of S j) 0)
      (λ e. rw e (sym (pick_same {A = ℕ} (eqb (owner_at (pages S) j) (tag_of (regions S) r)) 0)))
      (λ e.
      let n = eqb-false (holder_of S j) 0 e in
      let g = regions_agree S sh so in
      let t : eqb (owner_at (pages S) j) (tag_of (regions S) r) ≡ eqb (holder_of S j) r =
      ap (λ t. eqb t (tag_of (regions S) r)) (sym (region.tag_name S sh so (owner_at (pages S) j) n)) ∙ tag_same g (holder_of S j) r (region.live_name S sh (owner_at (pages S) j) n) l in
      rw (e, t) (sum_same _ (λ q. pick (eqb (holder_of S j) r) (f (id q)) 0) (headers_on (kinds S) S.heap (pages S) j) (all_map (λ q k. ap (λ i. pick (eqb (holder_of S i) r) (f (id q)) 0) k.0) (headers_on (kinds S) S.heap (pages S) j) (on_page_lem S j))
      ∙ sum_pick (eqb (holder_of S j) r) (λ q. f (id q)) (headers_on (kinds S) S.heap (pages S) j)
      ∙ ap (λ n. pick (eqb (holder_of S j) r) n 0) (sym (sum_map f id (headers_on (kinds S) S.heap (pages S) j)))))

  once : (r : ℕ) → lives_in (rebuilt S) r ≡ true → (f : ℕ → ℕ)
      → sum_of (λ j. pick (eqb (owner_at (pages S) j) (tag_of (regions S) r)) (sum_of f (ids_on S j)) 0) (up_to (pages S).made) ≡ sum_of (λ q. pick (eqb (home_in (rebuilt S) q) r) (f q) 0) (ids_in (rebuilt S))
  once r l f = sym (
      sum_later (λ q. pick (eqb (home_in (rebuilt S) q) r) (f q) 0) 0 (length (rebuilt S).objects)
      ∙ ap (λ n. sum_of (λ i. pick (eqb (home_in (rebuilt S) (suc i)) r) (f (suc i)) 0) (up_to n)) objects_length
      ∙ sum_below _ (λ i. at (header S i)) (length (headers S)) (λ i h. ap₂ (λ x y. pick (eqb x r) (f y) 0) (home_of i h) (sym (id_at S i h)))
      ∙ sum_places at (headers S) 0
      ∙ sum_joined at (headers_of S) (up_to (page_count (pages S)))
      ∙ ap (λ n. sum_of (λ j. sum_of at (headers_of S j)) (up_to n)) (pages_all S sh so)
      ∙ sum_below _ _ (pages S).made (page_sum r l f))
    where
      at : ℕ → ℕ
      at q = pick (eqb (holder_of S (q / 64)) r) (f (id q)) 0

  -- what holds of each header's object holds of each live one
  each_alive : (P : ℕ → Type 0) → ((i : ℕ) → i < length (headers S) → P (suc i)) → (q : ℕ) → Alive (rebuilt S) q → P q
  each_alive P h q l = let t = alive_index S sh so q l in subst⁻¹ P t.2 (h t.0 t.1)

  length_of : (i : ℕ) → i < length (headers S) → length (words_in (rebuilt S) (suc i)) ≡ words_at S (header S i)
  length_of i h = ap (λ o. length o.words) (object_at_lem S i h) ∙ words_length S (header S i)

  abbrev Apart : ℕ → ℕ → Type 0
  Apart q r = spot (places S) q + length (words_in (rebuilt S) q) < spot (places S) r

  apart : (i j : ℕ) → i < length (headers S) → j < length (headers S) → suc i ≢ suc j → Apart (suc i) (suc j) ⊎ Apart (suc j) (suc i)
  apart i j h k n = by_test (ltb i j)
      (λ e. inl (omega (arith, spot_at S i h, spot_at S j k, apart_at S i j (ltb-true i j e) k, length_of i h)))
      (λ e. inr (omega (arith, spot_at S i h, spot_at S j k, apart_at S j i (omega (arith, ltb-false i j e)) h, length_of j k)))

  owned : (i : ℕ) → i < length (headers S) → owner_of (pages S) (spot (places S) (suc i)) ≡ tag_of (regions S) (home_in (rebuilt S) (suc i))
  unfolding owner_of owner_in owner_at
  owned i h =
      let e : header S i + 1 - 1 ≡ header S i = omega arith in
      rw (spot_at S i h, ne_eqb (header S i + 1) 0 (λ z. omega arith), e, home_of i h) (sym (region.tag_name S sh so (owner_at (pages S) (header S i / 64)) (stands_at S i h).held))

  inside : (i : ℕ) → i < length (headers S)
      → spot (places S) (suc i) + length (words_in (rebuilt S) (suc i)) ≤ 64 * ((spot (places S) (suc i) - 1) / 64) + get_or (pages S).taken ((spot (places S) (suc i) - 1) / 64) 0
  unfolding taken_at
  inside i h =
      let e : header S i + 1 - 1 ≡ header S i = omega arith in
      rw (spot_at S i h, e, length_of i h) (omega (arith, (stands_at S i h).within))

  laid_at : (i : ℕ) → i < length (headers S) → Laid S.heap (places S) (marks (rebuilt S).kinds (read_object S (header S i)).kind) (suc i) (read_object S (header S i))
  unfolding rebuilt read_object
  laid_at = laid S sh so

  pub objects_agree : ObjectsAgree (rebuilt S) (places S) (ids_on S) (regions S) (pages S) S.heap
  objects_agree = record {
    known = places_length S ∙ sym objects_length;
    laid = each_alive (λ q. Laid S.heap (places S) (marks (rebuilt S).kinds (object (rebuilt S).objects q).kind) q (object (rebuilt S).objects q))
        (λ i h. subst⁻¹ (λ o. Laid S.heap (places S) (marks (rebuilt S).kinds o.kind) (suc i) o) (object_at_lem S i h) (laid_at i h));
    apart = λ q r l m. each_alive (λ q. q ≢ r → Apart q r ⊎ Apart r q) (λ i h. each_alive (λ r. suc i ≢ r → Apart (suc i) r ⊎ Apart r (suc i)) (λ j k. apart i j h k) r m) q l;
    owned = each_alive (λ q. owner_of (pages S) (spot (places S) q) ≡ tag_of (regions S) (home_in (rebuilt S) q)) owned;
    within = each_alive (λ q. spot (places S) q + length (words_in (rebuilt S) q) ≤ 64 * ((spot (places S) q - 1) / 64) + get_or (pages S).taken ((spot (places S) q - 1) / 64) 0) inside;
    full = full S sh so;
    tiled = tiled;
    once = once;
  }
