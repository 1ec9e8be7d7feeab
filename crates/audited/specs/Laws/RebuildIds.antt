-- Pointers and ids in the model that a memory lists. All of it holds of any memory.
-- Assumes nothing.
use Rattle.std.specs.Prelude.{◌≡◌, ◌≢◌, Bool, ◌||◌, length, get_or}
use Rattle.std.proofs.Math.Path.{refl, sym, ap}
use Rattle.std.proofs.Common.{◌∙◌, not-suc-le-zero, add-one, arith}
use Rattle.std.proofs.Math.Bool.{true, false}
use Prim.Native.Nat.{ℕ, zero, suc, ◌+◌, ◌/◌, ◌≤◌, ◌<◌}
use Rattle.std.proofs.Math.Dec.{eqb}
use Rattle.std.proofs.Math.ListN.{length-map}
use borrow.Author.Tests.{eqb-true, eq-eqb, ne_eqb}
use Rattle.lists.specs.Lists.{any_of}
use Rattle.lists.specs.Laws.Tests.{by_test, or_right}
use Rattle.lists.specs.Laws.All.{all_in}
use Rattle.lists.specs.Laws.Finds.{any_map, any_in, get_d_map_in}
use Rattle.lists.specs.Laws.UpTo.{find_first}
use Rattle.lists.specs.Laws.Kept.{any_index}
use Rattle.model.specs.Model.{no_object, object, lives_in, home_in}
use Rattle.pages.specs.Pages.{owner_at}
use Rattle.outcomes.specs.Store.{Store, pages}
use Rattle.outcomes.specs.Shape.{Sized}
use Rattle.outcomes.specs.History.{begin, leads, home_of, at}
use Rattle.outcomes.proofs.Laws.Begin.{holder_of, headers, object_at, begin_objects, home_is, home_none, leads_null}
use Rattle.refinement.specs.Represents.{spot, Alive}
use Rattle.audited.specs.Rebuild.{places, id_of, read_object, rebuilt}
use Rattle.audited.specs.Laws.RebuildWalk.{stacked_apart}
use Rattle.audited.specs.Laws.RebuildRegions.{live_name}
use Rattle.audited.specs.Laws.RebuildObjects.{words_at, headers_stacked, Stands, stands}

module _ (S : Store) where
  -- the header of object i, counted from 0
  abbrev pub header : ℕ → ℕ
  header i = get_or (headers S) i 0

  pub places_length : length (places S) ≡ length (headers S)
  unfolding places
  places_length = length-map (headers S) (λ q. q + 1)

  module _ (i : ℕ) (h : i < length (headers S)) where
    pub spot_at : spot (places S) (suc i) ≡ header i + 1
    unfolding places
    spot_at = get_d_map_in (λ q. q + 1) (headers S) i 0 0 h

    pub object_at_lem : object (rebuilt S).objects (suc i) ≡ read_object S (header i)
    unfolding rebuilt
    object_at_lem = get_d_map_in (read_object S) (headers S) i no_object 0 h

    pub stands_at : Stands S (header i)
    stands_at = all_in (Stands S) (headers S) i 0 (stands S) h

  pub apart_at : (i j : ℕ) → i < j → j < length (headers S) → header i + 1 + words_at S (header i) ≤ header j
  apart_at i j h k = stacked_apart (words_at S) 0 _ (headers S) i j (headers_stacked S) h k

  pub id_at : (i : ℕ) → i < length (headers S) → id_of (places S) (header i + 1) ≡ suc i
  unfolding id_of
  id_at i h = find_first (λ p. eqb (spot (places S) p) (header i + 1)) 0 (suc (length (places S))) (suc i) (omega (arith, places_length)) (eq-eqb _ _ (spot_at i h)) before
    where
      before : (p : ℕ) → p < suc i → eqb (spot (places S) p) (header i + 1) ≡ false
      before zero k = ne_eqb 0 (header i + 1) (λ e. omega arith)
      before (suc j) k = ne_eqb (spot (places S) (suc j)) (header i + 1) (λ e. omega (arith, spot_at j (omega arith), apart_at j i (omega arith) h))

  id_null : id_of (places S) 0 ≡ 0
  unfolding id_of
  id_null = find_first (λ p. eqb (spot (places S) p) 0) 0 (suc (length (places S))) 0 (omega arith) refl (λ j k. absurd (not-suc-le-zero k))

  -- a pointer that leads somewhere leads to one of the headers
  leads_to : (v : ℕ) → leads (begin S) v ≡ true → (i : ℕ) × (i < length (headers S)) × (v ≡ header i + 1)
  unfolding leads
  leads_to v e =
      let t = any_index (λ q. eqb (q + 1) v) (headers S) 0 (sym (any_map (at v) (object_at S) (headers S)) ∙ ap (any_of (at v)) (sym (begin_objects S)) ∙ e) in
      (t.0, t.1, sym (eqb-true (header t.0 + 1) v t.2))

  leads_at : (i : ℕ) → i < length (headers S) → leads (begin S) (header i + 1) ≡ true
  unfolding leads
  leads_at i h = rw (begin_objects S, any_map (at (header i + 1)) (object_at S) (headers S)) (any_in (λ q. eqb (q + 1) (header i + 1)) (headers S) i 0 h (eq-eqb (header i + 1) (header i + 1) refl))

  -- and its region is the one that holds that page
  home_at : (i : ℕ) → i < length (headers S) → home_of (begin S) (header i + 1) ≡ holder_of S (header i / 64)
  home_at i h = let e = add-one (header i) in rw e (home_is S (header i) (rw e at (leads_at i h)))

  -- only a pointer that leads somewhere has a region
  pub home_leads : (v : ℕ) → home_of (begin S) v ≢ 0 → leads (begin S) v ≡ true
  home_leads v h = by_test (leads (begin S) v) (λ e. e) (λ e. absurd (h (home_none S v e)))

  -- a slot or pointer word that passes the audit's test, as the model has it
  pub record Known (v : ℕ) : Type 0 where
    pub back : spot (places S) (id_of (places S) v) ≡ v
    pub home : home_in (rebuilt S) (id_of (places S) v) ≡ home_of (begin S) v
    pub null : eqb (id_of (places S) v) 0 ≡ eqb v 0
    pub live : (eqb (id_of (places S) v) 0 || lives_in (rebuilt S) (home_in (rebuilt S) (id_of (places S) v))) ≡ true

  module _ (sh : Sized S) where
    pub alive_at : (i : ℕ) → i < length (headers S) → Alive (rebuilt S) (suc i)
    unfolding read_object
    alive_at i h = ap (λ o. lives_in (rebuilt S) o.home) (object_at_lem i h) ∙ live_name S sh (owner_at (pages S) (header i / 64)) (stands_at i h).held

    pub known : (v : ℕ) → (eqb v 0 || leads (begin S) v) ≡ true → Known v
    unfolding read_object
    known v e = go (eqb v 0) refl e
      where
        go : (b : Bool) → eqb v 0 ≡ b → (b || leads (begin S) v) ≡ true → Known v
        go true q e = rw (eqb-true v 0 q) (record { back = rw id_null; home = rw (id_null, home_none S 0 (leads_null S)); null = rw id_null; live = rw id_null })
        go false q e =
            let t = leads_to v e in
            let i = id_at t.0 t.1 in
            rw t.2 (record {
              back = rw i (spot_at t.0 t.1);
              home = rw (i, home_at t.0 t.1) (ap (λ o. o.home) (object_at_lem t.0 t.1));
              null = rw (i, ne_eqb (suc t.0) 0 (λ x. omega arith), ne_eqb (header t.0 + 1) 0 (λ x. omega arith));
              live = rw i (or_right (eqb (suc t.0) 0) _ (alive_at t.0 t.1));
            })
