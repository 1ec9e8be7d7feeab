-- What passed tests tell, where an object is placed, and what the store is then. Assumes nothing.
use mathlib.Core.Path.{◌≡◌, refl, sym, ap₂, ◌∙◌}
use mathlib.Core.Bool.{Bool, true, false, not, ◌&&◌, ◌||◌}
use mathlib.Core.Logic.{◌≢◌}
use mathlib.Core.List.{List, [], ◌∷◌}
use Prim.Native.Nat.{ℕ, ◌+◌, ◌-◌, ◌*◌, ◌/◌, ◌%◌, ◌<◌, ◌≤◌}
use native.Mathlib.Omega.{arith}
use lib.Dec.{eqb, ltb, leb}
use lib.ListN.{get_or, replicate}
use lib.Seq.{sets}
use borrow.Author.Tests.{eqb-true, eqb-false, ltb-true, leb-false, not-false, ne_eqb, lt-ltb, le-ltb}
use Rattle.lists.specs.Lists.{pick}
use Rattle.lists.specs.Laws.Tests.{neither, by_test}
use Rattle.model.specs.Model.{Answer, allocate, gives}
use Rattle.model.specs.Calls.{reason, ◌yields◌}
use Rattle.model.proofs.Laws.Passed.{all_passed}
use Rattle.kinds.specs.Kinds.{kind_count, size_in, size_of}
use Rattle.regions.specs.Regions.{entry_in, entry_of, is_live, newest_at, oldest_at, with_page}
use Rattle.pages.specs.declared.Pages.{Pages}
use Rattle.pages.specs.Pages.{page_count, taken_at, first_free, pages_of, with_taken}
use Rattle.pages.specs.Laws.Free.{first_none, first_some}
use Rattle.outcomes.specs.Store.{Store, kinds, regions, pages, size, roomy, roomy_in}
use Rattle.outcomes.specs.Outcome.{page_for, with_regions, with_pages, with_heap, refusal, checks, dead, fill_slot, allocated, Accepted, Outcome}
use Rattle.kinds.specs.Laws.Marks.{size_most}
use Rattle.outcomes.proofs.Laws.Steps.{by_effect}
use Rattle.checks.specs.Checks.{first_refusal}
use Rattle.checks.specs.Laws.Tests.{top, one_slot, else_first, else_next}
use Rattle.calls_allocate.specs.Places.{allocate_tests, free_place, place_for, oldest_with}

pub object_passed : (declared i kind v : ℕ) → 0 ≡ reason (allocate_tests declared i kind v) → (i < 64) × (v ≢ 0)
unfolding allocate_tests
object_passed declared i kind v e =
    let t = all_passed (allocate_tests declared i kind v) refl (sym e) in (ltb-true i 64 (not-false _ t.0), eqb-false v 0 t.1.1.0)

-- they accept the place that there is
pub at_place : (declared i kind v p : ℕ) → v ≡ p → 0 ≡ reason (allocate_tests declared i kind p) → 0 ≡ reason (allocate_tests declared i kind v)
at_place declared i kind v p e h = rw e h

pub size_small : (declared : ℕ) (sizes : List ℕ) (n m : ℕ) → m ≡ size_in declared sizes n → m ≤ 16
size_small declared sizes n m e = rw e (size_most declared sizes n)

free_none : (p : Pages) → eqb (free_place p.made p.owners) 0 ≡ eqb (pages_of p 0) 0
unfolding free_place first_free page_count
free_none p =
    by_test (eqb (pages_of p 0) 0)
    (λ e. rw (e, first_none p (eqb-true (pages_of p 0) 0 e), le-ltb (page_count p) (page_count p) (omega arith)))
    (λ e. rw (e, lt-ltb (first_free p) (page_count p) (first_some p (eqb-false (pages_of p 0) 0 e))) (ne_eqb (64 * first_free p + 1) 0 (λ q. omega arith)))

module _ (S : Store) (i n : ℕ) where
  abbrev newest : ℕ
  newest = newest_at (regions S) i

  abbrev behind : ℕ
  behind = 64 * (newest - 1) + taken_at (pages S) (newest - 1) + 1

  abbrev no_room : Bool
  no_room = eqb newest 0 || leb 65 (taken_at (pages S) (newest - 1) + n)

  abbrev lowest : ℕ
  lowest = free_place (pages S).made (pages S).owners

  abbrev place : ℕ
  place = let p = pages S in place_for p.made p.owners p.taken (get_or (regions S).newest i 0) n

  -- no place is what 13 asks
  place_none : eqb place 0 ≡ (not (roomy S i n) && eqb (pages_of (pages S) 0) 0)
  unfolding place_for roomy newest_at taken_at
  place_none = go (roomy_in (pages S).taken newest n)
    where
      go : (b : Bool) → eqb (pick b behind lowest) 0 ≡ (not b && eqb (pages_of (pages S) 0) 0)
      go true = ne_eqb behind 0 (λ q. omega arith)
      go false = free_none (pages S)

  abbrev start : ℕ → ℕ
  start j = pick (roomy S i n) (taken_at (pages S) j) 0

  -- a place is on the page that is taken
  place_some : 0 < n → place ≢ 0 → let j = page_for S i n in (start j < 64) × (place ≡ 64 * j + start j + 1)
  unfolding place_for page_for roomy free_place newest_at taken_at first_free page_count roomy_in
  place_some h = go no_room refl
    where
      go : (b : Bool) → no_room ≡ b → pick (not b) behind lowest ≢ 0
          → let j = pick (not b) (newest - 1) (first_free (pages S)) in (pick (not b) (taken_at (pages S) j) 0 < 64) × (pick (not b) behind lowest ≡ 64 * j + pick (not b) (taken_at (pages S) j) 0 + 1)
      go true q z = by_test (ltb (first_free (pages S)) (page_count (pages S))) (λ e. (omega arith, rw e (omega arith))) (λ e. absurd (z (rw e)))
      go false q z = (omega (arith, leb-false 65 (taken_at (pages S) (newest - 1) + n) (neither (eqb newest 0) (leb 65 (taken_at (pages S) (newest - 1) + n)) q).1), refl)

module _ (S : Store) (slot region kind : ℕ) where
  abbrev entry : ℕ
  entry = entry_in (regions S).names region

  abbrev words : ℕ
  words = size_in (kinds S).declared (kinds S).sizes kind

  abbrev second : ℕ
  second = reason (allocate_tests (kinds S).declared entry kind (place S entry (1 + words)))

  tests : refusal S (allocate slot region kind) ≡ first_refusal (reason (top S slot slot)) second
  unfolding refusal checks dead is_live entry_of size size_of kind_count allocate_tests
  tests =
      one_slot S (dead S region yields 2 ∷ (eqb kind 0 || ltb (kind_count (kinds S)) kind) yields 12 ∷ (not (roomy S entry (1 + words)) && eqb (pages_of (pages S) 0) 0) yields 13 ∷ []) slot
      ∙ rw (place_none S entry (1 + words))

  -- the first tests refuse
  pub allocate_first : (g : ℕ) → g ≡ reason (top S slot slot) → g ≢ 0 → refusal S (allocate slot region kind) ≡ g
  allocate_first g p z = tests ∙ else_first (reason (top S slot slot)) g second p z

  -- the store with an object of m words at v for the region at entry i: `allocated`, by the object's place
  abbrev with_object : ℕ → ℕ → ℕ → Store
  with_object i m v =
      let T = with_heap S (sets S.heap (v - 1) (kind ∷ replicate m 0)) in
      let U = with_pages T (with_taken (pages S) ((v - 1) / 64) (i + 1) ((v - 1) % 64 + (1 + m))) in
      fill_slot (with_regions U (with_page (regions S) i ((v - 1) / 64 + 1) (oldest_with (oldest_at (regions S) i) v))) slot v

  made : (j v : ℕ) → start S entry (1 + words) j < 64 → v ≡ 64 * j + start S entry (1 + words) j + 1 → with_object entry words v ≡ allocated S slot entry kind j
  unfolding allocated size size_of
  made j v h e =
      let a : v - 1 ≡ 64 * j + start S entry (1 + words) j = omega arith in
      let b : (v - 1) / 64 ≡ j = omega arith in
      let d : (v - 1) % 64 ≡ start S entry (1 + words) j = omega arith in
      rw (b, d, a, e)

  -- they do not, and the second decide: e, m, q, v, t and g are what functions gave
  module _ (e m q v t g : ℕ) (found : e ≡ entry) (sized : m ≡ words) (paged : q ≡ get_or (regions S).newest e 0)
      (placed : v ≡ place_for (pages S).made (pages S).owners (pages S).taken q (1 + m))
      (first : t ≡ reason (top S slot slot)) (passed : t ≡ 0) (tested : g ≡ reason (allocate_tests (kinds S).declared e kind v)) where
    pub allocate_second : refusal S (allocate slot region kind) ≡ g
    allocate_second = tests ∙ else_next (reason (top S slot slot)) t second first passed ∙ rw (tested, placed, paged, found, sized)

    pub allocate_effect : (a : Answer) (T : Store) → g ≡ 0 → a ≡ gives [] → T ≡ with_object e m v → Outcome (allocate slot region kind) S a T
    unfolding Accepted size size_of entry_of
    allocate_effect a T z p h =
        let f : v ≡ place S entry (1 + words) = placed ∙ rw (paged, found, sized) in
        let j = place_some S entry (1 + words) (omega arith) (λ o. (object_passed (kinds S).declared e kind v (sym z ∙ tested)).1 (f ∙ o)) in
        by_effect (allocate slot region kind) S a T (allocate_second ∙ z)
        (p, h ∙ ap₂ (λ x y. with_object x y v) found sized ∙ made (page_for S entry (1 + words)) v j.0 (f ∙ j.1))
