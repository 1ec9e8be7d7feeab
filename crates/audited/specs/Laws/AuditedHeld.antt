-- Where a memory represents a valid model, its kinds, frames and pages pass the audit.
-- Assumes nothing.
use Rattle.std.specs.Prelude.{◌≡◌, ◌≢◌, true, eqb, leb}
use Rattle.std.proofs.Math.Path.{ap}
use Rattle.std.proofs.Common.{◌∙◌}
use mathlib.Core.List.{List, [], map}
use Prim.Native.Nat.{ℕ, suc, ◌+◌, ◌-◌, ◌*◌, ◌≤◌, ◌<◌}
use native.Mathlib.Omega.{arith}
use Rattle.std.proofs.Math.ListN.{length, get_or}
use borrow.Author.Tests.{lt-ltb, le-leb, eqb-false, eq-eqb}
use Rattle.lists.specs.Lists.{every, sum_of, up_to}
use Rattle.lists.specs.Laws.Tests.{by_test}
use Rattle.lists.specs.Laws.All.{all_map, all_in, all_change}
use Rattle.lists.specs.Laws.Sums.{sum_map, sum_same}
use Rattle.lists.specs.Laws.Finds.{true_every}
use Rattle.lists.specs.Laws.UpTo.{each_every}
use Rattle.model.specs.Model.{Model, object}
use Rattle.model.proofs.Laws.Slots.{object_valid}
use Rattle.kinds.specs.Kinds.{kind_count, size_of, size_in}
use Rattle.regions.specs.Regions.{name_of, name_in}
use Rattle.pages.specs.Pages.{page_count, owner_at}
use Rattle.objects.specs.Objects.{headers_on}
use Rattle.outcomes.specs.Store.{Store, kinds, regions, pages}
use Rattle.outcomes.specs.History.{begin, listed_kinds, listed_frames, listed_held, pages_held}
use Rattle.outcomes.specs.Sound.{within, filled}
use Rattle.outcomes.proofs.Laws.Begin.{holder_of, pages_filled}
use Rattle.refinement.specs.Represents.{spot, Alive, words_in}
use Rattle.refinement.specs.Laws.Reads.{page_count_lem, kind_count_lem}
use Rattle.refinement.specs.Laws.Walks.{headers_on_lem, homes_on}
use Rattle.audited.specs.Laws.RebuildStack.{is_within}
use Rattle.histories.specs.Laws.TellsPages.{begin_pages, pages_held_lem}
use Rattle.audited.specs.Laws.AuditedObjects.{Agrees}
use Rattle.audited.specs.Laws.AuditedLists.{kinds_are, frames_are, begin_tells}
use Rattle.audited.specs.Laws.AuditedPages.{tiles_sum}

module _ {L : Model} {sp : List ℕ} {ids : ℕ → List ℕ} (S : Store) (a : Agrees L sp ids S) where
  -- ---- kinds and frames

  pub declared : leb (kinds S).declared 16 ≡ true
  declared = le-leb (kinds S).declared 16 (omega (arith, a.on_kinds.declared, a.valid.kinds.many))

  size_some : (n : ℕ) → n < length L.kinds → 1 ≤ get_or (kinds S).sizes n 0
  unfolding size_of size_in kind_count
  size_some n h =
      let e : suc n - 1 ≡ n = omega arith in
      let k = kind_count_lem a.on_kinds a.valid.kinds.many in
      omega (
        arith,
        rw (lt-ltb 0 (suc n) (omega arith), le-leb (suc n) (kind_count (kinds S)) (omega (arith, k)), e) at (a.on_kinds.sizes (suc n)),
        all_in (λ ms. (1 ≤ length ms) × (length ms ≤ 16)) L.kinds n [] a.valid.kinds.sized h,
      )

  pub sizes : every (λ k. within 1 16 (get_or (kinds S).sizes k 0)) (up_to (kinds S).declared) ≡ true
  sizes = each_every _ (kinds S).declared (λ n h.
      let l : n < length L.kinds = omega (arith, a.on_kinds.declared) in
      is_within 1 16 (get_or (kinds S).sizes n 0) (size_some n l) (a.on_kinds.few n l))

  pub marks_fit : every (every (λ m. leb m 4)) (listed_kinds S) ≡ true
  marks_fit = rw (kinds_are S a) (true_every _ L.kinds (all_map (λ ms h. true_every _ ms (all_map (λ m. le-leb m 4) ms h)) L.kinds a.valid.kinds.marks))

  pub widths : every (within 1 8) (listed_frames S) ≡ true
  widths = rw (frames_are S a) (true_every (within 1 8) (map length L.frames) (all_change _ _ length (λ f h. is_within 1 8 (length f) h.0 h.1) L.frames a.valid.frames.sized))

  -- ---- pages

  pub held : pages_held (begin S) ≡ true
  held = pages_held_lem a.on_regions a.on_pages (begin_tells S a) (begin_pages S a.on_regions a.on_pages)

  module _ (names : length (regions S).names ≡ 64) where
    pub filling : every (filled S) (listed_held S) ≡ true
    unfolding filled name_of name_in
    filling = pages_filled S names ∙ each_every _ (page_count (pages S)) (λ j h. by_test (eqb (holder_of S j) 0) (λ e. rw e) (λ e.
        rw e (eq-eqb _ (get_or (pages S).taken j 0) (fills j (omega (arith, page_count_lem a.on_pages)) (λ z. eqb-false (holder_of S j) 0 e (ap (name_of (regions S)) z))))))
      where
        fills : (j : ℕ) → j < (pages S).made → owner_at (pages S) j ≢ 0 → sum_of (λ p. 1 + size_of (kinds S) (get_or S.heap p 0)) (headers_on (kinds S) S.heap (pages S) j) ≡ get_or (pages S).taken j 0
        fills j m o =
            let size : ℕ → ℕ = λ p. 1 + size_of (kinds S) (get_or S.heap p 0) in
            let each : (q : ℕ) → Alive L q → size (spot sp q - 1) ≡ length (words_in L q) + 1 = λ q l.
            omega (arith, ap (size_of (kinds S)) (a.on_objects.laid q l).header, a.on_kinds.sizes (object L.objects q).kind, (object_valid L a.valid q l).sized) in
            ap (sum_of size) (headers_on_lem L sp ids (regions S) (kinds S) (pages S) S.heap a.valid a.on_kinds a.on_objects j m o)
            ∙ sum_map size (λ q. spot sp q - 1) (ids j)
            ∙ sum_same _ _ (ids j) (all_map (λ q h. each q h.0) (ids j) (homes_on a.valid a.on_objects j m o))
            ∙ omega (arith, tiles_sum L sp (64 * j) (64 * j + get_or (pages S).taken j 0) (ids j) (a.on_objects.tiled j m o))
