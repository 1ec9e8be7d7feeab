-- The objects that a memory lists, by the places of their headers. All of it holds of any memory.
-- Assumes nothing.
use Rattle.std.specs.Prelude.{◌≡◌, refl, ◌≢◌, Bool, eqb}
use Rattle.std.proofs.Math.Bool.{true, false}
use mathlib.Core.List.{[]}
use Prim.Native.Nat.{ℕ, suc, ◌+◌, ◌*◌, ◌/◌, ◌≤◌, ◌<◌}
use native.Mathlib.Omega.{arith}
use Rattle.std.proofs.lemmas.Bool.{eqb-false}
use Rattle.lists.specs.Lists.{pick, All, up_to}
use Rattle.lists.specs.Laws.All.{all_map}
use Rattle.lists.specs.Laws.UpTo.{all_up_to}
use Rattle.lists.specs.Laws.Kept.{all_joined}
use Rattle.pages.specs.Pages.{page_count, taken_at}
use Rattle.objects.specs.Objects.{headers_to, headers_on}
use Rattle.outcomes.specs.Store.{Store, kinds, pages}
use Rattle.outcomes.proofs.Laws.Begin.{holder_of, headers_of, headers}
use Rattle.audited.specs.Laws.RebuildWalk.{Stacked, size_at, walk_stacked, stacked_all, stacked_wider, stacked_pages}

module _ (S : Store) where
  -- the words of the object whose header stands at place q
  abbrev pub words_at : ℕ → ℕ
  words_at = size_at (kinds S) S.heap

  pub on_stacked : (j : ℕ) → Stacked words_at (64 * j) (64 * j + taken_at (pages S) j) (headers_on (kinds S) S.heap (pages S) j)
  unfolding headers_on headers_to
  on_stacked j = walk_stacked (kinds S) S.heap 64 (64 * j) (64 * j + taken_at (pages S) j) (omega arith)

  of_stacked : (j : ℕ) → Stacked words_at (64 * j) (64 * suc j) (headers_of S j)
  unfolding taken_at
  of_stacked j = go (eqb (holder_of S j) 0)
    where
      go : (b : Bool) → Stacked words_at (64 * j) (64 * suc j) (pick b [] (headers_on (kinds S) S.heap (pages S) j))
      go true = omega arith
      go false = stacked_wider words_at (64 * j) (64 * j) (64 * j + taken_at (pages S) j) (64 * suc j) (headers_on (kinds S) S.heap (pages S) j) (omega arith) (omega arith) (on_stacked j)

  pub headers_stacked : Stacked words_at 0 (64 * page_count (pages S)) (headers S)
  headers_stacked = stacked_pages words_at (headers_of S) (page_count (pages S)) of_stacked

  -- an object stands on a held page, as far as it is taken
  pub record Stands (q : ℕ) : Type 0 where
    pub page : q / 64 < page_count (pages S)
    pub held : holder_of S (q / 64) ≢ 0
    pub some : 0 < words_at q
    pub within : q + 1 + words_at q ≤ 64 * (q / 64) + taken_at (pages S) (q / 64)

  -- those on page j
  pub on_page_lem : (j : ℕ) → All (λ q. (q / 64 ≡ j) × (0 < words_at q) × (q + 1 + words_at q ≤ 64 * j + taken_at (pages S) j)) (headers_on (kinds S) S.heap (pages S) j)
  unfolding taken_at
  on_page_lem j = all_map (λ q h. (omega (arith, h.0, h.1, h.2), h.1, h.2)) (headers_on (kinds S) S.heap (pages S) j)
      (stacked_all words_at (64 * j) (64 * j + taken_at (pages S) j) (headers_on (kinds S) S.heap (pages S) j) (on_stacked j))

  pub stands : All Stands (headers S)
  stands = all_joined Stands (headers_of S) (up_to (page_count (pages S))) (all_up_to (λ j. All Stands (headers_of S j)) (page_count (pages S)) (λ j h. go j h (eqb (holder_of S j) 0) refl))
    where
      go : (j : ℕ) → j < page_count (pages S) → (b : Bool) → eqb (holder_of S j) 0 ≡ b → All Stands (pick b [] (headers_on (kinds S) S.heap (pages S) j))
      go j h true e = tt
      go j h false e = all_map (λ q k. record {
        page = rw k.0 h;
        held = rw k.0 (eqb-false (holder_of S j) 0 e);
        some = k.1;
        within = rw k.0 k.2;
      }) (headers_on (kinds S) S.heap (pages S) j) (on_page_lem j)
