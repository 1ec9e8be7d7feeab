-- The page on which allocate makes its object: as much as most proofs need of it, that it is the region's newest page or a free one. (That it is the lowest of the free ones is `first_least`, in pages.)
-- Assumes nothing.
use Rattle.std.specs.Prelude.{◌≡◌, refl, Bool, true, false, not, ◌&&◌, ◌||◌, ℕ, zero, suc, ◌+◌, ◌-◌, eqb}
use Rattle.std.proofs.Common.{sym, true≢false, arith, eq-eqb}
use Rattle.std.proofs.lemmas.Bool.{eqb-false}
use Rattle.lists.specs.Lists.{pick}
use Rattle.regions.specs.Regions.{newest_at}
use Rattle.pages.specs.Pages.{taken_at, is_free, first_free, pages_of}
use Rattle.pages.specs.Laws.Free.{first_some, first_free_lem}
use Rattle.outcomes.specs.Store.{Store, regions, pages, roomy, roomy_in}
use Rattle.outcomes.specs.Outcome.{page_for}

-- page j is the newest page of the region at entry i, if n words more fit there; else it was free
abbrev pub NewestOrFree : Store → ℕ → ℕ → ℕ → Type 0
NewestOrFree S i n j = pick (roomy S i n) (eqb (newest_at (regions S) i) (j + 1)) (is_free (pages S) j) ≡ true

back : (x : ℕ) (b : Bool) → not (eqb x 0 || b) ≡ true → eqb x (x - 1 + 1) ≡ true
back zero b e = absurd (true≢false (sym e))
back (suc x) b e = let d : suc x ≡ suc x - 1 + 1 = omega arith in eq-eqb _ _ d

newest : (S : Store) (i n : ℕ) → roomy S i n ≡ true → eqb (newest_at (regions S) i) (newest_at (regions S) i - 1 + 1) ≡ true
unfolding roomy roomy_in taken_at
newest S i n e = back (newest_at (regions S) i) _ e

-- so it is, where 13 does not refuse
pub newest_or_free : (S : Store) (i n : ℕ) → (not (roomy S i n) && eqb (pages_of (pages S) 0) 0) ≡ false → NewestOrFree S i n (page_for S i n)
unfolding page_for
newest_or_free S i n e = go (roomy S i n) refl e
  where
    go : (b : Bool) → roomy S i n ≡ b → (not b && eqb (pages_of (pages S) 0) 0) ≡ false
        → let j = pick b (newest_at (regions S) i - 1) (first_free (pages S)) in pick b (eqb (newest_at (regions S) i) (j + 1)) (is_free (pages S) j) ≡ true
    go true q e = newest S i n q
    go false q e = first_free_lem (pages S) (first_some (pages S) (eqb-false (pages_of (pages S) 0) 0 e))
