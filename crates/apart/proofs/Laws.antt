-- Regions that hold no page have nothing to scan; one region's pages given back, every page written.
-- Assumes nothing.
use mathlib.Core.Path.{◌≡◌, refl, ap, ◌∙◌}
use mathlib.Core.Bool.{Bool, true, false}
use mathlib.Core.List.{List}
use Prim.Native.Nat.{ℕ, zero, suc, ◌+◌, ◌<◌}
use native.Mathlib.Numerals.{add-one}
use native.Mathlib.Omega.{arith}
use lib.Dec.{eqb}
use lib.ListN.{get_or, set}
use lib.Seq.{set-get_or}
use Rattle.lists.specs.Lists.{pick, count_of, up_to, zeroed}
use Rattle.lists.specs.Laws.Tests.{bit_zero}
use Rattle.lists.specs.Laws.UpTo.{count_next}
use Rattle.lists.specs.Laws.Zeroed.{below, zeroed_later, zeroed_own, zeroed_other}
use Rattle.kinds.specs.declared.Kinds.{Kinds}
use Rattle.regions.specs.Laws.Counts.{Shares}
use Rattle.regions.specs.Laws.Steps.{steps, leavings}
use Rattle.pages.specs.declared.Pages.{Pages}
use Rattle.pages.specs.Pages.{page_count, owner_at}
use Rattle.outcomes.specs.Apart.{Scans}
use Rattle.outcomes.proofs.Laws.Apart.{mine, out_by, out_from, out_other}
use Rattle.outcomes.proofs.Laws.Deleted.{scans_by}

-- what changes only at numbers that pass is the same below n as at the start, where none passes
none_passes : {A : Type 0} (f : ℕ → Bool) (x : ℕ → A) → ((n : ℕ) → f n ≡ false → x n ≡ x (n + 1)) → (n : ℕ) → count_of f (up_to n) ≡ 0 → x 0 ≡ x n
none_passes f x stays zero e = refl
none_passes f x stays (suc n) e =
    let c = ap (λ k. count_of f (up_to k)) (add-one n) in
    none_passes f x stays n (omega (arith, c, count_next f n)) ∙ stays n (bit_zero (f n) (omega (arith, c, count_next f n))) ∙ ap x (add-one n)

-- the scan changes nothing
pub scans_none : (f : ℕ) (k : Kinds) (heap : List ℕ) (p : Pages) (member : ℕ → Bool) (bs : List ℕ) → f < 4 → Shares bs → count_of (mine p.owners member) (up_to (page_count p)) ≡ 0 → Scans f k heap p member bs bs
unfolding out_by steps owner_at
scans_none f k heap p member bs few fits e =
    scans_by f k heap p member bs bs few fits
    (none_passes (mine p.owners member) (λ n. leavings f bs (out_from k heap p member n)) (λ n h. ap (leavings f bs) (out_other (λ i. p.owners) k heap p member n h)) (page_count p) e)

-- one page more: t is what page j has of the owners os, and v what it gets, 0 where t is the region's tag
pub zeroed_without : (tag : ℕ) (owners : List ℕ) (j : ℕ) (os : List ℕ) (t v : ℕ) → os ≡ zeroed (below (mine owners (λ t. eqb t tag)) j) owners → t ≡ get_or os j 0 → v ≡ pick (eqb t tag) 0 t
    → set os j v ≡ zeroed (below (mine owners (λ t. eqb t tag)) (j + 1)) owners
zeroed_without tag owners j os t v eo et ev = go (eqb t tag) refl ev
  where
    f : ℕ → Bool
    f = mine owners (λ t. eqb t tag)

    same : t ≡ get_or owners j 0
    same = et ∙ rw eo (zeroed_later f owners j)

    go : (b : Bool) → eqb t tag ≡ b → v ≡ pick b 0 t → set os j v ≡ zeroed (below f (j + 1)) owners
    go true e w = rw (w, eo) (zeroed_own f owners j (rw (← same) e))
    go false e w = ap (set os j) (w ∙ et) ∙ set-get_or os j 0 ∙ eo ∙ zeroed_other f owners j (rw (← same) e)
