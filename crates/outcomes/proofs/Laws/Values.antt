-- What a call gives fits 32 bits.
-- Assumes nothing.
use Rattle.std.specs.Prelude.{Bool, true, false, not, ◌&&◌, List, [], ◌∷◌, ℕ, zero, suc, ◌+◌, ◌-◌, ◌*◌, ◌≤◌, ◌<◌, min, eqb, ltb, leb, length, get_or}
use Rattle.std.proofs.Common.{suc-mul, length-append}
use native.Mathlib.Omega.{arith}
use Rattle.std.proofs.lemmas.List.{length-map}
use Rattle.lists.specs.Lists.{pick, joined, up_to}
use Rattle.lists.specs.Laws.Sums.{count_most, length_keep}
use Rattle.lists.specs.Laws.UpTo.{length_up_to}
use Rattle.lists.specs.Laws.All.{all_at}
use Rattle.kinds.specs.declared.Kinds.{Kinds}
use Rattle.kinds.specs.Kinds.{size_of, mark_at}
use Rattle.regions.specs.declared.Regions.{Regions}
use Rattle.regions.specs.Regions.{name_at, name_of, parent_at, live_count, subregions_of, oldest_at, live_in, name_in, subregions_in}
use Rattle.pages.specs.declared.Pages.{Pages}
use Rattle.pages.specs.Pages.{owner_at, taken_at, pages_of, pages_in}
use Rattle.objects.specs.Objects.{kind_of, word_at, walk, headers_to, headers_on, free_words, free_words_on}
use Rattle.kinds.specs.Laws.Marks as sizes
use Rattle.outcomes.specs.Store.{Store, outside_of}
use Rattle.outcomes.specs.Shape.{RegionsBounded, Bounded}
use Rattle.outcomes.proofs.Laws.Bounded.{below_at, pick_below}

joined_most : (g : ℕ → List ℕ) (b : ℕ) (l : List ℕ) → ((x : ℕ) → length (g x) ≤ b) → length (joined g l) ≤ length l * b
joined_most g b [] h = omega arith
joined_most g b (x ∷ xs) h = rw (suc-mul (length xs) b, length-append) (omega (arith, h x, joined_most g b xs h))

pub size_most : (k : Kinds) (n : ℕ) → size_of k n ≤ 16
unfolding size_of
size_most k n = sizes.size_most k.declared k.sizes n

walk_most : (k : Kinds) (heap : List ℕ) (n p e : ℕ) → length (walk k heap n p e) ≤ n
unfolding walk
walk_most k heap zero p e = omega arith
walk_most k heap (suc n) p e = go (ltb 0 (size_of k (get_or heap p 0)) && leb (p + 1 + size_of k (get_or heap p 0)) e) (walk_most k heap n (p + 1 + size_of k (get_or heap p 0)) e)
  where
    go : (b : Bool) → length (walk k heap n (p + 1 + size_of k (get_or heap p 0)) e) ≤ n → length (pick b (p ∷ walk k heap n (p + 1 + size_of k (get_or heap p 0)) e) []) ≤ suc n
    go true h = omega arith
    go false h = omega arith

free_most : (k : Kinds) (heap : List ℕ) (p : ℕ) → length (free_words k heap p) ≤ 16
unfolding free_words
free_most k heap p =
    let n = get_or heap p 0 in
    rw (length-map, length_keep) (omega (arith, count_most (λ w. eqb (mark_at k n w) 1) (up_to (size_of k n)), length_up_to (size_of k n), size_most k n))

-- at most 64 objects of at most 16 words stand on a page
pub page_most : (k : Kinds) (heap : List ℕ) (p : Pages) (j : ℕ) → length (free_words_on k heap p j) ≤ 1024
unfolding free_words_on headers_on headers_to
page_most k heap p j =
    let l = walk k heap 64 (64 * j) (64 * j + taken_at p j) in
    omega (arith, joined_most (free_words k heap) 16 l (free_most k heap), walk_most k heap 64 (64 * j) (64 * j + taken_at p j))

-- ---- what the calls read

pub outside_below : (S : Store) (i : ℕ) → outside_of S i < 4294967296
unfolding outside_of
outside_below S i = omega arith

module _ (S : Store) (h : Bounded S) where
  pub word_below : (v w : ℕ) → word_at S.heap v w < 4294967296
  unfolding word_at
  word_below v w = all_at (λ x. x < 4294967296) S.heap (v + w) 0 h.heap (omega arith)

  pub kind_below : (v : ℕ) → kind_of S.heap v < 4294967296
  unfolding kind_of
  kind_below v = pick_below (eqb v 0) 0 (get_or S.heap (v - 1) 0) 4294967296 (omega arith) (all_at (λ x. x < 4294967296) S.heap (v - 1) 0 h.heap (omega arith))

pub live_below : (g : Regions) → live_count g ≤ 64
unfolding live_count live_in name_at
live_below g = omega (arith, count_most (λ i. not (eqb (name_at g i) 0)) (up_to 64), length_up_to 64)

pub subregions_below : (g : Regions) (t : ℕ) → subregions_of g t ≤ 64
unfolding subregions_of subregions_in name_at parent_at
subregions_below g t = omega (arith, count_most (λ i. not (eqb (name_at g i) 0) && eqb (parent_at g i) t) (up_to 64), length_up_to 64)

pub pages_below : (p : Pages) (t : ℕ) → pages_of p t ≤ 256
unfolding pages_of pages_in owner_at
pages_below p t = omega (arith, count_most (λ j. eqb (owner_at p j) t) (up_to (min p.made 256)), length_up_to (min p.made 256))

module _ (g : Regions) (h : RegionsBounded g) where
  pub name_below : (t : ℕ) → name_of g t < 4294967296
  unfolding name_of name_in
  name_below t = all_at (λ x. x < 4294967296) (0 ∷ g.names) t 0 (omega arith, h.names) (omega arith)

  pub oldest_below : (i : ℕ) → oldest_at g i < 4294967296
  unfolding oldest_at
  oldest_below i = below_at 4294967296 g.oldest i (omega arith) h.oldest
