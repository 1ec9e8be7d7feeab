-- The audit's condition on the memory alone (document 01, Audit): each clause a test of its own, `sound` all of them, and `Sound` the same as a record with a field for each.
-- Assumes nothing.
use Rattle.std.specs.Prelude.{◌≡◌, Bool, true, not, ◌&&◌, ◌||◌, List, [], ◌∷◌, map, ℕ, zero, suc, ◌+◌, ◌-◌, ◌*◌, eqb, ltb, leb, length, get_or}
use Rattle.lists.specs.Lists.{every, sum_of, up_to, times, among}
use Rattle.kinds.specs.Kinds.{size_of}
use Rattle.regions.specs.Regions.{name_at, parent_at, level_at, newest_at, oldest_at}
use Rattle.pages.specs.Pages.{page_count, owner_at}
use Rattle.objects.specs.Objects.{headers_on}
use Rattle.outcomes.specs.Store.{Store, frames, kinds, regions, pages}
use Rattle.outcomes.specs.History.{Holding, begin, entries, listed_kinds, listed_frames, listed_held, home_of, counts_exact, slots_lead, words_lead, pages_held}

-- from a to b, both in
abbrev pub within : ℕ → ℕ → ℕ → Bool
within a b n = leb a n && leb n b

-- the objects met on a held page take just the words that the state has as taken
unfoldable pub filled : Store → Holding → Bool
filled S t = eqb (sum_of (λ p. 1 + size_of (kinds S) (get_or S.heap p 0)) (headers_on (kinds S) S.heap (pages S) t.page)) (get_or (pages S).taken t.page 0)

-- region entry i: none above and level 1; or, for another than region 1, one above that lives, at one level less
unfoldable pub placed : Store → ℕ → Bool
placed S i = elim (parent_at (regions S) i) [
  | zero ↦ eqb (level_at (regions S) i) 1
  | suc p ↦ not (eqb (name_at (regions S) p) 0) && eqb (level_at (regions S) i) (level_at (regions S) p + 1) && not (eqb (name_at (regions S) i) 1)
]

-- region entry i: its newest page, if it has one, is its own; and so is its oldest object
unfoldable pub newest_own : Store → ℕ → Bool
newest_own S i = elim (newest_at (regions S) i) [
  | zero ↦ true
  | suc j ↦ ltb j (page_count (pages S)) && eqb (owner_at (pages S) j) (i + 1)
]

unfoldable pub oldest_own : Store → ℕ → Bool
oldest_own S i = let v = oldest_at (regions S) i in eqb v 0 || eqb (home_of (begin S) v) (name_at (regions S) i)

-- ---- the clauses

-- demand 3's statements on counts, pointers and pages, of what the memory lists
abbrev pub sound_counts : Store → Bool
sound_counts S = counts_exact (begin S) S

abbrev pub sound_slots : Store → Bool
sound_slots S = slots_lead (begin S) S

abbrev pub sound_words : Store → Bool
sound_words S = words_lead (begin S) S

abbrev pub sound_held : Store → Bool
sound_held S = pages_held (begin S)

-- the limits: 1 to 256 pages were made
abbrev pub sound_made : Store → Bool
sound_made S = within 1 256 (pages S).made

-- at most 16 kinds, each of 1 to 16 words, with marks up to 4
abbrev pub sound_declared : Store → Bool
sound_declared S = leb (kinds S).declared 16

abbrev pub sound_sizes : Store → Bool
sound_sizes S = every (λ k. within 1 16 (get_or (kinds S).sizes k 0)) (up_to (kinds S).declared)

abbrev pub sound_marks : Store → Bool
sound_marks S = every (every (λ m. leb m 4)) (listed_kinds S)

-- at most 32 frames, each of 1 to 8 slots
abbrev pub sound_standing : Store → Bool
sound_standing S = leb (frames S).standing 32

abbrev pub sound_widths : Store → Bool
sound_widths S = every (within 1 8) (listed_frames S)

-- no region below level 16; no name above 1,000,000 was given
abbrev pub sound_levels : Store → Bool
sound_levels S = every (λ i. leb (level_at (regions S) i) 16) (entries S)

abbrev pub sound_given : Store → Bool
sound_given S = leb (regions S).given 1000000

-- m is at most the number of frames below the top one, and so 0 where no frame stands
abbrev pub sound_counted : Store → Bool
sound_counted S = leb (frames S).counted ((frames S).standing - 1)

-- the heap's length is the one made
abbrev pub sound_heap_length : Store → Bool
sound_heap_length S = eqb (length S.heap) (64 * (pages S).made)

-- names of live regions: no two the same, none that was not given, and region 1 lives
abbrev pub sound_distinct : Store → Bool
sound_distinct S = every (λ i. eqb (times (name_at (regions S) i) (map (name_at (regions S)) (entries S))) 1) (entries S)

abbrev pub sound_names_given : Store → Bool
sound_names_given S = every (λ i. leb (name_at (regions S) i) (regions S).given) (entries S)

abbrev pub sound_permanent : Store → Bool
sound_permanent S = among 1 (map (name_at (regions S)) (entries S))

-- the tree of regions: `placed`, of each
abbrev pub sound_parents : Store → Bool
sound_parents S = every (placed S) (entries S)

-- no gap on a held page: `filled`, of each
abbrev pub sound_filling : Store → Bool
sound_filling S = every (filled S) (listed_held S)

-- newest pages and oldest objects belong to their regions
abbrev pub sound_newest : Store → Bool
sound_newest S = every (newest_own S) (entries S)

abbrev pub sound_oldest : Store → Bool
sound_oldest S = every (oldest_own S) (entries S)

-- ---- all of them. The state keeps no number a second time, so the last clause of document 01 has no test here.
-- A clause more goes to the end of the list and of the record, which are in one order; Laws/Decided shows that they say the same

abbrev pub clauses : Store → List Bool
clauses S =
    sound_counts S ∷ sound_slots S ∷ sound_words S ∷ sound_held S ∷ sound_made S ∷ sound_declared S ∷ sound_sizes S ∷ sound_marks S ∷ sound_standing S ∷ sound_widths S ∷ sound_levels S
    ∷ sound_given S ∷ sound_counted S ∷ sound_heap_length S ∷ sound_distinct S ∷ sound_names_given S ∷ sound_permanent S ∷ sound_parents S ∷ sound_filling S ∷ sound_newest S ∷ sound_oldest S ∷ []

-- the audit's answer: whether every clause holds
unfoldable pub sound : Store → Bool
sound S = every (λ b. b) (clauses S)

pub record Sound (S : Store) : Type 0 where
  pub counts : sound_counts S ≡ true
  pub slots : sound_slots S ≡ true
  pub words : sound_words S ≡ true
  pub held : sound_held S ≡ true
  pub made : sound_made S ≡ true
  pub declared : sound_declared S ≡ true
  pub sizes : sound_sizes S ≡ true
  pub marks : sound_marks S ≡ true
  pub standing : sound_standing S ≡ true
  pub widths : sound_widths S ≡ true
  pub levels : sound_levels S ≡ true
  pub given : sound_given S ≡ true
  pub counted : sound_counted S ≡ true
  pub heap_length : sound_heap_length S ≡ true
  pub distinct : sound_distinct S ≡ true
  pub names_given : sound_names_given S ≡ true
  pub permanent : sound_permanent S ≡ true
  pub parents : sound_parents S ≡ true
  pub filling : sound_filling S ≡ true
  pub newest : sound_newest S ≡ true
  pub oldest : sound_oldest S ≡ true
