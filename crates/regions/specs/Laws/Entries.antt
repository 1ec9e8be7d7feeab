-- Laws of the entries.
-- Assumes nothing.
use Rattle.std.specs.Prelude.{◌≡◌, ℕ, zero, suc, ◌+◌, ◌-◌, ◌<◌, ◌≤◌, Bool, true, false, not, ◌≢◌, List, [], ◌∷◌, length, ◌==◌, nat_eq, slice_index, refl}
use Rattle.std.proofs.Common.{ap, ◌∙◌, sym, arith, eqb-true, ne_eqb, lt-ltb}
use Rattle.lists.specs.Lists.{bit, pick, any_of, find_or, count_of, up_to}
use Rattle.lists.specs.Laws.Tests.{by_test}
use Rattle.lists.specs.Laws.Finds.{any_count, all_find, find_none}
use Rattle.lists.specs.Laws.UpTo.{length_up_to, find_found, all_up_to}
use Rattle.regions.specs.declared.Regions.{Regions}
use Rattle.regions.specs.Regions.{name_at, name_of, entry_of, live_count, unused, entry_in, live_in, name_in, unused_in, up_in, level_in}

count_not : (f : ℕ → Bool) (l : List ℕ) → count_of (λ i. not (f i)) l + count_of f l ≡ length l
count_not f [] = refl
count_not f (x ∷ xs) = go (f x) (count_not f xs)
  where
    go : (b : Bool) → count_of (λ i. not (f i)) xs + count_of f xs ≡ length xs → bit (not b) + count_of (λ i. not (f i)) xs + (bit b + count_of f xs) ≡ suc (length xs)
    go true e = omega arith
    go false e = omega arith

-- the name at a tag is the one at its entry
pub name_none : (r : Regions) → name_of r 0 ≡ 0
unfolding name_of name_in
name_none r = refl

at_entry : (l : List ℕ) (t : ℕ) → t ≢ 0 → slice_index (0 ∷ l) t ≡ slice_index l (t - 1)
at_entry l zero h = absurd (h refl)
at_entry l (suc i) h = let e : suc i - 1 ≡ i = omega arith in rw e

pub name_in_lem : (names : List ℕ) (t : ℕ) → t ≢ 0 → name_in names t ≡ slice_index names (t - 1)
unfolding name_in
name_in_lem names t h = at_entry names t h

-- so are the tag of the region above, and the level
pub up_in_lem : (parents : List ℕ) (t : ℕ) → t ≢ 0 → up_in parents t ≡ slice_index parents (t - 1)
unfolding up_in
up_in_lem parents t h = at_entry parents t h

pub level_in_lem : (levels : List ℕ) (t : ℕ) → t ≢ 0 → level_in levels t ≡ slice_index levels (t - 1)
unfolding level_in
level_in_lem levels t h = at_entry levels t h

pub name_some : (r : Regions) (t : ℕ) → t ≢ 0 → name_of r t ≡ name_at r (t - 1)
unfolding name_of name_at
name_some r t h = name_in_lem r.names t h

pub name_of_lem : (r : Regions) (i : ℕ) → name_of r (i + 1) ≡ name_at r i
name_of_lem r i = let e : i + 1 - 1 ≡ i = omega arith in name_some r (i + 1) (λ q. omega arith) ∙ ap (name_at r) e

-- the entry of a name
pub entry_find : (r : Regions) (n : ℕ) → n ≢ 0 → entry_of r n ≡ find_or (λ i. nat_eq (name_at r i) n) 64 (up_to 64)
unfolding entry_of entry_in name_at
entry_find r n h = rw (ne_eqb n 0 h)

pub entry_found : (r : Regions) (n : ℕ) → n ≢ 0 → any_of (λ i. nat_eq (name_at r i) n) (up_to 64) ≡ true → (entry_of r n < 64) × (name_at r (entry_of r n) ≡ n)
entry_found r n h e =
    let f = find_found (λ i. nat_eq (name_at r i) n) 64 64 e in
    rw (entry_find r n h) (f.0, eqb-true (name_at r (find_or (λ i. nat_eq (name_at r i) n) 64 (up_to 64))) n f.1)

-- the entry that a name is found at has that name, on any memory
pub entry_named : (names : List ℕ) (n : ℕ) → entry_in names n < 64 → slice_index names (entry_in names n) ≡ n
unfolding entry_in
entry_named names n = go (n == 0)
  where
    has : ℕ → Bool
    has i = slice_index names i == n

    go : (b : Bool) → pick b 64 (find_or has 64 (up_to 64)) < 64 → slice_index names (pick b 64 (find_or has 64 (up_to 64))) ≡ n
    go true h = absurd (omega arith)
    go false h = by_test (any_of has (up_to 64)) (λ e. eqb-true (slice_index names (find_or has 64 (up_to 64))) n (find_found has 64 64 e).1) (λ e. absurd (omega (arith, find_none has 64 (up_to 64) e)))

-- and so is in use
pub entry_used : (r : Regions) (n : ℕ) → entry_of r n < 64 → name_at r (entry_of r n) ≢ 0
unfolding name_at entry_of entry_in
entry_used r n h z = let e = sym (entry_named r.names n h) ∙ z in omega (arith, rw e at h)

-- the entries in use and those not in use are all
pub live_rest : (names : List ℕ) → live_in names + count_of (λ i. nat_eq (slice_index names i) 0) (up_to 64) ≡ 64
unfolding live_in
live_rest names = count_not (λ i. nat_eq (slice_index names i) 0) (up_to 64) ∙ length_up_to 64

pub live_unused : (r : Regions) → live_count r + count_of (λ i. nat_eq (name_at r i) 0) (up_to 64) ≡ 64
unfolding live_count name_at
live_unused r = live_rest r.names

-- the entry for a new region, if there is one, is not in use
pub unused_free : (r : Regions) → unused r < 64 → name_at r (unused r) ≡ 0
unfolding unused unused_in name_at
unused_free r h =
    let none : ℕ → Bool = λ i. nat_eq (name_at r i) 0 in
    by_test (any_of none (up_to 64)) (λ e. eqb-true (name_at r (find_or none 64 (up_to 64))) 0 (find_found none 64 64 e).1) (λ e. absurd (omega (arith, find_none none 64 (up_to 64) e)))

pub unused_found : (r : Regions) → live_count r < 64 → (unused r < 64) × (name_at r (unused r) ≡ 0)
unfolding unused unused_in name_at
unused_found r h =
    let none : ℕ → Bool = λ i. nat_eq (name_at r i) 0 in
    let f = find_found none 64 64 (any_count none (up_to 64) ∙ lt-ltb 0 (count_of none (up_to 64)) (rest (live_count r) (count_of none (up_to 64)) (live_unused r) h)) in
    (f.0, eqb-true (name_at r (find_or none 64 (up_to 64))) 0 f.1)
  where
    rest : (a b : ℕ) → a + b ≡ 64 → a < 64 → 0 < b
    rest a b e k = omega arith

-- the entry found is at most 64
pub entry_most : (names : List ℕ) (n : ℕ) → entry_in names n ≤ 64
unfolding entry_in
entry_most names n = go (n == 0)
  where
    go : (b : Bool) → pick b 64 (find_or (λ i. nat_eq (slice_index names i) n) 64 (up_to 64)) ≤ 64
    go true = omega arith
    go false = all_find (λ i. i ≤ 64) (λ i. nat_eq (slice_index names i) n) 64 (up_to 64) (all_up_to (λ i. i ≤ 64) 64 (λ i h. omega arith)) (omega arith)
