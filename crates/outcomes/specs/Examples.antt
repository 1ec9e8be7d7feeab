-- Memories written out: one that the audit accepts, some like it with a longer way up, one with free pages between those held; for each clause of Sound some that break it, and some that differ only where nothing is read.
-- The first has two pages, regions 1 and 5 (5 below 1), four objects, two frames of which one is counted. Entries not in use hold 77 or 99, or shares that come to 77. Each count is kept in
-- four shares, of which none is the count (document 02, card 5).
-- Assumes nothing.
use Rattle.std.specs.Prelude.{List, [], ◌∷◌, ◌++◌, map, ℕ, ◌+◌, set, take, replicate}
use Rattle.std.proofs.lemmas.List.Edits.{sets}
use Rattle.lists.specs.Lists.{joined, up_to}
use Rattle.regions.specs.Regions.{count_at, with_region}
use Rattle.outcomes.specs.Store.{Store, frames, kinds, regions, pages}
use Rattle.outcomes.specs.Outcome.{with_frames, with_kinds, with_regions, with_pages, with_heap}

-- ---- what the memories hold

-- two frames: slots 0 and 1 of the lower, slot 0 of the upper
abbrev ws : List ℕ
ws = 2 ∷ 1 ∷ replicate 30 77

abbrev sl : List ℕ
sl = 1 ∷ 65 ∷ replicate 6 77 ++ (68 ∷ replicate 247 77)

-- kinds: 1 (free, data), 2 (same, up, forever), 3 (data, data)
abbrev sz : List ℕ
sz = 2 ∷ 3 ∷ 2 ∷ replicate 13 77

abbrev mk : List ℕ
mk = (1 ∷ 0 ∷ replicate 14 77) ++ (2 ∷ 3 ∷ 4 ∷ replicate 13 77) ++ (0 ∷ 0 ∷ replicate 222 77)

-- names, parents, levels, counts (which shares below come to), newest, oldest: region 1 at entry 0, region 5 at entry 2, entry 1 not in use
abbrev nm : List ℕ
nm = 1 ∷ 0 ∷ 5 ∷ replicate 61 0

abbrev pa : List ℕ
pa = 0 ∷ 77 ∷ 1 ∷ replicate 61 77

abbrev lv : List ℕ
lv = 1 ∷ 77 ∷ 2 ∷ replicate 61 77

abbrev ct : List ℕ
ct = 2 ∷ 77 ∷ 2 ∷ replicate 61 77

-- shares that come to these counts: of a count c they are c + 5, 2^32 - 3, 7 and 2^32 - 9; and shares that filler f alone has
abbrev wild : List ℕ → List ℕ
wild cs = joined (λ c. (c + 5) ∷ 4294967293 ∷ 7 ∷ 4294967287 ∷ []) cs

abbrev alone : ℕ → List ℕ → List ℕ
alone f cs = joined (λ c. set (replicate 4 0) f c) cs

abbrev nw : List ℕ
nw = 1 ∷ 77 ∷ 2 ∷ replicate 61 77

abbrev ol : List ℕ
ol = 1 ∷ 77 ∷ 65 ∷ replicate 61 77

-- owners, taken
abbrev ow : List ℕ
ow = 1 ∷ 3 ∷ replicate 254 77

abbrev tk : List ℕ
tk = 6 ∷ 7 ∷ replicate 254 77

-- page 0: kind 1 at place 0, kind 3 at 3. Page 1: kind 1 at 64, kind 2 at 67
abbrev page0 : List ℕ
page0 = 1 ∷ 65 ∷ 9 ∷ 3 ∷ 7 ∷ 8 ∷ replicate 58 99

abbrev hp : List ℕ
hp = page0 ++ (1 ∷ 1 ∷ 42 ∷ 2 ∷ 65 ∷ 4 ∷ 1 ∷ replicate 57 99)

-- counts, newest pages or oldest objects of regions that have none
abbrev none : List ℕ
none = 0 ∷ 77 ∷ 0 ∷ replicate 61 77

-- 17 regions by name or by level, and by the regions above, each right below the one before
abbrev chain : List ℕ
chain = 1 ∷ 2 ∷ 3 ∷ 4 ∷ 5 ∷ 6 ∷ 7 ∷ 8 ∷ 9 ∷ 10 ∷ 11 ∷ 12 ∷ 13 ∷ 14 ∷ 15 ∷ 16 ∷ 17 ∷ replicate 47 0

abbrev above : List ℕ
above = 0 ∷ 1 ∷ 2 ∷ 3 ∷ 4 ∷ 5 ∷ 6 ∷ 7 ∷ 8 ∷ 9 ∷ 10 ∷ 11 ∷ 12 ∷ 13 ∷ 14 ∷ 15 ∷ 16 ∷ replicate 47 0

abbrev pub small : Store
small = record {
  state = record {
    frames = record { standing = 2; counted = 1; widths = ws; slots = sl };
    kinds = record { declared = 3; sizes = sz; marks = mk };
    regions = record { given = 7; names = nm; parents = pa; levels = lv; shares = wild ct; newest = nw; oldest = ol };
    pages = record { made = 2; owners = ow; taken = tk };
  };
  heap = hp;
}

-- ---- a memory with one number or array of it changed: `small but set_counts (..) but set_owners (..)`

-- Each part is put together in one place. A number or array that the state gains later is handed on there, as S has it; it starts in `small`, and gets
-- a function of its own here.
abbrev frames_by : Store → ℕ → ℕ → List ℕ → List ℕ → Store
frames_by S n m w s = with_frames S (record { standing = n; counted = m; widths = w; slots = s })

abbrev kinds_by : Store → ℕ → List ℕ → List ℕ → Store
kinds_by S n z k = with_kinds S (record { declared = n; sizes = z; marks = k })

abbrev regions_by : Store → ℕ → List ℕ → List ℕ → List ℕ → List ℕ → List ℕ → List ℕ → Store
regions_by S g n p l c e o = with_regions S (record { given = g; names = n; parents = p; levels = l; shares = c; newest = e; oldest = o })

abbrev pages_by : Store → ℕ → List ℕ → List ℕ → Store
pages_by S n o t = with_pages S (record { made = n; owners = o; taken = t })

-- a memory with a change made to it
infixl 50 ◌but◌
abbrev pub ◌but◌ : Store → (Store → Store) → Store
S but f = f S

abbrev pub set_standing : ℕ → Store → Store
set_standing x S = let f = frames S in frames_by S x f.counted f.widths f.slots

abbrev pub set_counted : ℕ → Store → Store
set_counted x S = let f = frames S in frames_by S f.standing x f.widths f.slots

abbrev pub set_widths : List ℕ → Store → Store
set_widths x S = let f = frames S in frames_by S f.standing f.counted x f.slots

abbrev pub set_slots : List ℕ → Store → Store
set_slots x S = let f = frames S in frames_by S f.standing f.counted f.widths x

abbrev pub set_declared : ℕ → Store → Store
set_declared x S = let k = kinds S in kinds_by S x k.sizes k.marks

abbrev pub set_sizes : List ℕ → Store → Store
set_sizes x S = let k = kinds S in kinds_by S k.declared x k.marks

abbrev pub set_marks : List ℕ → Store → Store
set_marks x S = let k = kinds S in kinds_by S k.declared k.sizes x

abbrev pub set_given : ℕ → Store → Store
set_given x S = let r = regions S in regions_by S x r.names r.parents r.levels r.shares r.newest r.oldest

abbrev pub set_names : List ℕ → Store → Store
set_names x S = let r = regions S in regions_by S r.given x r.parents r.levels r.shares r.newest r.oldest

abbrev pub set_parents : List ℕ → Store → Store
set_parents x S = let r = regions S in regions_by S r.given r.names x r.levels r.shares r.newest r.oldest

abbrev pub set_levels : List ℕ → Store → Store
set_levels x S = let r = regions S in regions_by S r.given r.names r.parents x r.shares r.newest r.oldest

abbrev pub set_shares : List ℕ → Store → Store
set_shares x S = let r = regions S in regions_by S r.given r.names r.parents r.levels x r.newest r.oldest

-- the counts x, in wild shares
abbrev pub set_counts : List ℕ → Store → Store
set_counts x S = set_shares (wild x) S

abbrev pub set_newest : List ℕ → Store → Store
set_newest x S = let r = regions S in regions_by S r.given r.names r.parents r.levels r.shares x r.oldest

abbrev pub set_oldest : List ℕ → Store → Store
set_oldest x S = let r = regions S in regions_by S r.given r.names r.parents r.levels r.shares r.newest x

abbrev pub set_made : ℕ → Store → Store
set_made x S = let p = pages S in pages_by S x p.owners p.taken

abbrev pub set_owners : List ℕ → Store → Store
set_owners x S = let p = pages S in pages_by S p.made x p.taken

abbrev pub set_taken : List ℕ → Store → Store
set_taken x S = let p = pages S in pages_by S p.made p.owners x

abbrev pub set_heap : List ℕ → Store → Store
set_heap x S = with_heap S x

-- of a memory that a delete left: the counts and the names of the first four entries, the owners of the first four pages, m
abbrev pub reads : Store → List (List ℕ)
reads S = map (count_at (regions S)) (up_to 4) ∷ take 4 (regions S).names ∷ take 4 (pages S).owners ∷ ((frames S).counted ∷ []) ∷ []

-- ---- memories

-- `small` with a region more, named 8, which has no page yet
abbrev pub grown : Store
grown = with_regions small (with_region (regions small) 1 0 1)

-- the same with these four shares of region 8, to which nothing leads (document 02, card 5)
abbrev pub shared : List ℕ → Store
shared cs = grown but set_shares (sets (regions grown).shares 4 cs)

-- `small` with regions 3 and 7 too, which have no page: regions 1, 3, 5 and 7 at entries 0 to 3, given the tags of the regions above (ps) and the levels (ls). The word marked 3 leads from
-- region 5 to region 1 (document 02, card 1)
abbrev pub tree : List ℕ → List ℕ → Store
tree ps ls = small but set_names (1 ∷ 3 ∷ 5 ∷ 7 ∷ replicate 60 0) but set_parents (ps ++ replicate 60 77) but set_levels (ls ++ replicate 60 77) but set_counts (2 ∷ 0 ∷ 2 ∷ replicate 61 0) but set_newest (1 ∷ 0 ∷ 2 ∷ replicate 61 0) but set_oldest (1 ∷ 0 ∷ 65 ∷ replicate 61 0)

-- the same with page 0 held by region 3, so that the word marked 3 leads from region 5 to region 3; the word marked 4 is null
abbrev pub tree_to3 : List ℕ → List ℕ → Store
tree_to3 ps ls = tree ps ls but set_counts (0 ∷ 2 ∷ 2 ∷ replicate 61 0) but set_newest (0 ∷ 1 ∷ 2 ∷ replicate 61 0) but set_oldest (0 ∷ 1 ∷ 65 ∷ replicate 61 0) but set_owners (set ow 0 2) but set_heap (set hp 70 0)

-- regions 3 and 5 in a ring, each above the other, and both at level 2
abbrev pub ring : Store
ring = tree (0 ∷ 3 ∷ 2 ∷ 0 ∷ []) (1 ∷ 2 ∷ 2 ∷ 1 ∷ [])

abbrev pub ring_to3 : Store
ring_to3 = tree_to3 (0 ∷ 3 ∷ 2 ∷ 0 ∷ []) (1 ∷ 2 ∷ 2 ∷ 1 ∷ [])

-- `small` with holes: of five pages 1 and 3 are free, region 5 holds page 2 and region 1 the others. Region 1's newest page is page 4, and region 5 has none entered (document 02, card 4)
abbrev pub holes : Store
holes =
    small but set_made 5 but set_owners (1 ∷ 0 ∷ 3 ∷ 0 ∷ 1 ∷ replicate 251 77) but set_taken (6 ∷ 77 ∷ 7 ∷ 77 ∷ 3 ∷ replicate 251 77) but set_newest (5 ∷ 77 ∷ 0 ∷ replicate 61 77) but set_oldest (1 ∷ 77 ∷ 129 ∷ replicate 61 77)
    but set_slots (1 ∷ 129 ∷ replicate 6 77 ++ (132 ∷ replicate 247 77))
    but set_heap (set page0 1 129 ++ replicate 64 99 ++ (1 ∷ 1 ∷ 42 ∷ 2 ∷ 129 ∷ 4 ∷ 1 ∷ replicate 57 99) ++ replicate 64 99 ++ (3 ∷ 7 ∷ 8 ∷ replicate 61 99))

-- A memory, and the numbers of Sound's clauses that it breaks, from 0 in the order of the fields; a clause added later goes to the end of Sound and of the
-- list of clauses, so that these numbers stay:
-- 0 counts, 1 slots, 2 words, 3 held, 4 made, 5 declared, 6 sizes, 7 marks, 8 standing, 9 widths, 10 levels, 11 given, 12 counted, 13 heap_length, 14 distinct, 15 names_given, 16 permanent, 17 parents, 18 filling, 19 newest, 20 oldest
pub record Example : Type 0 where
  pub memory : Store
  pub breaks : List ℕ

abbrev example : Store → List ℕ → Example
example S l = record { memory = S; breaks = l }

abbrev pub examples : List Example
examples =
    example small []
    -- free pages between those held, and a region with a page and no newest one
    ∷ example holes []
    -- a stored count one too low
    ∷ example (small but set_counts (set ct 0 1)) (0 ∷ [])
    -- a stored count one too high
    ∷ example (small but set_counts (set ct 2 3)) (0 ∷ [])
    -- the count of region 1 in the share of filler 0, and more in that of filler 2; in the share of filler 3, and 2^32 - 1 in that of filler 0
    ∷ example (small but set_shares (set (alone 0 ct) 2 1)) (0 ∷ [])
    ∷ example (small but set_shares (set (alone 3 ct) 0 4294967295)) (0 ∷ [])
    -- the first three shares of region 5 come to its count, and the fourth is not 0
    ∷ example (small but set_shares (set (alone 1 ct) 11 77)) (0 ∷ [])
    -- a count of 1 of a region to which nothing leads
    ∷ example (shared (0 ∷ 0 ∷ 1 ∷ 0 ∷ [])) (0 ∷ [])
    -- a slot that leads to no header
    ∷ example (small but set_slots (set sl 8 67)) (1 ∷ [])
    -- a slot that leads to a header on a free page
    ∷ example (small but set_slots (set sl 8 129) but set_made 3 but set_owners (set ow 2 0) but set_taken (set tk 2 3) but set_heap (hp ++ (1 ∷ 0 ∷ 0 ∷ replicate 61 99))) (1 ∷ [])
    -- a word marked 2 that leads nowhere
    ∷ example (small but set_heap (set hp 68 66)) (2 ∷ [])
    -- a word marked 2 that leads to another region
    ∷ example (small but set_heap (set hp 68 1)) (2 ∷ [])
    -- a word marked 3 that leads to a region beside the way up: region 5 at level 1 has none above
    ∷ example (small but set_parents (set pa 2 0) but set_levels (set lv 2 1)) (2 ∷ [])
    -- a word marked 3 that leads to a sibling: regions 3 and 5 are both below region 1
    ∷ example (tree_to3 (0 ∷ 1 ∷ 1 ∷ 0 ∷ []) (1 ∷ 2 ∷ 2 ∷ 1 ∷ [])) (2 ∷ [])
    -- downward: region 3 is below region 5
    ∷ example (tree_to3 (0 ∷ 3 ∷ 1 ∷ 0 ∷ []) (1 ∷ 3 ∷ 2 ∷ 1 ∷ [])) (2 ∷ [])
    -- beside the way up: region 5 is below 7, and 3 and 7 are below 1
    ∷ example (tree_to3 (0 ∷ 1 ∷ 4 ∷ 1 ∷ []) (1 ∷ 2 ∷ 3 ∷ 2 ∷ [])) (2 ∷ [])
    -- a word marked 4 that leads to region 5
    ∷ example (small but set_heap (set hp 70 65)) (2 ∷ [])
    -- a page entered as neither: its entry is not in use. Its objects are then not live
    ∷ example (small but set_owners (set ow 1 2)) (0 ∷ 1 ∷ 2 ∷ 3 ∷ 19 ∷ 20 ∷ [])
    -- a third page, entered as neither
    ∷ example (small but set_made 3 but set_owners (set ow 2 2) but set_taken (set tk 2 0) but set_heap (hp ++ replicate 64 99)) (3 ∷ [])
    -- no page made
    ∷ example (small but set_standing 0 but set_counted 0 but set_counts none but set_newest none but set_oldest none but set_made 0 but set_heap []) (4 ∷ [])
    -- 17 kinds: the last has no size
    ∷ example (small but set_declared 17 but set_sizes (2 ∷ 3 ∷ 2 ∷ replicate 13 1) but set_marks (1 ∷ 0 ∷ replicate 14 77 ++ (2 ∷ 3 ∷ 4 ∷ replicate 237 0))) (5 ∷ 6 ∷ [])
    -- a kind with no word
    ∷ example (small but set_declared 4 but set_sizes (set sz 3 0)) (6 ∷ [])
    -- a mark above 4
    ∷ example (small but set_declared 4 but set_sizes (set sz 3 1) but set_marks (set mk 48 5)) (7 ∷ [])
    -- 33 frames
    ∷ example (small but set_standing 33 but set_widths (2 ∷ replicate 31 1) but set_slots (1 ∷ 65 ∷ replicate 6 0 ++ (68 ∷ replicate 247 0))) (8 ∷ [])
    -- a frame of 9 slots
    ∷ example (small but set_widths (set ws 1 9) but set_slots (1 ∷ 65 ∷ replicate 6 0 ++ (68 ∷ replicate 247 0))) (9 ∷ [])
    -- a frame of no slot
    ∷ example (small but set_widths (set ws 1 0)) (9 ∷ [])
    -- a name above 1,000,000 given
    ∷ example (small but set_given 1000001) (11 ∷ [])
    -- m not below the number of frames
    ∷ example (small but set_counted 2 but set_counts (set ct 2 3)) (12 ∷ [])
    -- a heap that lacks its last word
    ∷ example (small but set_heap (page0 ++ (1 ∷ 1 ∷ 42 ∷ 2 ∷ 65 ∷ 4 ∷ 1 ∷ replicate 56 99))) (13 ∷ [])
    -- two entries with one name
    ∷ example (small but set_names (set nm 3 5) but set_parents (set pa 3 1) but set_levels (set lv 3 2) but set_counts (set ct 3 0) but set_newest (set nw 3 0) but set_oldest (set ol 3 0)) (14 ∷ [])
    -- a name that was not given
    ∷ example (small but set_given 4) (15 ∷ [])
    -- a name that was not given, in the last entry
    ∷ example (small but set_names (set nm 63 8) but set_parents (set pa 63 0) but set_levels (set lv 63 1) but set_counts (set ct 63 0) but set_newest (set nw 63 0) but set_oldest (set ol 63 0)) (15 ∷ [])
    -- region 1 under another name, the word marked 4 null
    ∷ example (small but set_names (set nm 0 2) but set_heap (set hp 70 0)) (16 ∷ [])
    -- a region above that is not in use, the word marked 3 null
    ∷ example (small but set_parents (set pa 2 2) but set_levels (set lv 1 1) but set_heap (set hp 69 0)) (17 ∷ [])
    -- a level two more than the one above
    ∷ example (small but set_levels (set lv 2 3)) (17 ∷ [])
    -- 17 regions, each below the one before: level 17
    ∷ example (small but set_standing 0 but set_counted 0 but set_given 17 but set_names chain but set_parents above but set_levels chain but set_counts (replicate 64 0) but set_newest (replicate 64 0) but set_oldest (replicate 64 0) but set_made 1 but set_owners (replicate 256 0) but set_heap (replicate 64 99)) (10 ∷ [])
    -- a region with none above at level 2, the word marked 3 null
    ∷ example (small but set_parents (set pa 2 0) but set_heap (set hp 69 0)) (17 ∷ [])
    -- region 1 below region 5, the word marked 3 null
    ∷ example (small but set_parents (3 ∷ 77 ∷ 0 ∷ replicate 61 77) but set_levels (2 ∷ 77 ∷ 1 ∷ replicate 61 77) but set_heap (set hp 69 0)) (17 ∷ [])
    -- two regions in a ring, the word marked 3 leading out of it to region 1, and within it to region 3
    ∷ example ring (2 ∷ 17 ∷ [])
    ∷ example ring_to3 (17 ∷ [])
    -- a page taken one word further than its objects reach
    ∷ example (small but set_taken (set tk 0 7)) (18 ∷ [])
    -- an object that goes past what is taken: it is not met
    ∷ example (small but set_slots (set sl 8 65) but set_taken (set tk 1 6)) (18 ∷ [])
    -- a newest page of another region
    ∷ example (small but set_newest (set nw 2 1)) (19 ∷ [])
    -- a newest page past those made
    ∷ example (small but set_newest (set nw 2 3) but set_owners (set ow 2 3)) (19 ∷ [])
    -- an oldest object of another region
    ∷ example (small but set_oldest (set ol 2 1)) (20 ∷ [])
    -- an oldest object that is none
    ∷ example (small but set_oldest (set ol 2 66)) (20 ∷ [])
    -- a word marked 3 that leads two levels up, to region 1: region 5 is below 3, and 3 below 1
    ∷ example (tree (0 ∷ 1 ∷ 2 ∷ 0 ∷ []) (1 ∷ 2 ∷ 3 ∷ 1 ∷ [])) []
    -- two levels up, to region 3: region 5 is below 7, 7 below 3, and 3 below 1
    ∷ example (tree_to3 (0 ∷ 1 ∷ 4 ∷ 2 ∷ []) (1 ∷ 2 ∷ 4 ∷ 3 ∷ [])) []
    -- from level 16 to level 1: 16 regions, each below the one before, and page 1 held by the last
    ∷ example (small but set_given 16 but set_names (set chain 16 0) but set_parents above but set_levels chain but set_counts (set (2 ∷ replicate 63 0) 15 2) but set_newest (set (1 ∷ replicate 63 0) 15 2) but set_oldest (set (1 ∷ replicate 63 0) 15 65) but set_owners (set ow 1 16)) []
    -- entries not in use may hold anything: other slots, marks, region entries, owners and taken words past the pages made, words past those taken
    ∷ example (small but set_slots (set (set sl 2 1) 16 5) but set_marks (set mk 2 9) but set_parents (set pa 1 0) but set_levels (set lv 1 99) but set_counts (set ct 1 5) but set_owners (set ow 2 1) but set_taken (set tk 5 3) but set_heap (set (set hp 6 1) 127 65)) []
    -- counts that one filler has alone, whichever
    ∷ example (small but set_shares (alone 0 ct)) []
    ∷ example (small but set_shares (alone 3 ct)) []
    -- a count of 0 in shares of which two are not 0
    ∷ example (shared (3 ∷ 4294967293 ∷ 0 ∷ 0 ∷ [])) []
    -- a region without newest page or oldest object entered
    ∷ example (small but set_newest (set nw 2 0) but set_oldest (set ol 2 0)) []
    -- a newest page or oldest object that is its own, whichever
    ∷ example (small but set_oldest (set ol 2 68)) []
    -- names given and gone
    ∷ example (small but set_given 1000000) []
    -- a third page, free, whose taken words are not read
    ∷ example (small but set_made 3 but set_owners (set ow 2 0) but set_heap (hp ++ replicate 64 99)) []
    -- a third page, held and taken to no word
    ∷ example (small but set_made 3 but set_owners (set ow 2 3) but set_taken (set tk 2 0) but set_heap (hp ++ replicate 64 99)) []
    ∷ []
