-- Regions taken apart in the order of source document 000, chapter 4.5 (document 02, card 3): after the tests a scan removes their references to others from the counts, in the shares of the
-- filler that the call acts for (card 5), and then their pages are given back. Which regions these are, a test of tags says: one for delete, several for a joint delete. The checks, and what is left in the end, stand in Outcome;
-- here stand the scan, the giving back, and the way that delete went before, page by page.
-- Assumes nothing.
use Rattle.std.specs.Prelude.{◌≡◌, Bool, List, [], ◌∷◌, map, ℕ, zero, suc, set}
use Rattle.lists.specs.Lists.{pick, count_of, up_to, among}
use Rattle.model.specs.Model.{Answer, gives, refused_by}
use Rattle.frames.specs.Frames.{raised}
use Rattle.kinds.specs.declared.Kinds.{Kinds}
use Rattle.regions.specs.Regions.{entry_of, tag_of, without_regions}
use Rattle.pages.specs.declared.Pages.{Pages}
use Rattle.pages.specs.Pages.{page_count, pages_with, owner_at}
use Rattle.objects.specs.Objects.{free_words_on, out_of}
use Rattle.outcomes.specs.Store.{Store, frames, kinds, regions, pages}
use Rattle.outcomes.specs.Outcome.{Leaves, with_frames, with_regions, with_pages, recounted, newly_counted}

-- page j scanned: its references to other regions, in words marked 1, leave the counts, by the owners that the pages have then
unfoldable pub page_scanned : ℕ → Store → ℕ → Store
page_scanned f S j = let p = pages S in recounted S f [] (out_of p.owners (owner_at p j) (free_words_on (kinds S) S.heap p j))

-- page j given back: it is free
unfoldable pub page_given : Store → ℕ → Store
page_given S j = let p = pages S in with_pages S (pages_with p.made (set p.owners j 0) p.taken)

-- the turn of page j: a step, if its region passes
unfoldable pub turn : (Store → ℕ → Store) → (ℕ → Bool) → Store → ℕ → Store
turn step member S j = pick (member (owner_at (pages S) j)) (step S j) S

-- the turns of the pages below n, from page 0 on; and how many of them had a step
unfoldable pub each_page : (Store → ℕ → Store) → (ℕ → Bool) → Store → ℕ → Store
each_page step member S zero = S
each_page step member S (suc n) = turn step member (each_page step member S n) n

unfoldable pub turns : (Store → ℕ → Store) → (ℕ → Bool) → Store → ℕ → ℕ
turns step member S n = count_of (λ j. member (owner_at (pages (each_page step member S j)) j)) (up_to n)

-- ---- the scan and the giving back

-- all pages of the regions scanned; all of them given back, and how many
unfoldable pub scanned : ℕ → Store → (ℕ → Bool) → Store
scanned f S member = each_page (page_scanned f) member S (page_count (pages S))

unfoldable pub given_back : Store → (ℕ → Bool) → Store
given_back S member = each_page page_given member S (page_count (pages S))

unfoldable pub pages_back : Store → (ℕ → Bool) → ℕ
pages_back S member = turns page_given member S (page_count (pages S))

-- What code gives that has only these parts of a store. The scan by filler f: cs are the shares that it leaves of every store with these kinds, heap and pages, and the shares bs. (Some store has them, so cs is fixed.)
abbrev pub Scans : ℕ → Kinds → List ℕ → Pages → (ℕ → Bool) → List ℕ → List ℕ → Type 0
Scans f k heap p member bs cs = (S : Store) → kinds S ≡ k → S.heap ≡ heap → pages S ≡ p → (regions S).shares ≡ bs → cs ≡ (regions (scanned f S member)).shares

-- the giving back: os are the owners that it leaves of every store with so many pages made and the owners ns, and n is the number of pages
abbrev pub GivesBack : ℕ → List ℕ → (ℕ → Bool) → List ℕ → ℕ → Type 0
GivesBack made ns member os n = (S : Store) → (pages S).made ≡ made → (pages S).owners ≡ ns → (os ≡ (pages (given_back S member)).owners) × (n ≡ pages_back S member)

-- ---- a delete by one way or the other

-- a way for a filler to take regions apart: what it leaves, and how many pages it gives back
abbrev pub Way : Type 0
Way = ℕ → Store → (ℕ → Bool) → Store × ℕ

-- as chapter 4.5 has it: all is scanned before anything is given back
unfoldable pub scan_then_give : Way
scan_then_give f S member = let T = scanned f S member in (given_back T member, pages_back T member)

-- As delete went before: a page is given back as soon as it is scanned, and a word of a later page that leads there leads into no region then. For several regions this is what that way would do; a joint
-- delete never went so. No code does now
unfoldable pub page_by_page : Way
page_by_page f S member =
    let step : Store → ℕ → Store = λ T j. page_given (page_scanned f T j) j in
    let n = page_count (pages S) in
    (each_page step member S n, turns step member S n)

-- those named rs, by their tags
abbrev pub named : Store → List ℕ → ℕ → Bool
named S rs t = among t (map (tag_of (regions S)) rs)

-- what a delete of the regions named rs leaves: they are taken apart, the frames newly counted enter the counts by the owners that S has, the entries are given up, and m is raised
unfoldable pub deleted_by : Way → ℕ → Store → List ℕ → Store
deleted_by way f S rs =
    let T = recounted (way f S (named S rs)).0 f (newly_counted S) [] in
    with_frames (with_regions T (without_regions (regions T) (map (entry_of (regions S)) rs))) (raised (frames S))

-- the outcome of such a delete by filler f, refused by a number or, where that is 0, accepted
abbrev pub DeletesBy : Way → ℕ → ℕ → List ℕ → Store → Answer → Store → Type 0
DeletesBy way f zero rs S a T = Leaves a (gives ((way f S (named S rs)).1 ∷ [])) T (deleted_by way f S rs)
DeletesBy way f (suc n) rs S a T = Leaves a (refused_by (suc n)) T S
