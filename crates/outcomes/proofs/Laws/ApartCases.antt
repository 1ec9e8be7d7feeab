-- Regions taken apart, computed on a memory written out, where an edit of the code that must be refused would leave something else.
-- Assumes nothing.
use Rattle.std.specs.Prelude.{◌≡◌, refl, Bool, true, List, [], ◌∷◌, ◌++◌, map, ℕ, eqb, replicate, take}
use Rattle.lists.specs.Lists.{every, equal, up_to}
use Rattle.lists.specs.Ticks.{tick_at}
use Rattle.model.specs.Model.{climb}
use Rattle.frames.specs.Frames.{frame_count, top_frame, width_at, slot_at, raised}
use Rattle.kinds.specs.Kinds.{kind_count, size_in, size_of, mark_at}
use Rattle.regions.specs.Regions.{name_at, name_in, name_of, entry_of, entry_in, tag_of, parent_at, level_at, newest_at, oldest_at, count_at, count_in, added, without_regions, with_shares, rolled, moved, recount}
use Rattle.pages.specs.Pages.{page_count, owner_at, taken_at, owner_in, owner_of, is_free, owners_to, freed}
use Rattle.objects.specs.Objects.{walk, headers_to, headers_on, free_words, free_words_on, free_words_of, out_of}
use Rattle.outcomes.specs.Store.{Store, frames, regions, pages, targets_in, slot_targets}
use Rattle.outcomes.specs.History.{entries, listed_regions, listed_kinds, listed_frames, listed_held, listed_free, met_on, begin, slots_of, pointers_of, leads, home_of, slots_leading_to, words_leading_to, outside, uncounted_into, stored_count, counts_exact, slots_lead, words_lead, pages_held}
use Rattle.outcomes.specs.Sound.{filled, placed, newest_own, oldest_own, sound}
use Rattle.outcomes.specs.Outcome.{store, blank, recounted, outgoing, newly_in, newly_counted, deleted}
use Rattle.outcomes.specs.Apart.{page_scanned, page_given, turn, each_page, turns, scanned, given_back, pages_back, scan_then_give, page_by_page, deleted_by}
use Rattle.outcomes.specs.Examples.{◌but◌, set_standing, set_widths, set_slots, set_declared, set_sizes, set_marks, set_given, set_names, set_levels, set_counts, set_newest, set_oldest, set_owners, set_taken}

-- a page with one object of two words marked 1
abbrev page : ℕ → ℕ → List ℕ
page v w = 1 ∷ v ∷ w ∷ replicate 61 0

-- Regions 1 to 5 on seven pages: region 2 has pages 1 and 4, region 5 pages 5 and 6. The words lead, page by page, into region 4 and none; 3 and 1; 2 and 4; 1 and none; 3 and 2 itself;
-- 5 itself, on the later page, and 1; 5 itself, on the earlier page, and 3. Two frames stand, none counted; the lower leads into region 1
abbrev memory : Store
memory =
    store (blank 7 1) (page 193 0 ++ page 129 1 ++ page 65 193 ++ page 1 0 ++ page 129 65 ++ page 385 1 ++ page 321 129)
    but set_standing 2 but set_widths (1 ∷ 1 ∷ replicate 30 0) but set_slots (1 ∷ replicate 255 0)
    but set_declared 1 but set_sizes (2 ∷ replicate 15 0) but set_marks (1 ∷ 1 ∷ replicate 254 0)
    but set_given 5 but set_names (1 ∷ 2 ∷ 3 ∷ 4 ∷ 5 ∷ replicate 59 0) but set_levels (1 ∷ 1 ∷ 1 ∷ 1 ∷ 1 ∷ replicate 59 0)
    but set_counts (3 ∷ 1 ∷ 3 ∷ 2 ∷ 0 ∷ replicate 59 0) but set_newest (1 ∷ 5 ∷ 3 ∷ 4 ∷ 7 ∷ replicate 59 0) but set_oldest (1 ∷ 65 ∷ 129 ∷ 193 ∷ 321 ∷ replicate 59 0)
    but set_owners (1 ∷ 2 ∷ 3 ∷ 4 ∷ 2 ∷ 5 ∷ 5 ∷ replicate 249 0) but set_taken (3 ∷ 3 ∷ 3 ∷ 3 ∷ 3 ∷ 3 ∷ 3 ∷ replicate 249 0)

-- the counts of the five regions, and the owners of the seven pages
abbrev reads : Store → List (List ℕ)
reads S = map (count_at (regions S)) (up_to 5) ∷ take 7 (pages S).owners ∷ []

-- of the regions ticked: what the scan leaves; what the giving back leaves after it, and how many pages; the same page by page
abbrev taken : List ℕ → List (List ℕ)
taken ticks =
    let m : ℕ → Bool = tick_at ticks in
    let t = scan_then_give 0 memory m in
    let p = page_by_page 3 memory m in
    reads (scanned 2 memory m) ++ reads t.0 ++ ((t.1 ∷ []) ∷ []) ++ reads p.0 ++ ((p.1 ∷ []) ∷ [])

abbrev cases : List (List ℕ × List (List ℕ))
cases =
    -- none
    (replicate 256 0, (3 ∷ 1 ∷ 3 ∷ 2 ∷ 0 ∷ []) ∷ (1 ∷ 2 ∷ 3 ∷ 4 ∷ 2 ∷ 5 ∷ 5 ∷ []) ∷ (3 ∷ 1 ∷ 3 ∷ 2 ∷ 0 ∷ []) ∷ (1 ∷ 2 ∷ 3 ∷ 4 ∷ 2 ∷ 5 ∷ 5 ∷ []) ∷ (0 ∷ []) ∷ (3 ∷ 1 ∷ 3 ∷ 2 ∷ 0 ∷ []) ∷ (1 ∷ 2 ∷ 3 ∷ 4 ∷ 2 ∷ 5 ∷ 5 ∷ []) ∷ (0 ∷ []) ∷ [])
    -- region 5: one way as the other
    ∷ (0 ∷ 0 ∷ 0 ∷ 0 ∷ 0 ∷ 1 ∷ [], (2 ∷ 1 ∷ 2 ∷ 2 ∷ 0 ∷ []) ∷ (1 ∷ 2 ∷ 3 ∷ 4 ∷ 2 ∷ 5 ∷ 5 ∷ []) ∷ (2 ∷ 1 ∷ 2 ∷ 2 ∷ 0 ∷ []) ∷ (1 ∷ 2 ∷ 3 ∷ 4 ∷ 2 ∷ 0 ∷ 0 ∷ []) ∷ (2 ∷ []) ∷ (2 ∷ 1 ∷ 2 ∷ 2 ∷ 0 ∷ []) ∷ (1 ∷ 2 ∷ 3 ∷ 4 ∷ 2 ∷ 0 ∷ 0 ∷ []) ∷ (2 ∷ []) ∷ [])
    -- region 2 (scan_stops_at_the_first_page, page_of_another_given_back)
    ∷ (0 ∷ 0 ∷ 1 ∷ [], (2 ∷ 1 ∷ 1 ∷ 2 ∷ 0 ∷ []) ∷ (1 ∷ 2 ∷ 3 ∷ 4 ∷ 2 ∷ 5 ∷ 5 ∷ []) ∷ (2 ∷ 1 ∷ 1 ∷ 2 ∷ 0 ∷ []) ∷ (1 ∷ 0 ∷ 3 ∷ 4 ∷ 0 ∷ 5 ∷ 5 ∷ []) ∷ (2 ∷ []) ∷ (2 ∷ 1 ∷ 1 ∷ 2 ∷ 0 ∷ []) ∷ (1 ∷ 0 ∷ 3 ∷ 4 ∷ 0 ∷ 5 ∷ 5 ∷ []) ∷ (2 ∷ []) ∷ [])
    -- regions 2, 3 and 5 (words_of_members_stay, own_region_not_known): page by page, words that lead to pages given back before stay in the counts of 2 and 3, which go
    ∷ (0 ∷ 0 ∷ 1 ∷ 1 ∷ 0 ∷ 1 ∷ [], (1 ∷ 0 ∷ 0 ∷ 1 ∷ 0 ∷ []) ∷ (1 ∷ 2 ∷ 3 ∷ 4 ∷ 2 ∷ 5 ∷ 5 ∷ []) ∷ (1 ∷ 0 ∷ 0 ∷ 1 ∷ 0 ∷ []) ∷ (1 ∷ 0 ∷ 0 ∷ 4 ∷ 0 ∷ 0 ∷ 0 ∷ []) ∷ (5 ∷ []) ∷ (1 ∷ 1 ∷ 2 ∷ 1 ∷ 0 ∷ []) ∷ (1 ∷ 0 ∷ 0 ∷ 4 ∷ 0 ∷ 0 ∷ 0 ∷ []) ∷ (5 ∷ []) ∷ [])
    ∷ []

computed : every (λ p. equal (equal eqb) (taken p.0) p.1) cases ≡ true
unfolding blank size_in size_of mark_at count_at count_in added with_shares rolled moved recount recounted page_count owner_at taken_at owner_in walk headers_to free_words free_words_on out_of tick_at page_scanned page_given turn each_page turns scanned given_back pages_back scan_then_give page_by_page
computed = refl

-- given back before the scan (given_back_before_the_scan): no page is a member's by then, and every word stays counted
out_of_order : equal (equal eqb) (let m : ℕ → Bool = tick_at (0 ∷ 0 ∷ 1 ∷ 1 ∷ 0 ∷ 1 ∷ []) in reads (scanned 1 (given_back memory m) m)) ((3 ∷ 1 ∷ 3 ∷ 2 ∷ 0 ∷ []) ∷ (1 ∷ 0 ∷ 0 ∷ 4 ∷ 0 ∷ 0 ∷ 0 ∷ []) ∷ []) ≡ true
unfolding blank size_in size_of mark_at count_at count_in added with_shares rolled moved recount recounted page_count owner_at taken_at owner_in walk headers_to free_words free_words_on out_of tick_at page_scanned page_given turn each_page scanned given_back
out_of_order = refl

-- what is left in the end, with the names and m too: of region 5 by either way; of regions 2, 3 and 5 by one, and by the other
abbrev whole : Store → List (List ℕ)
whole S = reads S ++ (take 5 (regions S).names ∷ ((frames S).counted ∷ []) ∷ [])

abbrev ends : List (Store × List (List ℕ))
ends =
    let one : List (List ℕ) = (3 ∷ 1 ∷ 2 ∷ 2 ∷ 0 ∷ []) ∷ (1 ∷ 2 ∷ 3 ∷ 4 ∷ 2 ∷ 0 ∷ 0 ∷ []) ∷ (1 ∷ 2 ∷ 3 ∷ 4 ∷ 0 ∷ []) ∷ (1 ∷ []) ∷ [] in
    let three : List ℕ = 2 ∷ 3 ∷ 5 ∷ [] in
    (deleted memory (5 ∷ []) 0, one) ∷ (deleted_by scan_then_give 1 memory (5 ∷ []), one) ∷ (deleted_by page_by_page 2 memory (5 ∷ []), one)
    ∷ (deleted memory three 3, (2 ∷ 0 ∷ 0 ∷ 1 ∷ 0 ∷ []) ∷ (1 ∷ 0 ∷ 0 ∷ 4 ∷ 0 ∷ 0 ∷ 0 ∷ []) ∷ (1 ∷ 0 ∷ 0 ∷ 4 ∷ 0 ∷ []) ∷ (1 ∷ []) ∷ [])
    ∷ (deleted_by page_by_page 0 memory three, (2 ∷ 1 ∷ 2 ∷ 1 ∷ 0 ∷ []) ∷ (1 ∷ 0 ∷ 0 ∷ 4 ∷ 0 ∷ 0 ∷ 0 ∷ []) ∷ (1 ∷ 0 ∷ 0 ∷ 4 ∷ 0 ∷ []) ∷ (1 ∷ []) ∷ [])
    ∷ []

goes : every (λ p. equal (equal eqb) (whole p.0) p.1) ends ≡ true
unfolding blank frame_count top_frame width_at slot_at raised kind_count size_of mark_at name_at entry_of tag_of count_at count_in added without_regions with_shares rolled moved page_count owner_at taken_at owner_in owner_of freed walk headers_to headers_on free_words free_words_on out_of slot_targets recounted outgoing newly_counted deleted size_in entry_in recount targets_in newly_in free_words_of owners_to page_scanned page_given turn each_page turns scanned given_back pages_back scan_then_give page_by_page deleted_by
goes = refl

-- the audit accepts the memory, and what either delete leaves of it by either way
exact : every sound (memory ∷ deleted memory (5 ∷ []) 1 ∷ deleted memory (2 ∷ 3 ∷ 5 ∷ []) 2 ∷ deleted_by page_by_page 3 memory (2 ∷ 3 ∷ 5 ∷ []) ∷ []) ≡ true
unfolding blank frame_count top_frame width_at slot_at raised kind_count size_of mark_at name_at entry_of tag_of count_at count_in added without_regions with_shares rolled moved page_count owner_at taken_at owner_in owner_of freed walk headers_to headers_on free_words free_words_on out_of slot_targets recounted outgoing newly_counted deleted size_in entry_in recount targets_in newly_in free_words_of owners_to name_of parent_at level_at newest_at oldest_at is_free entries listed_regions listed_kinds listed_frames listed_held listed_free met_on begin slots_of pointers_of leads home_of slots_leading_to words_leading_to outside uncounted_into stored_count counts_exact slots_lead words_lead pages_held filled placed newest_own oldest_own name_in sound climb page_scanned page_given turn each_page turns page_by_page deleted_by
exact = refl
