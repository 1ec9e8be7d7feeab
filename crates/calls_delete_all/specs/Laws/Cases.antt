-- Regions deleted together, computed on memories written out, where a wrong call would answer or leave something else.
-- Assumes nothing.
use Rattle.std.specs.Prelude.{◌≡◌, refl, true, not, ◌&&◌, List, [], ◌∷◌, ◌++◌, ℕ, eqb, set, take, replicate}
use Rattle.lists.specs.Lists.{every, equal, joined, from, up_to}
use Rattle.model.specs.Model.{Call, delete, delete_all, gives, climb}
use Rattle.model.specs.Calls.{wrong_names, name_tests}
use Rattle.frames.specs.Frames.{frame_count, top_frame, width_at, slot_at, raised}
use Rattle.kinds.specs.Kinds.{kind_count, size_of, mark_at, size_in}
use Rattle.regions.specs.Regions.{name_at, name_of, name_in, entry_of, tag_of, is_live, parent_at, level_at, newest_at, oldest_at, subregions_of, closed_in, count_at, count_in, added, without_regions, with_shares, rolled, moved, entry_in, subregions_in, recount, follows_in}
use Rattle.pages.specs.Pages.{wrong_length, page_count, is_free, owner_at, taken_at, owner_in, owner_of, pages_in, pages_of, freed, wrong_length_in, owners_to}
use Rattle.objects.specs.Objects.{walk, headers_to, headers_on, free_words, free_words_on, free_words_of, out_of}
use Rattle.outcomes.specs.Store.{Store, pages, led_into, led_among, slot_targets, targets_in, led_in, led_among_in}
use Rattle.outcomes.specs.History.{entries, listed_regions, listed_kinds, listed_frames, listed_held, listed_free, met_on, begin, slots_of, pointers_of, leads, home_of, slots_leading_to, words_leading_to, outside, uncounted_into, stored_count, counts_exact, slots_lead, words_lead, pages_held}
use Rattle.outcomes.specs.Sound.{filled, placed, newest_own, oldest_own, sound}
use Rattle.outcomes.specs.Outcome.{bad_length, dead, checks, refusal, count_but, recounted, outgoing, newly_counted, newly_in, deleted, Accepted, store, blank}
use Rattle.outcomes.specs.Examples.{◌but◌, set_standing, set_counted, set_widths, set_slots, set_declared, set_sizes, set_marks, set_given, set_names, set_parents, set_levels, set_counts, set_newest, set_oldest, set_owners, set_taken, set_heap, reads}

-- Regions 1 to 4 hold a page each, with an object of two free words: region 2's leads into regions 3 and 1, region 3's into 2 and 4, region 1's into 4, region 4's into 1.
-- Two frames of two slots, none counted; both slots of the lower lead into region 4, one of the upper into region 1.
abbrev linked : Store
linked =
    store (blank 4 1) ((1 ∷ 193 ∷ replicate 62 0) ++ (1 ∷ 129 ∷ 1 ∷ replicate 61 0) ++ (1 ∷ 65 ∷ 193 ∷ replicate 61 0) ++ (1 ∷ 1 ∷ replicate 62 0))
    but set_standing 2 but set_widths (2 ∷ 2 ∷ replicate 30 0) but set_slots ((193 ∷ 193 ∷ replicate 6 0) ++ (1 ∷ replicate 247 0))
    but set_declared 1 but set_sizes (2 ∷ replicate 15 0) but set_marks (1 ∷ 1 ∷ replicate 254 0)
    but set_given 4 but set_names (1 ∷ 2 ∷ 3 ∷ 4 ∷ replicate 60 0) but set_levels (1 ∷ 1 ∷ 1 ∷ 1 ∷ replicate 60 0)
    but set_counts (2 ∷ 1 ∷ 1 ∷ 2 ∷ replicate 60 0) but set_newest (1 ∷ 2 ∷ 3 ∷ 4 ∷ replicate 60 0) but set_oldest (1 ∷ 65 ∷ 129 ∷ 193 ∷ replicate 60 0)
    but set_owners (1 ∷ 2 ∷ 3 ∷ 4 ∷ replicate 252 0) but set_taken (3 ∷ 3 ∷ 3 ∷ 3 ∷ replicate 252 0)

-- The same with region 3 below region 2.
abbrev nested : Store
nested = linked but set_parents (0 ∷ 0 ∷ 2 ∷ replicate 61 0) but set_levels (1 ∷ 1 ∷ 2 ∷ 1 ∷ replicate 60 0)

-- One change each: a word of region 1 leads into region 2; a slot of the upper frame leads into region 3; the lower frame is counted, and one of its slots leads into region 3.
abbrev pointed_at : Store
pointed_at = linked but set_heap (set linked.heap 2 65) but set_counts (2 ∷ 2 ∷ 1 ∷ 2 ∷ replicate 60 0)

abbrev above : Store
above = linked but set_slots ((193 ∷ 193 ∷ replicate 6 0) ++ (1 ∷ 129 ∷ replicate 246 0))

abbrev below : Store
below = linked but set_counted 1 but set_slots ((129 ∷ 193 ∷ replicate 6 0) ++ (1 ∷ replicate 247 0)) but set_counts (2 ∷ 1 ∷ 2 ∷ 3 ∷ replicate 60 0)

-- One word less, so that nothing leads into region 2, which is entered as its own region above. The audit rejects it.
abbrev looped : Store
looped = linked but set_heap (set linked.heap 129 0) but set_counts (2 ∷ 0 ∷ 1 ∷ 2 ∷ replicate 60 0) but set_parents (0 ∷ 2 ∷ replicate 62 0)

-- Region 3 holds page 0, region 2 the seven others, region 1 none. Kind 1 is 16 free words. 300 words of region 2 lead into region 3, and one of region 3 into region 2. No frame stands.
abbrev crowded : Store
crowded =
    store (blank 8 1) ((1 ∷ 65 ∷ replicate 62 0) ++ joined (λ j. joined (λ k. 1 ∷ replicate 16 1) (up_to 3) ++ replicate 13 0) (up_to 6) ++ (1 ∷ replicate 12 1 ++ replicate 51 0))
    but set_declared 1 but set_sizes (16 ∷ replicate 15 0) but set_marks (replicate 16 1 ++ replicate 240 0)
    but set_given 3 but set_names (1 ∷ 2 ∷ 3 ∷ replicate 61 0) but set_levels (1 ∷ 1 ∷ 1 ∷ replicate 61 0)
    but set_counts (0 ∷ 1 ∷ 300 ∷ replicate 61 0) but set_newest (0 ∷ 8 ∷ 1 ∷ replicate 61 0) but set_oldest (0 ∷ 65 ∷ 1 ∷ replicate 61 0)
    but set_owners (3 ∷ replicate 7 2 ++ replicate 248 0) but set_taken (17 ∷ replicate 6 51 ++ (17 ∷ replicate 248 0))

-- a memory, a call on it, and the number that refuses it, 0 for none
abbrev asked : List (Store × Call × ℕ)
asked =
    -- two regions that lead into each other: neither can go alone, both can together
    (linked, delete 2 0, 19) ∷ (linked, delete 3 0, 19) ∷ (linked, delete_all (2 ∷ []) 0, 19) ∷ (linked, delete_all (3 ∷ []) 0, 19)
    ∷ (linked, delete_all (2 ∷ 3 ∷ []) 0, 0) ∷ (linked, delete_all (3 ∷ 2 ∷ []) 0, 0)
    -- a word from outside; a slot of an uncounted frame; a slot of a counted one
    ∷ (pointed_at, delete_all (2 ∷ 3 ∷ []) 0, 19) ∷ (above, delete_all (2 ∷ 3 ∷ []) 0, 19) ∷ (below, delete_all (2 ∷ 3 ∷ []) 0, 19)
    -- a subregion that is not named, also where pointers remain; one that is
    ∷ (nested, delete_all (2 ∷ []) 0, 18) ∷ (nested, delete_all (2 ∷ 4 ∷ []) 0, 18) ∷ (nested, delete_all (2 ∷ 3 ∷ []) 0, 0) ∷ (nested, delete_all (3 ∷ 2 ∷ []) 0, 0)
    -- a name in turn: dead, or permanent
    ∷ (linked, delete_all (1 ∷ 9 ∷ []) 0, 3) ∷ (linked, delete_all (9 ∷ 1 ∷ []) 0, 2) ∷ (linked, delete_all (2 ∷ 1 ∷ []) 0, 3) ∷ (linked, delete_all (2 ∷ 9 ∷ []) 0, 2) ∷ (linked, delete_all (0 ∷ []) 0, 2)
    -- no name, 17 names, 16 names, a name twice
    ∷ (linked, delete_all [] 0, 22) ∷ (linked, delete_all (from 2 17) 0, 22) ∷ (linked, delete_all (from 2 16) 0, 2) ∷ (linked, delete_all (2 ∷ 3 ∷ 2 ∷ []) 0, 22) ∷ (linked, delete_all (9 ∷ 9 ∷ []) 0, 22)
    -- a heap that lacks a word
    ∷ (linked but set_heap (take 255 linked.heap), delete_all (2 ∷ 3 ∷ []) 0, 21) ∷ (linked but set_heap (take 255 linked.heap), delete_all [] 0, 21)
    -- a count of 300 between two regions
    ∷ (crowded, delete_all (2 ∷ []) 0, 19) ∷ (crowded, delete_all (3 ∷ []) 0, 19) ∷ (crowded, delete_all (2 ∷ 3 ∷ []) 0, 0)
    -- a region entered as its own region above is a subregion of its own, and named
    ∷ (looped, delete 2 0, 18) ∷ (looped, delete_all (2 ∷ []) 0, 0)
    ∷ []

refusals : every (λ p. eqb (refusal p.0 p.1) p.2) asked ≡ true
unfolding blank frame_count top_frame width_at slot_at raised kind_count size_of mark_at name_at entry_of tag_of is_live parent_at subregions_of closed_in follows_in count_at count_in added with_shares rolled moved wrong_length page_count owner_at taken_at owner_in owner_of walk headers_to headers_on free_words free_words_on out_of led_into led_among bad_length dead checks refusal count_but outgoing size_in entry_in subregions_in recount wrong_length_in led_in led_among_in targets_in free_words_of wrong_names name_tests
refusals = refl

-- memories, and what is read in each of them
abbrev left : List (List Store × List (List ℕ))
left =
    (linked ∷ [], (2 ∷ 1 ∷ 1 ∷ 2 ∷ []) ∷ (1 ∷ 2 ∷ 3 ∷ 4 ∷ []) ∷ (1 ∷ 2 ∷ 3 ∷ 4 ∷ []) ∷ (0 ∷ []) ∷ [])
    -- in either order: one pointer into region 1 went with region 2, one into region 4 with region 3, and two into it came with the lower frame, which m now has
    ∷ (deleted linked (2 ∷ 3 ∷ []) 1 ∷ deleted linked (3 ∷ 2 ∷ []) 3 ∷ deleted nested (2 ∷ 3 ∷ []) 0 ∷ [], (1 ∷ 0 ∷ 0 ∷ 3 ∷ []) ∷ (1 ∷ 0 ∷ 0 ∷ 4 ∷ []) ∷ (1 ∷ 0 ∷ 0 ∷ 4 ∷ []) ∷ (1 ∷ []) ∷ [])
    ∷ (deleted crowded (2 ∷ 3 ∷ []) 2 ∷ [], (0 ∷ 0 ∷ 0 ∷ 0 ∷ []) ∷ (1 ∷ 0 ∷ 0 ∷ 0 ∷ []) ∷ (0 ∷ 0 ∷ 0 ∷ 0 ∷ []) ∷ (0 ∷ []) ∷ [])
    ∷ []

goes : every (λ p. every (λ S. equal (equal eqb) (reads S) p.1) p.0) left ≡ true
unfolding blank frame_count top_frame width_at slot_at raised kind_count size_of mark_at name_at entry_of tag_of count_at count_in added without_regions with_shares rolled moved page_count owner_at taken_at owner_in owner_of freed walk headers_to headers_on free_words free_words_on out_of slot_targets recounted outgoing newly_counted deleted size_in entry_in recount targets_in newly_in free_words_of owners_to
goes = refl

-- the pages of both are given back: one and one, seven and one
gave : Accepted (delete_all (2 ∷ 3 ∷ []) 1) linked (gives (2 ∷ [])) (deleted linked (2 ∷ 3 ∷ []) 1) × Accepted (delete_all (2 ∷ 3 ∷ []) 2) crowded (gives (8 ∷ [])) (deleted crowded (2 ∷ 3 ∷ []) 2)
unfolding blank Accepted entry_of tag_of entry_in pages_in pages_of
gave = ((refl, refl), (refl, refl))

-- the audit accepts the memories, and what three of the deletes leave, but not the one with a region entered as its own region above
exact : (every sound (linked ∷ nested ∷ pointed_at ∷ above ∷ below ∷ crowded ∷ deleted linked (2 ∷ 3 ∷ []) 1 ∷ deleted linked (3 ∷ 2 ∷ []) 3 ∷ deleted crowded (2 ∷ 3 ∷ []) 2 ∷ []) && not (sound looped)) ≡ true
unfolding blank frame_count top_frame width_at slot_at raised kind_count size_of mark_at name_at entry_of tag_of count_at count_in added without_regions with_shares rolled moved page_count owner_at taken_at owner_in owner_of freed walk headers_to headers_on free_words free_words_on out_of slot_targets recounted outgoing newly_counted deleted size_in entry_in recount targets_in newly_in free_words_of owners_to name_of parent_at level_at newest_at oldest_at is_free entries listed_regions listed_kinds listed_frames listed_held listed_free met_on begin slots_of pointers_of leads home_of slots_leading_to words_leading_to outside uncounted_into stored_count counts_exact slots_lead words_lead pages_held filled placed newest_own oldest_own name_in sound climb
exact = refl

-- no word of the heap changed, and no page has more or fewer words taken
stays : let S = deleted linked (2 ∷ 3 ∷ []) 1 in (S.heap ≡ linked.heap) × ((pages S).taken ≡ (pages linked).taken)
unfolding deleted recounted freed
stays = (refl, refl)
