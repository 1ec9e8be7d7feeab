-- Delete computed on memories written out, where a wrong delete would answer or leave something else.
-- Assumes nothing.
use Rattle.std.specs.Prelude.{◌≡◌, refl, true, [], ◌∷◌, ◌++◌, map, ℕ, eqb, replicate}
use Rattle.lists.specs.Lists.{every, equal}
use Rattle.model.specs.Model.{delete, gives}
use Rattle.frames.specs.Frames.{frame_count, top_frame, width_at, slot_at, raised}
use Rattle.kinds.specs.Kinds.{kind_count, size_of, mark_at, size_in}
use Rattle.regions.specs.Regions.{name_at, entry_of, tag_of, is_live, parent_at, subregions_of, count_at, count_in, added, without_regions, with_shares, rolled, moved, entry_in, subregions_in, recount}
use Rattle.pages.specs.Pages.{wrong_length, page_count, owner_at, taken_at, owner_in, owner_of, freed, wrong_length_in, owners_to, pages_in, pages_of}
use Rattle.objects.specs.Objects.{walk, headers_to, headers_on, free_words, free_words_on, free_words_of, out_of}
use Rattle.outcomes.specs.Store.{Store, led_into, slot_targets, targets_in, led_in, led_among_in}
use Rattle.outcomes.specs.Outcome.{Accepted, bad_length, dead, checks, refusal, recounted, outgoing, newly_counted, newly_in, deleted, store, blank}
use Rattle.outcomes.specs.Examples.{◌but◌, set_standing, set_widths, set_slots, set_declared, set_sizes, set_marks, set_given, set_names, set_parents, set_levels, set_counts, set_newest, set_oldest, set_owners, set_taken, reads}

-- Regions 1 and 2 hold a page each. Kind 1 is one free word. Page 0 has an object, page 1 two: the first leads into region 1, the second into region 2 itself.
-- Three frames of one slot, none counted; the lower two lead into region 1.
-- v: the slot of the top frame. c: the stored count of region 2. n: the name of a subregion of it, 0 for none
abbrev memory : ℕ → ℕ → ℕ → Store
memory v c n =
    store (blank 2 1) (1 ∷ replicate 63 0 ++ (1 ∷ 1 ∷ 1 ∷ 65 ∷ replicate 60 0))
    but set_standing 3 but set_widths (1 ∷ 1 ∷ 1 ∷ replicate 29 0) but set_slots ((1 ∷ replicate 7 0) ++ (1 ∷ replicate 7 0) ++ (v ∷ replicate 239 0))
    but set_declared 1 but set_sizes (1 ∷ replicate 15 0) but set_marks (1 ∷ replicate 255 0)
    but set_given 3 but set_names (1 ∷ 2 ∷ n ∷ replicate 61 0) but set_parents (0 ∷ 0 ∷ 2 ∷ replicate 61 0) but set_levels (1 ∷ 1 ∷ 2 ∷ replicate 61 0)
    but set_counts (1 ∷ c ∷ replicate 62 0) but set_newest (1 ∷ 2 ∷ replicate 62 0) but set_oldest (1 ∷ 65 ∷ replicate 62 0)
    but set_owners (1 ∷ 2 ∷ replicate 254 0) but set_taken (2 ∷ 4 ∷ replicate 254 0)

-- one pointer into region 1 went with the page, two came with the frames that are counted now; the same with a subregion in the list, which has no page
goes : every (λ S. equal (equal eqb) (reads S) ((2 ∷ 0 ∷ 0 ∷ 0 ∷ []) ∷ (1 ∷ 0 ∷ 0 ∷ 0 ∷ []) ∷ (1 ∷ 0 ∷ 0 ∷ 0 ∷ []) ∷ (2 ∷ []) ∷ [])) (deleted (memory 0 0 0) (2 ∷ []) 0 ∷ deleted (memory 0 0 3) (2 ∷ 3 ∷ []) 2 ∷ []) ≡ true
unfolding blank frame_count top_frame width_at slot_at raised kind_count size_of mark_at name_at entry_of tag_of count_at count_in added without_regions with_shares rolled moved page_count owner_at taken_at owner_in owner_of freed walk headers_to headers_on free_words free_words_on out_of slot_targets recounted outgoing newly_counted deleted size_in entry_in recount targets_in newly_in free_words_of owners_to
goes = refl

-- nothing in the way; a slot of the top frame; a stored count; a subregion; a subregion and both kinds of pointer
refusals : map (λ (p : Store × ℕ). refusal p.0 (delete p.1 3)) ((memory 0 0 0, 2) ∷ (memory 65 0 0, 2) ∷ (memory 0 1 0, 2) ∷ (memory 0 0 3, 2) ∷ (memory 65 1 3, 2) ∷ []) ≡ 0 ∷ 19 ∷ 19 ∷ 18 ∷ 18 ∷ []
unfolding blank frame_count width_at slot_at name_at entry_of tag_of is_live parent_at subregions_of count_at count_in added wrong_length owner_in owner_of led_into bad_length dead checks refusal entry_in subregions_in wrong_length_in led_in led_among_in targets_in
refusals = refl

-- region 2 holds a page, its subregion none
gave : let S = memory 0 0 3 in Accepted (delete 2 1) S (gives (1 ∷ [])) (deleted S (2 ∷ []) 1) × Accepted (delete 3 1) S (gives (0 ∷ [])) (deleted S (3 ∷ []) 1)
unfolding blank Accepted entry_of tag_of entry_in pages_in pages_of
gave = ((refl, refl), (refl, refl))
