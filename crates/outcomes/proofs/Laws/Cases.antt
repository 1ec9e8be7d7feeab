-- What calls refuse and leave, computed on `small` and other memories of Examples, where an edit of the calls that must be refused would refuse or leave something else: most cases name it.
-- Assumes nothing.
use Rattle.std.specs.Prelude.{◌≡◌, refl, true, List, [], ◌∷◌, map, ℕ, eqb, replicate}
use Rattle.lists.specs.Lists.{bit, every, equal, up_to}
use Rattle.model.specs.Model.{push, drop_frame, hand_back, fetch, load, set_pointer, put, view, delete, delete_all, climb}
use Rattle.model.specs.Calls.{wrong_names, name_tests}
use Rattle.frames.specs.Frames.{frame_count, top_frame, width_at, slot_at, put_slot, pushed, uncounts, popped, uncounts_in}
use Rattle.kinds.specs.Kinds.{kind_count, size_of, mark_at, all_data as only_data, size_in}
use Rattle.regions.specs.Regions.{name_at, name_of, entry_of, tag_of, is_live, parent_at, subregions_of, subregions_in, closed_in, follows_in, oldest_at, share_at, count_at, count_in, added, with_region, moved, rolled, with_shares, recount, entry_in, name_in, up_in, level_in, above_in, allows_in}
use Rattle.pages.specs.Pages.{page_count, owner_at, taken_at, owner_in, owner_of, pages_of, wrong_length, pages_in, wrong_length_in}
use Rattle.objects.specs.Objects.{kind_of, word_count, mark_of, word_at, walk, headers_to, headers_on, free_words, free_words_on, free_words_of, out_of}
use Rattle.outcomes.specs.Store.{Store, frames, regions, pages, slot, slot_targets, targets_in, led_into, led_in, led_among, led_among_in, breaks, breaks_in}
use Rattle.outcomes.specs.Outcome.{with_frames, bad_length, no_frame, one_frame, lacks, lacks_beneath, dead, no_word, is_data, all_data, outgoing, count_but, checks, refusal, fill_slot, write_word, recounted, counted_in, pop_frame, pointed, viewed}
use Rattle.outcomes.specs.Examples.{small, shared, ◌but◌, set_standing, set_counted, set_levels, set_heap, tree_to3, ring, ring_to3}

-- a third frame of two slots on top, the first leading to the object at 68; and the same with two frames counted
abbrev three : Store
three = fill_slot (with_frames small (pushed (frames small) 2)) 0 68

abbrev counted : Store
counted = three but set_counted 2

-- a memory with such a frame: its first slot leads to the object at 68, of region 5, and its second to the one at 4, on page 0
abbrev upper : Store → Store
upper S = fill_slot (fill_slot (with_frames S (pushed (frames S) 2)) 0 68) 1 4

-- what is computed, and what it has to be
abbrev cases : List (ℕ × ℕ)
cases =
    -- first_of_entry_0, copy_of_itself, clear_leaves_a_pointer, same_says_no, same_of_one_slot
    (slot (fill_slot three 1 (oldest_at (regions three) (entry_of (regions three) 5))) 1, 65)
    ∷ (slot (fill_slot three 1 (slot three 0)) 1, 68)
    ∷ (slot (fill_slot three 0 0) 0, 0)
    ∷ (bit (eqb (slot three 0) (slot three 0)), 1)
    ∷ (bit (eqb (slot three 0) (slot three 1)), 0)
    -- fetch_tests_the_wrong_frames: the frame beneath has one slot, the top two
    ∷ (refusal three (fetch 0 1), 0)
    ∷ (refusal three (fetch 1 0), 9)
    -- about_of_a_slot_number, totals_of_region_1, push_accepts_nine
    ∷ (kind_of three.heap (slot three 0), 2)
    ∷ (pages_of (pages three) 0, 0)
    ∷ (refusal three (push 9), 8)
    -- new_top_stays_counted: both pointers of the frame then on top leave; wrong_frame_leaves: only one does
    ∷ (count_at (regions (pop_frame small 0)) 0, 1)
    ∷ (count_at (regions (pop_frame small 0)) 2, 1)
    ∷ (count_at (regions (pop_frame counted 0)) 2, 1)
    -- hand_back_before_drop, hand_back_of_another_slot
    ∷ (slot_at (frames (fill_slot (pop_frame three 0) 0 (slot three 0))) 1 0, 68)
    ∷ (slot_at (frames (fill_slot (pop_frame three 0) 0 (slot three 1))) 1 0, 0)
    -- set pointer: the word is written, the old pointer leaves, one into the own region is not counted, a word marked 3 never is
    ∷ (word_at (pointed small 65 0 68 0).heap 65 0, 68)
    ∷ (count_at (regions (pointed small 65 0 68 0)) 0, 1)
    ∷ (count_at (regions (pointed small 65 0 68 0)) 2, 2)
    ∷ (count_at (regions (pointed small 68 1 1 0)) 0, 2)
    -- set pointer with a word marked 3 (document 02, card 1): to a region two levels above, and beside the way up
    ∷ (refusal (upper (tree_to3 (0 ∷ 1 ∷ 4 ∷ 2 ∷ []) (1 ∷ 2 ∷ 4 ∷ 3 ∷ []))) (set_pointer 0 1 1 0), 0)
    ∷ (refusal (upper (tree_to3 (0 ∷ 1 ∷ 4 ∷ 1 ∷ []) (1 ∷ 2 ∷ 3 ∷ 2 ∷ []))) (set_pointer 0 1 1 0), 17)
    -- regions in a ring, which the audit rejects: the climb ends, also at a level past the deepest; it meets region 3 and not region 1
    ∷ (refusal (upper ring) (set_pointer 0 1 1 0), 17)
    ∷ (refusal (upper (ring but set_levels (replicate 64 255))) (set_pointer 0 1 1 0), 17)
    ∷ (refusal (upper ring_to3) (set_pointer 0 1 1 0), 0)
    -- a pointer word is no data, a load's target is tested, and a word is read at its own place
    ∷ (refusal three (put 0 0 9), 16)
    ∷ (refusal three (load 0 0 7), 9)
    ∷ (word_at three.heap 65 1, 42)
    ∷ (word_at three.heap 65 0, 1)
    -- put writes the word that it names and no other. put_into_another_word: 42 for the 43
    ∷ (word_at (write_word small 65 1 43).heap 65 1, 43)
    ∷ (word_at (write_word small 65 1 43).heap 65 0, 1)
    -- view: of an object of kind 3, its two words; of one with pointer words, none
    ∷ (bit (equal eqb (viewed three 4).part (7 ∷ 8 ∷ [])), 1)
    ∷ (refusal three (view 0), 16)
    ∷ []

pub computed : every (λ p. eqb p.0 p.1) cases ≡ true
unfolding frame_count top_frame width_at slot_at put_slot pushed uncounts popped kind_count size_of mark_at name_at name_of entry_of parent_at oldest_at count_at count_in added moved rolled with_shares recount page_count owner_at owner_in owner_of pages_of wrong_length kind_of word_count mark_of word_at slot slot_targets targets_in breaks bad_length no_frame one_frame lacks lacks_beneath no_word is_data all_data only_data checks refusal fill_slot write_word recounted counted_in pop_frame pointed uncounts_in size_in name_in entry_in pages_in wrong_length_in breaks_in climb up_in level_in above_in allows_in
computed = refl

-- ---- fillers (document 02, card 5)

-- the shares of the fillers 0 to 3 at entry i
abbrev shares_at : Store → ℕ → List ℕ
shares_at S i = map (λ f. share_at (regions S) f i) (up_to 4)

-- 23 with everything else wrong, also where no frame stands, and after 21; 3 is a filler
abbrev refused : List (ℕ × ℕ)
refused =
    (refusal three (drop_frame 4), 23) ∷ (refusal three (hand_back 9 9 4), 23) ∷ (refusal three (set_pointer 9 9 9 4), 23) ∷ (refusal three (delete 9 4), 23) ∷ (refusal three (delete_all [] 4), 23)
    ∷ (refusal (three but set_standing 0) (drop_frame 4), 23) ∷ (refusal (three but set_standing 0) (drop_frame 3), 6) ∷ (refusal (three but set_heap []) (drop_frame 4), 21) ∷ (refusal three (drop_frame 3), 0)
    -- shares that come to 0, on memory that the audit accepts (Examples), and one that does not, by each call. delete_tests_shares: 19 for 0
    ∷ (refusal (shared (3 ∷ 4294967293 ∷ 0 ∷ 0 ∷ [])) (delete 8 2), 0) ∷ (refusal (shared (3 ∷ 4294967293 ∷ 0 ∷ 0 ∷ [])) (delete_all (8 ∷ []) 0), 0)
    ∷ (refusal (shared (0 ∷ 0 ∷ 1 ∷ 0 ∷ [])) (delete 8 0), 19) ∷ (refusal (shared (0 ∷ 0 ∷ 1 ∷ 0 ∷ [])) (delete_all (8 ∷ []) 3), 19)
    ∷ []

numbers : every (λ p. eqb p.0 p.1) refused ≡ true
unfolding frame_count top_frame width_at slot_at put_slot pushed kind_count size_of mark_at name_at entry_of tag_of is_live subregions_of subregions_in closed_in follows_in count_at count_in added rolled with_region page_count owner_at taken_at owner_in owner_of wrong_length walk headers_to headers_on free_words free_words_on free_words_of out_of slot targets_in led_into led_in led_among led_among_in bad_length no_frame one_frame lacks lacks_beneath dead outgoing count_but checks refusal fill_slot size_in entry_in wrong_length_in wrong_names name_tests
numbers = refl

-- in `small` the shares of region 1 are 7, 2^32 - 3, 7 and 2^32 - 9: filler 2 sets over a pointer into it (set_pointer_by_filler_0), and filler 3 drops the top frame, so that the one beneath leaves the counts
shares_move : (shares_at small 0 ∷ shares_at (pointed small 65 0 68 2) 0 ∷ shares_at (pop_frame small 3) 0 ∷ [])
    ≡ (7 ∷ 4294967293 ∷ 7 ∷ 4294967287 ∷ []) ∷ (7 ∷ 4294967293 ∷ 6 ∷ 4294967287 ∷ []) ∷ (7 ∷ 4294967293 ∷ 7 ∷ 4294967286 ∷ []) ∷ []
unfolding top_frame width_at slot_at popped uncounts uncounts_in share_at moved rolled with_shares recount owner_in owner_of mark_at mark_of kind_of word_at slot_targets targets_in write_word recounted counted_in pop_frame pointed
shares_move = refl
