-- What deletes leave in the reference model, and which page is taken, computed.
-- Assumes nothing.
use Rattle.std.specs.Prelude.{◌≡◌, refl, true, List, [], ◌∷◌, map, ℕ, eqb}
use Rattle.lists.specs.Lists.{every, equal}
use Rattle.model.specs.Model.{Model, Call, declare, new_region, push, allocate, copy, clear, set_pointer, in_frames, from_object, in_words, stored, outside, held_by, lowest_free, climb, allowed}
use Rattle.model.specs.Calls.{checks, refusal, accepted, fill_slot, write_word, add_region, add_object, page_for, word_for, holders_for, grown, remove_regions, next, after, fresh}
use Rattle.model.specs.Moves.{from_region, from_regions}

-- Of five pages regions 1 to 4 hold one each, with an object of two free words: region 2's leads into regions 3 and 1, region 3's into 2 and 4, region 1's into 4, region 4's into 1.
-- Two frames, none counted; two slots of the lower lead into region 4, the others are null.
abbrev calls : List Call
calls =
    declare (1 ∷ 1 ∷ []) ∷ new_region ∷ new_region ∷ new_region ∷ push 4 ∷ allocate 0 1 1 ∷ allocate 1 2 1 ∷ allocate 2 3 1 ∷ allocate 3 4 1
    ∷ set_pointer 1 0 2 0 ∷ set_pointer 1 1 0 0 ∷ set_pointer 2 0 1 0 ∷ set_pointer 2 1 3 0 ∷ set_pointer 0 0 3 0 ∷ set_pointer 3 0 0 0
    ∷ clear 0 ∷ clear 1 ∷ copy 3 2 ∷ push 1 ∷ []

abbrev linked : Model
linked = after (fresh 5) calls

-- the free pages and m, the regions, the stored counts of regions 1 and 4
abbrev reads : Model → List (List ℕ)
reads L = (held_by L 0 ∷ L.counted ∷ []) ∷ map (λ g. g.name) L.regions ∷ map (stored L) (1 ∷ 4 ∷ []) ∷ []

-- models, and what is read in each of them
abbrev left : List (List Model × List (List ℕ))
left =
    (linked ∷ [], (1 ∷ 0 ∷ []) ∷ (1 ∷ 2 ∷ 3 ∷ 4 ∷ []) ∷ (2 ∷ 2 ∷ []) ∷ [])
    -- regions 2 and 3 go, in either order: one pointer into region 1 with region 2, one into region 4 with region 3, and two into it come with the lower frame
    ∷ (remove_regions linked (2 ∷ 3 ∷ []) ∷ remove_regions linked (3 ∷ 2 ∷ []) ∷ [], (3 ∷ 1 ∷ []) ∷ (1 ∷ 4 ∷ []) ∷ (1 ∷ 3 ∷ []) ∷ [])
    ∷ []

pub computed : every (λ p. every (λ L. equal (equal eqb) (reads L) p.1) p.0) left ≡ true
unfolding next refusal checks accepted fill_slot write_word add_region add_object page_for word_for holders_for lowest_free grown remove_regions outside stored in_words in_frames from_object climb allowed
computed = refl

-- the words of both that lead into each region
words_leave : map (from_regions linked (2 ∷ 3 ∷ [])) (1 ∷ 2 ∷ 3 ∷ 4 ∷ []) ≡ 1 ∷ 1 ∷ 1 ∷ 1 ∷ []
unfolding next refusal checks accepted fill_slot write_word add_region add_object page_for word_for holders_for lowest_free grown climb allowed from_region from_regions
words_leave = refl

-- pages 1 and 3 of four are free; none of two is
lowest : lowest_free (3 ∷ 0 ∷ 2 ∷ 0 ∷ []) ∷ lowest_free (1 ∷ 2 ∷ []) ∷ [] ≡ 1 ∷ 2 ∷ []
unfolding lowest_free
lowest = refl

-- without region 2 pages 1 and 4 are free: page 1 for an object that does not fit page 2, the newest of region 3, and page 2 for one that does
next_page : map (page_for (remove_regions linked (2 ∷ [])) 3) (64 ∷ 3 ∷ []) ≡ 1 ∷ 2 ∷ []
unfolding next refusal checks accepted fill_slot write_word add_region add_object page_for word_for holders_for lowest_free grown remove_regions climb allowed
next_page = refl
