-- What calls tell, computed on small histories, and a stored count of the memory `small` of Examples. Each case of the first list is false of an edit that must be refused, which it names.
-- Assumes nothing.
use Rattle.std.specs.Prelude.{◌≡◌, refl, true, List, [], ◌∷◌, map, ℕ, ◌+◌, eqb, length}
use Rattle.lists.specs.Lists.{every, equal, up_to, times}
use Rattle.model.specs.Model.{push, refused_by}
use Rattle.frames.specs.Frames.{frame_count, width_at, slot_at}
use Rattle.kinds.specs.Kinds.{kind_count, size_of, mark_at, size_in}
use Rattle.regions.specs.Regions.{name_at, name_of, entry_of, parent_at, count_at, count_in, added, entry_in, name_in}
use Rattle.pages.specs.Pages.{page_count, owner_at, taken_at, is_free}
use Rattle.objects.specs.Objects.{walk, headers_to, headers_on}
use Rattle.outcomes.specs.History.{History, parent_of, begin, entries, listed_regions, listed_kinds, listed_frames, listed_held, listed_free, met_on, slots_of, pointers_of, home_of, slots_leading_to, words_leading_to, outside, stored_count, subregions, holders}
use Rattle.outcomes.specs.Examples.{small}
use Rattle.outcomes.specs.Runs.{Event}
use Rattle.demands.specs.Later.{steps}
use Rattle.demands.specs.Told.{opening, with_frames, born, popped, object_made, ended, told, note}

-- three frames, the lower two counted; an object of region 1 at the start of page 1; a push that was refused
abbrev three : History
three = with_frames (opening 2) (2 ∷ 1 ∷ 1 ∷ []) 2

abbrev one : History
one = object_made (opening 2) 1 1 65

abbrev refused : Event
refused = record { call = push 9; answer = refused_by 8; left = small }

abbrev cases : List (ℕ × ℕ)
cases =
    -- drop_keeps_m
    ((popped three).counted, 1)
    -- delete_leaves_m
    ∷ ((ended (with_frames three three.frames 0) (1 ∷ [])).counted, 2)
    -- page_taken_stays_free
    ∷ (times 1 one.free, 0)
    ∷ (times 0 one.free, 1)
    ∷ (length (holders one 1), 1)
    -- deleted_region_holds_pages
    ∷ (times 1 (ended one (1 ∷ [])).free, 1)
    ∷ (length (holders (ended one (1 ∷ [])) 1), 0)
    -- refused_call_is_noted
    ∷ (length (note refused (opening 2)).frames, 0)
    -- subregion_without_parent
    ∷ (subregions (born (opening 2) 2 1) 1, 1)
    -- one_step_up: region 2 below region 1, and 3 below 2. Two steps lead from 3 to 1, a third to none
    ∷ (steps (parent_of (born (born (opening 2) 2 1) 3 2)) 2 3, 1)
    ∷ (steps (parent_of (born (born (opening 2) 2 1) 3 2)) 3 3, 0)
    -- uncounted_frames_left_out: one of region 5's outside pointers is in the frame that is not counted
    ∷ (outside (begin small) small 5, stored_count small 5 + 1)
    ∷ []

pub computed : every (λ p. eqb p.0 p.1) cases ≡ true
unfolding steps opening born popped ended told note frame_count width_at slot_at kind_count size_of mark_at name_at name_of entry_of parent_at count_at count_in added page_count owner_at taken_at is_free walk headers_to headers_on begin entries listed_regions listed_kinds listed_frames listed_held listed_free met_on slots_of pointers_of home_of slots_leading_to words_leading_to outside stored_count subregions size_in name_in entry_in
computed = refl

-- ---- regions that end together

-- three frames, none counted; regions 1 to 4, each with a page and an object on it, region 2 with two; page 4 is free
abbrev bare : History
bare = born (born (born (with_frames (opening 5) (1 ∷ 1 ∷ 1 ∷ []) 0) 2 0) 3 0) 4 0

abbrev four : History
four = object_made (object_made (object_made (object_made (object_made bare 1 1 1) 2 1 65) 2 1 68) 3 1 129) 4 1 193

-- of a history: its regions; the regions and places of its objects; the regions and pages of its holdings; how often each page is among the free ones; m
abbrev reads : History → List (List ℕ)
reads h =
    map (λ g. g.name) h.regions ∷ map (λ o. o.home) h.objects ∷ map (λ o. o.place) h.objects ∷ map (λ t. t.region) h.held ∷ map (λ t. t.page) h.held
    ∷ map (λ j. times j h.free) (up_to h.pages) ∷ (h.counted ∷ []) ∷ []

-- histories, and what is read in each of them: regions 2 and 3 go with objects and holdings, in either order, and pages 1 and 2 are free once each; the rest stays
abbrev together : List (List History × List (List ℕ))
together =
    (four ∷ [], (1 ∷ 2 ∷ 3 ∷ 4 ∷ []) ∷ (1 ∷ 2 ∷ 2 ∷ 3 ∷ 4 ∷ []) ∷ (0 ∷ 64 ∷ 67 ∷ 128 ∷ 192 ∷ []) ∷ (1 ∷ 2 ∷ 3 ∷ 4 ∷ []) ∷ (0 ∷ 1 ∷ 2 ∷ 3 ∷ []) ∷ (0 ∷ 0 ∷ 0 ∷ 0 ∷ 1 ∷ []) ∷ (0 ∷ []) ∷ [])
    ∷ (ended four (2 ∷ 3 ∷ []) ∷ ended four (3 ∷ 2 ∷ []) ∷ [], (1 ∷ 4 ∷ []) ∷ (1 ∷ 4 ∷ []) ∷ (0 ∷ 192 ∷ []) ∷ (1 ∷ 4 ∷ []) ∷ (0 ∷ 3 ∷ []) ∷ (0 ∷ 1 ∷ 1 ∷ 0 ∷ 1 ∷ []) ∷ (2 ∷ []) ∷ [])
    ∷ []

pub together_computed : every (λ p. every (λ h. equal (equal eqb) (reads h) p.1) p.0) together ≡ true
unfolding opening born ended
together_computed = refl
