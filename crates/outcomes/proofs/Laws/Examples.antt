-- The readings and the audit's clauses, computed on the memories of Examples.
-- Assumes nothing.
use Rattle.std.specs.Prelude.{◌≡◌, refl, Bool, true, false, List, [], ◌∷◌, ◌++◌, map, ℕ, suc, eqb, replicate}
use Rattle.lists.specs.Lists.{pick, every, equal}
use Rattle.model.specs.Model.{climb, locate}
use Rattle.frames.specs.Frames.{frame_count, top_frame, width_at, slot_at, put_slot}
use Rattle.kinds.specs.Kinds.{kind_count, size_of, mark_at, size_in}
use Rattle.regions.specs.Regions.{name_at, name_of, entry_of, parent_at, level_at, newest_at, oldest_at, count_at, count_in, added, with_region, with_page, entry_in, name_in}
use Rattle.pages.specs.Pages.{page_count, owner_at, taken_at, page_of, word_of, is_free, first_free, first_free_in, with_taken}
use Rattle.objects.specs.Objects.{walk, headers_to, headers_on}
use Rattle.outcomes.specs.Store.{Store, slot, size, roomy, roomy_in}
use Rattle.outcomes.specs.Outcome.{page_for, allocated, fill_slot, query_reply}
use Rattle.outcomes.specs.History.{entries, listed_regions, listed_kinds, listed_frames, listed_held, listed_free, met_on, begin, slots_of, pointers_of, leads, home_of, slots_leading_to, words_leading_to, outside, uncounted_into, stored_count, counts_exact, slots_lead, words_lead, pages_held}
use Rattle.outcomes.specs.Sound.{filled, placed, newest_own, oldest_own, clauses, sound}
use Rattle.outcomes.specs.Examples.{Example, small, ring, holes, ◌but◌, set_newest, set_taken, examples}

-- the places of the tests that fail
abbrev failing : ℕ → List Bool → List ℕ
failing n [] = []
failing n (b ∷ bs) = pick b (failing (suc n) bs) (n ∷ failing (suc n) bs)

-- what each memory breaks, and nothing else: a computed test
abbrev right : Example → Bool
right e = equal eqb (failing 0 (clauses e.memory)) e.breaks

pub broken : every right examples ≡ true
unfolding with_region frame_count width_at slot_at kind_count size_of mark_at name_at name_of entry_of parent_at level_at newest_at oldest_at count_at count_in added page_count owner_at taken_at is_free walk headers_to headers_on entries listed_regions listed_kinds listed_frames listed_held listed_free met_on begin slots_of pointers_of leads home_of slots_leading_to words_leading_to outside uncounted_into stored_count counts_exact slots_lead words_lead pages_held filled placed newest_own oldest_own size_in name_in entry_in climb
broken = refl

-- so the audit rejects regions in a ring; what set pointer answers there is in Cases
rejected : sound ring ≡ false
unfolding frame_count width_at slot_at kind_count size_of mark_at name_at name_of entry_of parent_at level_at newest_at oldest_at count_at count_in added page_count owner_at taken_at is_free walk headers_to headers_on entries listed_regions listed_kinds listed_frames listed_held listed_free met_on begin slots_of pointers_of leads home_of slots_leading_to words_leading_to outside uncounted_into stored_count counts_exact slots_lead words_lead pages_held filled placed newest_own oldest_own size_in name_in entry_in climb sound
rejected = refl

-- what the accepted one lists
met : (begin small).objects ≡ record { place = 0; kind = 1; home = 1 } ∷ record { place = 3; kind = 3; home = 1 } ∷ record { place = 64; kind = 1; home = 5 } ∷ record { place = 67; kind = 2; home = 5 } ∷ []
unfolding kind_count size_of name_at name_of page_count owner_at taken_at walk headers_to headers_on listed_held met_on begin size_in name_in
met = refl

-- of regions 1 and 5: stored count, pointers in uncounted frames, outside pointers
counted : map (λ r. stored_count small r ∷ uncounted_into (begin small) small r ∷ outside (begin small) small r ∷ []) (1 ∷ 5 ∷ []) ≡ (2 ∷ 0 ∷ 2 ∷ []) ∷ (2 ∷ 1 ∷ 3 ∷ []) ∷ []
unfolding frame_count width_at slot_at kind_count size_of mark_at name_at name_of entry_of parent_at count_at count_in added page_count owner_at taken_at is_free walk headers_to headers_on entries listed_regions listed_kinds listed_frames listed_held listed_free met_on begin slots_of pointers_of home_of slots_leading_to words_leading_to outside uncounted_into stored_count size_in name_in entry_in
counted = refl

-- of `holes`, in which region 5, at entry 2, has no newest page and region 1's, page 4, has room: an object of kind 1 goes to page 1 for region 5, the lower of the two that are free, and to page 4 for
-- region 1; locate of the slot of the top frame gives page 2, word 3; and with the object on page 1 the audit accepts still. With page 2 entered as region 5's newest, and two words of it left, it is page 1 too
abbrev taken : Store
taken = allocated holes 0 2 1 (page_for holes 2 (size holes 1))

abbrev lower : Store
lower = holes but set_newest (5 ∷ 77 ∷ 3 ∷ replicate 61 77) but set_taken (6 ∷ 77 ∷ 62 ∷ 77 ∷ 3 ∷ replicate 251 77)

lowest : (page_for holes 2 (size holes 1) ∷ page_for lower 2 (size lower 1) ∷ page_for holes 0 (size holes 1) ∷ slot taken 0 ∷ []) ++ (query_reply holes (locate 0)).values ++ (query_reply taken (locate 0)).values ≡ 1 ∷ 1 ∷ 4 ∷ 65 ∷ 2 ∷ 3 ∷ 0 ∷ 0 ∷ 1 ∷ 0 ∷ 0 ∷ 0 ∷ []
unfolding kind_count size_of newest_at oldest_at page_count owner_at taken_at first_free first_free_in page_of word_of top_frame slot_at put_slot with_page with_taken slot size roomy roomy_in page_for allocated fill_slot query_reply size_in
lowest = refl

still_accepted : sound taken ≡ true
unfolding frame_count width_at slot_at kind_count size_of mark_at name_at name_of entry_of parent_at level_at newest_at oldest_at count_at count_in added page_count owner_at taken_at is_free walk headers_to headers_on entries listed_regions listed_kinds listed_frames listed_held listed_free met_on begin slots_of pointers_of leads home_of slots_leading_to words_leading_to outside uncounted_into stored_count counts_exact slots_lead words_lead pages_held filled placed newest_own oldest_own size_in name_in entry_in climb sound first_free first_free_in top_frame put_slot with_page with_taken slot size roomy roomy_in page_for allocated fill_slot
still_accepted = refl
