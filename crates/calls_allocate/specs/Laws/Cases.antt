-- What allocate refuses and leaves, computed. Each case is false of an edit of it that must be refused, which it names.
-- Assumes nothing.
use Rattle.std.specs.Prelude.{◌≡◌, refl, true, List, [], ◌∷◌, ℕ, eqb, replicate}
use Rattle.lists.specs.Lists.{bit, every}
use Rattle.model.specs.Model.{allocate}
use Rattle.frames.specs.Frames.{frame_count, top_frame, width_at, slot_at, put_slot}
use Rattle.kinds.specs.Kinds.{kind_count, size_of, size_in}
use Rattle.regions.specs.Regions.{name_at, entry_of, tag_of, is_live, newest_at, oldest_at, unused, with_region, with_page, entry_in, unused_in}
use Rattle.pages.specs.Pages.{page_count, owner_at, taken_at, is_free, pages_of, wrong_length, with_taken, pages_in, wrong_length_in}
use Rattle.outcomes.specs.Store.{Store, pages, slot, size, roomy, roomy_in}
use Rattle.outcomes.specs.Outcome.{bad_length, no_frame, lacks, dead, checks, refusal, fill_slot, allocated}
use Rattle.outcomes.specs.Examples.{small, grown, ◌but◌, set_made, set_owners, set_taken, set_heap}

-- `grown` with a page more, which is free
abbrev roomier : Store
roomier = grown but set_made 3 but set_owners (1 ∷ 3 ∷ 0 ∷ replicate 253 77) but set_taken (6 ∷ 7 ∷ replicate 254 0) but set_heap (replicate 192 0)

-- `small` with all but two words of page 1 taken
abbrev tight : Store
tight = small but set_taken (6 ∷ 62 ∷ replicate 254 0)

-- what is computed, and what it has to be
abbrev cases : List (ℕ × ℕ)
cases =
    -- no_page_while_one_is_free: region 8 has no page
    (refusal grown (allocate 0 8 1), 13)
    ∷ (refusal roomier (allocate 0 8 1), 0)
    -- takes_page_0_free_or_not
    ∷ (bit (is_free (pages roomier) 0), 0)
    ∷ (bit (is_free (pages roomier) 2), 1)
    -- starts_a_word_too_early: page 1 has 7 words taken
    ∷ (slot (allocated small 0 2 1 1) 0, 72)
    -- runs_past_its_page: an object of 3 words does not fit 2
    ∷ (refusal tight (allocate 0 5 1), 13)
    ∷ []

pub computed : every (λ p. eqb p.0 p.1) cases ≡ true
unfolding frame_count top_frame width_at slot_at put_slot kind_count size_of name_at entry_of tag_of is_live newest_at oldest_at unused with_region with_page page_count owner_at taken_at is_free pages_of wrong_length with_taken slot size roomy bad_length no_frame lacks dead checks refusal fill_slot allocated size_in entry_in unused_in pages_in wrong_length_in roomy_in
computed = refl
