-- Report computed, where an edit of it that must be refused would answer something else.
-- Assumes nothing.
use Rattle.std.specs.Prelude.{◌≡◌, ℕ, List, [], ◌∷◌, refl}
use Rattle.regions.specs.Regions.{entry_of, entry_in, tag_of, subregions_of, subregions_in, count_at, count_in, added}
use Rattle.pages.specs.Pages.{owner_in, pages_of, pages_in}
use Rattle.outcomes.specs.Store.{Store, regions, pages, targets_in, slots_beyond_in, slots_beyond, outside_of}
use Rattle.outcomes.specs.Examples.{small}

-- of a region: stored count, outside pointers, pages held, live subregions
abbrev reads : Store → ℕ → List ℕ
reads S r = let i = entry_of (regions S) r in let t = tag_of (regions S) r in count_at (regions S) i ∷ outside_of S i ∷ pages_of (pages S) t ∷ subregions_of (regions S) t ∷ []

-- one slot of the counted frame leads into region 5, one of the uncounted frame, and a word of region 1. counted_frames_too: 4 for the 3; stored_left_out: 1; uncounted_not_looked_through: 2; stored_count_made_up: 3 for the first 2
pub reports : (reads small 1 ≡ 2 ∷ 2 ∷ 1 ∷ 1 ∷ []) × (reads small 5 ≡ 2 ∷ 3 ∷ 1 ∷ 0 ∷ [])
unfolding entry_of entry_in tag_of subregions_of subregions_in count_at count_in added owner_in pages_of pages_in targets_in slots_beyond_in slots_beyond outside_of
reports = (refl, refl)
