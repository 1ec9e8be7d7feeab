-- What the calls that make regions refuse and leave, computed. Each case is false of an edit of these calls that must be refused, which it names.
-- Assumes nothing.
use Rattle.std.specs.Prelude.{◌≡◌, refl, true, List, [], ◌∷◌, map, ℕ, suc, ◌+◌, eqb}
use Rattle.lists.specs.Lists.{every, up_to}
use Rattle.model.specs.Model.{new_region, subregion}
use Rattle.regions.specs.Regions.{name_at, entry_of, tag_of, is_live, live_count, level_at, count_at, count_in, added, unused, with_region, entry_in, live_in, unused_in}
use Rattle.pages.specs.Pages.{wrong_length, wrong_length_in}
use Rattle.outcomes.specs.Store.{Store, regions}
use Rattle.outcomes.specs.Outcome.{bad_length, dead, full, names_out, checks, refusal}
use Rattle.outcomes.specs.Examples.{small, grown, ◌but◌, set_given, set_names}

-- 64 live regions, named 1 to 64
abbrev crowded : Store
crowded = small but set_given 64 but set_names (map suc (up_to 64))

-- what is computed, and what it has to be
abbrev cases : List (ℕ × ℕ)
cases =
    -- region_65_uses_a_name
    (refusal crowded new_region, 4)
    ∷ (refusal crowded (subregion 1), 4)
    -- same_name_twice
    ∷ ((regions small).given, 7)
    ∷ ((regions grown).given, 8)
    -- new_region_keeps_shares: the entry held 77
    ∷ (count_at (regions small) 1, 77)
    ∷ (count_at (regions grown) 1, 0)
    -- subregion_at_the_level_above: region 5 is at level 2
    ∷ (level_at (with_region (regions small) 1 (tag_of (regions small) 5) (level_at (regions small) (entry_of (regions small) 5) + 1)) 1, 3)
    ∷ []

pub computed : every (λ p. eqb p.0 p.1) cases ≡ true
unfolding name_at entry_of tag_of is_live live_count level_at count_at count_in added unused with_region wrong_length bad_length dead full names_out checks refusal entry_in live_in unused_in wrong_length_in
computed = refl
