-- What marks allow, and what shares come to, computed on a few entries, where an edit of the code that must be refused would answer something else: the cases name it.
-- Assumes nothing.
use Rattle.std.specs.Prelude.{◌≡◌, ℕ, true, List, [], ◌∷◌, map, take, replicate, nat_eq, refl}
use Rattle.std.proofs.lemmas.List.Edits.{sets}
use Rattle.lists.specs.Lists.{bit, every, up_to}
use Rattle.model.specs.Model.{climb}
use Rattle.regions.specs.Regions.{name_in, up_in, level_in, above_in, allows_in, added, count_in, rolled, moved}

-- At the tags 1 to 8: region 1; regions 5 to 8, each below the one before it; region 9 beside them; and two that stand above each other, which no audit passes.
abbrev names : List ℕ
names = 1 ∷ 5 ∷ 6 ∷ 7 ∷ 8 ∷ 9 ∷ 10 ∷ 11 ∷ []

abbrev parents : List ℕ
parents = 0 ∷ 0 ∷ 2 ∷ 3 ∷ 4 ∷ 0 ∷ 8 ∷ 7 ∷ []

abbrev levels : List ℕ
levels = 1 ∷ 1 ∷ 2 ∷ 3 ∷ 4 ∷ 1 ∷ 200 ∷ 200 ∷ []

-- a mark, the tag of the object's region, the tag of the region led into, and whether that is allowed
abbrev cases : List (ℕ × ℕ × ℕ × ℕ)
cases =
    (1, 5, 6, 1)
    ∷ (2, 5, 5, 1)
    -- same_in_another_region: 7 is less than 8
    ∷ (2, 5, 4, 0)
    -- own_region_left_out
    ∷ (3, 5, 5, 1)
    ∷ (3, 5, 4, 1)
    -- climb_stops_after_one, climb_starts_at_the_target
    ∷ (3, 5, 3, 1)
    -- climb_stops_after_two
    ∷ (3, 5, 2, 1)
    -- beside, below, and region 1, which is above no other
    ∷ (3, 5, 6, 0)
    ∷ (3, 4, 5, 0)
    ∷ (3, 5, 1, 0)
    -- in the ring: the other region is met, and for one outside level_not_lowered would climb for ever
    ∷ (3, 7, 8, 1)
    ∷ (3, 7, 6, 0)
    -- forever_in_its_own_region
    ∷ (4, 5, 1, 1)
    ∷ (4, 5, 5, 0)
    ∷ []

pub computed : every (λ p. nat_eq (bit (allows_in names parents levels p.0 p.1 p.2)) p.3) cases ≡ true
unfolding climb name_in up_in level_in above_in allows_in
computed = refl

-- ---- shares (document 02, card 5)

-- of three entries: 1 to 4; 3 and 2^32 - 3; three times 2^32 - 1, and 5
abbrev shares : List ℕ
shares = 1 ∷ 2 ∷ 3 ∷ 4 ∷ 3 ∷ 4294967293 ∷ 0 ∷ 0 ∷ 4294967295 ∷ 4294967295 ∷ 4294967295 ∷ 5 ∷ []

-- what they come to. total_of_three_shares: 6 for the 10
totals : map (count_in shares) (up_to 4) ≡ 10 ∷ 0 ∷ 2 ∷ 0 ∷ []
unfolding count_in added
totals = refl

-- two pointers into the first region come and one into the second goes, by filler 2
moves : take 12 (moved 2 shares (1 ∷ 1 ∷ []) (2 ∷ [])) ≡ 1 ∷ 2 ∷ 5 ∷ 4 ∷ 3 ∷ 4294967293 ∷ 4294967295 ∷ 0 ∷ 4294967295 ∷ 4294967295 ∷ 4294967295 ∷ 5 ∷ []
unfolding moved rolled
moves = refl

-- a region made at the second entry. one_share_cleared: 0 and 2^32 - 3 there, which a report would give as its count
clears : sets shares 4 (replicate 4 0) ≡ 1 ∷ 2 ∷ 3 ∷ 4 ∷ 0 ∷ 0 ∷ 0 ∷ 0 ∷ 4294967295 ∷ 4294967295 ∷ 4294967295 ∷ 5 ∷ []
clears = refl
