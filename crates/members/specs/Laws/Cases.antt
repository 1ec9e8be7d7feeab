-- Lists of names computed, where an edit of the code that must be refused would answer something else: the cases name it.
-- Assumes nothing.
use Rattle.std.specs.Prelude.{◌≡◌, refl, true, List, [], ◌∷◌, ◌++◌, map, ℕ, eqb, replicate}
use Rattle.lists.specs.Lists.{bit, every, equal, from}
use Rattle.model.specs.Calls.{reason, wrong_names, name_tests}
use Rattle.regions.specs.Regions.{entry_in}
use Rattle.lists.specs.Ticks.{ticked}
use Rattle.members.specs.Members.{tag_by, dead_by}

-- at the tags 1 to 3; 9 is no region's name
abbrev names : List ℕ
names = 1 ∷ 5 ∷ 6 ∷ []

-- a list of names, and whether the list itself is wrong
abbrev lists : List (List ℕ × ℕ)
lists =
    ([], 1)
    ∷ (5 ∷ [], 0)
    ∷ (from 2 16, 0)
    ∷ (from 2 17, 1)
    -- a_name_twice_passes; it is dead besides
    ∷ (9 ∷ 9 ∷ [], 1)
    ∷ (5 ∷ 6 ∷ 9 ∷ 5 ∷ [], 1)
    ∷ []

pub wrong : every (λ p. eqb (bit (wrong_names p.0)) p.1) lists ≡ true
unfolding wrong_names
wrong = refl

-- and the number of the first name that is dead or permanent
abbrev firsts : List (List ℕ × ℕ)
firsts =
    (5 ∷ 6 ∷ [], 0)
    ∷ (1 ∷ 9 ∷ [], 3)
    -- three_before_two
    ∷ (9 ∷ 1 ∷ [], 2)
    -- only_the_first_name
    ∷ (5 ∷ 9 ∷ [], 2)
    ∷ (0 ∷ [], 2)
    ∷ []

pub refused : every (λ p. eqb (reason (name_tests (dead_by names) p.0)) p.1) firsts ≡ true
unfolding name_tests dead_by entry_in
refused = refl

-- the tags of the names, in whatever order, are ticked, others not; a dead name ticks place 65, which is no region's
pub marked : equal eqb (ticked (replicate 5 0) (map (tag_by names) (6 ∷ 5 ∷ []))) (0 ∷ 0 ∷ 1 ∷ 1 ∷ 0 ∷ []) ≡ true
unfolding ticked tag_by entry_in
marked = refl

pub unmarked : equal eqb (ticked (replicate 256 0) (map (tag_by names) (9 ∷ []))) (replicate 65 0 ++ (1 ∷ replicate 190 0)) ≡ true
unfolding ticked tag_by entry_in
unmarked = refl
