-- What is asked of several regions, and the names that go with them, computed on lists written out, where an edit of the code that must be refused would give something else.
-- Assumes nothing.
use Rattle.std.specs.Prelude.{◌≡◌, refl, Bool, true, ◌||◌, List, [], ◌∷◌, ◌++◌, ℕ, ◌+◌, eqb, replicate}
use Rattle.lists.specs.Lists.{bit, every, joined, equal, zeroed}
use Rattle.lists.specs.Ticks.{tick_at}
use Rattle.regions.specs.Regions.{added, closed_in, follows_in, count_in}
use Rattle.pages.specs.Pages.{owner_in}
use Rattle.outcomes.specs.Store.{targets_in, led_among_in}
use Rattle.joint_parts.specs.Joint.{still_counted, names_left}

-- Regions 1 to 4 at the tags 1 to 4, each with a page; region 4 is below region 2.
abbrev names : List ℕ
names = 1 ∷ 2 ∷ 3 ∷ 4 ∷ []

abbrev parents : List ℕ
parents = 0 ∷ 0 ∷ 0 ∷ 2 ∷ []

-- Three frames, the lowest counted. It leads into region 2, the next one into region 1, slot 1 of the top one into region 4.
abbrev led : (ℕ → Bool) → Bool
led = led_among_in 3 1 (1 ∷ 1 ∷ 2 ∷ []) ((65 ∷ replicate 7 0) ++ (1 ∷ replicate 7 0) ++ (0 ∷ 193 ∷ replicate 6 0)) (1 ∷ 2 ∷ 3 ∷ 4 ∷ [])

-- shares that come to these counts; none of them is the count, or 0
abbrev shared : List ℕ → List ℕ
shared cs = joined (λ c. 3 ∷ 4294967290 ∷ (c + 2) ∷ 1 ∷ []) cs

-- of the regions marked, with the counts that a scan has left: whether the regions below them are marked too, whether one of them is counted still, whether a slot of an uncounted frame leads into one,
-- whether either does; the names left
abbrev reads : List ℕ → List ℕ → List (List ℕ)
reads marks cs =
    let m : ℕ → Bool = tick_at marks in
    (bit (closed_in names parents m) ∷ bit (still_counted (shared cs) m) ∷ bit (led m) ∷ bit (still_counted (shared cs) m || led m) ∷ []) ∷ names_left names m 64 ∷ []

abbrev cases : List ((List ℕ × List ℕ) × List (List ℕ))
cases =
    -- none
    ((replicate 256 0, 2 ∷ 1 ∷ 2 ∷ 2 ∷ []), (1 ∷ 0 ∷ 0 ∷ 0 ∷ []) ∷ (1 ∷ 2 ∷ 3 ∷ 4 ∷ []) ∷ [])
    -- region 2: the one below it is not marked, and something is left of its count
    ∷ ((0 ∷ 0 ∷ 1 ∷ 0 ∷ 0 ∷ [], 1 ∷ 1 ∷ 0 ∷ 2 ∷ []), (0 ∷ 1 ∷ 0 ∷ 1 ∷ []) ∷ (1 ∷ 0 ∷ 3 ∷ 4 ∷ []) ∷ [])
    -- regions 2 and 3: nothing is, and no slot leads into them
    ∷ ((0 ∷ 0 ∷ 1 ∷ 1 ∷ 0 ∷ [], 1 ∷ 0 ∷ 0 ∷ 1 ∷ []), (0 ∷ 0 ∷ 0 ∷ 0 ∷ []) ∷ (1 ∷ 0 ∷ 0 ∷ 4 ∷ []) ∷ [])
    -- regions 2 and 4: a slot leads into region 4, though no count is left (member_subregion_refuses, look_left_out; look_at_one_frame of delete_parts)
    ∷ ((0 ∷ 0 ∷ 1 ∷ 0 ∷ 1 ∷ [], 1 ∷ 0 ∷ 1 ∷ 0 ∷ []), (1 ∷ 0 ∷ 1 ∷ 1 ∷ []) ∷ (1 ∷ 0 ∷ 3 ∷ 0 ∷ []) ∷ [])
    ∷ []

pub computed : every (λ p. equal (equal eqb) (reads p.0.0 p.0.1) p.1) cases ≡ true
unfolding added count_in closed_in follows_in owner_in targets_in led_among_in tick_at still_counted zeroed names_left
computed = refl
