-- A region that a list names, by the names of the entries: its tag, and why it may not go (document 02, card 2).
-- Assumes nothing.
use Rattle.std.specs.Prelude.{Bool, not, List, ℕ, ◌+◌, eqb, ltb}
use Rattle.lists.specs.Lists.{pick}
use Rattle.regions.specs.Regions.{entry_in}

-- by the names of the entries: the tag of the live region named n, 65 where there is none; and whether there is none
unfoldable pub tag_by : List ℕ → ℕ → ℕ
tag_by names n = entry_in names n + 1

unfoldable pub dead_by : List ℕ → ℕ → Bool
dead_by names n = not (ltb (entry_in names n) 64)

-- why a region is not deleted with others, by its entry e and its name n: 2, 3, or 0 for neither (document 02, card 2)
unfoldable pub name_refusal : ℕ → ℕ → ℕ
name_refusal e n = pick (not (ltb e 64)) 2 (pick (eqb n 1) 3 0)
