-- The audit's tests of regions, as code runs them, over the numbers and lists that they read (document 01, Audit). Entries not in use are never read.
-- Assumes nothing.
use Rattle.std.specs.Prelude.{Bool, not, ◌&&◌, ◌||◌, List, ℕ, ◌+◌, ◌-◌, eqb, ltb, leb, get_or}
use Rattle.lists.specs.Lists.{pick, every, count_of, up_to}
use Rattle.regions.specs.Regions.{entry_in}

-- entry i: with none above, at level 1; else not region 1, and one level below an entry in use
unfoldable pub placed_at : List ℕ → List ℕ → List ℕ → ℕ → Bool
placed_at names parents levels i =
    let above = get_or parents i 0 - 1 in
    pick (eqb (get_or parents i 0) 0)
    (eqb (get_or levels i 0) 1)
    (not (eqb (get_or names above 0) 0) && eqb (get_or levels i 0) (get_or levels above 0 + 1) && not (eqb (get_or names i 0) 1))

-- how many entries have the name n
unfoldable pub namesakes : List ℕ → ℕ → ℕ
namesakes names n = count_of (λ k. eqb (get_or names k 0) n) (up_to 64)

-- entry i in use: its name was given and is no other's, its level is at most 16, and it stands right below the entry above it
unfoldable pub region_fits : ℕ → List ℕ → List ℕ → List ℕ → ℕ → Bool
region_fits given names parents levels i =
    leb (get_or names i 0) given && eqb (namesakes names (get_or names i 0)) 1 && leb (get_or levels i 0) 16 && placed_at names parents levels i

unfoldable pub entry_fits : ℕ → List ℕ → List ℕ → List ℕ → ℕ → Bool
entry_fits given names parents levels i = eqb (get_or names i 0) 0 || region_fits given names parents levels i

-- region 1 lives, and every entry fits
unfoldable pub regions_fit : ℕ → List ℕ → List ℕ → List ℕ → Bool
regions_fit given names parents levels = ltb (entry_in names 1) 64 && every (entry_fits given names parents levels) (up_to 64)
