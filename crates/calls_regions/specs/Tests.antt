-- The tests of the calls that make regions, in document 01's order, over the numbers and lists that they read. Assumes nothing.
use Rattle.std.specs.Prelude.{Bool, not, List, [], ◌∷◌, ℕ, ltb, leb, get_or}
use Rattle.model.specs.Calls.{◌yields◌}
use Rattle.regions.specs.Regions.{live_in}
use Rattle.pages.specs.Pages.{wrong_length_in}

-- that a region more can be made, where `given` is the last name given
unfoldable pub more_tests : List ℕ → ℕ → List (Bool × ℕ)
more_tests names given = leb 64 (live_in names) yields 4 ∷ leb 1000000 given yields 5 ∷ []

-- new region, with a heap of n words
unfoldable pub new_tests : ℕ → ℕ → List ℕ → ℕ → List (Bool × ℕ)
new_tests made n names given = wrong_length_in made n yields 21 ∷ more_tests names given

-- subregion of the region at entry e, with a heap of n words
unfoldable pub subregion_tests : ℕ → ℕ → List ℕ → List ℕ → ℕ → ℕ → List (Bool × ℕ)
subregion_tests made n names levels given e = wrong_length_in made n yields 21 ∷ not (ltb e 64) yields 2 ∷ leb 16 (get_or levels e 0) yields 20 ∷ more_tests names given
