-- The tests of push and drop, in the documents' order, over the numbers that they read.
-- Assumes nothing.
use Rattle.std.specs.Prelude.{Bool, ◌||◌, List, [], ◌∷◌, ℕ, eqb, ltb, leb}
use Rattle.model.specs.Calls.{◌yields◌}
use Rattle.pages.specs.Pages.{wrong_length_in}

-- a heap of n words; a frame of w slots more
unfoldable pub push_tests : ℕ → ℕ → ℕ → ℕ → List (Bool × ℕ)
push_tests made n standing w = wrong_length_in made n yields 21 ∷ (eqb w 0 || ltb 8 w) yields 8 ∷ leb 32 standing yields 7 ∷ []

-- what a drop tests after the heap's length and the filler
unfoldable pub drop_tests : ℕ → List (Bool × ℕ)
drop_tests standing = eqb standing 0 yields 6 ∷ []
