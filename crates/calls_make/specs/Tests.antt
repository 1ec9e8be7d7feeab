-- Declare's tests, in document 01's order, over the numbers and lists that they read. Assumes nothing.
use Rattle.std.specs.Prelude.{Bool, List, [], ◌∷◌, ℕ, leb}
use Rattle.model.specs.Calls.{◌yields◌}
use Rattle.kinds.specs.Kinds.{wrong_marks}
use Rattle.pages.specs.Pages.{wrong_length_in}

-- declare, with a heap of n words
unfoldable pub declare_tests : ℕ → ℕ → ℕ → List ℕ → List (Bool × ℕ)
declare_tests made n declared ms = wrong_length_in made n yields 21 ∷ wrong_marks ms yields 11 ∷ leb 16 declared yields 10 ∷ []
