-- What keeps regions from being deleted together, as far as it is asked before they are scanned (document 02, cards 2, 3 and 5).
-- Assumes nothing.
use Rattle.std.specs.Prelude.{Bool, not, List, [], ◌∷◌, ◌++◌, ℕ}
use Rattle.model.specs.Calls.{◌yields◌, no_filler, wrong_names, name_tests}
use Rattle.regions.specs.Regions.{closed_in}
use Rattle.pages.specs.Pages.{wrong_length_in}
use Rattle.members.specs.Members.{dead_by}

-- a heap of so many words, a filler, a list of names, the entries' names and the tags of the regions above; the members by their tags
unfoldable pub list_tests : ℕ → ℕ → ℕ → List ℕ → List ℕ → List ℕ → (ℕ → Bool) → List (Bool × ℕ)
list_tests made words f list names parents member =
    wrong_length_in made words yields 21 ∷ no_filler f yields 23 ∷ wrong_names list yields 22 ∷ name_tests (dead_by names) list ++ (not (closed_in names parents member) yields 18 ∷ [])
