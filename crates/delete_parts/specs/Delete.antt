-- What keeps a region from being deleted, after the heap's length and the filler (document 01, Delete; document 02, card 5).
-- Assumes nothing.
use Rattle.std.specs.Prelude.{Bool, not, ◌||◌, List, [], ◌∷◌, ℕ, eqb, leb}
use Rattle.model.specs.Calls.{◌yields◌}

-- of the region named r, by its entry e, 64 where it does not live: how many subregions of it live, its stored count, whether some slot of an uncounted frame leads into it
unfoldable pub delete_tests : ℕ → ℕ → ℕ → ℕ → Bool → List (Bool × ℕ)
delete_tests r e below stored led = leb 64 e yields 2 ∷ eqb r 1 yields 3 ∷ not (eqb below 0) yields 18 ∷ (not (eqb stored 0) || led) yields 19 ∷ []
