-- Places of a list that are ticked.
-- Assumes nothing.
use Rattle.std.specs.Prelude.{Bool, List, [], ◌∷◌, ℕ, eqb, get_or, set}

-- a list with 1 at each of these places; and whether place q has it
unfoldable pub ticked : List ℕ → List ℕ → List ℕ
ticked l [] = l
ticked l (q ∷ qs) = ticked (set l q 1) qs

unfoldable pub tick_at : List ℕ → ℕ → Bool
tick_at l q = eqb (get_or l q 0) 1
