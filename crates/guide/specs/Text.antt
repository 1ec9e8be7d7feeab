-- The lines of a text.
-- Assumes nothing.
use Rattle.std.specs.Prelude.{List, [], ◌∷◌, ℕ, eqb}
use Rattle.lists.specs.Lists.{pick}
use Rattle.script.specs.Script.{grown}

-- the lines of a text, each up to its newline, the last up to the end
unfoldable pub lines_of : List ℕ → List (List ℕ)
lines_of [] = []
lines_of (b ∷ l) = pick (eqb b 10) ([] ∷ lines_of l) (grown b (lines_of l))
