-- Where the filler of a line's call stands among its numbers, and how many words of a memory are the heap after a line.
-- Assumes nothing.
use Rattle.std.specs.Prelude.{Bool, false, Option, None, Some, ℕ, ◌*◌, eqb, get_or}
use Rattle.lists.specs.Lists.{pick}
use Rattle.script.specs.Script.{fillers}

-- where the filler goes among the four numbers of call n with k arguments: after these; for delete_all, whose arguments are its list, it is the first; 4, which is none of them, where the call names no filler (document 02, card 5)
unfoldable pub filler_place : ℕ → ℕ → ℕ
filler_place n k = pick (eqb (get_or fillers n 0) 1) (pick (eqb n 24) 0 k) 4

-- the same for the place that is answered, which may be none
abbrev pub place_number : Option ℕ → ℕ
place_number None = 4
place_number (Some p) = p

-- the filler goes to place k
abbrev pub is_place : ℕ → Option ℕ → Bool
is_place k None = false
is_place k (Some p) = eqb k p

-- how many words of the memory are the heap after a line that says n, its first argument a, and is answered by f, where w were
unfoldable pub words_after : ℕ → ℕ → ℕ → ℕ → ℕ
words_after n a f w = pick (eqb n 1) (pick (eqb f 0) (64 * a) 0) w
