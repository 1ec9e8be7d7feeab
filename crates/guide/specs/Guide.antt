-- What `help` and `why N` print in a script, as bytes.
-- Assumes nothing.
use Rattle.std.specs.Prelude.{List, [], ◌∷◌, ◌++◌, ℕ, ◌-◌, min, eqb, ltb, length, get_or}
use Prim.Native.String.{String}
use Rattle.lists.specs.Lists.{pick, joined}
use Rattle.script.specs.Script.{bytes, rows}
use Rattle.lines.specs.Lines.{decimal}

-- a row's line: `[as F]` where a filler may be named, the name, and the arguments where there can be any
unfoldable pub help_line : String × ℕ × ℕ × ℕ × String → List ℕ
help_line c = bytes "# " ++ pick (eqb c.3 1) (bytes "[as F] ") [] ++ bytes c.0 ++ pick (ltb 0 c.2) (bytes " " ++ bytes c.4) [] ++ (10 ∷ [])

-- what `help` prints: a line for each row
unfoldable pub help : List ℕ
help = joined help_line rows

-- what a refusal's number says: first 0, which is no refusal, then 1 and on, and last any greater number
abbrev pub reasons : List String
reasons =
    "accepted"
    ∷ "the heap's length is not 64 times 1 to 256"
    ∷ "no live region has that name"
    ∷ "region 1 is permanent"
    ∷ "64 regions live, the most there can be"
    ∷ "name 1,000,000 was given, the last there is"
    ∷ "no frame, or fewer than the two that the call needs"
    ∷ "32 frames stand, the most there can be"
    ∷ "a frame has 1 to 8 slots"
    ∷ "a slot named is not there"
    ∷ "16 kinds stand, the most there can be"
    ∷ "no mark, more than 16 marks, or one above 4"
    ∷ "no such kind"
    ∷ "the region has no page, or the object does not fit its newest one, and no page is free"
    ∷ "the object slot is null"
    ∷ "the object has no such word"
    ∷ "the word is data where a pointer is wanted, or the other way round; for view, some word is no data"
    ∷ "the pointer breaks the word's mark"
    ∷ "a subregion lives; for delete_all, one that is not named with the others"
    ∷ "an outside pointer remains; for delete_all, a slot that leads into a region named, or a free word of a region that is not"
    ∷ "the region above is at level 16, the deepest"
    ∷ "the heap's length is not the one made, or none was made, since make refused"
    ∷ "no name, more than 16 names, or one twice"
    ∷ "the filler is above 3"
    ∷ "no call has that number"
    ∷ "no refusal has that number"
    ∷ []

-- the place of the last of them
abbrev pub last_reason : ℕ
last_reason = length reasons - 1

-- what `why n` prints
unfoldable pub why_of : ℕ → List ℕ
why_of n = bytes "# " ++ decimal n ++ bytes " " ++ bytes (get_or reasons (min n last_reason) "") ++ (10 ∷ [])
