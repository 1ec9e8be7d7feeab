-- What `help` and `why` print, by computation, and tests over the tables.
-- Assumes nothing.
use Rattle.std.specs.Prelude.{◌≡◌, refl, Bool, true, not, ◌&&◌, ◌||◌, List, [], ◌∷◌, ◌++◌, ℕ, eqb, leb, length, get_or}
use Prim.Native.String.{String}
use Rattle.lists.specs.Lists.{every, equal}
use Rattle.script.specs.Script.{bytes, blank, in_word, tokens, rows}
use Rattle.lines.specs.Lines.{numeral, decimal}
use Rattle.guide.specs.Text.{lines_of}
use Rattle.guide.specs.Guide.{help_line, help, reasons, why_of}

-- three lines of help, by their numbers from 0 on
help_lines : List (ℕ × String)
help_lines = (0, "# pages PAGES") ∷ (5, "# [as F] drop") ∷ (13, "# [as F] set_pointer OBJECT WORD VALUE") ∷ []

help_right : every (λ e. equal eqb (get_or (lines_of help) e.0 []) (bytes e.1)) help_lines ≡ true
unfolding help_lines bytes lines_of help_line help
help_right = refl

-- a refusal, no refusal, and numbers that are none
why_lines : List (ℕ × String)
why_lines =
    (19, "# 19 an outside pointer remains; for delete_all, a slot that leads into a region named, or a free word of a region that is not") ∷ (0, "# 0 accepted")
    ∷ (24, "# 24 no call has that number") ∷ (25, "# 25 no refusal has that number") ∷ (99, "# 99 no refusal has that number")
    ∷ (4294967295, "# 4294967295 no refusal has that number") ∷ []

why_right : every (λ e. equal eqb (why_of e.0) (bytes e.1 ++ (10 ∷ []))) why_lines ≡ true
unfolding why_lines bytes numeral decimal why_of
why_right = refl

-- a row whose least and most number of arguments are equal names just that many
named : String × ℕ × ℕ × ℕ × String → Bool
named c = not (eqb c.1 c.2) || eqb (length (tokens (bytes c.4))) c.1

arguments_named : every named rows ≡ true
unfolding named bytes blank in_word tokens
arguments_named = refl

-- each reason is in plain letters, without a newline
reasons_plain : every (λ t. every (λ b. leb 32 b && leb b 126) (bytes t)) reasons ≡ true
unfolding bytes
reasons_plain = refl
