-- What the scanner finds in a list of bytes from a place on: the next word, and the line; and what its answers say where there is nothing to find.
-- Assumes nothing.
use Rattle.std.specs.Prelude.{◌≡◌, Option, None, Some, List, [], ◌∷◌, ℕ, ◌-◌, ◌≤◌, ◌<◌, length, take, drop}
use Rattle.script.specs.declared.Class.{Class}
use Rattle.script.specs.declared.Class.TheVariants.{Blank, InWord, InLine}
use Rattle.script.specs.declared.Line.{Line}
use Rattle.script.specs.declared.Span.{Span}
use Rattle.script.specs.Script.{tokens, front, of_class, no_number, bad}

-- the number that `of_class` has for a class
abbrev pub class_number : Class → ℕ
class_number Blank = 0
class_number InWord = 1
class_number InLine = 2

-- the next word from `at` on stands from `from` to `to`; there is none where that is empty
pub record NextWord (l : List ℕ) (at from to : ℕ) : Type 0 where
  pub ends : to ≤ from → tokens (drop at l) ≡ []
  pub follows : from < to → tokens (drop at l) ≡ take (to - from) (drop from l) ∷ tokens (drop to l)
  pub onward : at ≤ from
  pub within : to - from ≤ length l - from

-- the next word from `at` on stands where the answer says, or there is none
abbrev pub Next : List ℕ → ℕ → Option Span → Type 0
Next l at None = tokens (drop at l) ≡ []
Next l at (Some p) = (p.from < p.to) × NextWord l at p.from p.to

-- r is the line that begins at `at`
pub record LineAt (l : List ℕ) (at : ℕ) (r : List ℕ) : Type 0 where
  pub is : r ≡ front (of_class 2) (drop at l)
  pub within : length r ≤ length l - at

-- what `value` has for the number that is answered, where there is one
abbrev pub written : Option ℕ → ℕ
written None = no_number
written (Some v) = v

-- what `placed`, `named` and `call_of` have for the number that is answered: 0 where there is none
abbrev pub or_none : Option ℕ → ℕ
or_none None = 0
or_none (Some n) = n

-- what a line says for the line that is answered: a bad one where there is none
abbrev pub or_bad : Option Line → Line
or_bad None = bad
or_bad (Some l) = l
