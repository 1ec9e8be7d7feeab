-- The kinds as the state keeps them (document 01, The store). Every reading is total: a kind that was not declared has no words, and a mark past the end of the array reads 0.
-- A name that ends in `_in` is a reading by the numbers and lists alone that it takes, for code that is lent these; the reading of the whole is said by it.
-- Assumes nothing.
use Rattle.std.specs.Prelude.{Bool, ◌&&◌, ◌||◌, List, ℕ, ◌+◌, ◌-◌, ◌*◌, min, eqb, ltb, leb, length, get_or, set}
use Rattle.std.proofs.lemmas.List.Edits.{sets}
use Rattle.lists.specs.Lists.{pick, any_of, every, up_to}
use Rattle.kinds.specs.declared.Kinds.{Kinds}

-- the kinds listed, of which the state has room for 16
abbrev pub kind_count_in : ℕ → ℕ
kind_count_in declared = min declared 16

unfoldable pub kind_count : Kinds → ℕ
kind_count k = kind_count_in k.declared

-- the kinds with these parts
abbrev pub kinds_with : ℕ → List ℕ → List ℕ → Kinds
kinds_with declared sizes marks = record { declared = declared; sizes = sizes; marks = marks }

-- how many words an object of kind n has, of which the state has room for 16 marks; 0 where there is no such kind
unfoldable pub size_in : ℕ → List ℕ → ℕ → ℕ
size_in declared sizes n = pick (ltb 0 n && leb n (kind_count_in declared)) (min (get_or sizes (n - 1) 0) 16) 0

unfoldable pub size_of : Kinds → ℕ → ℕ
size_of k n = size_in k.declared k.sizes n

-- the mark of word w of kind n, for a kind declared and a word that it has; else what stands there
abbrev pub mark_in : List ℕ → ℕ → ℕ → ℕ
mark_in marks n w = get_or marks (16 * (n - 1) + w) 0

unfoldable pub mark_at : Kinds → ℕ → ℕ → ℕ
mark_at k n w = mark_in k.marks n w

-- one kind more, with the marks ms (document 01, Declare)
unfoldable pub with_kind : Kinds → List ℕ → Kinds
with_kind k ms = record { declared = k.declared + 1; sizes = set k.sizes k.declared (length ms); marks = sets k.marks (16 * k.declared) ms }

-- what declare refuses as marks: none, more than 16, or one above 4 (document 01, Declare)
unfoldable pub wrong_marks : List ℕ → Bool
wrong_marks ms = eqb (length ms) 0 || ltb 16 (length ms) || any_of (ltb 4) ms

-- every word of kind n is data
unfoldable pub all_data : Kinds → ℕ → Bool
all_data k n = every (λ w. eqb (mark_at k n w) 0) (up_to (size_of k n))
