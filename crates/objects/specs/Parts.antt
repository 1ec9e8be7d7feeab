-- An object as code reads it: from the part of the heap that begins at its header (document 01, The calls, on an object's words).
-- Assumes nothing.
use Rattle.std.specs.Prelude.{List, [], map, ℕ, ◌+◌, ◌-◌, eqb, leb, get_or, take, drop}
use Rattle.lists.specs.Lists.{pick, keep, up_to}
use Rattle.kinds.specs.Kinds.{size_in, mark_in}

-- the part that begins at place p, as long as the longest object, as far as the heap goes; and at the object that a pointer leads to, empty for null
unfoldable pub part_at : List ℕ → ℕ → List ℕ
part_at heap p = take 17 (drop p heap)

unfoldable pub object_of : List ℕ → ℕ → List ℕ
object_of heap v = pick (eqb v 0) [] (part_at heap (v - 1))

-- what such a part has as header, and as word w
abbrev pub header_in : List ℕ → ℕ
header_in object = get_or object 0 0

abbrev pub word_in : List ℕ → ℕ → ℕ
word_in object w = get_or object (1 + w) 0

-- how many words the object has; 0 where its header is no kind's number, or it takes more than n words with its header
unfoldable pub fitting : ℕ → List ℕ → List ℕ → ℕ → ℕ
fitting declared sizes object n = let s = size_in declared sizes (header_in object) in pick (leb (1 + s) n) s 0

-- what those of its first n words hold that are marked 1
unfoldable pub free_words_in : List ℕ → List ℕ → ℕ → List ℕ
free_words_in marks object n = map (word_in object) (keep (λ w. eqb (mark_in marks (header_in object) w) 1) (up_to n))
