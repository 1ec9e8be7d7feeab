-- The audit's test of the stored counts, as code runs it (document 01, Audit; document 02, card 5, on totals).
-- Assumes nothing.
use Rattle.std.specs.Prelude.{Bool, ◌||◌, List, [], ◌++◌, ℕ, eqb, get_or}
use Rattle.lists.specs.Lists.{pick, every, joined, up_to}
use Rattle.kinds.specs.declared.Kinds.{Kinds}
use Rattle.regions.specs.Regions.{count_in}
use Rattle.regions.specs.Laws.Steps.{leavings}
use Rattle.pages.specs.Pages.{page_count_in, taken_in}
use Rattle.objects.specs.Objects.{out_of, free_words_to}
use Rattle.outcomes.specs.Store.{targets_in}

-- the tags of the regions whose outside pointers stand in words of page j
unfoldable pub word_tags : Kinds → List ℕ → List ℕ → List ℕ → ℕ → List ℕ
word_tags k heap owners taken j =
    let t = get_or owners j 0 in
    pick (eqb t 0) [] (out_of owners t (free_words_to k heap j (taken_in taken j)))

-- what has to be in the stored counts: words marked 1, and slots of the lowest m frames
unfoldable pub counted_tags : Kinds → List ℕ → ℕ → List ℕ → List ℕ → ℕ → List ℕ → List ℕ → List ℕ
counted_tags k heap made owners taken counted widths slots = joined (word_tags k heap owners taken) (up_to (page_count_in made)) ++ joined (targets_in widths slots owners) (up_to counted)

-- entry i is not in use, or its count, the total of its shares, is 0; so of all entries
unfoldable pub is_zero : List ℕ → List ℕ → ℕ → Bool
is_zero names cs i = eqb (get_or names i 0) 0 || eqb (count_in cs i) 0

unfoldable pub all_zero : List ℕ → List ℕ → Bool
all_zero names cs = every (is_zero names cs) (up_to 64)

-- nothing stays in the stored counts once all that has to be there has left the shares, one pointer after the other: filler 0's, of a copy. By whichever filler they leave, the totals are the same
unfoldable pub counts_fit : List ℕ → List ℕ → Kinds → List ℕ → ℕ → List ℕ → List ℕ → ℕ → List ℕ → List ℕ → Bool
counts_fit names cs k heap made owners taken counted widths slots = all_zero names (leavings 0 cs (counted_tags k heap made owners taken counted widths slots))
