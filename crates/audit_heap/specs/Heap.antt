-- The audit's tests of pages as code runs them (document 01, Audit), over the numbers and lists that they read; and the headers that pointers may lead to:
-- they are ticked once, in a list with a number for each word of the heap, and pointers are looked up there.
-- Assumes nothing.
use Rattle.std.specs.Prelude.{Bool, not, ◌&&◌, ◌||◌, List, [], ℕ, ◌+◌, eqb, get_or}
use Rattle.lists.specs.Lists.{pick, every, sum_of, joined, up_to}
use Rattle.kinds.specs.Kinds.{kinds_with, size_in}
use Rattle.regions.specs.Regions.{name_in}
use Rattle.pages.specs.Pages.{page_count_in, taken_in}
use Rattle.objects.specs.Objects.{headers_to}

-- the headers met on page j, as far as n words of it; marks have no part in a walk
abbrev pub headers_in : ℕ → List ℕ → List ℕ → ℕ → ℕ → List ℕ
headers_in declared sizes heap j n = headers_to (kinds_with declared sizes []) heap j n

-- the words that these objects take
unfoldable pub filled_to : ℕ → List ℕ → List ℕ → ℕ → ℕ → ℕ
filled_to declared sizes heap j n = sum_of (λ q. 1 + size_in declared sizes (get_or heap q 0)) (headers_in declared sizes heap j n)

-- page j is free; or its owner is in use, and its objects take just the words taken
unfoldable pub page_fits : ℕ → List ℕ → List ℕ → List ℕ → List ℕ → List ℕ → ℕ → Bool
page_fits declared sizes heap names owners taken j =
    let t = get_or owners j 0 in
    eqb t 0 || (not (eqb (name_in names t) 0) && eqb (filled_to declared sizes heap j (taken_in taken j)) (get_or taken j 0))

unfoldable pub pages_fit : ℕ → List ℕ → List ℕ → List ℕ → ℕ → List ℕ → List ℕ → Bool
pages_fit declared sizes heap names made owners taken = every (page_fits declared sizes heap names owners taken) (up_to (page_count_in made))

-- ---- headers

-- those that pointers may lead to: on page j, none if it is free; and on all pages
unfoldable pub headers_held : ℕ → List ℕ → List ℕ → List ℕ → List ℕ → ℕ → List ℕ
headers_held declared sizes heap owners taken j = pick (eqb (get_or owners j 0) 0) [] (headers_in declared sizes heap j (taken_in taken j))

unfoldable pub all_headers : ℕ → List ℕ → List ℕ → ℕ → List ℕ → List ℕ → List ℕ
all_headers declared sizes heap made owners taken = joined (headers_held declared sizes heap owners taken) (up_to (page_count_in made))
