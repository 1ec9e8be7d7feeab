-- The audit's tests of pointer words, as code runs them (document 01, Audit), over the numbers and lists that they read, and over a test `stands` of the place of a header.
-- Assumes nothing.
use Rattle.std.specs.Prelude.{Bool, ◌&&◌, ◌||◌, List, ℕ, ◌+◌, ◌-◌, eqb, get_or}
use Rattle.lists.specs.Lists.{every, up_to}
use Rattle.kinds.specs.Kinds.{kinds_with, size_in, mark_in}
use Rattle.regions.specs.Regions.{allows_in}
use Rattle.pages.specs.Pages.{page_count_in, taken_in, owner_in}
use Rattle.objects.specs.Objects.{headers_to}
use Rattle.objects.specs.Parts.{header_in, word_in}

module _ (stands : ℕ → Bool) (names parents levels owners : List ℕ) where
  -- a word with mark m that holds x, in an object of the region with tag own: data, null, or leading to an object that the mark allows
  unfoldable pub word_holds : ℕ → ℕ → ℕ → Bool
  word_holds own m x = eqb m 0 || (eqb x 0 || (stands (x - 1) && allows_in names parents levels m own (owner_in owners x)))

  -- the first n words of the object that a part of the heap begins with; the object whose header stands at place q
  unfoldable pub words_hold : List ℕ → List ℕ → ℕ → ℕ → Bool
  words_hold marks object n own = every (λ w. word_holds own (mark_in marks (header_in object) w) (word_in object w)) (up_to n)

  module _ (declared : ℕ) (sizes marks heap : List ℕ) where
    unfoldable pub object_holds : ℕ → ℕ → Bool
    object_holds own q =
        let k = get_or heap q 0 in
        every (λ w. word_holds own (mark_in marks k w) (get_or heap (q + 1 + w) 0)) (up_to (size_in declared sizes k))

    -- the objects on page j, as far as n words of it
    unfoldable pub objects_hold : ℕ → ℕ → ℕ → Bool
    objects_hold own j n = every (object_holds own) (headers_to (kinds_with declared sizes marks) heap j n)

    -- those on page j, if it is not free; on all pages
    unfoldable pub page_holds : List ℕ → ℕ → Bool
    page_holds taken j =
        let t = get_or owners j 0 in
        eqb t 0 || objects_hold t j (taken_in taken j)

    unfoldable pub pages_hold : ℕ → List ℕ → Bool
    pages_hold made taken = every (page_holds taken) (up_to (page_count_in made))
