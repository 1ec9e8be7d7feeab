-- The tests that load and set pointer run after those of their slots, in document 01's order, and the counts that a set pointer changes,
-- over the numbers and lists that they read. An object is given as the part of the heap that begins at its header.
-- Assumes nothing.
use Rattle.std.specs.Prelude.{not, ◌&&◌, List, [], ◌∷◌, ℕ, eqb}
use Rattle.lists.specs.Lists.{pick}
use Rattle.model.specs.Calls.{reason, ◌yields◌}
use Rattle.kinds.specs.Kinds.{mark_in}
use Rattle.pages.specs.Pages.{owner_in}
use Rattle.objects.specs.Parts.{header_in, word_in}
use Rattle.outcomes.specs.Store.{breaks_in}
use Rattle.checks.specs.Checks.{first_refusal, word_tests}

-- why word w of the object that v leads to is no pointer word; 0 where it is
abbrev pub pointer_refusal : ℕ → List ℕ → List ℕ → List ℕ → ℕ → ℕ → ℕ
pointer_refusal declared sizes marks object v w = first_refusal (reason (word_tests declared sizes object v w)) (reason (eqb (mark_in marks (header_in object) w) 0 yields 16 ∷ []))

-- why word w of the object that v leads to cannot get x; 0 where it can
abbrev pub set_refusal : ℕ → List ℕ → List ℕ → List ℕ → List ℕ → List ℕ → List ℕ → List ℕ → ℕ → ℕ → ℕ → ℕ
set_refusal declared sizes marks names parents levels owners object v w x =
    first_refusal (pointer_refusal declared sizes marks object v w) (reason (breaks_in names parents levels (mark_in marks (header_in object) w) (owner_in owners v) x (owner_in owners x) yields 17 ∷ []))

-- the tag of the region whose count has a pointer into the region with tag t, held by a word marked k of an object of the region with tag h: 0 for none
-- (document 01, The store, on outside pointers)
unfoldable pub counted_tag : ℕ → ℕ → ℕ → ℕ
counted_tag k h t = pick (eqb k 1 && not (eqb t h)) t 0

-- for word w of the object that v leads to: the one that what it holds is counted in, and the one that x will be
abbrev pub tag_left : List ℕ → List ℕ → List ℕ → ℕ → ℕ → ℕ
tag_left marks owners object v w = counted_tag (mark_in marks (header_in object) w) (owner_in owners v) (owner_in owners (word_in object w))

abbrev pub tag_entered : List ℕ → List ℕ → List ℕ → ℕ → ℕ → ℕ → ℕ
tag_entered marks owners object v w x = counted_tag (mark_in marks (header_in object) w) (owner_in owners v) (owner_in owners x)
