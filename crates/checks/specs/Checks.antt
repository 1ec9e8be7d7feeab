-- The tests that several calls share, in the documents' order, over the numbers and lists that they read.
-- Assumes nothing.
use Rattle.std.specs.Prelude.{Bool, not, ◌||◌, List, [], ◌∷◌, ℕ, ◌-◌, eqb, ltb, leb}
use Rattle.lists.specs.Lists.{pick}
use Rattle.model.specs.Calls.{◌yields◌, no_filler}
use Rattle.frames.specs.Frames.{top_in, width_in}
use Rattle.kinds.specs.Kinds.{size_in}
use Rattle.pages.specs.Pages.{wrong_length_in}
use Rattle.objects.specs.Parts.{header_in}

-- the first number, or the second where the first accepts
abbrev pub first_refusal : ℕ → ℕ → ℕ
first_refusal g h = pick (eqb g 0) h g

-- a heap of n words; the filler f (document 02, card 5)
unfoldable pub filler_tests : ℕ → ℕ → ℕ → List (Bool × ℕ)
filler_tests made n f = wrong_length_in made n yields 21 ∷ no_filler f yields 23 ∷ []

-- a heap of n words; slots s and t of the top frame
unfoldable pub top_tests : ℕ → ℕ → ℕ → List ℕ → ℕ → ℕ → List (Bool × ℕ)
top_tests made n standing widths s t =
    let w = width_in widths (top_in standing) in
    wrong_length_in made n yields 21 ∷ eqb standing 0 yields 6 ∷ (leb w s || leb w t) yields 9 ∷ []

-- slot s of the top frame and slot b of the frame beneath it
unfoldable pub beneath_tests : ℕ → ℕ → ℕ → List ℕ → ℕ → ℕ → List (Bool × ℕ)
beneath_tests made n standing widths s b =
    wrong_length_in made n yields 21 ∷ ltb standing 2 yields 6 ∷ (leb (width_in widths (top_in standing)) s || leb (width_in widths (top_in standing - 1)) b) yields 9 ∷ []

-- word w of the object that v leads to, given as the part of the heap that begins at its header
unfoldable pub word_tests : ℕ → List ℕ → List ℕ → ℕ → ℕ → List (Bool × ℕ)
word_tests declared sizes object v w = eqb v 0 yields 14 ∷ leb (size_in declared sizes (header_in object)) w yields 15 ∷ []

-- a region by its entry e, 64 where the name is no live region's
unfoldable pub region_tests : ℕ → ℕ → ℕ → List (Bool × ℕ)
region_tests made n e = wrong_length_in made n yields 21 ∷ not (ltb e 64) yields 2 ∷ []
