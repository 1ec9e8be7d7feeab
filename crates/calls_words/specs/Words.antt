-- The tests that put and get run after those of their slot, for an object given as the part of the heap that begins at its header; and all of view's, the slot's among
-- them, for an object given by its kind and size. In document 01's order, over the numbers and lists that they read.
-- Assumes nothing.
use Rattle.std.specs.Prelude.{not, List, [], ◌∷◌, ℕ, eqb}
use Rattle.lists.specs.Lists.{every, up_to}
use Rattle.model.specs.Calls.{reason, ◌yields◌}
use Rattle.kinds.specs.Kinds.{mark_in}
use Rattle.objects.specs.Parts.{header_in}
use Rattle.checks.specs.Checks.{first_refusal, top_tests, word_tests}

-- why word w of the object that v leads to is no data word; 0 where it is
abbrev pub data_refusal : ℕ → List ℕ → List ℕ → List ℕ → ℕ → ℕ → ℕ
data_refusal declared sizes marks object v w = first_refusal (reason (word_tests declared sizes object v w)) (reason (not (eqb (mark_in marks (header_in object) w) 0) yields 16 ∷ []))

-- why an object of that kind and size cannot be viewed, which slot s leads to by the pointer v; 0 where it can
abbrev pub view_refusal : ℕ → ℕ → ℕ → List ℕ → List ℕ → ℕ → ℕ → ℕ → ℕ → ℕ
view_refusal made n standing widths marks kind size v s =
    first_refusal (reason (top_tests made n standing widths s s)) (reason (eqb v 0 yields 14 ∷ not (every (λ w. eqb (mark_in marks kind w) 0) (up_to size)) yields 16 ∷ []))
