-- The audit's tests that read no heap word, part by part as code runs them, over the numbers and lists that they read (document 01, Audit). What is not in use is never read.
-- Assumes nothing.
use Rattle.std.specs.Prelude.{Bool, ◌&&◌, List, ℕ, ◌+◌, ◌*◌, eqb, leb, get_or}
use Rattle.lists.specs.Lists.{every, up_to}
use Rattle.frames.specs.Frames.{frame_count_in, top_in, width_in}
use Rattle.kinds.specs.Kinds.{kind_count_in, size_in, mark_in}
use Rattle.state.specs.declared.State.{State}
use Rattle.outcomes.specs.Sound.{within}
use Rattle.audit_regions.specs.Filed.{regions_fit}

-- the limits on single numbers, m, and the length n of the heap
unfoldable pub numbers_fit : ℕ → ℕ → ℕ → ℕ → ℕ → ℕ → Bool
numbers_fit made n declared standing counted given =
    within 1 256 made && eqb n (64 * made) && leb declared 16 && leb standing 32 && leb counted (top_in standing) && leb given 1000000

-- no mark of kind n is above 4; the kind at place i has 1 to 16 words, too; all kinds
unfoldable pub marks_fit : ℕ → List ℕ → List ℕ → ℕ → Bool
marks_fit declared sizes marks n = every (λ w. leb (mark_in marks n w) 4) (up_to (size_in declared sizes n))

unfoldable pub kind_fits : ℕ → List ℕ → List ℕ → ℕ → Bool
kind_fits declared sizes marks i = within 1 16 (get_or sizes i 0) && marks_fit declared sizes marks (i + 1)

unfoldable pub kinds_fit : ℕ → List ℕ → List ℕ → Bool
kinds_fit declared sizes marks = every (kind_fits declared sizes marks) (up_to (kind_count_in declared))

unfoldable pub widths_fit : ℕ → List ℕ → Bool
widths_fit standing widths = every (λ i. within 1 8 (width_in widths i)) (up_to (frame_count_in standing))

-- all of these, of a heap of n words
unfoldable pub state_fits_in : ℕ → ℕ → ℕ → List ℕ → List ℕ → ℕ → ℕ → List ℕ → ℕ → List ℕ → List ℕ → List ℕ → Bool
state_fits_in made n declared sizes marks standing counted widths given names parents levels =
    numbers_fit made n declared standing counted given && kinds_fit declared sizes marks && widths_fit standing widths && regions_fit given names parents levels

unfoldable pub state_fits : State → ℕ → Bool
state_fits s n =
    let k = s.kinds in
    let f = s.frames in
    let r = s.regions in
    state_fits_in s.pages.made n k.declared k.sizes k.marks f.standing f.counted f.widths r.given r.names r.parents r.levels
