-- All tests of the audit together, as code runs them (document 01, Audit).
-- Assumes nothing.
use Rattle.std.specs.Prelude.{Bool, ◌&&◌, List, ℕ, length, replicate}
use Rattle.lists.specs.Ticks.{ticked, tick_at}
use Rattle.kinds.specs.Kinds.{kinds_with}
use Rattle.state.specs.declared.State.{State}
use Rattle.audit_state.specs.Fits.{state_fits_in}
use Rattle.audit_heap.specs.Heap.{pages_fit, all_headers}
use Rattle.audit_slots.specs.Leads.{entries_own, frames_lead}
use Rattle.audit_words.specs.Words.{pages_hold}
use Rattle.audit_counts.specs.Counts.{counts_fit}

-- those of the heap; headers are ticked in the list `heads`
unfoldable pub heap_fits : List ℕ → ℕ → List ℕ → List ℕ → List ℕ → List ℕ → List ℕ → List ℕ → List ℕ → List ℕ → ℕ → List ℕ → List ℕ → ℕ → List ℕ → List ℕ → Bool
heap_fits heads declared sizes marks heap names parents levels newest oldest made owners taken standing widths slots =
    let stands = tick_at (ticked heads (all_headers declared sizes heap made owners taken)) in
    pages_fit declared sizes heap names made owners taken
    && entries_own stands names newest oldest made owners
    && frames_lead stands standing widths slots
    && pages_hold stands names parents levels owners declared sizes marks heap made taken

-- each after those that it relies on
unfoldable pub passes_in : List ℕ → List ℕ → List ℕ → ℕ → List ℕ → List ℕ → ℕ → ℕ → List ℕ → List ℕ → ℕ → List ℕ → List ℕ → List ℕ → List ℕ → List ℕ → ℕ → List ℕ → List ℕ → Bool
passes_in heads cs heap declared sizes marks standing counted widths slots given names parents levels newest oldest made owners taken =
    state_fits_in made (length heap) declared sizes marks standing counted widths given names parents levels
    && heap_fits heads declared sizes marks heap names parents levels newest oldest made owners taken standing widths slots
    && counts_fit names cs (kinds_with declared sizes marks) heap made owners taken counted widths slots

-- of a memory; headers are ticked among as many zeros as a heap has words at most, and pointers leave the shares cs
unfoldable pub passes : List ℕ → State → List ℕ → Bool
passes cs s heap =
    let f = s.frames in
    let k = s.kinds in
    let g = s.regions in
    let p = s.pages in
    passes_in (replicate 16384 0) cs heap k.declared k.sizes k.marks f.standing f.counted f.widths f.slots
    g.given g.names g.parents g.levels g.newest g.oldest p.made p.owners p.taken
