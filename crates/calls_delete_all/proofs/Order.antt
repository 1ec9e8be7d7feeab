-- The tests of the list, one after the other: the first that refuses decides.
-- Assumes nothing.
use mathlib.Core.Path.{◌≡◌, refl, ◌∙◌}
use mathlib.Core.Bool.{Bool, not}
use mathlib.Core.List.{List, [], ◌∷◌, ◌++◌, append-nil}
use Prim.Native.Nat.{ℕ}
use lib.Dec.{ltb}
use Rattle.lists.specs.Lists.{pick}
use Rattle.model.specs.Calls.{◌yields◌, reason, wrong_names, name_tests}
use Rattle.model.proofs.Laws.Passed.{names_numbers}
use Rattle.regions.specs.Regions.{closed_in}
use Rattle.outcomes.proofs.Laws.Steps.{reason_append}
use Rattle.checks.specs.Checks.{first_refusal, filler_tests}
use Rattle.members.specs.Members.{dead_by}
use Rattle.calls_delete_all.specs.DeleteAll.{list_tests}

pub in_order : (made words f : ℕ) (list names parents : List ℕ) (member : ℕ → Bool) → reason (list_tests made words f list names parents member) ≡ first_refusal (reason (filler_tests made words f)) (pick (wrong_names list) 22 (first_refusal (reason (name_tests (dead_by names) list)) (pick (not (closed_in names parents member)) 18 0)))
unfolding list_tests filler_tests
in_order made words f list names parents member =
    let ts = name_tests (dead_by names) list in
    let last = not (closed_in names parents member) yields 18 ∷ [] in
    reason_append (filler_tests made words f) (wrong_names list yields 22 ∷ ts ++ last) refl
    ∙ rw (reason_append ts last (rw (append-nil ts) at (names_numbers (ltb 0) refl refl (dead_by names) list [] refl)))
