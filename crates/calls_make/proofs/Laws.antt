-- What passed tests tell. Assumes nothing.
use mathlib.Core.Path.{◌≡◌, refl, sym}
use mathlib.Core.Bool.{false}
use mathlib.Core.List.{List, map}
use Prim.Native.Nat.{ℕ, ◌%◌, ◌<◌, ◌≤◌}
use lib.ListN.{length}
use borrow.Author.Tests.{leb-false}
use Rattle.model.specs.Calls.{reason}
use Rattle.model.proofs.Laws.Passed.{all_passed}
use Rattle.kinds.specs.Kinds.{wrong_marks}
use Rattle.kinds.specs.Laws.Marks.{marks_right}
use Rattle.calls_make.specs.Tests.{declare_tests}

pub declare_passed : (made n declared : ℕ) (ms : List ℕ) → 0 ≡ reason (declare_tests made n declared ms) → (length ms ≤ 16) × (map (λ m. m % 256) ms ≡ ms) × (declared < 16) × (wrong_marks ms ≡ false)
unfolding declare_tests
declare_passed made n declared ms e =
    let t = all_passed (declare_tests made n declared ms) refl (sym e) in
    let m = marks_right ms t.1.0 in
    (m.0, m.1, leb-false 16 declared t.1.1.0, t.1.0)
