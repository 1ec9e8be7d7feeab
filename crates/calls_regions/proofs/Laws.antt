-- What passed tests tell. Assumes nothing.
use mathlib.Core.Path.{◌≡◌, refl, sym}
use mathlib.Core.List.{List}
use Prim.Native.Nat.{ℕ, ◌<◌}
use lib.ListN.{get_or}
use borrow.Author.Tests.{ltb-true, leb-false, not-false}
use Rattle.model.specs.Calls.{reason}
use Rattle.model.proofs.Laws.Passed.{all_passed}
use Rattle.calls_regions.specs.Tests.{more_tests, new_tests, subregion_tests}

pub new_passed : (made n : ℕ) (names : List ℕ) (given : ℕ) → 0 ≡ reason (new_tests made n names given) → given < 1000000
unfolding new_tests more_tests
new_passed made n names given e = leb-false 1000000 given (all_passed (new_tests made n names given) refl (sym e)).1.1.0

pub subregion_passed : (made n : ℕ) (names levels : List ℕ) (given i : ℕ) → 0 ≡ reason (subregion_tests made n names levels given i)
    → (i < 64) × (get_or levels i 0 < 16) × (given < 1000000)
unfolding subregion_tests more_tests
subregion_passed made n names levels given i e =
    let t = (all_passed (subregion_tests made n names levels given i) refl (sym e)).1 in
    (ltb-true i 64 (not-false _ t.0), leb-false 16 (get_or levels i 0) t.1.0, leb-false 1000000 given t.1.1.1.0)
