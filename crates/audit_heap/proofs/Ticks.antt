-- Headers that are ticked one page after the other.
use mathlib.Core.Path.{◌≡◌}
use mathlib.Core.List.{List}
use Prim.Native.Nat.{ℕ, ◌+◌}
use Rattle.lists.specs.Lists.{joined, up_to}
use Rattle.lists.specs.Ticks.{ticked}
use Rattle.lists.specs.Laws.UpTo.{joined_next}
use Rattle.lists.specs.Laws.Ticks.{ticked_append}

-- with those of i, all up to i are ticked
pub ticked_next : (f : ℕ → List ℕ) (heads : List ℕ) (i : ℕ) → ticked (ticked heads (joined f (up_to i))) (f i) ≡ ticked heads (joined f (up_to (i + 1)))
ticked_next f heads i = rw (joined_next f i) (ticked_append heads (joined f (up_to i)) (f i))
