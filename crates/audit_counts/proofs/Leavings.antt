-- Pointers that leave one frame or page after the other.
use mathlib.Core.Path.{◌≡◌}
use mathlib.Core.List.{List}
use Prim.Native.Nat.{ℕ, ◌+◌}
use Rattle.lists.specs.Lists.{joined, up_to}
use Rattle.lists.specs.Laws.UpTo.{joined_next}
use Rattle.regions.specs.Laws.Steps.{leavings, steps_append}

-- with those of i, all up to i have left
pub leavings_next : (t : ℕ → List ℕ) (cs : List ℕ) (i : ℕ) → leavings 0 (leavings 0 cs (joined t (up_to i))) (t i) ≡ leavings 0 cs (joined t (up_to (i + 1)))
leavings_next t cs i = rw (joined_next t i) (steps_append 4294967295 0 cs (joined t (up_to i)) (t i))
