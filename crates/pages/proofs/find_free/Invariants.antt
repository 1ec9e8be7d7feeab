use Prim.Native.Nat.{ℕ, ◌<◌, min}
use mathlib.Core.Path.{◌≡◌}
use mathlib.Core.Bool.{false}
use lib.Dec.{eqb}
use lib.ListN.{get_or}
use Rattle.pages.proofs.find_free.Given as goal

-- none of the pages passed is free
abbrev pub invariant-loop-j : goal.invariant-loop-j
invariant-loop-j l = (l.n ≡ min l.made 256) × ((i : ℕ) → i < l.j → eqb (get_or l.owners i 0) 0 ≡ false)
