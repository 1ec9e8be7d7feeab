use Prim.Native.Nat.{ℕ, ◌<◌}
use mathlib.Core.Path.{◌≡◌}
use mathlib.Core.Bool.{true}
use lib.Dec.{eqb}
use Rattle.kinds.specs.Kinds.{mark_in}
use Rattle.kinds.proofs.KindsIn.all_data.Given as goal

-- the marks passed are 0
abbrev pub invariant-loop-w : goal.invariant-loop-w
invariant-loop-w l = (j : ℕ) → j < l.w → eqb (mark_in l.self.marks.now l.n j) 0 ≡ true
