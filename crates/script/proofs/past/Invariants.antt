use Prim.Native.Nat.{◌+◌}
use mathlib.Core.Path.{◌≡◌}
use lib.ListN.{length, drop}
use Rattle.script.specs.Script.{front, of_class}
use Rattle.script.specs.Found.{class_number}
use Rattle.script.proofs.past.Given as goal

-- what is left to pass gives the whole
abbrev pub invariant-loop-i : goal.invariant-loop-i
invariant-loop-i l = l.i + length (front (of_class (class_number l.class)) (drop l.i l.s)) ≡ l.at + length (front (of_class (class_number l.class)) (drop l.at l.s))
