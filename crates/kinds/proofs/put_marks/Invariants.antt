use Prim.Native.Nat.{◌+◌, ◌%◌}
use mathlib.Core.Path.{◌≡◌}
use mathlib.Core.List.{map}
use lib.ListN.{drop}
use lib.Seq.{sets}
use Rattle.kinds.proofs.put_marks.Given as goal

-- what is still to be written gives the whole
abbrev pub invariant-loop-i : goal.invariant-loop-i
invariant-loop-i l = sets l.marks (l.at + l.i) (map (λ m. m % 256) (drop l.i l.ms)) ≡ sets l.initial.marks l.at (map (λ m. m % 256) l.ms)
