use Prim.Native.Nat.{◌<◌}
use mathlib.Core.Path.{◌≡◌}
use lib.ListN.{drop}
use Rattle.script.specs.Script.{no_number, value}
use Rattle.script.specs.Laws.Numbers.{valued}
use Rattle.script.proofs.number.Given as goal

-- the number read so far and the digits to come give the whole
abbrev pub invariant-loop-b : goal.invariant-loop-b
invariant-loop-b l = (l.v < no_number) × (valued l.v (drop l.b-index l.w) ≡ value l.w)
