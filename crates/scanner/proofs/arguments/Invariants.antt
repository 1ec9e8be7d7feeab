use Prim.Native.Nat.{◌-◌, ◌≤◌}
use mathlib.Core.Path.{◌≡◌}
use mathlib.Core.List.{map}
use lib.ListN.{length, drop}
use Rattle.script.specs.Script.{tokens, value, given}
use Rattle.script.specs.Laws.Lines.{given_from}
use Rattle.scanner.proofs.arguments.Given as goal

-- the arguments read so far and the words to come give the whole
abbrev pub invariant-loop-p : goal.invariant-loop-p
invariant-loop-p l = (l.count ≤ 64) × (length l.args ≡ 64) × (given_from l.n l.filler l.count l.args (map value (tokens (drop l.i l.s))) ≡ given l.n l.filler (map value (tokens (drop l.at l.s))))

abbrev pub decreases-loop-p : goal.decreases-loop-p
decreases-loop-p l = length l.s - l.i
