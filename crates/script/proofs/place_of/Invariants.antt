use Prim.Native.Nat.{◌+◌, ◌-◌, ◌≤◌}
use mathlib.Core.Path.{◌≡◌}
use lib.ListN.{length, drop}
use Rattle.script.specs.Script.{tokens, placed}
use Rattle.script.proofs.place_of.Given as goal

-- the words to come, counted from n on, give the whole
abbrev pub invariant-loop-p : goal.invariant-loop-p
invariant-loop-p l = (l.first ≤ l.n) × (l.n ≤ l.at + l.first) × (l.at ≤ length l.s) × (placed l.n l.w (tokens (drop l.at l.s)) ≡ placed l.first l.w (tokens l.s))

abbrev pub decreases-loop-p : goal.decreases-loop-p
decreases-loop-p l = length l.s - l.at
