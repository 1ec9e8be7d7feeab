use Prim.Native.Nat.{◌+◌, ◌-◌, ◌≤◌}
use mathlib.Core.Path.{◌≡◌}
use mathlib.Core.List.{[]}
use lib.ListN.{length, get_or, drop}
use Rattle.guide.specs.Text.{lines_of}
use Rattle.guide.proofs.nth_line.Given as goal

-- the line meant is line n - counter of what is left
abbrev pub invariant-loop : goal.invariant-loop
invariant-loop l = (l.at ≤ length l.s + l.counter) × (get_or (lines_of (drop l.at l.s)) (l.n - l.counter) [] ≡ get_or (lines_of l.s) l.n [])
