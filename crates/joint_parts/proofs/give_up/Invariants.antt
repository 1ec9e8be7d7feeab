use mathlib.Core.Path.{◌≡◌}
use Rattle.lists.specs.Ticks.{tick_at}
use Rattle.joint_parts.specs.Joint.{names_left}
use Rattle.joint_parts.proofs.give_up.Given as goal

-- the members' entries passed are given up
abbrev pub invariant-loop-i : goal.invariant-loop-i
invariant-loop-i l = l.names ≡ names_left l.initial.names (tick_at l.members.ticks) l.i
