use Rattle.std.proofs.Common.{◌≡◌, ℕ, ◌<◌, false, not, eqb, get_or}
use Rattle.memory.proofs.alike.Given as goal

-- the words passed are the same
abbrev pub invariant-loop-i : goal.invariant-loop-i
invariant-loop-i l = (j : ℕ) → j < l.i → not (eqb (get_or l.a j 0) (get_or l.b j 0)) ≡ false
