use mathlib.Core.Path.{◌≡◌}
use lib.Dec.{ltb}
use lib.ListN.{drop}
use Rattle.lists.specs.Lists.{any_of}
use Rattle.kinds.proofs.above_four.Given as goal

-- the marks left decide
abbrev pub invariant-loop-m : goal.invariant-loop-m
invariant-loop-m l = any_of (ltb 4) (drop l.m-index l.ms) ≡ any_of (ltb 4) l.ms
