use mathlib.Core.Path.{◌≡◌}
use lib.ListN.{drop}
use Rattle.lists.specs.Lists.{repeats}
use Rattle.model.specs.Calls.{wrong_names}
use Rattle.members.proofs.wrong_names.Given as goal

-- what is left decides
abbrev pub invariant-loop-i : goal.invariant-loop-i
invariant-loop-i l = repeats (drop l.i l.list) ≡ wrong_names l.list
