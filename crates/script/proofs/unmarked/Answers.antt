use mathlib.Core.Path.{◌≡◌}
use mathlib.Core.Bool.{true}
use lib.Dec.{eqb}
use lib.ListN.{take}
use lib.Pointwise.{pointwise}
use Rattle.script.specs.Script.{mark}
use Rattle.script.specs.Laws.Lines.{unmarked_rest, unmarked_whole}
use Rattle.script.proofs.unmarked.Goals as goal

pub returns-in-Some : goal.returns-in-Some
returns-in-Some c =
    let skipped : pointwise eqb (take 3 c.args.s.now) mark ≡ true = c.in-Some.ensures.cases.0 in
    unmarked_rest _ _ skipped c.in-Some.ensures.cases.1

pub returns-in-None : goal.returns-in-None
returns-in-None c = unmarked_whole _ c.in-None.ensures.cases
