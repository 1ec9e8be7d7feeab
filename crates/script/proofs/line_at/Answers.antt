use native.Mathlib.Omega.{arith}
use lib.ListN.{drop, length-drop}
use Rattle.script.specs.Script.{of_class}
use Rattle.script.specs.Laws.Words.{front_length, line_at}
use Rattle.script.proofs.line_at.Goals as goal

pub slice_bounds-result-end-2 : goal.slice_bounds-result-end-2
slice_bounds-result-end-2 c =
    omega (arith, c.line_end.ensures, front_length (of_class 2) (drop c.args.at c.args.s.now), length-drop c.args.at c.args.s.now)

pub returns : goal.returns
returns c =
    line_at c.args.s.now c.args.at _ (omega arith) c.line_end.ensures
