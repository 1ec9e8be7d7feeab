use mathlib.Core.Path.{◌≡◌, sym, ◌∙◌}
use borrow.Author.Tests.{eq-eqb}
use native.Mathlib.Omega.{arith}
use Rattle.lists.specs.Laws.UpTo.{find_first, find_default}
use Rattle.cells.proofs.find.Goals as goal

pub returns-then-get-x : goal.returns-then-get-x
returns-then-get-x c =
    let e = eq-eqb _ _ (sym c.get.ensures ∙ c.if-get-x.true) in
    sym (find_first _ _ c.args.n c.loop-i.i (omega arith) e c.loop-i.invariant)

pub returns : goal.returns
returns c =
    let e : c.loop-i.i ≡ c.args.n = omega arith in
    sym (find_default _ c.args.n c.args.n (rw e at c.loop-i.invariant))
