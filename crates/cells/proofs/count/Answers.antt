use borrow.Author.Tests.{eq-eqb, ne_eqb}
use native.Mathlib.Omega.{arith}
use mathlib.Core.Path.{◌≡◌, sym}
use lib.ListN.{length, take, length-take}
use Rattle.cells.proofs.Laws.{count_met, count_end}
use Rattle.cells.proofs.count.Goals as goal
use Rattle.cells.proofs.count.Goals.{then-value-x, else-value-x, then-x-eq0, else-x-eq0}

pub loop-c-preserved : goal.loop-c-preserved
loop-c-preserved g c =
    let e = count_met g.T.Cell.value c.args.s.now g.T.Cell.none c.c-item.result c.min-there.result c.loop-c.c-index c.args.x c.value.result c.c-item.is c.loop-c-test.true c.value.ensures in
    elim c.if-value-x.branch [
      | then-value-x w ↦ omega (arith, rw (eq-eqb _ _ w.if-value-x.true) at e)
      | else-value-x w ↦ omega (arith, rw (ne_eqb _ _ w.if-value-x.false) at e)
    ]

pub returns : goal.returns
returns g c =
    let all : length (take c.min-there.result c.args.s.now) ≡ c.min-there.result = simp length-take (omega arith) in
    let at : c.loop-c.c-index ≡ c.min-there.result = omega arith in
    count_end g.T.Cell.value c.args.s.now g.T.Cell.none c.args.n c.min-there.result c.loop-c.k c.args.x c.if-x-eq0.past g.met.T.Cell.none_is_0 c.min-there.ensures (rw at at c.loop-c.invariant.1)
    (elim c.if-x-eq0.branch [
      | then-x-eq0 w ↦ rw (w.if-x-eq0.true) (omega arith)
      | else-x-eq0 w ↦ rw (ne_eqb 0 c.args.x (λ z. w.if-x-eq0.false (sym z))) (omega arith)
    ])
