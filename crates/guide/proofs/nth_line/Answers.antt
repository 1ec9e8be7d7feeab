use Prim.Native.Nat.{◌+◌, ◌-◌}
use mathlib.Core.Path.{◌≡◌, ◌∙◌}
use native.Mathlib.Omega.{arith}
use Rattle.guide.proofs.Laws.{nth_on, nth_here}
use Rattle.guide.proofs.nth_line.Goals as goal

pub overflow_add-at-in-loop : goal.overflow_add-at-in-loop
overflow_add-at-in-loop c = omega (arith, c.line_at.ensures.within)

pub loop-preserved : goal.loop-preserved
loop-preserved c =
    (omega (arith, c.line_at.ensures.within), nth_on c.args.s.now c.loop.at _ c.line_at.ensures _ (c.args.n - c.loop.counter) (c.args.n - (c.loop.counter + 1)) (omega arith) (omega arith) ∙ c.loop.invariant.1)

pub returns : goal.returns
returns c =
    let e : c.args.n - c.loop.counter ≡ 0 = omega arith in
    nth_here c.args.s.now c.loop.at _ c.line_at-2.ensures ∙ rw e at c.loop.invariant.1
