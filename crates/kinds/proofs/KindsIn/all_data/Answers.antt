use mathlib.Core.Path.{◌≡◌, sym, ◌∙◌}
use borrow.Author.Tests.{ne_eqb}
use native.Mathlib.Omega.{arith}
use Rattle.lists.specs.Laws.UpTo.{each_every}
use Rattle.lists.specs.Laws.Every.{every_not}
use Rattle.kinds.proofs.KindsIn.all_data.Goals as goal

pub returns-then-mark_at-ne0 : goal.returns-then-mark_at-ne0
returns-then-mark_at-ne0 c =
    sym (every_not _ c.args.size c.loop-w.w (omega arith) (ne_eqb _ _ (λ q. c.if-mark_at-ne0.true (c.mark_at.ensures ∙ q))))

pub returns : goal.returns
returns c =
    let e : c.loop-w.w ≡ c.args.size = omega arith in
    rw (← e) (sym (each_every _ _ c.loop-w.invariant))
