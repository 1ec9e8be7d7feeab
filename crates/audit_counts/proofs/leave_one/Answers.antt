use native.Mathlib.Omega.{arith}
use borrow.Author.Tests.{eq-eqb, ne_eqb}
use Rattle.regions.specs.Laws.Steps.{steps}
use Rattle.audit_counts.specs.Counts.{word_tags}
use Rattle.audit_counts.proofs.leave_one.Goals as goal

pub returns-then-t-eq0 : goal.returns-then-t-eq0
unfolding word_tags steps
returns-then-t-eq0 c = rw (← c.owner_at-t.ensures, eq-eqb _ _ c.if-t-eq0.true)

pub returns : goal.returns
unfolding word_tags
returns c =
    rw (← c.owner_at-t.ensures, ← c.taken_at-n.ensures, ne_eqb _ _ c.if-t-eq0.false) (c.leave_objects.ensures (omega (arith, c.taken_at-n.ensures)))
