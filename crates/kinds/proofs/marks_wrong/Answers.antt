use borrow.Author.Tests.{eq-eqb, le-ltb, lt-ltb, ne_eqb}
use Rattle.kinds.specs.Kinds.{wrong_marks}
use Rattle.kinds.proofs.marks_wrong.Goals as goal

pub returns-then-ms-eq0 : goal.returns-then-ms-eq0
unfolding wrong_marks
returns-then-ms-eq0 c = simp (eq-eqb _ _ c.if-ms-eq0.true)

pub returns-then-ms-gt16 : goal.returns-then-ms-gt16
unfolding wrong_marks
returns-then-ms-gt16 c = simp (ne_eqb _ _ c.if-ms-eq0.false, lt-ltb _ _ c.if-ms-gt16.true)

pub returns : goal.returns
unfolding wrong_marks
returns c = rw (← c.above_four.ensures) (simp (ne_eqb _ _ c.if-ms-eq0.false, le-ltb _ _ c.if-ms-gt16.false))
