use borrow.Author.Tests.{eq-eqb, ne_eqb}
use Rattle.objects.specs.Parts.{object_of}
use Rattle.objects.proofs.object_of.Goals as goal

pub returns-then-v-eq0 : goal.returns-then-v-eq0
unfolding object_of
returns-then-v-eq0 c = simp (eq-eqb _ _ c.if-v-eq0.true)

pub returns : goal.returns
unfolding object_of
returns c = rw (ne_eqb _ _ c.if-v-eq0.false) c.part_at.ensures
