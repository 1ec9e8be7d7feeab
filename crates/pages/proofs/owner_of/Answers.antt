use borrow.Author.Tests.{eq-eqb, ne_eqb}
use Rattle.pages.specs.Pages.{owner_in}
use Rattle.pages.proofs.owner_of.Goals as goal

pub returns-then-v-eq0 : goal.returns-then-v-eq0
unfolding owner_in
returns-then-v-eq0 c = simp (eq-eqb _ _ c.if-v-eq0.true)

pub returns : goal.returns
unfolding owner_in
returns c = rw (← c.get.ensures) (simp (ne_eqb _ _ c.if-v-eq0.false))
