use borrow.Author.Tests.{eq-eqb, ne_eqb}
use Rattle.pages.specs.Pages.{page_of}
use Rattle.pages.proofs.page_of.Goals as goal

pub returns-then-v-eq0 : goal.returns-then-v-eq0
unfolding page_of
returns-then-v-eq0 c = simp (eq-eqb _ _ c.if-v-eq0.true)

pub returns : goal.returns
unfolding page_of
returns c = simp (ne_eqb _ _ c.if-v-eq0.false)
