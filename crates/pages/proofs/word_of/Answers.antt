use borrow.Author.Tests.{eq-eqb, ne_eqb}
use Rattle.pages.specs.Pages.{word_of}
use Rattle.pages.proofs.word_of.Goals as goal

pub returns-then-v-eq0 : goal.returns-then-v-eq0
unfolding word_of
returns-then-v-eq0 c = simp (eq-eqb _ _ c.if-v-eq0.true)

pub returns : goal.returns
unfolding word_of
returns c = simp (ne_eqb _ _ c.if-v-eq0.false)
