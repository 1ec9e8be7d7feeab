use borrow.Author.Tests.{eq-eqb, ne_eqb}
use Rattle.pages.specs.Pages.{wrong_length_in}
use Rattle.pages.proofs.wrong_length.Goals as goal

pub returns-then-made-eq0 : goal.returns-then-made-eq0
unfolding wrong_length_in
returns-then-made-eq0 c = simp (eq-eqb _ _ c.if-made-eq0.true)

pub returns : goal.returns
unfolding wrong_length_in
returns c = simp (ne_eqb _ _ c.if-made-eq0.false)
