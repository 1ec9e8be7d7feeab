use borrow.Author.Tests.{eq-eqb, ne_eqb}
use Rattle.numbers.specs.Numbers.{words_after}
use Rattle.numbers.proofs.words_after.Goals as goal

pub returns-then-call-ne-PAGES : goal.returns-then-call-ne-PAGES
unfolding words_after
returns-then-call-ne-PAGES c = simp (ne_eqb _ _ c.if-call-ne-PAGES.true)

pub returns-then-refusal-eq0 : goal.returns-then-refusal-eq0
unfolding words_after
returns-then-refusal-eq0 c = rw (← c.words_of.ensures) (simp (eq-eqb _ _ c.if-call-ne-PAGES.false, eq-eqb _ _ c.if-refusal-eq0.true))

pub returns-else-refusal-eq0 : goal.returns-else-refusal-eq0
unfolding words_after
returns-else-refusal-eq0 c = simp (eq-eqb _ _ c.if-call-ne-PAGES.false, ne_eqb _ _ c.if-refusal-eq0.false)
