use mathlib.Core.Path.{sym, ◌∙◌}
use borrow.Author.Tests.{eq-eqb, ne_eqb}
use Rattle.numbers.specs.Numbers.{filler_place}
use Rattle.numbers.proofs.filler_place.Goals as goal

pub returns-then-not-names_filler : goal.returns-then-not-names_filler
unfolding filler_place
returns-then-not-names_filler c = rw (sym c.names_filler.ensures ∙ c.if-not-names_filler.true)

pub returns-then-call-eq-DELETE_ALL : goal.returns-then-call-eq-DELETE_ALL
unfolding filler_place
returns-then-call-eq-DELETE_ALL c = rw (sym c.names_filler.ensures ∙ c.if-not-names_filler.false) (simp (eq-eqb _ _ c.if-call-eq-DELETE_ALL.true))

pub returns-else-call-eq-DELETE_ALL : goal.returns-else-call-eq-DELETE_ALL
unfolding filler_place
returns-else-call-eq-DELETE_ALL c = rw (sym c.names_filler.ensures ∙ c.if-not-names_filler.false) (simp (ne_eqb _ _ c.if-call-eq-DELETE_ALL.false))
