use Rattle.std.proofs.Common.{eq-eqb, ne_eqb}
use Rattle.regions.specs.Regions.{entry_in}
use Rattle.regions.proofs.entry_of.Goals as goal

pub returns-then-n-eq0 : goal.returns-then-n-eq0
unfolding entry_in
returns-then-n-eq0 c = simp (eq-eqb _ _ c.if-n-eq0.true)

pub returns : goal.returns
unfolding entry_in
returns c = rw (← c.find.ensures) (simp (ne_eqb _ _ c.if-n-eq0.false))
