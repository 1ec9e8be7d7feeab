use Rattle.std.proofs.Common.{◌∙◌, sym}
use Rattle.model.specs.Model.{climb}
use Rattle.regions.specs.Laws.Climb.{meets_end, meets_here, meets_on}
use Rattle.climbs.proofs.+is_above.Goals as goal

pub returns-then-level-eq0 : goal.returns-then-level-eq0
unfolding climb
returns-then-level-eq0 t c = rw c.if-level-eq0.true

pub returns-then-up-eq0 : goal.returns-then-up-eq0
returns-then-up-eq0 t c = meets_end c.args.regions.now.names.now _ c.args.n _ _ c.up_from-up.ensures c.args.level c.if-up-eq0.true

pub returns-then-name_of-n : goal.returns-then-name_of-n
returns-then-name_of-n t c = meets_here _ _ _ _ _ c.up_from-up.ensures _ c.if-level-eq0.false c.if-up-eq0.false (sym c.name_of.ensures ∙ c.if-name_of-n.true)

pub returns : goal.returns
returns t c = meets_on _ _ _ _ _ c.up_from-up.ensures _ c.if-level-eq0.false c.if-up-eq0.false (λ e. c.if-name_of-n.false (c.name_of.ensures ∙ e)) _ c.is_above.ensures
