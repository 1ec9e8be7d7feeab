use mathlib.Core.Path.{◌∙◌, sym}
use Rattle.regions.specs.Regions.{up_in}
use Rattle.regions.specs.Laws.Entries.{up_in_lem}
use Rattle.climbs.proofs.up_from.Goals as goal

pub returns-then-t-eq0 : goal.returns-then-t-eq0
unfolding up_in
returns-then-t-eq0 c = rw c.if-t-eq0.true

pub returns : goal.returns
returns c = c.parent_at.ensures ∙ sym (up_in_lem c.args.parents.now c.args.t c.if-t-eq0.false)
