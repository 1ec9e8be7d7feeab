use Rattle.std.proofs.Common.{sym, ◌∙◌}
use Rattle.regions.specs.Regions.{name_in}
use Rattle.regions.specs.Laws.Entries.{name_in_lem}
use Rattle.regions.proofs.name_of.Goals as goal

pub returns-then-t-eq0 : goal.returns-then-t-eq0
unfolding name_in
returns-then-t-eq0 c = rw c.if-t-eq0.true

pub returns : goal.returns
returns c = c.name_at.ensures ∙ sym (name_in_lem c.args.names.now c.args.t c.if-t-eq0.false)
