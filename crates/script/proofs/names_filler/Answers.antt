use Rattle.std.proofs.Common.{◌∙◌}
use Rattle.script.specs.Laws.Lines.{filler_calls}
use Rattle.script.proofs.names_filler.Goals as goal

pub returns : goal.returns
returns c = c.contains.ensures.value ∙ filler_calls c.args.n
