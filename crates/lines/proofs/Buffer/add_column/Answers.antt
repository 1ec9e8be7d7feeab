use Rattle.lines.specs.Laws.Adding.{appended}
use Rattle.lines.specs.Lines.{column}
use Rattle.lines.proofs.Buffer.add_column.Goals as goal

pub returns : goal.returns
unfolding column
returns c = appended c.add.ensures c.add_number.ensures
