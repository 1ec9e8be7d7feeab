use Rattle.lines.specs.Laws.Adding.{appended}
use Rattle.lines.specs.Lines.{line_of}
use Rattle.lines.proofs.Buffer.add_line.Goals as goal

pub returns : goal.returns
unfolding line_of
returns c = appended (appended (appended (appended (appended (appended c.add_number.ensures c.add_column.ensures) c.add_column-2.ensures) c.add_column-3.ensures) c.add_column-4.ensures) c.add_column-5.ensures) c.add.ensures
