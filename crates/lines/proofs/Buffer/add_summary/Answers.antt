use Rattle.lines.specs.Laws.Adding.{appended}
use Rattle.lines.specs.Lines.{summary_of}
use Rattle.lines.proofs.Buffer.add_summary.Goals as goal

pub returns : goal.returns
unfolding summary_of
returns c = appended (appended (appended (appended (appended c.add.ensures c.add_column.ensures) c.add_column-2.ensures) c.add_column-3.ensures) c.add_column-4.ensures) c.add-2.ensures
