use Rattle.lines.specs.Laws.Adding.{appended}
use Rattle.lines.specs.Lines.{bad_of}
use Rattle.lines.proofs.Buffer.add_bad.Goals as goal

pub returns : goal.returns
unfolding bad_of
returns c = appended (appended c.add.ensures c.add_number.ensures) c.add-2.ensures
