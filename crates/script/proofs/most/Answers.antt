use Rattle.script.specs.Script.{most}
use Rattle.script.proofs.most.Goals as goal

-- the numbers of the code are those of the table
pub returns : goal.returns
unfolding most
returns c = c.column.ensures
