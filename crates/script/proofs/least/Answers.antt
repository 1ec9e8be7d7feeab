use Rattle.script.specs.Script.{least}
use Rattle.script.proofs.least.Goals as goal

-- the numbers of the code are those of the table
pub returns : goal.returns
unfolding least
returns c = c.column.ensures
