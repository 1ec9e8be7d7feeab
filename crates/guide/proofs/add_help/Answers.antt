use Rattle.script.specs.Script.{bytes}
use Rattle.guide.specs.Guide.{help_line, help}
use Rattle.guide.proofs.add_help.Goals as goal

-- the bytes added are the lines of the table, row by row
pub returns : goal.returns
unfolding bytes help_line help
returns c = c.add.ensures
