use mathlib.Core.Path.{refl}
use Rattle.script.specs.Script.{zeros, line}
use Rattle.scanner.proofs.bare.Goals as goal

pub returns : goal.returns
unfolding zeros line
returns c = refl
