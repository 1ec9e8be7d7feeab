use Rattle.regions.specs.Regions.{unused_in}
use Rattle.regions.proofs.unused.Goals as goal

pub returns : goal.returns
unfolding unused_in
returns c = rw (← c.find.ensures)
