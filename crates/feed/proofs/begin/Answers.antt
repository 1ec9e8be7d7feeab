use Rattle.feed.specs.Scripted.{start}
use Rattle.feed.proofs.Laws.{unmade}
use Rattle.feed.proofs.begin.Goals as goal

pub returns : goal.returns
unfolding start
returns c line memory = rw (unmade _ _ _ c.make-d.ensures)
