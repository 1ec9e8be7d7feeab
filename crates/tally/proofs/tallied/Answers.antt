use Rattle.tally.specs.Answers.{tallied}
use Rattle.tally.proofs.tallied.Goals as goal

pub returns : goal.returns
unfolding tallied
returns c = rw (← c.stage_after.ensures, ← c.more.ensures, ← c.accepts.ensures, ← c.more-2.ensures, ← c.refuses.ensures, ← c.more-3.ensures, ← c.more-4.ensures)
