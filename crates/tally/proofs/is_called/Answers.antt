use Rattle.std.proofs.Common.{rules}
use Rattle.tally.specs.Answers.{is_called}
use Rattle.tally.proofs.is_called.Goals as goal

pub returns : goal.returns
unfolding is_called
returns c = search (rules, c.contains.ensures.value, c.new.ensures.start, c.new.ensures.end)
