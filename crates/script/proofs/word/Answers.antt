use Rattle.script.specs.Laws.Words.{next_word}
use Rattle.script.proofs.word.Goals as goal

pub returns-then-from-to : goal.returns-then-from-to
returns-then-from-to c = (c.if-from-to.true, next_word c.args.s.now c.args.at _ _ c.past-from.ensures c.past-to.ensures)

pub returns-else-from-to : goal.returns-else-from-to
returns-else-from-to c = (next_word c.args.s.now c.args.at _ _ c.past-from.ensures c.past-to.ensures).ends c.if-from-to.false
