use Rattle.std.proofs.Common.{ne_eqb, arith}
use Rattle.tally.specs.Answers.{answer}
use Rattle.tally.proofs.Laws.{appends_none}
use Rattle.tally.proofs.add_answer.Goals as goal

pub returns-in-0 : goal.returns-in-0
unfolding answer
returns-in-0 c = rw c.in-0.is (appends_none _)

pub returns-in-255 : goal.returns-in-255
unfolding answer
returns-in-255 c = rw c.in-255.is (rw c.more.ensures at c.add_bad.ensures)

pub returns-in-252 : goal.returns-in-252
unfolding answer
returns-in-252 c = rw c.in-252.is c.add_summary.ensures

pub returns-in-253 : goal.returns-in-253
unfolding answer
returns-in-253 c = rw c.in-253.is c.add_help.ensures

pub returns-in-254 : goal.returns-in-254
unfolding answer
returns-in-254 c = rw c.in-254.is c.add_why.ensures

pub returns-in_default : goal.returns-in_default
unfolding answer
returns-in_default c =
    let n = c.args.call in
    rw (ne_eqb n 0 (omega arith), ne_eqb n 255 (omega arith), ne_eqb n 252 (omega arith), ne_eqb n 253 (omega arith), ne_eqb n 254 (omega arith)) (rw c.more-in_default.ensures at c.add_line.ensures)
