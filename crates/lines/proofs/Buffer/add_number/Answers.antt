use native.Mathlib.Omega.{arith}
use Rattle.lines.proofs.Laws.{fewest}
use Rattle.lines.specs.Lines.{decimal}
use Rattle.lines.proofs.Buffer.add_number.Goals as goal

pub returns : goal.returns
unfolding decimal
returns c =
    rw (← fewest 19 c.decimal-k.result c.args.n (omega arith) c.decimal-k.ensures.len, ← c.decimal-k.ensures.digits) c.add.ensures
