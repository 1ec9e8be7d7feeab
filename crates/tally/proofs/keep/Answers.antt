use Rattle.std.proofs.Common.{◌-◌, arith, rules}
use Rattle.tally.proofs.Laws.{keeps}
use Rattle.tally.proofs.keep.Goals as goal

pub returns : goal.returns
returns c h =
    keeps _ _ _ c.args.held c.min-from.result (c.min-n.result - 0) c.add.new.self.used h (omega (arith, c.min-from.ensures)) (omega (arith, c.min-n.ensures)) (search (rules, c.add.ensures.added))
