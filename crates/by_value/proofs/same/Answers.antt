use Rattle.by_value.proofs.same.Goals as goal

pub returns : goal.returns
returns c = c.same_in.ensures c.args.s
