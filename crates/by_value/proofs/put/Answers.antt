use Rattle.by_value.proofs.put.Goals as goal

pub returns : goal.returns
returns c = c.put_in.ensures c.args.s
