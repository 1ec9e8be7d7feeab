use Rattle.by_value.proofs.get.Goals as goal

pub returns : goal.returns
returns c = c.get_in.ensures c.args.s
