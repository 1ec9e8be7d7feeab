use Rattle.by_value.proofs.locate.Goals as goal

pub returns : goal.returns
returns c = c.locate_in.ensures c.args.s
