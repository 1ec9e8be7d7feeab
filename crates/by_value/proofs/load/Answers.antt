use Rattle.by_value.proofs.load.Goals as goal

pub returns : goal.returns
returns c = c.load_in-reply.ensures c.args.s
