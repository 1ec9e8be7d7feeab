use Rattle.by_value.proofs.copy.Goals as goal

pub returns : goal.returns
returns c = c.copy_in-reply.ensures c.args.s
