use Rattle.by_value.proofs.allocate.Goals as goal

pub returns : goal.returns
returns c = c.allocate_in-reply.ensures c.args.s
