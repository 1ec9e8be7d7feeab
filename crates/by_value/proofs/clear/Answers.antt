use Rattle.by_value.proofs.clear.Goals as goal

pub returns : goal.returns
returns c = c.clear_in-reply.ensures c.args.s
