use Rattle.by_value.proofs.first.Goals as goal

pub returns : goal.returns
returns c = c.first_in-reply.ensures c.args.s
