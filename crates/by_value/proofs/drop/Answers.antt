use Rattle.by_value.proofs.drop.Goals as goal

pub returns : goal.returns
returns c = c.drop_in-reply.ensures c.args.s
