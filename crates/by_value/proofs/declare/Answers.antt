use Rattle.by_value.proofs.declare.Goals as goal

pub returns : goal.returns
returns c = c.declare_in-reply.ensures c.args.s
