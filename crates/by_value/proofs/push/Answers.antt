use Rattle.by_value.proofs.push.Goals as goal

pub returns : goal.returns
returns c = c.push_in-reply.ensures c.args.s
