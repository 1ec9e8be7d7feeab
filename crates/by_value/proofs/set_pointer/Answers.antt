use Rattle.by_value.proofs.set_pointer.Goals as goal

pub returns : goal.returns
returns c = c.set_pointer_in-reply.ensures c.args.s
