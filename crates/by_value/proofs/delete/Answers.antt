use Rattle.by_value.proofs.delete.Goals as goal

pub returns : goal.returns
returns c = c.delete_in-reply.ensures c.args.s
