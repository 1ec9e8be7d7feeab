use Rattle.by_value.proofs.delete_all.Goals as goal

pub returns : goal.returns
returns c = c.delete_all_in-reply.ensures c.args.s
