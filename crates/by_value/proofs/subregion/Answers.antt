use Rattle.by_value.proofs.subregion.Goals as goal

pub returns : goal.returns
returns c = c.subregion_in-reply.ensures c.args.s
