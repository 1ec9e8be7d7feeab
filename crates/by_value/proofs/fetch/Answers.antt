use Rattle.by_value.proofs.fetch.Goals as goal

pub returns : goal.returns
returns c = c.fetch_in-reply.ensures c.args.s
