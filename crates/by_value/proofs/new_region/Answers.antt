use Rattle.by_value.proofs.new_region.Goals as goal

pub returns : goal.returns
returns c = c.new_region_in-reply.ensures c.args.s
