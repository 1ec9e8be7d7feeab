use Rattle.by_value.proofs.view_refusal.Goals as goal

pub returns : goal.returns
returns c = (c.view_in-v.ensures c.args.s).0
