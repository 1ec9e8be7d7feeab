use Rattle.by_value.proofs.about.Goals as goal

pub returns : goal.returns
returns c = c.about_in.ensures c.args.s
