use Rattle.by_value.proofs.totals.Goals as goal

pub returns : goal.returns
returns c heap = c.totals_in.ensures heap c.args.s
