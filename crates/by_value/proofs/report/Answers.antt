use Rattle.by_value.proofs.report.Goals as goal

pub returns : goal.returns
returns c = c.report_in.ensures c.args.s
