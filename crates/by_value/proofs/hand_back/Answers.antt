use Rattle.by_value.proofs.hand_back.Goals as goal

pub returns : goal.returns
returns c = c.hand_back_in-reply.ensures c.args.s
