use Rattle.outcomes.specs.Outcome.{store}
use Rattle.actions.proofs.Laws.{view_replied}
use Rattle.actions.proofs.viewed.Goals as goal

pub returns : goal.returns
returns c =
    let v = c.view_in-v.ensures c.args.state.now in
    view_replied (store c.args.state.now c.args.heap.now) c.args.slot _ _ _ v.0 v.2 v.3
