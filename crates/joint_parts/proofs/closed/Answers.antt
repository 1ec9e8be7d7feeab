use Rattle.std.proofs.Common.{rules}
use Rattle.lists.specs.Laws.Chains.{every_from_all}
use Rattle.lists.specs.Ticks.{tick_at}
use Rattle.regions.specs.Regions.{follows_in, closed_in}
use Rattle.joint_parts.proofs.closed.Goals as goal

pub returns : goal.returns
unfolding closed_in
returns c = every_from_all (follows_in c.args.names.now c.args.parents.now (tick_at c.args.members.now.ticks)) 64 c.all.ensures.ran (λ e b q h k. search rules)
