use borrow.Author.Rules.{rules}
use Rattle.lists.specs.Laws.Chains.{every_from_all}
use Rattle.audit_counts.specs.Counts.{is_zero, all_zero}
use Rattle.audit_counts.proofs.all_zero.Goals as goal

pub returns : goal.returns
unfolding all_zero
returns c = every_from_all (is_zero c.args.regions.now.names.now c.args.shares.now) 64 c.all.ensures.ran (λ x b q h k. search rules)
