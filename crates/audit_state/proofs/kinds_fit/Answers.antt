use borrow.Author.Rules.{rules}
use Rattle.lists.specs.Laws.Chains.{every_from_all}
use Rattle.audit_state.specs.Fits.{kind_fits, kinds_fit}
use Rattle.audit_state.proofs.kinds_fit.Goals as goal

pub returns : goal.returns
unfolding kinds_fit
returns c = rw (← c.kind_count-n.ensures) (every_from_all (kind_fits c.args.kinds.now.declared c.args.kinds.now.sizes.now c.args.kinds.now.marks.now) c.kind_count-n.result c.all.ensures.ran (λ x b q h k. search rules))
