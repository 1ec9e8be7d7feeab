use lib.Dec.{leb}
use borrow.Author.Rules.{rules}
use Rattle.lists.specs.Laws.Chains.{every_from_all}
use Rattle.kinds.specs.Kinds.{mark_in}
use Rattle.audit_state.specs.Fits.{marks_fit}
use Rattle.audit_state.proofs.marks_fit.Goals as goal

pub returns : goal.returns
unfolding marks_fit
returns c = rw (← c.size_of-size.ensures) (every_from_all (λ w. leb (mark_in c.args.kinds.now.marks.now c.args.n w) 4) c.size_of-size.result c.all.ensures.ran (λ x b q h k. search rules))
