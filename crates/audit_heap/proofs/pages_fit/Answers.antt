use borrow.Author.Rules.{rules}
use Rattle.lists.specs.Laws.Chains.{every_from_all}
use Rattle.audit_heap.specs.Heap.{page_fits, pages_fit}
use Rattle.audit_heap.proofs.pages_fit.Goals as goal

pub returns : goal.returns
unfolding pages_fit
returns c = rw (← c.page_count-n.ensures) (every_from_all (page_fits c.args.kinds.now.declared c.args.kinds.now.sizes.now c.args.heap.now c.args.regions.now.names.now c.args.pages.now.owners.now c.args.pages.now.taken.now) c.page_count-n.result c.all.ensures.ran (λ x b q h k. search rules))
