use borrow.Author.Rules.{rules}
use Rattle.lists.specs.Ticks.{tick_at}
use Rattle.lists.specs.Laws.Chains.{every_from_all}
use Rattle.audit_words.specs.Words.{page_holds, pages_hold}
use Rattle.audit_words.proofs.pages_hold.Goals as goal

pub returns : goal.returns
unfolding pages_hold
returns c =
    rw (← c.page_count-n.ensures)
    (every_from_all (page_holds (tick_at c.args.heads.now) c.args.regions.now.names.now c.args.regions.now.parents.now c.args.regions.now.levels.now c.args.pages.now.owners.now c.args.kinds.now.declared c.args.kinds.now.sizes.now c.args.kinds.now.marks.now c.args.heap.now c.args.pages.now.taken.now) c.page_count-n.result c.all.ensures.ran (λ x b q h k. search rules))
