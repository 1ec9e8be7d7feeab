use borrow.Author.Rules.{rules}
use Rattle.lists.specs.Ticks.{tick_at}
use Rattle.lists.specs.Laws.Chains.{every_from_all}
use Rattle.audit_slots.specs.Leads.{entry_owns, entries_own}
use Rattle.audit_slots.proofs.entries_own.Goals as goal

pub returns : goal.returns
unfolding entries_own
returns c = every_from_all (entry_owns (tick_at c.args.heads.now) c.args.regions.now.names.now c.args.newest.now c.args.oldest.now c.args.pages.now.made c.args.pages.now.owners.now) 64 c.all.ensures.ran (λ x b q h k. search rules)
