use borrow.Author.Rules.{rules}
use Rattle.lists.specs.Ticks.{tick_at}
use Rattle.lists.specs.Laws.Chains.{every_from_all}
use Rattle.audit_slots.specs.Leads.{frame_leads, frames_lead}
use Rattle.audit_slots.proofs.frames_lead.Goals as goal

pub returns : goal.returns
unfolding frames_lead
returns c = rw (← c.frame_count-n.ensures) (every_from_all (frame_leads (tick_at c.args.heads.now) c.args.frames.now.widths.now c.args.frames.now.slots.now) c.frame_count-n.result c.all.ensures.ran (λ x b q h k. search rules))
