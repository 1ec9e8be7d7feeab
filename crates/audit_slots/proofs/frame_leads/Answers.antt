use borrow.Author.Rules.{rules}
use Rattle.lists.specs.Ticks.{tick_at}
use Rattle.lists.specs.Laws.Chains.{every_from_all}
use Rattle.frames.specs.Frames.{slot_in}
use Rattle.audit_slots.specs.Leads.{known, frame_leads}
use Rattle.audit_slots.proofs.frame_leads.Goals as goal

pub returns : goal.returns
unfolding frame_leads
returns c = rw (← c.width_at-n.ensures) (every_from_all (λ s. known (tick_at c.args.heads.now) (slot_in c.args.frames.now.slots.now c.args.i s)) c.width_at-n.result c.all.ensures.ran (λ x b q h k. search rules))
