use borrow.Author.Rules.{rules}
use Rattle.lists.specs.Laws.Chains.{every_from_all}
use Rattle.frames.specs.Frames.{width_in}
use Rattle.outcomes.specs.Sound.{within}
use Rattle.audit_state.specs.Fits.{widths_fit}
use Rattle.audit_state.proofs.widths_fit.Goals as goal

pub returns : goal.returns
unfolding widths_fit
returns c = rw (← c.frame_count-n.ensures) (every_from_all (λ i. within 1 8 (width_in c.args.frames.now.widths.now i)) c.frame_count-n.result c.all.ensures.ran (λ x b q h k. search rules))
