use mathlib.Core.Path.{refl, ◌∙◌}
use native.Mathlib.Omega.{arith}
use Rattle.refusals.specs.Laws.{number_not_0}
use Rattle.frames.specs.Frames.{put_slot, top_frame}
use Rattle.regions.specs.Regions.{is_live, entry_of, oldest_at}
use Rattle.outcomes.specs.Outcome.{Accepted, fill_slot, dead}
use Rattle.outcomes.proofs.Laws.Steps.{by_refusal, by_effect}
use Rattle.checks.specs.Laws.Tests.{else_first, else_next}
use Rattle.calls_slots.proofs.Laws.{first_tests, refuses, accepts}
use Rattle.calls_slots.proofs.first_in.Goals as goal

pub returns-in-Err : goal.returns-in-Err
returns-in-Err c s = by_refusal _ _ _ _ _ (first_tests _ _ _ ∙ else_first _ _ _ c.in-Err.ensures (number_not_0 _)) (number_not_0 _) c.refuses.ensures refl

pub returns-then-i-ge64 : goal.returns-then-i-ge64
unfolding dead is_live entry_of
returns-then-i-ge64 c s =
    by_refusal _ _ _ _ 2 (first_tests _ _ _ ∙ else_next _ 0 _ c.in_default.ensures refl ∙ refuses _ _ c.entry_of-i.ensures c.if-i-ge64.true) (λ q. omega arith) c.refuses-then-i-ge64.ensures refl

pub returns : goal.returns
unfolding Accepted fill_slot put_slot top_frame dead is_live entry_of oldest_at
returns c s =
    by_effect _ _ _ _ (first_tests _ _ _ ∙ else_next _ 0 _ c.in_default.ensures refl ∙ accepts _ _ c.entry_of-i.ensures c.if-i-ge64.false)
    (c.gives.ensures, rw (c.put_slot.ensures, c.top.ensures, c.oldest_at-v.ensures, ← c.entry_of-i.ensures))
