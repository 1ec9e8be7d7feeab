use mathlib.Core.Path.{refl, sym, ap, ◌∙◌}
use mathlib.Core.Bool.{true, false}
use native.Mathlib.Omega.{arith}
use Rattle.refusals.specs.Laws.{number_not_0}
use Rattle.pages.specs.Pages.{owner_in}
use Rattle.regions.specs.Regions.{with_shares}
use Rattle.outcomes.proofs.Laws.Steps.{by_refusal}
use Rattle.checks.specs.Laws.Tests.{else_first}
use Rattle.calls_pointers.proofs.Laws.{set_parts, set_second, set_effect, set_asked, tag_is}
use Rattle.calls_pointers.proofs.set_pointer_in.Goals as goal

pub returns-in-Err : goal.returns-in-Err
returns-in-Err c s = by_refusal _ _ _ _ _ (set_parts _ _ _ _ _ ∙ else_first _ _ _ c.in-Err.ensures (number_not_0 _)) (number_not_0 _) c.refuses.ensures refl

pub returns-in-Err-pointer_refusal : goal.returns-in-Err-pointer_refusal
returns-in-Err-pointer_refusal c s =
    by_refusal _ _ _ _ _
    (set_second _ _ _ _ _ c.slot_of_top-v.ensures c.object_of-object.ensures _ _ _ 0 _ c.slot_of_top-x.ensures c.in_default.ensures refl (sym (else_first _ _ _ c.in-Err-pointer_refusal.ensures (number_not_0 _))))
    (number_not_0 _) c.refuses-in-Err-pointer_refusal.ensures refl

pub returns-then-breaks : goal.returns-then-breaks
returns-then-breaks c s =
    by_refusal _ _ _ _ _
    (set_second _ _ _ _ _ c.slot_of_top-v.ensures c.object_of-object.ensures _ _ _ 0 _ c.slot_of_top-x.ensures c.in_default.ensures refl
    (set_asked _ _ _ _ 0 _ _ _ _ _ _ _ _ true c.in_default-pointer_refusal.ensures refl c.marked-m.ensures c.owner_of-own.ensures c.owner_of-new.ensures c.breaks.ensures c.if-breaks.true))
    (λ z. omega arith) c.refuses-then-breaks.ensures refl

pub returns : goal.returns
unfolding with_shares
returns c s =
    set_effect _ _ _ _ _ c.slot_of_top-v.ensures c.object_of-object.ensures _ _ _ 0 _ c.slot_of_top-x.ensures c.in_default.ensures refl
    (set_asked _ _ _ _ 0 _ _ _ _ _ _ _ _ false c.in_default-pointer_refusal.ensures refl c.marked-m.ensures c.owner_of-own.ensures c.owner_of-new.ensures c.breaks.ensures c.if-breaks.false)
    _ _ _ _ _ _ refl c.gives.ensures (c.told-shares, c.fits-shares)
    (tag_is _ _ _ _ _ _ _ c.marked-m.ensures c.owner_of-own.ensures (c.owner_of-old.ensures ∙ ap (owner_in _) c.word_at.ensures) c.counted_tag-left.ensures)
    (tag_is _ _ _ _ _ _ _ c.marked-m.ensures c.owner_of-own.ensures c.owner_of-new.ensures c.counted_tag-entered.ensures)
    c.move_shares.ensures c.write.ensures refl
