use Rattle.std.proofs.Common.{◌∙◌, lit<}
use Rattle.actions.proofs.Laws.{at_place, view_called, called_by}
use Rattle.actions.proofs.called.Goals as goal

pub returns-then-l-eq-VIEW : goal.returns-then-l-eq-VIEW
returns-then-l-eq-VIEW c = view_called _ _ _ _ c.if-l-eq-VIEW.true c.viewed.ensures

pub returns : goal.returns
returns c =
    let first = c.number_at.ensures ∙ at_place 0 c.filler_place-p.result _ _ (lit< tt) in
    let second = c.number_at-2.ensures ∙ at_place 1 c.filler_place-p.result _ _ (lit< tt) in
    let third = c.number_at-3.ensures ∙ at_place 2 c.filler_place-p.result _ _ (lit< tt) in
    let fourth = c.number_at-4.ensures ∙ at_place 3 c.filler_place-p.result _ _ (lit< tt) in
    called_by _ _ _ _ _ _ _ _ _ _ c.if-l-eq-VIEW.false c.filler_place-p.ensures first second third fourth c.part.ensures c.call_in.ensures
