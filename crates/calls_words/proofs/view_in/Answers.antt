use mathlib.Core.Path.{refl}
use native.Mathlib.Omega.{arith}
use Rattle.refusals.specs.Laws.{number_not_0}
use Rattle.calls_words.proofs.Laws.{view_refused, view_effect}
use Rattle.calls_words.proofs.view_in.Goals as goal

pub returns-in-Err : goal.returns-in-Err
returns-in-Err c s =
    rw c.number.ensures (view_refused _ _ _ _ c.slot_of_top-at.ensures c.object_of.ensures _ _ _ c.kind_of-kind.ensures c.size_of-size.ensures c.in-Err.ensures (number_not_0 _))

pub returns : goal.returns
returns c s =
    view_effect _ _ _ _ c.slot_of_top-at.ensures c.object_of.ensures _ _ 0 c.kind_of-kind.ensures c.size_of-size.ensures c.in_default.ensures refl _ _ c.place_of.ensures (omega (arith, c.part_len-count.ensures))
