use mathlib.Core.Path.{refl}
use lib.ListN.{get_or}
use Rattle.state.specs.declared.State.{State}
use Rattle.lent.specs.Lent.{state_of}
use Rattle.abi.proofs.region_store_view.Goals as goal

-- s is the state lent
pub returns : goal.returns
returns c =
    let a = c.args in
    let n = a.numbers.now in
    let s : State = state_of (get_or n 0 0) (get_or n 1 0) (get_or n 2 0) (get_or n 3 0) (get_or n 4 0)
    a.widths.now a.slots.now a.sizes.now a.marks.now a.names.now a.parents.now a.levels.now a.shares.now a.newest.now a.oldest.now a.owners.now a.taken.now in
    let v = c.view_in-v.ensures s in
    (s, _, _, _, c.holds.ensures, refl, v.1, v.2, rw v.0 v.3)
