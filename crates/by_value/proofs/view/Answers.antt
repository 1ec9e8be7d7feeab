use mathlib.Core.Path.{◌≡◌}
use Prim.Native.Nat.{◌+◌, ◌-◌}
use native.Mathlib.Omega.{arith}
use Rattle.by_value.proofs.view.Goals as goal

-- the part lies in the heap
pub slice_bounds-result-end : goal.slice_bounds-result-end
slice_bounds-result-end c = (c.view_in-v.ensures c.args.s).2

pub returns : goal.returns
returns c =
    let e : c.view_in-v.result.place + c.view_in-v.result.count - c.view_in-v.result.place ≡ c.view_in-v.result.count = omega arith in
    rw e (c.view_in-v.ensures c.args.s).3
