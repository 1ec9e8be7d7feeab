use Prim.Native.Nat.{◌≤◌, ◌<◌}
use mathlib.Core.Path.{◌∙◌}
use native.Mathlib.Omega.{arith}
use Rattle.std.proofs.Common.{lit<}
use Rattle.script.specs.Script.{last_call}
use Rattle.script.specs.Laws.Lines.{numbered, small_named, great_named}
use Rattle.script.proofs.call_of.Goals as goal
use Rattle.script.proofs.call_of.Goals.{in_default-via-in-Some+then-v-ge2+else-v-le-LAST_CALL, in_default-via-in-Some+else-v-ge2, in_default-via-in_default}

pub returns-in-Some : goal.returns-in-Some
returns-in-Some c =
    let at_most : c.in-Some.v ≤ last_call = omega (arith, c.if-v-le-LAST_CALL.true) in
    numbered _ _ c.in-Some.ensures c.if-v-ge2.true at_most

pub returns-in_default : goal.returns-in_default
returns-in_default c =
    c.named.ensures
    ∙ elim c.in_default.branch [
      | in_default-via-in-Some+then-v-ge2+else-v-le-LAST_CALL w ↦
          let greater : last_call < w.in-Some.v = omega (arith, w.if-v-le-LAST_CALL.false) in
          great_named _ _ w.in-Some.ensures greater
      | in_default-via-in-Some+else-v-ge2 w ↦ small_named _ _ w.in-Some.ensures w.if-v-ge2.false
      | in_default-via-in_default w ↦ great_named _ _ w.in_default.ensures (lit< tt)
    ]
