use mathlib.Core.Path.{◌≡◌, sym, ◌∙◌}
use mathlib.Core.Bool.{Bool}
use mathlib.Core.List.{List}
use Prim.Native.Nat.{ℕ, suc}
use native.Mathlib.Numerals.{add-one}
use Rattle.lists.specs.Ticks.{tick_at}
use Rattle.joint_parts.specs.Joint.{names_left}
use Rattle.lists.specs.Laws.Zeroed.{zeroed_none, zeroed_own, zeroed_other}
use Rattle.joint_parts.proofs.give_up.Goals as goal
use Rattle.joint_parts.proofs.give_up.Goals.{else-is_member, then-is_member}

-- entry i is a member's
abbrev of-member : List ℕ → ℕ → Bool
of-member members i = tick_at members (suc i)

pub loop-i-init : goal.loop-i-init
unfolding names_left
loop-i-init c = zeroed_none (of-member c.args.members.now.ticks) c.args.names.now

pub loop-i-preserved : goal.loop-i-preserved
unfolding names_left
loop-i-preserved c =
    let own : c.is_member.result ≡ of-member c.args.members.now.ticks c.loop-i.i = rw (add-one _) at c.is_member.ensures in
    let f = of-member c.args.members.now.ticks in
    elim c.if-is_member.branch [
      | then-is_member w ↦ w.names-is ∙ w.put.ensures ∙ rw c.loop-i.invariant (zeroed_own f c.args.names.now c.loop-i.i (sym own ∙ w.if-is_member.true))
      | else-is_member w ↦ w.names-is ∙ c.loop-i.invariant ∙ zeroed_other f c.args.names.now c.loop-i.i (sym own ∙ w.if-is_member.false)
    ]
