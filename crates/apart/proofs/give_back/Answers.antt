use mathlib.Core.Path.{◌≡◌, refl, sym, ap, ◌∙◌}
use native.Mathlib.Omega.{arith}
use Rattle.lists.specs.Lists.{up_to}
use Rattle.lists.specs.Laws.Sums.{count_most}
use Rattle.lists.specs.Laws.UpTo.{count_next, length_up_to}
use Rattle.pages.specs.Pages.{page_count_in}
use Rattle.lists.specs.Ticks.{tick_at}
use Rattle.lists.specs.Laws.Zeroed.{zeroed_none, zeroed_later, zeroed_own, zeroed_other}
use Rattle.outcomes.proofs.Laws.Deleted.{gives_by}
use Rattle.apart.proofs.give_back.Invariants.{held}
use Rattle.apart.proofs.give_back.Goals as goal
use Rattle.apart.proofs.give_back.Goals.{else-is_member, then-is_member}

pub loop-j-init : goal.loop-j-init
loop-j-init c =
    (c.page_count-n.ensures, zeroed_none (held c.args.owners.now c.args.members.now.ticks) c.args.owners.now, refl)

pub overflow_add-number : goal.overflow_add-number
overflow_add-number c =
    omega (arith, count_most (held c.args.owners.now c.args.members.now.ticks) (up_to c.loop-j.j), length_up_to c.loop-j.j)

pub loop-j-preserved : goal.loop-j-preserved
loop-j-preserved c =
    let own : c.is_member.result ≡ held c.args.owners.now c.args.members.now.ticks c.loop-j.j = c.is_member.ensures ∙ ap (tick_at c.args.members.now.ticks) (c.owner_at.ensures ∙ rw c.loop-j.invariant.1 (zeroed_later (held c.args.owners.now c.args.members.now.ticks) c.args.owners.now c.loop-j.j)) in
    let f = held c.args.owners.now c.args.members.now.ticks in (
      c.loop-j.invariant.0,
      elim c.if-is_member.branch [
        | then-is_member w ↦ w.owners-is ∙ w.put.ensures ∙ rw c.loop-j.invariant.1 (zeroed_own f c.args.owners.now c.loop-j.j (sym own ∙ w.if-is_member.true))
        | else-is_member w ↦ w.owners-is ∙ c.loop-j.invariant.1 ∙ zeroed_other f c.args.owners.now c.loop-j.j (sym own ∙ w.if-is_member.false)
      ],
      rw (count_next f c.loop-j.j, ← own) (elim c.if-is_member.branch [
        | then-is_member w ↦ rw w.if-is_member.true (omega arith)
        | else-is_member w ↦ rw w.if-is_member.false (omega arith)
      ]),
    )

pub returns : goal.returns
returns c =
    let e : page_count_in c.args.made ≡ c.loop-j.j = omega arith in
    gives_by _ _ _ _ _ (rw e c.loop-j.invariant.1) (rw e c.loop-j.invariant.2)
