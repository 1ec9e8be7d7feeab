use mathlib.Core.Path.{◌≡◌, refl, sym, ap, ◌∙◌}
use native.Mathlib.Omega.{arith}
use borrow.Author.Rules.{rules}
use Rattle.kinds.specs.Kinds.{kinds_with}
use Rattle.regions.specs.Laws.Counts.{Shares, fits_shares}
use Rattle.regions.specs.Laws.Steps.{steps, leavings}
use Rattle.pages.specs.Pages.{pages_with, page_count_in, page_count, owner_at, taken_at}
use Rattle.lists.specs.Ticks.{tick_at}
use Rattle.outcomes.proofs.Laws.Apart.{out_by, out_other, out_left}
use Rattle.outcomes.proofs.Laws.Deleted.{scans_by}
use Rattle.apart.proofs.scan.Goals as goal
use Rattle.apart.proofs.scan.Goals.{else-is_member, then-is_member}

pub loop-j-init : goal.loop-j-init
unfolding out_by steps
loop-j-init c = (c.page_count-end.ensures, refl)

pub loop-j-preserved : goal.loop-j-preserved
unfolding owner_at taken_at
loop-j-preserved c =
    let k = kinds_with c.args.kinds.now.declared c.args.kinds.now.sizes.now c.args.kinds.now.marks.now in
    let p = pages_with c.args.pages.now.made c.args.pages.now.owners.now c.args.pages.now.taken.now in (
      c.loop-j.invariant.0,
      elim c.if-is_member.branch [
        | then-is_member w ↦ w.c-is ∙ w.leave_objects.ensures (omega (arith, w.taken_at-m.ensures)) ∙ out_left (λ i. c.args.pages.now.owners.now) k c.args.heap.now p (tick_at c.args.members.now.ticks) c.loop-j.j c.args.filler c.owner_at-t.result _ c.args.shares _ c.owner_at-t.ensures w.taken_at-m.ensures c.loop-j.invariant.1 (sym c.is_member.ensures ∙ w.if-is_member.true)
        | else-is_member w ↦ w.c-is ∙ c.loop-j.invariant.1 ∙ ap (leavings c.args.filler c.args.shares) (out_other (λ i. c.args.pages.now.owners.now) k c.args.heap.now p (tick_at c.args.members.now.ticks) c.loop-j.j (rw (← c.owner_at-t.ensures) (sym c.is_member.ensures ∙ w.if-is_member.false)))
      ],
    )

pub returns : goal.returns
unfolding page_count
returns c few =
    let shares-fit : Shares c.args.shares = fits_shares c.args.shares (search rules) (λ i. search rules) in
    let e : page_count_in c.args.pages.now.made ≡ c.loop-j.j = omega arith in
    scans_by _ _ _ _ _ _ _ few shares-fit (rw e c.loop-j.invariant.1)
