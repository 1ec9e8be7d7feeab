use mathlib.Core.Path.{◌≡◌, refl, sym, ap, ◌∙◌}
use native.Mathlib.Omega.{arith}
use borrow.Author.Rules.{rules}
use Rattle.lists.specs.Laws.UpTo.{from_next}
use Rattle.frames.specs.Frames.{frame_count_in}
use Rattle.pages.specs.Pages.{owner_in}
use Rattle.outcomes.specs.Store.{led_among_in}
use Rattle.lists.specs.Ticks.{tick_at}
use Rattle.delete_parts.proofs.look.Invariants.{into, none, hit}
use Rattle.delete_parts.proofs.look.Goals as goal

pub look-init : goal.look-init
unfolding led_among_in
look-init c = (refl, search rules, refl)

pub look-preserved : goal.look-preserved
look-preserved c =
    let e = none c.args.frames.now.widths.now c.args.frames.now.slots.now c.args.owners.now c.args.ticks.now c.look.i (λ j h. c.loop-k.invariant.2 j (omega arith)) in
    (c.loop-k.invariant.0, c.look.invariant.1, rw (from_next c.look.i (frame_count_in c.args.frames.now.standing) (omega arith), e) at c.look.invariant.2)

pub returns-then-is_member : goal.returns-then-is_member
returns-then-is_member c =
    let slot_is : c.is_member.result ≡ into c.args.frames.now.widths.now c.args.frames.now.slots.now c.args.owners.now c.args.ticks.now c.look.i c.loop-k.k = c.is_member.ensures ∙ ap (tick_at c.args.ticks.now) (c.owner_of-t.ensures ∙ ap (owner_in c.args.owners.now) c.slot_at.ensures) in
    let e = hit c.args.frames.now.widths.now c.args.frames.now.slots.now c.args.owners.now c.args.ticks.now c.look.i c.loop-k.k (omega arith) (sym slot_is ∙ c.if-is_member.true) in
    rw (from_next c.look.i (frame_count_in c.args.frames.now.standing) (omega arith), e) at c.look.invariant.2
