use mathlib.Core.Path.{◌≡◌, ◌∙◌}
use Prim.Native.Nat.{◌+◌, ◌*◌, ◌≤◌}
use mathlib.Core.List.{List, []}
use native.Mathlib.Omega.{arith}
use lib.ListN.{length, length-set}
use borrow.Author.Rules.{rules}
use Rattle.lists.specs.Ticks.{ticked}
use Rattle.kinds.specs.Kinds.{kinds_with}
use Rattle.objects.specs.Laws.Walk.{headers_left, headers_page, headers_end, headers_stop, headers_on_lem}
use Rattle.audit_heap.proofs.tick_page.Goals as goal

pub loop-at-preserved : goal.loop-at-preserved
unfolding ticked
loop-at-preserved c =
    let next : let k = kinds_with c.args.kinds.now.declared c.args.kinds.now.sizes.now [] in let e = 64 * c.args.j + c.args.n in let hs : List _ = c.put.new.s in (c.loop-at.at + 1 + c.fits-s.result ≤ e) × (length hs ≡ length c.loop-at.heads) × (ticked hs (headers_left k c.args.heap.now (c.loop-at.at + 1 + c.fits-s.result) e) ≡ ticked c.loop-at.heads (headers_left k c.args.heap.now c.loop-at.at e)) = let k = kinds_with c.args.kinds.now.declared c.args.kinds.now.sizes.now [] in
    let t = headers_on_lem k c.args.heap.now c.loop-at.at (64 * c.args.j + c.args.n) _ (rw c.part_at-object.ensures at c.fits-s.ensures) c.if-s-eq0.false in
    (t.0, rw c.put.ensures (simp length-set), rw (t.2, c.put.ensures)) in
    (next.0, next.1 ∙ c.loop-at.invariant.1, next.2 ∙ c.loop-at.invariant.2)

pub returns-after-loop-at : goal.returns-after-loop-at
unfolding ticked
returns-after-loop-at c =
    let few : c.args.n ≤ 64 = search rules in
    let k = kinds_with c.args.kinds.now.declared c.args.kinds.now.sizes.now [] in
    rw (headers_page k c.args.heap.now c.args.j c.args.n few) (rw (headers_end k c.args.heap.now c.loop-at.at (64 * c.args.j + c.args.n) (omega arith)) at c.loop-at.invariant.2)

pub returns-then-s-eq0 : goal.returns-then-s-eq0
unfolding ticked
returns-then-s-eq0 c =
    let few : c.args.n ≤ 64 = search rules in
    let k = kinds_with c.args.kinds.now.declared c.args.kinds.now.sizes.now [] in
    let z = rw c.part_at-object.ensures at c.fits-s.ensures in
    rw (headers_page k c.args.heap.now c.args.j c.args.n few) (rw (headers_stop k c.args.heap.now c.loop-at.at (64 * c.args.j + c.args.n) _ z c.if-s-eq0.true) at c.loop-at.invariant.2)
