use mathlib.Core.Path.{◌≡◌, ap, ◌∙◌}
use mathlib.Core.List.{List, ◌++◌}
use Prim.Native.Nat.{ℕ, ◌+◌, ◌*◌, ◌≤◌}
use native.Mathlib.Omega.{arith}
use lib.ListN.{length}
use Rattle.kinds.specs.Kinds.{kinds_with}
use Rattle.regions.specs.Laws.Steps.{steps, leavings, steps_length}
use Rattle.objects.specs.Objects.{out_of}
use Rattle.objects.specs.Laws.Walk.{words_left, headers_page, headers_end, headers_stop, words_on}
use Rattle.objects.specs.Laws.Leaving.{left_left}
use Rattle.objects.proofs.leave_objects.Goals as goal

-- the words of one object, and those left
next : (owners : List ℕ) (own f : ℕ) (cs ds a b : List ℕ) → ds ≡ leavings f cs (out_of owners own a) → leavings f ds (out_of owners own b) ≡ leavings f cs (out_of owners own (a ++ b))
next owners own f cs ds a b p = ap (λ c. leavings f c (out_of owners own b)) p ∙ left_left owners own f cs a b

pub loop-at-preserved : goal.loop-at-preserved
loop-at-preserved c =
    let leaves : let k = kinds_with c.args.kinds.now.declared c.args.kinds.now.sizes.now c.args.kinds.now.marks.now in let e = 64 * c.args.j + c.args.n in let cs : List ℕ = c.leave_words.new.shares in let left : ℕ → List ℕ = λ at. out_of c.args.owners.now c.args.own (words_left k c.args.heap.now at e) in (c.loop-at.at + 1 + c.fits-s.result ≤ e) × (length cs ≡ length c.loop-at.shares) × (leavings c.args.filler cs (left (c.loop-at.at + 1 + c.fits-s.result)) ≡ leavings c.args.filler c.loop-at.shares (left c.loop-at.at)) = let k = kinds_with c.args.kinds.now.declared c.args.kinds.now.sizes.now c.args.kinds.now.marks.now in
    let o = words_on k c.args.heap.now c.loop-at.at (64 * c.args.j + c.args.n) c.fits-s.result (rw c.part_at-object.ensures at c.fits-s.ensures) c.if-s-eq0.false in
    let h = rw c.part_at-object.ensures at c.leave_words.ensures in
    (o.0, ap length h ∙ steps_length 4294967295 _ c.loop-at.shares _, rw o.1 (next c.args.owners.now c.args.own c.args.filler c.loop-at.shares _ _ _ h)) in
    (leaves.0, leaves.1 ∙ c.loop-at.invariant.1, leaves.2 ∙ c.loop-at.invariant.2)

pub returns-after-loop-at : goal.returns-after-loop-at
unfolding out_of steps
returns-after-loop-at c few =
    let k = kinds_with c.args.kinds.now.declared c.args.kinds.now.sizes.now c.args.kinds.now.marks.now in
    rw (headers_page k c.args.heap.now c.args.j c.args.n few) (rw (headers_end k c.args.heap.now c.loop-at.at (64 * c.args.j + c.args.n) (omega arith)) at c.loop-at.invariant.2)

pub returns-then-s-eq0 : goal.returns-then-s-eq0
unfolding out_of steps
returns-then-s-eq0 c few =
    let k = kinds_with c.args.kinds.now.declared c.args.kinds.now.sizes.now c.args.kinds.now.marks.now in
    let z = rw c.part_at-object.ensures at c.fits-s.ensures in
    rw (headers_page k c.args.heap.now c.args.j c.args.n few) (rw (headers_stop k c.args.heap.now c.loop-at.at (64 * c.args.j + c.args.n) _ z c.if-s-eq0.true) at c.loop-at.invariant.2)
