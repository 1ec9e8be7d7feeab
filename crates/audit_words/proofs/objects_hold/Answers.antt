use mathlib.Core.Path.{◌≡◌, sym, ◌∙◌}
use mathlib.Core.Bool.{Bool, ◌&&◌}
use mathlib.Core.List.{List}
use Prim.Native.Nat.{ℕ, ◌+◌, ◌*◌, ◌≤◌}
use native.Mathlib.Omega.{arith}
use borrow.Author.Rules.{rules}
use Rattle.lists.specs.Lists.{every}
use Rattle.lists.specs.Ticks.{tick_at}
use Rattle.kinds.specs.Kinds.{kinds_with, size_of}
use Rattle.objects.specs.Objects.{headers_to}
use Rattle.objects.specs.Laws.Walk.{headers_left, headers_page, headers_end, headers_stop, headers_on_lem}
use Rattle.audit_words.specs.Words.{objects_hold}
use Rattle.audit_words.specs.Laws.Parts.{object_words}
use Rattle.audit_words.proofs.objects_hold.Invariants.{rest}
use Rattle.audit_words.proofs.objects_hold.Goals as goal

-- what the objects left come to, all come to
all_hold : (f : ℕ → Bool) (declared : ℕ) (sizes marks heap : List ℕ) (j n : ℕ) (b : Bool) → n ≤ 64 → b ≡ every f (headers_left (kinds_with declared sizes marks) heap (64 * j) (64 * j + n)) → b ≡ every f (headers_to (kinds_with declared sizes marks) heap j n)
all_hold f declared sizes marks heap j n b few h = rw (headers_page (kinds_with declared sizes marks) heap j n few) h

pub returns-then-s-eq0 : goal.returns-then-s-eq0
unfolding objects_hold
returns-then-s-eq0 c =
    let few : c.args.n ≤ 64 = search rules in
    let k = kinds_with c.args.kinds.now.declared c.args.kinds.now.sizes.now c.args.kinds.now.marks.now in
    let z = rw c.part_at-object.ensures at c.fits-s.ensures in
    all_hold _ c.args.kinds.now.declared c.args.kinds.now.sizes.now c.args.kinds.now.marks.now c.args.heap.now c.args.j c.args.n _ few (rw (headers_stop k c.args.heap.now c.loop-at.at (64 * c.args.j + c.args.n) _ z c.if-s-eq0.true) at c.loop-at.invariant.1)

pub returns-then-not-words_hold : goal.returns-then-not-words_hold
unfolding objects_hold size_of
returns-then-not-words_hold c =
    let few : c.args.n ≤ 64 = search rules in
    let next : let e = 64 * c.args.j + c.args.n in let holds : ℕ → Bool = rest c.args.heads.now c.args.regions.now.names.now c.args.regions.now.parents.now c.args.regions.now.levels.now c.args.pages.now.owners.now c.args.kinds.now.declared c.args.kinds.now.sizes.now c.args.kinds.now.marks.now c.args.heap.now c.args.own e in (c.loop-at.at + 1 + c.fits-s.result ≤ e) × (holds c.loop-at.at ≡ (c.words_hold.result && holds (c.loop-at.at + 1 + c.fits-s.result))) = let k = kinds_with c.args.kinds.now.declared c.args.kinds.now.sizes.now c.args.kinds.now.marks.now in
    let n = headers_on_lem k c.args.heap.now c.loop-at.at (64 * c.args.j + c.args.n) _ (rw c.part_at-object.ensures at c.fits-s.ensures) c.if-s-eq0.false in
    let o = object_words (tick_at c.args.heads.now) c.args.regions.now.names.now c.args.regions.now.parents.now c.args.regions.now.levels.now c.args.pages.now.owners.now c.args.kinds.now.declared c.args.kinds.now.sizes.now c.args.kinds.now.marks.now c.args.heap.now c.args.own c.loop-at.at _ n.1 in
    (n.0, rw (n.2, o, rw c.part_at-object.ensures at c.words_hold.ensures)) in
    all_hold _ c.args.kinds.now.declared c.args.kinds.now.sizes.now c.args.kinds.now.marks.now c.args.heap.now c.args.j c.args.n _ few
    (sym (rw c.if-not-words_hold.true at next.1) ∙ c.loop-at.invariant.1)

pub loop-at-preserved : goal.loop-at-preserved
unfolding size_of
loop-at-preserved c =
    let next : let e = 64 * c.args.j + c.args.n in let holds : ℕ → Bool = rest c.args.heads.now c.args.regions.now.names.now c.args.regions.now.parents.now c.args.regions.now.levels.now c.args.pages.now.owners.now c.args.kinds.now.declared c.args.kinds.now.sizes.now c.args.kinds.now.marks.now c.args.heap.now c.args.own e in (c.loop-at.at + 1 + c.fits-s.result ≤ e) × (holds c.loop-at.at ≡ (c.words_hold.result && holds (c.loop-at.at + 1 + c.fits-s.result))) = let k = kinds_with c.args.kinds.now.declared c.args.kinds.now.sizes.now c.args.kinds.now.marks.now in
    let n = headers_on_lem k c.args.heap.now c.loop-at.at (64 * c.args.j + c.args.n) _ (rw c.part_at-object.ensures at c.fits-s.ensures) c.if-s-eq0.false in
    let o = object_words (tick_at c.args.heads.now) c.args.regions.now.names.now c.args.regions.now.parents.now c.args.regions.now.levels.now c.args.pages.now.owners.now c.args.kinds.now.declared c.args.kinds.now.sizes.now c.args.kinds.now.marks.now c.args.heap.now c.args.own c.loop-at.at _ n.1 in
    (n.0, rw (n.2, o, rw c.part_at-object.ensures at c.words_hold.ensures)) in
    (next.0, sym (rw c.if-not-words_hold.false at next.1) ∙ c.loop-at.invariant.1)

pub returns : goal.returns
unfolding objects_hold
returns c =
    let few : c.args.n ≤ 64 = search rules in
    let k = kinds_with c.args.kinds.now.declared c.args.kinds.now.sizes.now c.args.kinds.now.marks.now in
    all_hold _ c.args.kinds.now.declared c.args.kinds.now.sizes.now c.args.kinds.now.marks.now c.args.heap.now c.args.j c.args.n _ few (rw (headers_end k c.args.heap.now c.loop-at.at (64 * c.args.j + c.args.n) (omega arith)) at c.loop-at.invariant.1)
