use mathlib.Core.Path.{◌≡◌, refl, ap}
use Prim.Native.Nat.{ℕ, ◌+◌, ◌-◌, ◌*◌, ◌≤◌}
use mathlib.Core.List.{List, []}
use native.Mathlib.Omega.{arith}
use lib.ListN.{get_or}
use borrow.Author.Rules.{rules}
use Rattle.lists.specs.Lists.{sum_of}
use Rattle.kinds.specs.Kinds.{kinds_with, size_in, size_of}
use Rattle.objects.specs.Laws.Walk.{headers_left, headers_page, headers_end, headers_stop, headers_on_lem}
use Rattle.audit_heap.specs.Heap.{filled_to}
use Rattle.audit_heap.proofs.filled_to.Goals as goal

-- the words that the objects take that are left at place `at`
abbrev rest : ℕ → List ℕ → List ℕ → ℕ → ℕ → ℕ
rest declared sizes heap end at = sum_of (λ q. 1 + size_in declared sizes (get_or heap q 0)) (headers_left (kinds_with declared sizes []) heap at end)

-- where no object is left, all are passed
all_passed : (declared : ℕ) (sizes heap : List ℕ) (j n at r : ℕ) → n ≤ 64 → 64 * j ≤ at → at + rest declared sizes heap (64 * j + n) at ≡ 64 * j + rest declared sizes heap (64 * j + n) (64 * j) → headers_left (kinds_with declared sizes []) heap at (64 * j + n) ≡ [] → r ≡ at - 64 * j → r ≡ filled_to declared sizes heap j n
unfolding filled_to
all_passed declared sizes heap j n at r few low inv none e =
    let f : ℕ → ℕ = λ q. 1 + size_in declared sizes (get_or heap q 0) in
    omega (arith, ap (sum_of f) none, ap (sum_of f) (headers_page (kinds_with declared sizes []) heap j n few), inv)

pub loop-at-preserved : goal.loop-at-preserved
unfolding size_of
loop-at-preserved c =
    let next : let e = 64 * c.args.j + c.args.n in (c.loop-at.at + 1 + c.fits-s.result ≤ e) × (rest c.args.kinds.now.declared c.args.kinds.now.sizes.now c.args.heap.now e c.loop-at.at ≡ 1 + c.fits-s.result + rest c.args.kinds.now.declared c.args.kinds.now.sizes.now c.args.heap.now e (c.loop-at.at + 1 + c.fits-s.result)) = let z = rw c.part_at-object.ensures at c.fits-s.ensures in
    let t = headers_on_lem (kinds_with c.args.kinds.now.declared c.args.kinds.now.sizes.now []) c.args.heap.now c.loop-at.at (64 * c.args.j + c.args.n) _ z c.if-s-eq0.false in
    (t.0, rw (t.2, ← t.1)) in
    omega (arith, next)

pub returns-then-s-eq0 : goal.returns-then-s-eq0
returns-then-s-eq0 c =
    let few : c.args.n ≤ 64 = search rules in
    let z = rw c.part_at-object.ensures at c.fits-s.ensures in
    all_passed c.args.kinds.now.declared c.args.kinds.now.sizes.now c.args.heap.now c.args.j c.args.n c.loop-at.at _ few c.loop-at.invariant.0 c.loop-at.invariant.2
    (headers_stop (kinds_with c.args.kinds.now.declared c.args.kinds.now.sizes.now []) c.args.heap.now c.loop-at.at (64 * c.args.j + c.args.n) _ z c.if-s-eq0.true) refl

pub returns : goal.returns
returns c =
    let few : c.args.n ≤ 64 = search rules in
    all_passed c.args.kinds.now.declared c.args.kinds.now.sizes.now c.args.heap.now c.args.j c.args.n c.loop-at.at _ few c.loop-at.invariant.0 c.loop-at.invariant.2
    (headers_end (kinds_with c.args.kinds.now.declared c.args.kinds.now.sizes.now []) c.args.heap.now c.loop-at.at (64 * c.args.j + c.args.n) (omega arith)) refl
