use Rattle.std.proofs.Common.{◌≡◌, not, eqb, get_or, sym, ap, ◌∙◌, arith, ne_eqb}
use Rattle.lists.specs.Laws.UpTo.{find_first, find_default}
use Rattle.memory.proofs.alike.Goals as goal

pub returns-then-get : goal.returns-then-get
returns-then-get c =
    sym (find_first (λ i. not (eqb (get_or c.args.a.now i 0) (get_or c.args.b.now i 0))) c.args.n c.args.n c.loop-i.i c.loop-i-test.true
    (ap not (ne_eqb _ _ (λ q. c.if-get.true (c.get.ensures ∙ q ∙ sym c.get-in-loop-i.ensures)))) c.loop-i.invariant)

pub returns : goal.returns
returns c =
    let e : c.loop-i.i ≡ c.args.n = omega arith in
    sym (find_default (λ i. not (eqb (get_or c.args.a.now i 0) (get_or c.args.b.now i 0))) c.args.n c.args.n (rw e at c.loop-i.invariant))
