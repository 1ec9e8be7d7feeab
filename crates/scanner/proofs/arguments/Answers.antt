use Prim.Native.Nat.{◌-◌, ◌<◌}
use mathlib.Core.Path.{◌≡◌, sym, ◌∙◌}
use mathlib.Core.List.{◌∷◌, map}
use borrow.Author.Rules.{rules}
use native.Mathlib.Omega.{arith}
use lib.ListN.{take, drop, length-set}
use Rattle.script.specs.Script.{no_number, tokens, value, zeros, given}
use Rattle.script.specs.Laws.Lines.{given_from, given_all, given_next, given_none, given_odd, given_past}
use Rattle.scanner.proofs.arguments.Goals as goal

pub loop-p-init : goal.loop-p-init
unfolding zeros
loop-p-init c = (search rules, search rules, given_all _ _ _)

pub loop-p-preserved : goal.loop-p-preserved
loop-p-preserved c =
    let read : c.in_ok-v.v ≡ value (take (c.in-Some.p.to - c.in-Some.p.from) (drop c.in-Some.p.from c.args.s.now)) = search rules in
    let next : given_from c.args.n c.args.filler c.loop-p.count c.loop-p.args (c.in_ok-v.v ∷ map value (tokens (drop c.in-Some.p.to c.args.s.now))) ≡ given c.args.n c.args.filler (map value (tokens (drop c.args.at c.args.s.now))) = rw read (rw (c.in-Some.ensures.1.follows c.in-Some.ensures.0) at c.loop-p.invariant.2) in
    let small : c.in_ok-v.v < no_number = search rules in
    (omega arith, simp length-set c.loop-p.invariant.1, sym (given_next _ _ _ _ _ _ small) ∙ next)

pub returns-in_err-v : goal.returns-in_err-v
returns-in_err-v c =
    let next = rw (c.in-Some.ensures.1.follows c.in-Some.ensures.0) at c.loop-p.invariant.2 in
    rw c.from_residual.ensures (given_odd _ _ _ _ _ _ (omega (arith, c.in_err-v.ensures)) ∙ next)

pub returns-then-count-eq64 : goal.returns-then-count-eq64
returns-then-count-eq64 c =
    let next = rw (c.in-Some.ensures.1.follows c.in-Some.ensures.0) at c.loop-p.invariant.2 in
    given_past _ _ _ _ _ _ (omega arith) ∙ next

pub returns : goal.returns
returns c =
    given_none c.args.n c.args.filler c.loop-p.count c.loop-p.args (omega arith) ∙ rw c.in_default.ensures at c.loop-p.invariant.2
