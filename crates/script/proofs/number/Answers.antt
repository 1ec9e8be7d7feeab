use Rattle.std.proofs.Common.{◌≡◌, ◌+◌, ◌*◌, ◌≤◌, true, sym, ◌∙◌, arith, rules, lit<, get_or}
use mathlib.Core.Bool.{false≢true}
use borrow.Author.Tests.{eqb-true, eq-eqb}
use Rattle.script.specs.Script.{digit, no_number}
use Rattle.script.specs.Laws.Numbers.{value_empty, value_digits, valued_end, valued_odd, valued_read, valued_over}
use Rattle.script.proofs.number.Goals as goal

pub returns-then-is_empty : goal.returns-then-is_empty
returns-then-is_empty c = value_empty c.args.w.now (eqb-true _ _ (search rules))

pub loop-b-init : goal.loop-b-init
loop-b-init c = (lit< tt, value_digits c.args.w.now (λ e. false≢true (sym c.if-is_empty.false ∙ c.is_empty.ensures ∙ eq-eqb _ _ e)))

pub returns-then-not-is_digit : goal.returns-then-not-is_digit
returns-then-not-is_digit c =
    valued_odd c.loop-b.v c.args.w.now c.loop-b.b-index (omega arith) (sym c.is_digit.ensures ∙ c.if-not-is_digit.true) ∙ c.loop-b.invariant.1

pub returns-then-from-v : goal.returns-then-from-v
returns-then-from-v c =
    let odd : digit (get_or c.args.w.now c.loop-b.b-index 0) ≡ true = sym c.is_digit.ensures ∙ c.if-not-is_digit.false in
    let over : no_number ≤ c.loop-b.v * 10 + c.from.result = omega arith in
    valued_over c.loop-b.v c.args.w.now c.loop-b.b-index (omega arith) odd _ c.from.ensures over ∙ c.loop-b.invariant.1

pub loop-b-preserved : goal.loop-b-preserved
loop-b-preserved c =
    let odd : digit (get_or c.args.w.now c.loop-b.b-index 0) ≡ true = sym c.is_digit.ensures ∙ c.if-not-is_digit.false in
    (omega arith, valued_read c.loop-b.v c.args.w.now c.loop-b.b-index (omega arith) odd _ c.from.ensures ∙ c.loop-b.invariant.1)

pub returns : goal.returns
returns c =
    valued_end c.loop-b.v c.args.w.now c.loop-b.b-index (omega arith) (omega arith) ∙ c.loop-b.invariant.1
