use Prim.Native.Nat.{◌≤◌}
use mathlib.Core.Path.{◌≡◌}
use borrow.Author.Tests.{ne_eqb}
use native.Mathlib.Omega.{arith}
use Rattle.script.specs.Script.{bytes, blank, in_word, tokens, first_word, names, word_names, placed, named}
use Rattle.script.specs.Laws.Lines.{placed_below}
use Rattle.script.proofs.named.Goals as goal

pub overflow_cast-result : goal.overflow_cast-result
unfolding bytes names blank in_word tokens
overflow_cast-result c =
    let in_order : c.in-Some.n ≡ placed 1 c.args.w.now names = c.in-Some.ensures.place in
    omega (arith, in_order, placed_below 1 c.args.w.now names)

pub returns-in-Some : goal.returns-in-Some
unfolding named bytes blank in_word tokens names
returns-in-Some c =
    let in_order : c.in-Some.n ≡ placed 1 c.args.w.now names = c.in-Some.ensures.place in
    let some : 1 ≤ c.in-Some.n = c.in-Some.ensures.counted in
    rw (← in_order) (simp (ne_eqb c.in-Some.n 0 (λ e. absurd (omega (arith, e)))))

pub returns-in_err-n : goal.returns-in_err-n
unfolding named bytes blank in_word tokens names word_names
returns-in_err-n c =
    let in_order : 0 ≡ placed 1 c.args.w.now names = c.in_default.ensures.place in
    let words-in-order : 0 ≡ placed first_word c.args.w.now word_names = c.in_err-n.ensures.place in
    rw (c.from_residual.ensures, ← in_order, ← words-in-order)

pub overflow_cast-result-2 : goal.overflow_cast-result-2
unfolding bytes word_names blank in_word tokens
overflow_cast-result-2 c =
    let words-in-order : c.in_ok-n.n ≡ placed first_word c.args.w.now word_names = c.in_ok-n.ensures.place in
    omega (arith, words-in-order, placed_below first_word c.args.w.now word_names)

pub returns : goal.returns
unfolding named bytes blank in_word tokens names word_names
returns c =
    let in_order : 0 ≡ placed 1 c.args.w.now names = c.in_default.ensures.place in
    let words-in-order : c.in_ok-n.n ≡ placed first_word c.args.w.now word_names = c.in_ok-n.ensures.place in
    rw (← in_order, ← words-in-order)
