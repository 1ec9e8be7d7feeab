use Prim.Native.Nat.{◌-◌, ◌<◌}
use mathlib.Core.Path.{◌≡◌, sym, ◌∙◌}
use mathlib.Core.Bool.{false≢true}
use native.Mathlib.Omega.{arith}
use borrow.Author.Rules.{rules}
use borrow.Author.Tests.{eqb-true, eq-eqb}
use lib.Dec.{eqb}
use lib.ListN.{get_or, take, drop}
use Rattle.script.specs.Script.{no_number, tokens, value, fillers, call_of, called, acting}
use Rattle.script.specs.Found.{or_bad}
use Rattle.script.specs.Laws.Lines.{acting_odd, acting_alone, acting_call, acting_other}
use Rattle.scanner.proofs.acting.Goals as goal

pub returns-in_err-p : goal.returns-in_err-p
unfolding acting
returns-in_err-p c = rw (c.from_residual.ensures, c.in_err-p.ensures)

pub returns-in_err-filler : goal.returns-in_err-filler
returns-in_err-filler c =
    rw (c.from_residual-in_err-filler.ensures, c.in_ok-p.ensures.1.follows c.in_ok-p.ensures.0) (acting_odd _ _ _ (omega (arith, c.in_err-filler.ensures)))

pub returns-in_err-q : goal.returns-in_err-q
returns-in_err-q c =
    rw (c.from_residual-in_err-q.ensures, c.in_ok-p.ensures.1.follows c.in_ok-p.ensures.0, c.in_err-q.ensures) (acting_alone _ _)

pub returns-in_err-n : goal.returns-in_err-n
unfolding fillers
returns-in_err-n c =
    let small : c.in_ok-filler.filler < no_number = search rules in
    rw (c.from_residual-in_err-n.ensures, c.in_ok-p.ensures.1.follows c.in_ok-p.ensures.0, c.in_ok-q.ensures.1.follows c.in_ok-q.ensures.0)
    (acting_other _ _ _ _ (rw c.in_ok-filler.ensures at small) (λ e. let zero = rw (← c.in_err-n.ensures) at e in absurd (omega (arith, zero))))

pub returns-then-names_filler : goal.returns-then-names_filler
returns-then-names_filler c =
    let small : c.in_ok-filler.filler < no_number = search rules in
    let tested : c.names_filler.result ≡ eqb (get_or fillers (call_of (take (c.in_ok-q.q.to - c.in_ok-q.q.from) (drop c.in_ok-q.q.from c.args.s.now))) 0) 1 = rw (← c.in_ok-n.ensures) c.names_filler.ensures in
    let for-filler : or_bad c.called.result ≡ called c.args.stage (value (take (c.in_ok-p.p.to - c.in_ok-p.p.from) (drop c.in_ok-p.p.from c.args.s.now))) (take (c.in_ok-q.q.to - c.in_ok-q.q.from) (drop c.in_ok-q.q.from c.args.s.now)) (tokens (drop c.in_ok-q.q.to c.args.s.now)) = rw (← c.in_ok-filler.ensures) (c.called.ensures _ c.in_ok-n.ensures) in
    rw (c.in_ok-p.ensures.1.follows c.in_ok-p.ensures.0, c.in_ok-q.ensures.1.follows c.in_ok-q.ensures.0)
    (for-filler ∙ acting_call _ _ _ _ (rw c.in_ok-filler.ensures at small) (eqb-true _ _ (rw tested at c.if-names_filler.true)))

pub returns-else-names_filler : goal.returns-else-names_filler
returns-else-names_filler c =
    let small : c.in_ok-filler.filler < no_number = search rules in
    let tested : c.names_filler.result ≡ eqb (get_or fillers (call_of (take (c.in_ok-q.q.to - c.in_ok-q.q.from) (drop c.in_ok-q.q.from c.args.s.now))) 0) 1 = rw (← c.in_ok-n.ensures) c.names_filler.ensures in
    rw (c.in_ok-p.ensures.1.follows c.in_ok-p.ensures.0, c.in_ok-q.ensures.1.follows c.in_ok-q.ensures.0)
    (acting_other _ _ _ _ (rw c.in_ok-filler.ensures at small) (λ e. false≢true (sym c.if-names_filler.false ∙ tested ∙ eq-eqb _ _ e)))
