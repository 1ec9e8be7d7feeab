use mathlib.Core.Path.{sym, ◌∙◌}
use mathlib.Core.Bool.{false≢true}
use Rattle.std.proofs.lemmas.Slice.Eq.{bytes_eq-Decides}
use Rattle.script.specs.Script.{bytes, said, scanned}
use Rattle.script.specs.Laws.Lines.{called_none, said_as, said_call}
use Rattle.scanner.proofs.scan.Goals as goal

pub returns-in_default : goal.returns-in_default
unfolding said scanned
returns-in_default c = c.bare.ensures ∙ rw c.in_default.ensures

pub returns-then-eq : goal.returns-then-eq
unfolding bytes scanned
returns-then-eq c =
    rw (c.in-Some.ensures.1.follows c.in-Some.ensures.0) (said_as _ _ _ _ ((bytes_eq-Decides _ _).0 (sym c.if-eq.ensures)) c.acting.ensures)

pub returns-in_err-n : goal.returns-in_err-n
unfolding bytes scanned
returns-in_err-n c =
    rw (c.from_residual.ensures, c.in-Some.ensures.1.follows c.in-Some.ensures.0)
    (said_call _ _ _ _ (λ q. false≢true (c.if-eq.ensures ∙ (bytes_eq-Decides _ _).1 q)) (called_none _ _ _ _ c.in_err-n.ensures))

pub returns : goal.returns
unfolding bytes scanned
returns c =
    rw (c.in-Some.ensures.1.follows c.in-Some.ensures.0)
    (said_call _ _ _ _ (λ q. false≢true (c.if-eq.ensures ∙ (bytes_eq-Decides _ _).1 q)) (c.called.ensures _ c.in_ok-n.ensures))
