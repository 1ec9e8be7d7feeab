use mathlib.Core.Path.{◌≡◌, refl, sym, ◌∙◌}
use mathlib.Core.List.{List}
use Prim.Native.Nat.{ℕ}
use lib.ListN.{drop, get_or}
use Rattle.lists.specs.Lists.{pick}
use Rattle.lists.specs.Laws.Tests.{pick_same}
use Rattle.script.specs.Script.{tokens, call_of, bad, allowed, called}
use Rattle.script.specs.Laws.Lines.{called_is}
use Rattle.scanner.proofs.called.Goals as goal

pub returns-in_err-l : goal.returns-in_err-l
returns-in_err-l c w e =
    rw c.from_residual.ensures (sym (pick_same (allowed c.args.stage bad.call bad.count (get_or bad.args 0 0)) bad) ∙ called_is _ _ _ _ _ _ (rw e at c.in_err-l.ensures) refl)

pub returns-then-allowed : goal.returns-then-allowed
returns-then-allowed c w e =
    let meant : (w : List ℕ) → c.args.n ≡ call_of w → pick c.allowed.result c.in_ok-l.l bad ≡ called c.args.stage c.args.filler w (tokens (drop c.args.at c.args.s.now)) = λ w e. called_is _ _ _ _ _ _ (rw e at c.in_ok-l.ensures) c.allowed.ensures in
    rw c.if-allowed.true at (meant w e)

pub returns-else-allowed : goal.returns-else-allowed
returns-else-allowed c w e =
    let meant : (w : List ℕ) → c.args.n ≡ call_of w → pick c.allowed.result c.in_ok-l.l bad ≡ called c.args.stage c.args.filler w (tokens (drop c.args.at c.args.s.now)) = λ w e. called_is _ _ _ _ _ _ (rw e at c.in_ok-l.ensures) c.allowed.ensures in
    rw c.if-allowed.false at (meant w e)
