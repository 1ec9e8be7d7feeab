use borrow.Author.Tests.{le-leb, lt-leb}
use Rattle.script.specs.Script.{takes}
use Rattle.script.proofs.takes.Goals as goal

pub returns-then-least-k : goal.returns-then-least-k
unfolding takes
returns-then-least-k c = rw (← c.least.ensures, ← c.most.ensures) (simp (le-leb _ _ c.if-least-k.true))

pub returns-else-least-k : goal.returns-else-least-k
unfolding takes
returns-else-least-k c = rw (← c.least.ensures) (simp (lt-leb _ _ c.if-least-k.false))
