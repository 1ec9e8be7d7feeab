use borrow.Author.Tests.{le-ltb, lt-ltb}
use Rattle.frames.specs.Frames.{uncounts_in}
use Rattle.frames.proofs.uncounts.Goals as goal

pub returns-then-t-gt0 : goal.returns-then-t-gt0
unfolding uncounts_in
returns-then-t-gt0 c = rw (← c.top-t.ensures) (simp (lt-ltb _ _ c.if-t-gt0.true))

pub returns-else-t-gt0 : goal.returns-else-t-gt0
unfolding uncounts_in
returns-else-t-gt0 c = rw (← c.top-t.ensures) (simp (le-ltb _ _ c.if-t-gt0.false))
