use borrow.Author.Tests.{le-leb, le-ltb, lt-leb, lt-ltb}
use Rattle.kinds.specs.Kinds.{size_in}
use Rattle.kinds.proofs.size_of.Goals as goal

pub returns-then-n-kind_count : goal.returns-then-n-kind_count
unfolding size_in
returns-then-n-kind_count c = rw (← c.kind_count.ensures, ← c.get.ensures, ← c.min.ensures) (simp (lt-ltb _ _ c.if-n-gt0.true, le-leb _ _ c.if-n-kind_count.true))

pub returns-else-n-kind_count : goal.returns-else-n-kind_count
unfolding size_in
returns-else-n-kind_count c = rw (← c.kind_count.ensures) (simp (lt-ltb _ _ c.if-n-gt0.true, lt-leb _ _ c.if-n-kind_count.false))

pub returns-else-n-gt0 : goal.returns-else-n-gt0
unfolding size_in
returns-else-n-gt0 c = simp (le-ltb _ _ c.if-n-gt0.false)
