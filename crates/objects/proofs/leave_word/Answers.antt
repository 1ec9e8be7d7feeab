use borrow.Author.Tests.{eq-eqb, ne_eqb}
use Rattle.regions.specs.Laws.Steps.{steps}
use Rattle.objects.specs.Objects.{out_of}
use Rattle.objects.proofs.leave_word.Goals as goal

pub returns-then-t-own : goal.returns-then-t-own
unfolding out_of steps
returns-then-t-own c =
    rw (← c.owner_of-t.ensures, ne_eqb _ _ c.if-t-own.true) c.step.ensures

pub returns-else-t-own : goal.returns-else-t-own
unfolding out_of steps
returns-else-t-own c = rw (← c.owner_of-t.ensures, eq-eqb _ _ c.if-t-own.false)
