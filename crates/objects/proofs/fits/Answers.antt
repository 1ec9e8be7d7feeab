use borrow.Author.Tests.{le-leb, lt-leb}
use Rattle.objects.specs.Parts.{fitting}
use Rattle.objects.proofs.fits.Goals as goal

pub returns-then-s-n : goal.returns-then-s-n
unfolding fitting
returns-then-s-n c = rw (← c.words_of-s.ensures) (simp (le-leb _ _ c.if-s-n.true))

pub returns-else-s-n : goal.returns-else-s-n
unfolding fitting
returns-else-s-n c = rw (← c.words_of-s.ensures) (simp (lt-leb _ _ c.if-s-n.false))
