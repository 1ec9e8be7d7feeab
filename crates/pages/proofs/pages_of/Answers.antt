use Rattle.pages.specs.Pages.{pages_in}
use Rattle.pages.proofs.pages_of.Goals as goal

pub returns : goal.returns
unfolding pages_in
returns c = rw (← c.page_count-n.ensures, ← c.count.ensures)
