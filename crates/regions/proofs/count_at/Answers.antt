use Rattle.regions.specs.Regions.{count_in}
use Rattle.regions.specs.Laws.Counts.{pairs_added}
use Rattle.regions.proofs.count_at.Goals as goal

pub returns : goal.returns
unfolding count_in
returns c = rw (c.share_at-4.ensures, c.share_at-3.ensures, c.share_at-2.ensures, c.share_at.ensures) (pairs_added _ _ _ _)
