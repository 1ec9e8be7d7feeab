use Rattle.cells.proofs.Laws.{zeros_part}
use Rattle.cells.proofs.zero.Goals as goal

pub returns : goal.returns
returns c = zeros_part _ _ _ _ _ _ c.min-a.ensures c.part_len.ensures c.clear.ensures
