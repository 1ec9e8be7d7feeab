use Rattle.abi.proofs.Laws.{sets_front}
use Rattle.abi.proofs.write.Goals as goal

pub returns : goal.returns
returns c = rw c.copy_from_slice.ensures.after (sets_front _ _ _ c.min-n.ensures)
