use Rattle.lists.specs.Laws.Parts.{part_cut}
use Rattle.objects.specs.Parts.{part_at}
use Rattle.objects.proofs.part_at.Goals as goal

pub returns : goal.returns
unfolding part_at
returns c =
    part_cut c.args.heap.now c.args.at 17 _ _ c.min-a.ensures c.part_len.ensures
