use mathlib.Core.Path.{ap, ◌∙◌}
use Rattle.lists.specs.Lists.{joined, up_to}
use Rattle.kinds.specs.Kinds.{kinds_with}
use Rattle.regions.specs.Laws.Steps.{steps_append}
use Rattle.pages.specs.Pages.{page_count_in}
use Rattle.outcomes.specs.Store.{targets_in}
use Rattle.audit_counts.specs.Counts.{word_tags, counted_tags, all_zero, counts_fit}
use Rattle.audit_counts.proofs.counts_fit.Goals as goal

pub returns : goal.returns
unfolding counts_fit counted_tags
returns c =
    let k = kinds_with c.args.kinds.now.declared c.args.kinds.now.sizes.now c.args.kinds.now.marks.now in
    let ws = joined (word_tags k c.args.heap.now c.args.pages.now.owners.now c.args.pages.now.taken.now) (up_to (page_count_in c.args.pages.now.made)) in
    let ts = joined (targets_in c.args.frames.now.widths.now c.args.frames.now.slots.now c.args.pages.now.owners.now) (up_to c.args.counted) in
    c.all_zero.ensures ∙ ap (all_zero c.args.regions.now.names.now) (c.leave_frames.ensures ∙ rw c.leave_pages.ensures (steps_append 4294967295 0 c.args.shares.now ws ts))
