use mathlib.Core.List.{[]}
use Rattle.by_value.proofs.audit.Goals as goal

pub returns : goal.returns
returns c =
    let l = (c.arrays_shaped.ensures [] tt).sized in
    (c.audit_in.ensures c.args.s, record { in_frames = l.in_frames; in_kinds = l.in_kinds; in_regions = l.in_regions; in_pages = l.in_pages }, c.arrays_shaped.ensures _)
