use Prim.Native.Nat.{min}
use mathlib.Core.Path.{◌≡◌}
use mathlib.Core.List.{[], map}
use lib.ListN.{get_or}
use Rattle.script.specs.Script.{bytes}
use Rattle.lines.specs.Laws.Adding.{appended}
use Rattle.guide.specs.Text.{lines_of}
use Rattle.guide.specs.Guide.{reasons, last_reason, why_of}
use Rattle.guide.proofs.Laws.{reason_is}
use Rattle.guide.proofs.add_why.Goals as goal

pub returns : goal.returns
unfolding bytes why_of lines_of
returns c =
    let last-for-greater : c.min.result ≡ min c.args.n last_reason = c.min.ensures in
    let in_order : c.nth_line-r.result.now ≡ get_or (map bytes reasons) c.min.result [] = c.nth_line-r.ensures in
    let front = appended (appended c.add.ensures c.add_number.ensures) c.add-2.ensures in
    appended (appended front (rw (reason_is _ _ _ last-for-greater in_order) at c.add-3.ensures)) c.add-4.ensures
