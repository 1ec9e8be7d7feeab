use Rattle.std.proofs.Common.{◌≡◌, ◌-◌, ◌∙◌, [], length, take, drop, rules, arith, length-take, length-drop}
use Rattle.feed.specs.Laws.Cuts.{scripted_none}
use Rattle.drive.proofs.Laws.{fed_more}
use Rattle.drive.proofs.answered.Goals as goal

-- no byte has been fed
pub loop-from-init : goal.loop-from-init
loop-from-init g c = (search rules, search rules, search rules, search rules, ([], scripted_none _))

-- what was fed before, and then the part that feed took, which lies within the chunk
pub loop-from-preserved : goal.loop-from-preserved
loop-from-preserved g c =
    let (memory, line, out, from, (before, fed)) = c.loop-from.invariant in
    let chunk = c.args.chunk.now in
    let n = c.loop-from.from in
    let rest : length (take (length chunk - n) (drop n chunk)) ≡ length chunk - n = omega (arith, length-take (length chunk - n) (drop n chunk), length-drop n chunk) in
    let more = c.feed-t.ensures.scripted (memory ∙ c.requires.0) (line ∙ c.requires.1) in
    (search rules, search rules, search rules, omega (arith, c.feed-t.ensures.fed.within, rest, from), (_, fed_more _ _ _ _ n _ _ _ fed more))
