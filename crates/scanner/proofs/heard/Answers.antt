use Rattle.std.proofs.Common.{◌≡◌, ◌∙◌, ap}
use Rattle.lists.specs.Lists.{pick}
use Rattle.script.specs.Script.{line, bad, unmarked, fitting, heard}
use Rattle.scanner.proofs.heard.Goals as goal
use Rattle.scanner.proofs.heard.Goals.{then-first, else-first}

pub returns-in-Some : goal.returns-in-Some
unfolding heard
returns-in-Some c =
    let text : c.if-first.text.now ≡ pick c.args.first (unmarked c.args.s.now) c.args.s.now =
    elim c.if-first.branch [ then-first w ↦ rw (w.if-first.true, w.text-is) w.unmarked-text.ensures | else-first w ↦ rw (w.if-first.false, w.text-is) ]
    in
    c.in-Some.ensures ∙ ap (fitting c.args.stage) text

pub returns-in-None : goal.returns-in-None
unfolding line bad heard
returns-in-None c =
    let text : c.if-first.text.now ≡ pick c.args.first (unmarked c.args.s.now) c.args.s.now =
    elim c.if-first.branch [ then-first w ↦ rw (w.if-first.true, w.text-is) w.unmarked-text.ensures | else-first w ↦ rw (w.if-first.false, w.text-is) ]
    in
    c.bare.ensures ∙ c.in-None.ensures ∙ ap (fitting c.args.stage) text
