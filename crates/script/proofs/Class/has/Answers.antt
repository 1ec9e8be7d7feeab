use borrow.Author.Tests.{eq-eqb, ne_eqb}
use Rattle.script.specs.Script.{of_class, in_word}
use Rattle.script.proofs.Class.has.Goals as goal
use Rattle.script.proofs.Class.has.Goals.{then-b-eq35, else-b-eq35}

pub returns-in-Blank : goal.returns-in-Blank
unfolding of_class
returns-in-Blank c = simp c.in-Blank.is c.blank.ensures

pub returns-after-b-eq35 : goal.returns-after-b-eq35
unfolding of_class in_word
returns-after-b-eq35 c =
    elim c.if-b-eq35.branch [ then-b-eq35 w ↦ simp (c.in-InWord.is, w.result-is, eq-eqb _ _ w.if-b-eq35.true) | else-b-eq35 w ↦ simp (c.in-InWord.is, w.result-is, w.blank-else-b-eq35.ensures, ne_eqb _ _ w.if-b-eq35.false) ]

pub returns-in-InLine : goal.returns-in-InLine
unfolding of_class
returns-in-InLine c = simp c.in-InLine.is
