use Rattle.std.proofs.Common.{inl, inr}
use borrow.Author.Tests.{eq-eqb, ne_eqb}
use Rattle.script.specs.Script.{blank}
use Rattle.script.proofs.blank.Goals as goal
use Rattle.script.proofs.blank.Goals.{then-b-eq32, else-b-eq32}

pub returns-then-b-eq9 : goal.returns-then-b-eq9
unfolding blank
returns-then-b-eq9 c =
    elim c.if-b-eq32.branch [
      | then-b-eq32 w ↦ rw w.t-3-is (simp (eq-eqb _ _ w.if-b-eq32.true))
      | else-b-eq32 w ↦ elim c.if-b-eq9.either [ inl e ↦ absurd (w.if-b-eq32.false e) | inr e ↦ rw w.t-3-is (simp (ne_eqb _ _ w.if-b-eq32.false, eq-eqb _ _ e.1)) ]
    ]

pub returns-else-b-eq9 : goal.returns-else-b-eq9
unfolding blank
returns-else-b-eq9 c = simp (ne_eqb _ _ c.if-b-eq9.false.0, ne_eqb _ _ c.if-b-eq9.false.1)
