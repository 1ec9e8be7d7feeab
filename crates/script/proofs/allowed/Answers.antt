use Prim.Native.Nat.{◌<◌, ◌≤◌}
use native.Mathlib.Omega.{arith}
use borrow.Author.Tests.{eq-eqb, ne_eqb, lt-ltb, le-ltb, le-leb, lt-leb}
use Rattle.script.specs.Script.{allowed}
use Rattle.script.proofs.allowed.Goals as goal
use Rattle.script.proofs.allowed.Goals.{then-n-eq0-via-then-n-eq0, then-n-eq0-via-else-n-eq0+then-not-takes}

pub returns-then-n-eq0 : goal.returns-then-n-eq0
unfolding allowed
returns-then-n-eq0 c =
    elim c.then-n-eq0.branch [
      | then-n-eq0-via-then-n-eq0 w ↦ simp (eq-eqb _ _ w.if-n-eq0.true)
      | then-n-eq0-via-else-n-eq0+then-not-takes w ↦ rw (← w.takes.ensures) (simp (ne_eqb _ _ w.if-n-eq0.false, w.if-not-takes.true))
    ]

pub returns-then-stage-lt2 : goal.returns-then-stage-lt2
unfolding allowed
returns-then-stage-lt2 c =
    let unmade : c.args.stage < 2 = omega (arith, c.if-stage-lt2.true) in
    rw (← c.takes.ensures) (simp (ne_eqb _ _ c.if-n-eq0.false, c.if-not-takes.false, eq-eqb _ _ c.if-n-eq-PAGES.true, lt-ltb _ _ unmade))

pub returns-else-stage-lt2 : goal.returns-else-stage-lt2
unfolding allowed
returns-else-stage-lt2 c =
    let made : 2 ≤ c.args.stage = omega (arith, c.if-stage-lt2.false) in
    rw (← c.takes.ensures) (simp (ne_eqb _ _ c.if-n-eq0.false, c.if-not-takes.false, eq-eqb _ _ c.if-n-eq-PAGES.true, le-ltb _ _ made))

pub returns-then-n-ge-SUMMARY : goal.returns-then-n-ge-SUMMARY
unfolding allowed
returns-then-n-ge-SUMMARY c = rw (← c.takes.ensures) (simp (ne_eqb _ _ c.if-n-eq0.false, c.if-not-takes.false, ne_eqb _ _ c.if-n-eq-PAGES.false, le-leb _ _ c.if-n-ge-SUMMARY.true))

pub returns-else-n-ge-SUMMARY : goal.returns-else-n-ge-SUMMARY
unfolding allowed
returns-else-n-ge-SUMMARY c = rw (← c.takes.ensures) (simp (ne_eqb _ _ c.if-n-eq0.false, c.if-not-takes.false, ne_eqb _ _ c.if-n-eq-PAGES.false, lt-leb _ _ c.if-n-ge-SUMMARY.false))
