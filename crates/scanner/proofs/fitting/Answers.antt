use Prim.Native.Nat.{◌≤◌, ◌<◌}
use native.Mathlib.Omega.{arith}
use borrow.Author.Tests.{le-leb, lt-leb}
use lib.ListN.{length}
use Rattle.script.specs.Script.{longest_line, fitting}
use Rattle.scanner.proofs.fitting.Goals as goal

pub returns-then-s-gt-LONGEST_LINE : goal.returns-then-s-gt-LONGEST_LINE
unfolding fitting
returns-then-s-gt-LONGEST_LINE c =
    let too_long : longest_line < length c.args.s.now = omega (arith, c.if-s-gt-LONGEST_LINE.true) in
    rw (lt-leb _ _ too_long)

pub returns-else-s-gt-LONGEST_LINE : goal.returns-else-s-gt-LONGEST_LINE
unfolding fitting
returns-else-s-gt-LONGEST_LINE c =
    let fits : length c.args.s.now ≤ longest_line = c.if-s-gt-LONGEST_LINE.false in
    rw (le-leb _ _ fits) c.scan.ensures
