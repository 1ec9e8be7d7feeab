use Prim.Native.Nat.{◌<◌}
use native.Mathlib.Omega.{arith}
use borrow.Author.Rules.{rules}
use borrow.Author.Tests.{lt-ltb}
use Rattle.lists.specs.Laws.Chains.{every_from_all}
use Rattle.audit_regions.specs.Filed.{entry_fits, regions_fit}
use Rattle.audit_regions.proofs.regions_fit.Goals as goal

pub returns-then-entry_of-lt64 : goal.returns-then-entry_of-lt64
unfolding regions_fit
returns-then-entry_of-lt64 c =
    let lives : c.entry_of.result < 64 = omega arith in
    rw (← c.entry_of.ensures, lt-ltb _ _ lives) (every_from_all (entry_fits c.args.given c.args.regions.now.names.now c.args.regions.now.parents.now c.args.regions.now.levels.now) 64 c.all.ensures.ran (λ x b q h k. search rules))
