use Prim.Native.Nat.{◌-◌, ◌≤◌}
use native.Mathlib.Omega.{arith}
use lib.ListN.{get_or, take}
use borrow.Author.Rules.{rules}
use Rattle.outcomes.specs.Outcome.{store}
use Rattle.actions.proofs.Laws.{acts_call, acts_make}
use Rattle.actions.proofs.acted.Goals as goal

pub returns-then-l-eq-PAGES : goal.returns-then-l-eq-PAGES
returns-then-l-eq-PAGES c h k =
    let few : get_or c.args.l.args 0 0 ≤ 257 = k c.if-l-eq-PAGES.true in
    acts_make c.args.l (store c.args.state.now (take c.args.words c.args.memory.now)) _ c.args.memory.now c.make_in.new.heap _ _ c.args.words (c.min-w.result - 0) c.if-l-eq-PAGES.true (omega (arith, c.min-w.ensures, c.words_of.ensures)) (omega (arith, few, h)) (search (rules, c.memory-1.given)) c.make_in.ensures

pub returns : goal.returns
returns c h k =
    acts_call c.args.l _ _ c.args.memory.now c.called.new.heap _ _ c.args.words (c.min-w-2.result - 0) c.if-l-eq-PAGES.false (omega (arith, c.min-w-2.ensures)) (search (rules, c.memory-2-1.given)) (search (rules, c.memory-2-1.given)) c.called.ensures
