use mathlib.Core.Path.{◌≡◌, sym, ◌∙◌}
use Prim.Native.Nat.{min}
use native.Mathlib.Omega.{arith}
use lib.Dec.{eqb}
use lib.ListN.{get_or}
use borrow.Author.Tests.{eq-eqb}
use Rattle.lists.specs.Laws.UpTo.{find_first, find_default}
use Rattle.pages.specs.Pages.{first_free_in}
use Rattle.pages.proofs.find_free.Goals as goal

pub returns-then-owner_at-eq0 : goal.returns-then-owner_at-eq0
unfolding first_free_in
returns-then-owner_at-eq0 c =
    sym (find_first (λ j. eqb (get_or c.args.owners.now j 0) 0) (min c.args.made 256) (min c.args.made 256) c.loop-j.j (omega arith) (eq-eqb _ _ (sym c.owner_at.ensures ∙ c.if-owner_at-eq0.true)) c.loop-j.invariant.1)

pub returns : goal.returns
unfolding first_free_in
returns c =
    let e : c.loop-j.j ≡ min c.args.made 256 = omega arith in
    c.page_count-n.ensures ∙ sym (find_default (λ j. eqb (get_or c.args.owners.now j 0) 0) (min c.args.made 256) (min c.args.made 256) (rw e at c.loop-j.invariant.1))
