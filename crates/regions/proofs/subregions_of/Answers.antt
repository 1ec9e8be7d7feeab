use Rattle.std.proofs.Common.{◌≡◌, ◌+◌, ap, ◌∙◌, arith, eq-eqb, ne_eqb}
use Rattle.lists.specs.Lists.{bit, count_of, up_to}
use Rattle.lists.specs.Laws.Sums.{count_most}
use Rattle.lists.specs.Laws.UpTo.{count_next, length_up_to}
use Rattle.regions.specs.Regions.{subregions_in}
use Rattle.regions.proofs.subregions_of.Invariants.{below}
use Rattle.regions.proofs.subregions_of.Goals as goal
use Rattle.regions.proofs.subregions_of.Goals.{then-n-ne0+then-p-t, else-n-ne0, else-n-ne0-via-then-n-ne0+else-p-t, else-n-ne0-via-else-n-ne0}

adds : (c : goal.Joined-n-ne0) → c.if-n-ne0.k ≡ c.loop-i.k + bit (below c.args.names.now c.args.parents.now c.args.t c.loop-i.i)
adds c =
    rw (← c.name_at-n.ensures, ← c.parent_at-p.ensures)
    (elim c.if-n-ne0.branch [
      | then-n-ne0+then-p-t w ↦ rw (ne_eqb _ _ w.if-n-ne0.true, eq-eqb _ _ w.if-p-t.true) w.k-is
      | else-n-ne0 w ↦ elim w.else-n-ne0.branch [
        | else-n-ne0-via-then-n-ne0+else-p-t v ↦ rw (ne_eqb _ _ v.if-n-ne0.true, ne_eqb _ _ v.if-p-t.false) (omega arith)
        | else-n-ne0-via-else-n-ne0 v ↦ rw (eq-eqb _ _ v.if-n-ne0.false) (omega arith)
      ]
    ])

pub overflow_add-k : goal.overflow_add-k
overflow_add-k c =
    omega (arith, count_most (below c.args.names.now c.args.parents.now c.args.t) (up_to c.loop-i.i), length_up_to c.loop-i.i)

pub loop-i-preserved : goal.loop-i-preserved
loop-i-preserved c =
    omega (arith, adds c, count_next (below c.args.names.now c.args.parents.now c.args.t) c.loop-i.i)

pub returns : goal.returns
unfolding subregions_in
returns c =
    let e : c.loop-i.i ≡ 64 = omega arith in
    c.loop-i.invariant ∙ ap (λ n. count_of (below c.args.names.now c.args.parents.now c.args.t) (up_to n)) e
