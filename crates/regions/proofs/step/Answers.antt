use Rattle.std.proofs.Common.{◌≡◌, ◌+◌, ◌%◌, eq-eqb, ne_eqb, rules}
use Rattle.regions.specs.Laws.Steps.{stepped}
use Rattle.regions.specs.Ways.{by}
use Rattle.regions.proofs.step.Goals as goal
use Rattle.regions.proofs.step.Goals.{in-In, in-Out}

pub returns-then-tag-eq0 : goal.returns-then-tag-eq0
unfolding stepped
returns-then-tag-eq0 c = simp (eq-eqb _ _ c.if-tag-eq0.true)

pub returns : goal.returns
unfolding stepped
returns c =
    let moved : c.match-way.moved ≡ (c.get-v.result + by c.args.way) % 4294967296 = elim c.match-way.branch [
      | in-In w ↦ rw w.in-In.is (search rules)
      | in-Out w ↦ rw w.in-Out.is (search rules)
    ] in
    rw (ne_eqb _ _ c.if-tag-eq0.false, ← c.get-v.ensures, ← moved) c.put.ensures
