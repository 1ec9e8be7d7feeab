use Rattle.std.proofs.Common.{◌≡◌, ℕ, ◌+◌, ◌%◌, ◌<◌, arith}
use Rattle.lists.specs.Lists.{times}
use Rattle.lists.specs.Laws.UpTo.{from_next, from_end}
use Rattle.outcomes.specs.Store.{targets_in, slots_beyond_in}
use Rattle.calls_report.proofs.outside.Goals as goal

-- one frame
step : (k w rest all m : ℕ) → (k + (w + rest)) % 4294967296 ≡ all → m ≡ w → ((k + m) % 4294967296 < 4294967296) × (((k + m) % 4294967296 + rest) % 4294967296 ≡ all)
step k w rest all m e q = (omega arith, omega arith)

done : (k all : ℕ) → (k + 0) % 4294967296 ≡ all → k < 4294967296 → k ≡ all
done k all e h = omega arith

pub loop-i-preserved : goal.loop-i-preserved
loop-i-preserved c =
    let t : ℕ → ℕ = λ i. times c.args.tag (targets_in c.args.frames.now.widths.now c.args.frames.now.slots.now c.args.owners.now i) in
    let e = rw (from_next c.loop-i.i c.frame_count-n.result (omega arith)) at c.loop-i.invariant.2 in
    let s = step c.loop-i.sum (t c.loop-i.i) _ _ c.slots_of-sum.result e c.slots_of-sum.ensures in
    (c.loop-i.invariant.0, s.0, s.1)

pub returns : goal.returns
unfolding slots_beyond_in
returns c =
    let e = rw (from_end c.loop-i.i c.frame_count-n.result (omega arith)) at c.loop-i.invariant.2 in
    rw (← c.loop-i.invariant.0) (done c.loop-i.sum _ e c.loop-i.invariant.1)
