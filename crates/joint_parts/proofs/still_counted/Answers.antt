use Rattle.std.proofs.Common.{ℕ, suc, ◌&&◌, Bool, not, eqb, refl, arith, rules}
use Rattle.lists.specs.Ticks.{tick_at}
use Rattle.regions.specs.Regions.{count_in}
use Rattle.delete_parts.proofs.Laws.{any_from_any}
use Rattle.joint_parts.specs.Joint.{still_counted}
use Rattle.joint_parts.proofs.still_counted.Goals as goal

pub returns : goal.returns
unfolding still_counted
returns c =
    let counted : ℕ → Bool = λ i. tick_at c.args.ticks.now (suc i) && not (eqb (count_in c.args.shares.now i) 0) in
    any_from_any counted 0 64 64 c.any.ensures.ran refl (omega arith) (λ i b q k. search rules)
