use mathlib.Core.Path.{refl}
use native.Mathlib.Omega.{arith}
use borrow.Author.Rules.{rules}
use Rattle.refusals.specs.Refusals.{number}
use Rattle.refusals.specs.Laws.{number_not_0}
use Rattle.frames.specs.Frames.{top_frame, raised}
use Rattle.regions.specs.Regions.{with_shares, without_regions}
use Rattle.regions.specs.Laws.Counts.{fits_shares}
use Rattle.regions.specs.Laws.Entries.{entry_most}
use Rattle.outcomes.proofs.Laws.Steps.{by_refusal}
use Rattle.calls_delete.proofs.Laws.{delete_second, delete_effect}
use Rattle.calls_delete.proofs.delete_in.Goals as goal

pub overflow_add-tag : goal.overflow_add-tag
overflow_add-tag c =
    omega (arith, c.entry_of-e.ensures, entry_most c.args.names.now c.args.region)

pub returns-in-Err : goal.returns-in-Err
returns-in-Err c s = by_refusal _ _ _ _ (number c.in-Err.r) (delete_second _ _ _ _ _ _ c.entry_of-e.ensures (rw c.none-members.ensures at c.tick.ensures) c.in-Err.ensures) (number_not_0 c.in-Err.r) c.refuses.ensures refl

pub overflow_cast-tag : goal.overflow_cast-tag
overflow_cast-tag c = omega (arith, c.entry_of-e.ensures, entry_most c.args.names.now c.args.region)

pub returns : goal.returns
unfolding raised top_frame with_shares without_regions
returns c s =
    delete_effect _ _ _ _ _ _ c.entry_of-e.ensures (rw c.none-members.ensures at c.tick.ensures) c.in_default.ensures _ _ _ _ _ _ refl c.gives.ensures (fits_shares c.args.shares.now (search rules) (λ i. search rules)) (search rules)
    c.pages_of-number.ensures c.scan_held.ensures c.enter_frames.ensures c.give_back_one.ensures (rw c.top-raised.ensures) refl (rw c.put.ensures) refl refl
