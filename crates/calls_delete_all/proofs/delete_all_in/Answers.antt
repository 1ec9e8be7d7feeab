use mathlib.Core.Path.{refl}
use borrow.Author.Rules.{rules}
use Rattle.refusals.specs.Refusals.{number}
use Rattle.refusals.specs.Laws.{number_not_0}
use Rattle.frames.specs.Frames.{top_frame, raised}
use Rattle.regions.specs.Laws.Counts.{fits_shares}
use Rattle.calls_delete_all.proofs.Laws.{delete_all_refused, delete_all_pointed, delete_all_effect}
use Rattle.calls_delete_all.proofs.delete_all_in.Goals as goal

pub returns-in-Err : goal.returns-in-Err
returns-in-Err c s = delete_all_refused _ _ _ (number c.in-Err.r) (rw c.none-members.ensures at c.in-Err.ensures.0) _ _ (number_not_0 c.in-Err.r) c.refuses.ensures refl

pub returns-then-pointed_at : goal.returns-then-pointed_at
returns-then-pointed_at c s =
    delete_all_pointed _ _ _ _ (rw c.none-members.ensures at c.in_default.ensures.0) refl _ _ _ (λ z. rw c.none-members.ensures at c.in_default.ensures.1) (fits_shares c.args.shares.now (search rules) (λ i. search rules)) c.scan-c.ensures
    c.pointed_at.ensures _ _ c.if-pointed_at.true c.refuses-then-pointed_at.ensures refl

pub returns : goal.returns
unfolding raised top_frame
returns c s =
    delete_all_effect _ _ _ _ (rw c.none-members.ensures at c.in_default.ensures.0) refl _ _ _ (λ z. rw c.none-members.ensures at c.in_default.ensures.1) (fits_shares c.args.shares.now (search rules) (λ i. search rules)) c.scan-c.ensures
    c.pointed_at.ensures _ _ _ _ _ _ c.if-pointed_at.false c.gives.ensures (search rules) c.enter_frames.ensures c.give_back-number.ensures c.give_up.ensures
    (rw c.top-raised.ensures) refl refl refl refl
