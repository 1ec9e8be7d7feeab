-- Card 4: one call has one outcome, and so has a list of calls, from one store and from what two makes of one size leave.
-- Assumes nothing.
use Rattle.std.specs.Prelude.{◌≡◌, refl, ◌*◌, ◌/◌, replicate}
use Rattle.std.proofs.Common.{sym, ap, ap₂, ◌∙◌, subst}
use mathlib.Core.List.{List, [], ◌∷◌, nil≢cons, cons≢nil, head-eq_of_cons-eq, tail-eq_of_cons-eq}
use Rattle.outcomes.specs.Store.{Store}
use Rattle.outcomes.specs.Outcome.{Outcome, store, blank}
use Rattle.outcomes.specs.Runs.{Event, calls, answers, Run, done, step}
use Rattle.promises.specs.Laws.Refused.{one_outcome}
use Rattle.refinement.specs.Laws.Fresh.{make_leaves}
use Rattle.demands.specs.Later.{Determined, Alike, SameFrom, SameHeaps}

pub determined : Determined
unfolding Determined
determined = one_outcome

runs_alike : {S U : Store} → S ≡ U → (es fs : List Event) (T W : Store) → Run S es T → Run U fs W → calls es ≡ calls fs → (answers es ≡ answers fs) × (T ≡ W)
runs_alike p [] [] T W done done q = (refl, p)
runs_alike p [] (f ∷ fs) T W r u q = absurd (nil≢cons q)
runs_alike p (e ∷ es) [] T W r u q = absurd (cons≢nil q)
runs_alike {S} {U} p (e ∷ es) (f ∷ fs) T W (step o r) (step x u) q =
    let c = head-eq_of_cons-eq q in
    let h = one_outcome f.call U e.answer f.answer e.left f.left (subst (λ c. Outcome c U e.answer e.left) c (subst (λ S. Outcome e.call S e.answer e.left) p o)) x in
    let m = runs_alike h.1 es fs T W r u (tail-eq_of_cons-eq q) in
    (ap₂ ◌∷◌ h.0 m.0, m.1)

alike : (es fs : List Event) (T W : Store) → (answers es ≡ answers fs) × (T ≡ W) → Alike es T fs W
alike es fs T W h = (h.0, ap (λ S. S.heap) h.1, ap (λ S. S.state) h.1)

pub same_from : SameFrom
unfolding SameFrom
same_from S es fs T W r u q = alike es fs T W (runs_alike refl es fs T W r u q)

pub same_heaps : SameHeaps
unfolding SameHeaps
same_heaps g h l ok a b S U m n es fs T W r u q =
    let x = make_leaves g a S ok m in
    let y = make_leaves h b U (rw l at ok) n in
    let p : S ≡ U = x.1 ∙ ap (λ w. store (blank (w / 64) 1) (replicate (64 * (w / 64)) 0)) l ∙ sym y.1 in
    (x.0 ∙ sym y.0, alike es fs T W (runs_alike p es fs T W r u q))
