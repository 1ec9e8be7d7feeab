-- Demand 3: what make leaves, and audited memory, stand for a valid model of which their history tells, and any run keeps that.
-- Assumes nothing.
use Rattle.std.specs.Prelude.{refl, [], ◌∷◌, ℕ, ◌/◌, ◌≤◌, ◌<◌, ltb, length, replicate}
use Rattle.std.proofs.Common.{sym, ap, ◌∙◌, arith, ltb-true, ltb-false}
use Rattle.lists.specs.Lists.{bit}
use Rattle.lists.specs.Laws.Tests.{by_test}
use Rattle.model.specs.Model.{Model, gives}
use Rattle.model.specs.Calls.{fresh, after}
use Rattle.model.proofs.Laws.Paged.{outside_bound}
use Rattle.outcomes.specs.Store.{Store, regions, pages}
use Rattle.outcomes.specs.History.{History, begin}
use Rattle.outcomes.specs.Outcome.{MakeOutcome}
use Rattle.promises.specs.Promises.{Total, AuditExact}
use Rattle.promises.specs.Laws.Refused.{total, audit_exact}
use Rattle.outcomes.specs.Runs.{calls, done, step}
use Rattle.audited.specs.Rebuild.{rebuilt}
use Rattle.refinement.specs.Laws.Fresh.{make_pages}
use Rattle.audited.specs.Laws.Audited.{audited}
use Rattle.histories.specs.Laws.Tells.{Tells}
use Rattle.histories.specs.Laws.Pointers.{outside_is}
use Rattle.audited.specs.Laws.Good.{lists, lists_pages, audited_good}
use Rattle.demands.specs.Told.{history}
use Rattle.demands.specs.Demands.{RunsExist, Start, after_make, after_audit, Demand3, StaysSound, CountsFit, StaysShown, StartsAgree}
use Rattle.demands.proofs.Laws.Opening.{blank_opens}
use Rattle.histories.specs.Laws.TellsPages.{TellsPages}
use Rattle.demands.proofs.Laws.Steps.{Told, run_told, begins}
use Rattle.demands.proofs.Laws.Demand2.{made_good}
use Rattle.demands.proofs.Laws.Holds.{holds}

pub starts_agree : StartsAgree
unfolding StartsAgree MakeOutcome
starts_agree heap a S ok o = ap begin (rw ok at o).1 ∙ blank_opens (length heap / 64) (replicate (length heap) 0) (make_pages (length heap) ok).1

pub start_told : (S : Store) (h : History) → Start S h → (N : ℕ) × (L : Model) × Told N L S h
unfolding AuditExact StartsAgree
start_told S h (after_make heap ok o e) =
    let g = made_good heap (gives []) S ok o in
    (length heap / 64, fresh (length heap / 64), rw (e ∙ sym (starts_agree heap (gives []) S ok o)) (begins g))
start_told S h (after_audit sh o e) =
    let g = audited_good S sh ((audit_exact S (gives (1 ∷ [])) S o).1.0 refl) in
    ((pages S).made, rebuilt S, rw e (begins g))

pub runs_exist : RunsExist
unfolding RunsExist Total
runs_exist [] S = ([], S, done, refl)
runs_exist (c ∷ cs) S =
    let o = total c S in
    let more = runs_exist cs o.1 in
    (record { call = c; answer = o.0; left = o.1 } ∷ more.0, more.1, step o.2 more.2, ap (λ l. c ∷ l) more.3)

pub demand3 : Demand3
unfolding Demand3
demand3 S h s es T r =
    let b = start_told S h s in
    let k = (run_told b.2 r).1 in
    let g = k.good in
    holds g.valid g.represents k.tells k.held (outside_bound _ g.valid g.paged g.few)

pub stays_sound : StaysSound
unfolding StaysSound AuditExact
stays_sound S h s es T U a r o =
    let b = start_told S h s in
    let k = (run_told b.2 r).1 in
    (audit_exact T a U o).1.1 (audited T k.good.valid k.good.represents k.good.sized)

pub counts_fit_lem : CountsFit
unfolding CountsFit Demand3
counts_fit_lem S h s es T r q l =
    let k = (run_told (start_told S h s).2 r).1 in
    let g = k.good in
    let few = outside_is T k.tells g.valid g.represents.on_frames g.represents.on_objects q in
    let most = outside_bound _ g.valid g.paged g.few q in
    (omega (arith, few, most), omega (arith, few, most, (demand3 S h s es T r).counts q l))

pub stays_shown : StaysShown
unfolding StaysShown
stays_shown S h s es T r = record {
  kinds = k.tells.kinds ∙ sym t.kinds;
  frames = k.tells.frames ∙ sym t.frames;
  counted = k.tells.counted ∙ sym t.counted;
  pages = k.held.pages ∙ sym u.pages;
  regions = λ f. k.tells.regions (λ g. bit (f g)) ∙ sym (t.regions (λ g. bit (f g)));
  objects = λ f. k.tells.objects (λ o. bit (f o)) ∙ sym (t.objects (λ o. bit (f o)));
  free = λ j. by_page j (λ l. k.held.free j l ∙ sym (u.free j l)) (λ l. (k.held.none j l).0 ∙ sym (u.none j l).0);
  held = λ j. by_page j (λ l. k.held.held j l ∙ sym (u.held j l)) (λ l. (k.held.none j l).1 ∙ sym (u.none j l).1);
}
  where
    k : Told (start_told S h s).0 (after (start_told S h s).1 (calls es)) T (history h es)
    k = (run_told (start_told S h s).2 r).1

    t : Tells (after (start_told S h s).1 (calls es)) k.good.places (begin T)
    t = lists k.good

    u : TellsPages (begin T) (regions T).names (pages T)
    u = lists_pages k.good

    by_page : {P : Type 0} (j : ℕ) → (j < (pages T).made → P) → ((pages T).made ≤ j → P) → P
    by_page j f g = by_test (ltb j (pages T).made) (λ e. f (ltb-true j (pages T).made e)) (λ e. g (ltb-false j (pages T).made e))
