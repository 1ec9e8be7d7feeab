-- Demand 3's statements hold of a store that represents a valid model, whose counts are small, and a history that tells of it.
-- Assumes nothing.
use Rattle.std.specs.Prelude.{◌≡◌, ◌↔◌, ◌≢◌, true, false, ◌&&◌, List, ℕ, ◌≤◌, eqb}
use Rattle.std.proofs.Math.Path.{sym, ap, subst}
use Rattle.std.proofs.Common.{◌∙◌, arith}
use Rattle.std.proofs.Math.Bool.{not}
use Rattle.std.proofs.Math.ListN.{get_or}
use borrow.Author.Tests.{eqb-true, eq-eqb, ne_eqb, le-ltb, not-false, not-true}
use Rattle.lists.specs.Lists.{every, All}
use Rattle.lists.specs.Laws.Tests.{both}
use Rattle.lists.specs.Laws.All.{all_map}
use Rattle.lists.specs.Laws.Finds.{any_false, false_any, every_true, true_every}
use Rattle.model.specs.Model.{Model, Answer, report, delete, delete_all, lives_in, outside, outside_but}
use Rattle.model.specs.Calls.{wrong_names, dead, checks, refusal}
use Rattle.model.specs.Valid.{Valid}
use Rattle.model.proofs.Laws.Passed.{passed, names_passed, names_go}
use Rattle.outcomes.specs.Store.{Store, regions, pages}
use Rattle.outcomes.specs.History.{History, is_live, stored_count, subregions}
use Rattle.outcomes.specs.History as history
use Rattle.outcomes.specs.Outcome.{Accepted, Answered, Outcome}
use Rattle.promises.specs.Promises.{Refusals}
use Rattle.promises.specs.Laws.Refused.{refusals}
use Rattle.refinement.specs.Represents.{Represents}
use Rattle.refinement.specs.Laws.Report as report
use Rattle.refinement.specs.Laws.Refusals.{refusals_agree}
use Rattle.demands.specs.Demands.{names_pass, Holds}
use Rattle.histories.specs.Laws.Tells.{Tells, live_is, subregions_are, closed_is}
use Rattle.histories.specs.Laws.Pointers.{slots_lead_lem, words_lead_lem, outside_is, outside_but_is, uncounted_is}
use Rattle.histories.specs.Laws.TellsPages.{TellsPages, pages_held_lem}

module _ {L : Model} {sp : List ℕ} {ids : ℕ → List ℕ} {S : Store} {h : History} (v : Valid L) (rep : Represents L sp ids S) (t : Tells L sp h) (u : TellsPages h (regions S).names (pages S)) (small : (r : ℕ) → outside L r ≤ 16640) where
  outside_told : (r : ℕ) → history.outside h S r ≡ outside L r
  outside_told = outside_is S t v rep.on_frames rep.on_objects

  reported : (r : ℕ) → lives_in L r ≡ true → (a : Answer) (T : Store) → Outcome (report r) S a T
      → (a.refusal ≡ 0) × (get_or a.values 0 0 ≡ stored_count S r) × (get_or a.values 1 0 ≡ history.outside h S r)
  unfolding Outcome Accepted stored_count refusal checks
  reported r l a T o =
      let e : refusal L (report r) ≡ 0 = rw l in
      let q = subst (λ n. Answered n (report r) S a T) (refusals_agree v rep small (report r) ∙ e) o in
      let out = report.outside_is S v rep r l (small r) in
      (ap (λ a. a.refusal) q.0, ap (λ a. get_or a.values 0 0) q.0, ap (λ a. get_or a.values 1 0) q.0 ∙ out ∙ sym (outside_told r))

  deleted : (r f : ℕ) → lives_in L r ≡ true → r ≢ 1 → f ≤ 3 → (a : Answer) (T : Store) → Outcome (delete r f) S a T → (a.refusal ≡ 0) ↔ ((subregions h r ≡ 0) × (history.outside h S r ≡ 0))
  unfolding Refusals refusal checks
  deleted r f l d k a T o =
      let e = (refusals (delete r f) S a T o).0 ∙ refusals_agree v rep small (delete r f) in
      rw (e, subregions_are t r, outside_told r) (
        (λ z. let q = passed L (delete r f) z in (eqb-true _ 0 (not-false _ q.1.1.1.0), eqb-true _ 0 (not-false _ q.1.1.1.1.0))),
        (λ z. rw (le-ltb 3 f k, l, ne_eqb r 1 d, z.0, z.1)),
      )

  -- the names pass in the history where they do in the model
  past : (l : List ℕ) → names_pass h l ≡ true → (wrong_names l ≡ false) × All (λ r. (dead L r ≡ false) × (eqb r 1 ≡ false)) l
  past l n =
      let p = both (not (wrong_names l)) (every (λ r. is_live h r && not (eqb r 1)) l) n in
      (not-true (wrong_names l) p.0, all_map (λ r e. let q = both (is_live h r) (not (eqb r 1)) e in (ap not (sym (live_is t r) ∙ q.0), not-true (eqb r 1) q.1)) l (every_true (λ r. is_live h r && not (eqb r 1)) l p.1))

  pass : (l : List ℕ) → wrong_names l ≡ false → All (λ r. (dead L r ≡ false) × (eqb r 1 ≡ false)) l → names_pass h l ≡ true
  pass l w ns = rw (w, true_every (λ r. is_live h r && not (eqb r 1)) l (all_map live l ns))
    where
      live : (r : ℕ) → (dead L r ≡ false) × (eqb r 1 ≡ false) → (is_live h r && not (eqb r 1)) ≡ true
      live r e = rw (live_is t r, not-false (lives_in L r) e.0, e.1)

  together : (l : List ℕ) (f : ℕ) → f ≤ 3 → (a : Answer) (T : Store) → Outcome (delete_all l f) S a T
      → (a.refusal ≡ 0) ↔ ((names_pass h l ≡ true) × (history.closed h l ≡ true) × All (λ r. history.outside_but h S l r ≡ 0) l)
  unfolding Refusals refusal checks
  together l f k a T o =
      let e = (refusals (delete_all l f) S a T o).0 ∙ refusals_agree v rep small (delete_all l f) in
      let none : (r : ℕ) → history.outside_but h S l r ≡ outside_but L l r = λ r. outside_but_is S t v rep.on_frames rep.on_objects r l in (
        (λ z.
            let c = passed L (delete_all l f) (sym e ∙ z) in
            let q = names_passed (dead L) l _ c.1.1 in
            (pass l c.1.0 q.0, closed_is t l ∙ not-false _ q.1.0, all_map (λ r z. none r ∙ eqb-true _ 0 (not-false _ z)) l (any_false _ l q.1.1.0))),
        (λ z.
            let p = past l z.0 in
            e ∙ rw (le-ltb 3 f k, p.0) (names_go (dead L) l _ p.1
            ∙ rw (sym (closed_is t l) ∙ z.1, false_any (λ r. not (eqb (outside_but L l r) 0)) l (all_map (λ r z. ap not (eq-eqb _ 0 (sym (none r) ∙ z))) l z.2)))),
      )

  pub holds : Holds h S
  unfolding stored_count
  holds = record {
    counts = λ r l. omega (arith, rep.counts r (sym (live_is t r) ∙ l), outside_told r, uncounted_is S t v rep.on_frames rep.on_objects r);
    slots = slots_lead_lem S t v rep.on_frames rep.on_objects;
    words = words_lead_lem S t v rep.on_frames rep.on_objects;
    pages = pages_held_lem rep.on_regions rep.on_pages t u;
    reports = λ r l. reported r (sym (live_is t r) ∙ l);
    deletes = λ r f l. deleted r f (sym (live_is t r) ∙ l);
    together = together;
  }
