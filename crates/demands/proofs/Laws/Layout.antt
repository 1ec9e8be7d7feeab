-- Card 4: ledger and memory have the same objects in the same places; a page that allocate takes is the lowest free one, and locate tells where an object lies, by what the calls told.
-- Assumes nothing.
use Rattle.std.specs.Prelude.{◌≡◌, refl, ◌⊎◌, [], ◌∷◌, ℕ, ◌+◌, ◌-◌, ◌*◌, ◌/◌, ◌%◌, ◌≤◌, ◌<◌, eqb, length}
use Rattle.std.proofs.Math.Path.{sym, subst, fun_ext}
use Rattle.std.proofs.Common.{ap, ◌∙◌, arith}
use Rattle.std.proofs.Math.Logic.{inl, inr}
use Rattle.std.proofs.Math.Bool.{true, false}
use borrow.Author.Tests.{eqb-true, eqb-false, eq-eqb, ne_eqb, lt-leb, not-false}
use Rattle.lists.specs.Lists.{bit, pick, keep, sum_of, among}
use Rattle.lists.specs.Laws.Tests.{by_test, or_other}
use Rattle.lists.specs.Laws.Finds.{any_count}
use Rattle.lists.specs.Laws.Sums.{sum_map, sum_keep}
use Rattle.model.specs.Model.{Model, Answer, allocate, locate, ask, gives, object, lives_in, home_in, top_place, top, slot as model_slot}
use Rattle.model.specs.Calls.{checks, query_checks, refusal, no_frame, lacks}
use Rattle.model.proofs.Laws.Passed.{passed}
use Rattle.regions.specs.Regions.{entry_of, tag_of}
use Rattle.pages.specs.Pages.{owner_at, taken_at, page_of, word_of, first_free}
use Rattle.pages.specs.Laws.Free.{first_least}
use Rattle.outcomes.specs.Store.{Store, regions, pages, slot, size, roomy}
use Rattle.outcomes.specs.History.{History, holders, leads}
use Rattle.outcomes.specs.Outcome.{Outcome, Accepted, Answered, query_reply, page_for}
use Rattle.promises.specs.Promises.{Refusals, AuditExact}
use Rattle.promises.specs.Laws.Refused.{refusals, audit_exact}
use Rattle.refinement.specs.Represents.{spot, ids_in}
use Rattle.refinement.specs.Laws.Reads.{frame_in, page_count_lem, slot_is, top_known}
use Rattle.refinement.specs.Laws.Allocate.{page_of_new}
use Rattle.refinement.specs.Laws.Report.{ids_objects}
use Rattle.audited.specs.Rebuild.{rebuilt}
use Rattle.audited.specs.Laws.Good.{Good, lists, audited_good}
use Rattle.histories.specs.Laws.Tells.{met}
use Rattle.histories.specs.Laws.Pointers.{pointer_leads}
use Rattle.histories.specs.Laws.TellsPages.{holding_tag}
use Rattle.demands.specs.Told.{slot_after}
use Rattle.demands.specs.Later.{top_width, stood, SamePlaces, LedgerPlaces, Lowest, LaidOut}
use Rattle.demands.proofs.Laws.Steps.{Told, slot_after_is, agree, run_told, run_follows}
use Rattle.demands.proofs.Laws.Demand2.{made_good}
use Rattle.demands.proofs.Laws.Demand3.{start_told}
use Rattle.demands.proofs.Laws.Later.{top_width_lem}

module _ {N : ℕ} {L : Model} {S : Store} {h : History} (k : Told N L S h) where
  -- page j is free just where the history says so
  told_free : (j : ℕ) → j < (pages S).made → among j h.free ≡ eqb (owner_at (pages S) j) 0
  told_free j l = any_count (λ x. eqb x j) h.free ∙ rw (k.held.free j l) (by_test (eqb (owner_at (pages S) j) 0) (λ e. rw e) (λ e. rw e))

  lowest : (j : ℕ) → j < (pages S).made → owner_at (pages S) j ≡ 0 → j ≡ first_free (pages S) → Lowest h.free j
  lowest j l o f = (told_free j l ∙ rw o, λ i b. told_free i (omega arith) ∙ ne_eqb (owner_at (pages S) i) 0 (λ z. below i b (first_least (pages S) i (omega (arith, page_count_lem k.good.represents.on_pages)) z)))
    where
      below : (i : ℕ) → i < j → first_free (pages S) ≤ i → ⊥
      below i b m = omega (arith, f)

  taken : (s r n : ℕ) (a : Answer) (T : Store) → Outcome (allocate s r n) S a T → a.refusal ≡ 0
      → (p : ℕ) × (slot_after h T s ≡ p + 1) × ((among r (holders h (p / 64)) ≡ true) ⊎ (Lowest h.free (p / 64) × (p % 64 ≡ 0)))
  unfolding Outcome Accepted Refusals checks
  taken s r n a T o z =
      let e = sym (refusals (allocate s r n) S a T o).0 ∙ z in
      let m = sym (agree k (allocate s r n)) ∙ e in
      let q = subst (λ x. Answered x (allocate s r n) S a T) e o in
      let w = passed L (allocate s r n) m in
      let l = not-false (lives_in L r) w.1.1.0 in
      let i = entry_of (regions S) r in
      let j = page_for S i (size S n) in
      let start = pick (roomy S i (size S n)) (taken_at (pages S) j) 0 in
      let f = page_of_new L k.good.places k.good.on_page S k.good.valid k.good.sized k.good.represents r n l s m in
      let page : (64 * j + start) / 64 ≡ j = omega (arith, f.2) in
      (64 * j + start, rw q.1 (slot_after_is k.good.represents k.good.valid k.good.sized k.tells s i n j w.0 w.1.0), rw page (go r l j start f.1 f.0))
    where
      go : (r : ℕ) → lives_in L r ≡ true → (j t : ℕ) → j < (pages S).made → (owner_at (pages S) j ≡ tag_of (regions S) r) ⊎ ((owner_at (pages S) j ≡ 0) × (j ≡ first_free (pages S)) × (t ≡ 0))
          → (among r (holders h j) ≡ true) ⊎ (Lowest h.free j × ((64 * j + t) % 64 ≡ 0))
      go r l j t b (inl o) = inl (rw (k.held.held j b, o, holding_tag k.good.represents.on_regions r l, eq-eqb r r refl))
      go r l j t b (inr (o, f, z)) = inr (lowest j b o f, omega arith)

  located : (s : ℕ) (a : Answer) (T : Store) → Outcome (ask (locate s)) S a T → s < top_width h
      → ((slot S s ≡ 0) × (a ≡ gives (256 ∷ 0 ∷ []))) ⊎ ((p : ℕ) × (slot S s ≡ p + 1) × (leads h (p + 1) ≡ true) × (a ≡ gives (p / 64 ∷ p % 64 ∷ [])))
  unfolding Outcome Accepted query_reply page_of word_of refusal checks query_checks
  located s a T o b =
      let v = k.good.valid in
      let rep = k.good.represents in
      let w = top_width_lem v rep k.tells in
      let has : lacks (top L) s ≡ false = lt-leb (length (top L)) s (omega (arith, w)) in
      let some : no_frame L ≡ false = ne_eqb (length L.frames) 0 (λ z. omega (arith, frame_in L.frames (top_place L.frames) s (omega (arith, w)))) in
      let z : refusal L (ask (locate s)) ≡ 0 = rw (some, has) in
      let q = subst (λ x. Answered x (ask (locate s)) S a T) (agree k (ask (locate s)) ∙ z) o in
      by_test (eqb (slot S s) 0)
      (λ e. inl (eqb-true (slot S s) 0 e, q.0 ∙ rw e))
      (λ e.
      let d : slot S s ≡ slot S s - 1 + 1 = omega (arith, eqb-false (slot S s) 0 e) in
      let led = subst (λ x. leads h x ≡ true) d (or_other (eqb (slot S s) 0) (leads h (slot S s)) (rw (slot_is rep s has) (pointer_leads S k.tells v rep.on_frames rep.on_objects (model_slot L s) (top_known v s))) e) in
      inr (slot S s - 1, d, led, q.0 ∙ rw e))

-- ---- the ledger

same_places : {N : ℕ} {L : Model} {S : Store} → Good N L S → SamePlaces L S
same_places {N} {L} {S} g f =
    sum_map (λ x. bit (f x)) stood (keep (λ o. lives_in L o.home) L.objects)
    ∙ sum_keep (λ o. bit (f (stood o))) (λ o. lives_in L o.home) L.objects
    ∙ sym (ids_objects L (λ o. pick (lives_in L o.home) (bit (f (stood o))) 0))
    ∙ ap (λ k. sum_of k (ids_in L)) (fun_ext each)
    ∙ sym ((lists g).objects (λ o. bit (f o)))
  where
    each : (q : ℕ) → pick (lives_in L (home_in L q)) (bit (f (stood (object L.objects q)))) 0 ≡ pick (lives_in L (home_in L q)) (bit (f (met L g.places q))) 0
    each q = by_test (lives_in L (home_in L q))
        (λ l.
        let m = g.represents.on_objects.laid q l in
        let e : (stood (object L.objects q)).place ≡ spot g.places q - 1 = omega (arith, m.page, m.word) in
        rw (l, e))
        (λ l. rw l)

pub ledger_places : LedgerPlaces
unfolding LedgerPlaces AuditExact
ledger_places = (
  (λ heap a S ok o es T r. same_places (run_follows (made_good heap a S ok o) r).1),
  (λ S sh o.
      let g = audited_good S sh ((audit_exact S (gives (1 ∷ [])) S o).1.0 refl) in
      (rebuilt S, g.valid, λ es T r. let m = run_follows g r in (m.0, same_places m.1))),
)

-- ---- the history

pub laid_out : LaidOut
unfolding LaidOut
laid_out S h s es T r =
    let k = (run_told (start_told S h s).2 r).1 in
    record { takes = taken k; locates = located k }
