-- A call, accepted or refused, answers as the model does, and leaves a store that represents the model's next and a history that tells of it; so does any run.
-- Assumes nothing.
use Rattle.std.specs.Prelude.{◌≡◌, false, List, [], ◌∷◌, ◌++◌, map, ℕ, zero, suc, ◌+◌, ◌-◌, ◌*◌, ◌/◌, ◌≤◌, ◌<◌, set}
use Rattle.std.proofs.Math.Path.{refl, sym, ap, subst, subst⁻¹}
use Rattle.std.proofs.Common.{ap₂, ◌∙◌, ⊎_elim, arith, get_or-set_same}
use Rattle.std.proofs.Math.Logic.{inl, inr}
use Rattle.std.proofs.Math.Numerals.{add-one}
use Rattle.std.proofs.Math.ListN.{length}
use borrow.Author.Tests.{eqb-false, leb-false, not-false}
use Rattle.lists.specs.Lists.{bit, pick}
use Rattle.model.specs.Model.{Model, Answer, Call, declare, new_region, subregion, push, drop_frame, hand_back, allocate, first, copy, fetch, clear, load, set_pointer, put, get, view, same, about, report, totals, audit, delete, delete_all, ask}
use Rattle.model.specs.Model.{lives_in, top_place, top, stored, gives}
use Rattle.model.specs.Calls.{checks, refusal, no_frame, lacks, reply, accepted, answer, answer_by, next, next_by, run, after}
use Rattle.model.specs.Valid.{Valid}
use Rattle.model.specs.Paged.{Paged}
use Rattle.model.proofs.Laws.Passed.{passed}
use Rattle.model.proofs.Laws.Removable.{removable_one, removable_all}
use Rattle.model.proofs.Laws.Next.{next_valid}
use Rattle.model.proofs.Laws.Paged.{next_paged, stored_bound, outside_bound}
use Rattle.frames.specs.Frames.{top_frame, slot_at, put_slot}
use Rattle.regions.specs.Regions.{entry_of, tag_of, unused, with_region, cleared_at, without_regions, with_page}
use Rattle.regions.specs.Laws.Recount.{recount_beside}
use Rattle.pages.specs.Pages.{taken_at, with_taken}
use Rattle.outcomes.specs.Store.{Store, frames, regions, pages, roomy, size}
use Rattle.outcomes.specs.History.{History, begin}
use Rattle.outcomes.specs.Shape.{Sized}
use Rattle.outcomes.specs.Outcome.{page_for, allocated, fill_slot, pop_frame, pointed, write_word, recounted, deleted, Accepted, Answered, Outcome, refusal as store_refusal}
use Rattle.outcomes.proofs.Laws.Decided.{is_sound}
use Rattle.promises.specs.Promises.{Refusals}
use Rattle.promises.specs.Laws.Sizes.{keeps_size}
use Rattle.promises.specs.Laws.Refused.{refusals}
use Rattle.refinement.specs.Represents.{Represents}
use Rattle.outcomes.specs.Runs.{Event, calls, answers, Run, done, step}
use Rattle.refinement.specs.Laws.Tags.{unused_free}
use Rattle.refinement.specs.Laws.Reads.{top_frame_lem, frame_small}
use Rattle.refinement.specs.Laws.Refusals.{refusals_agree}
use Rattle.refinement.specs.Laws.Slots.{first_step, copy_step, fetch_step, clear_step, load_step, get_step, view_step, same_step, about_step, ask_step, totals_step}
use Rattle.refinement.specs.Laws.Stack.{push_step, drop_step, hand_step}
use Rattle.refinement.specs.Laws.Words.{put_step, pointer_step}
use Rattle.refinement.specs.Laws.Grow.{declare_step, new_step, sub_step}
use Rattle.refinement.specs.Laws.Allocate.{joined, page_of_new, allocated_represents}
use Rattle.refinement.specs.Laws.Report.{report_step}
use Rattle.refinement.specs.Laws.Delete.{delete_step, delete_all_step}
use Rattle.audited.specs.Laws.Audited.{audited}
use Rattle.audited.specs.Laws.Good.{Good, lists, lists_pages}
use Rattle.demands.specs.Told.{told, slot_after, note, note_by, history, born, popped, object_made}
use Rattle.histories.specs.Laws.Tells.{Tells, frames_length}
use Rattle.histories.specs.Laws.TellsPages.{TellsPages}
use Rattle.demands.proofs.Laws.Kept.{declare_told, fill_told, push_told, pop_told, write_told, region_told, remove_told, object_told}
use Rattle.demands.proofs.Laws.KeptPages.{same_pages, named_pages, ended_pages, placed_pages}

-- the store S stands for the valid model L of N pages, and h tells of both
pub record Told (N : ℕ) (L : Model) (S : Store) (h : History) : Type 0 where
  pub good : Good N L S
  pub tells : Tells L good.places h
  pub held : TellsPages h (regions S).names (pages S)

-- ---- names do not change with counts

popped_names : (S : Store) (f : ℕ) → (regions (pop_frame S f)).names ≡ (regions S).names
unfolding pop_frame recounted
popped_names S f = (recount_beside _ _ _ _).names

pointed_names : (S : Store) (v w x f : ℕ) → (regions (pointed S v w x f)).names ≡ (regions S).names
unfolding pointed write_word recounted
pointed_names S v w x f = (recount_beside _ _ _ _).names

deleted_names : (S : Store) (rs : List ℕ) (f : ℕ) → (regions (deleted S rs f)).names ≡ cleared_at (regions S).names (map (entry_of (regions S)) rs)
unfolding deleted recounted without_regions
deleted_names S rs f = ap (λ l. cleared_at l (map (entry_of (regions S)) rs)) (recount_beside _ _ _ _).names

-- ---- allocate: what the slot then shows

module _ {L : Model} {sp : List ℕ} {ids : ℕ → List ℕ} {S : Store} (rep : Represents L sp ids S) where
  -- the slot then holds the pointer of the object made on page j
  pub slot_after_is : Valid L → Sized S → {h : History} → Tells L sp h → (s i k j : ℕ) → no_frame L ≡ false → lacks (top L) s ≡ false
      → slot_after h (allocated S s i k j) s ≡ 64 * j + pick (roomy S i (size S k)) (taken_at (pages S) j) 0 + 1
  unfolding allocated fill_slot put_slot slot_at
  slot_after_is v sh {h} t s i k j n m =
      let e : length h.frames - 1 ≡ top_frame (frames S) = ap (λ n. n - 1) (frames_length t) ∙ sym (top_frame_lem rep.on_frames) in
      let b : 8 * top_frame (frames S) + s < length (frames S).slots =
      omega (arith, top_frame_lem rep.on_frames, v.frames.many, eqb-false (length L.frames) 0 n, leb-false (length (top L)) s m, frame_small L.frames v.frames.sized (top_place L.frames), sh.in_frames.slots) in
      rw e (get_or-set_same (frames S).slots (8 * top_frame (frames S) + s) _ 0 b)

-- ---- accepted calls

module _ {N : ℕ} {L : Model} {S : Store} {h : History} (k : Told N L S h) (a : Answer) (T : Store) where
  abbrev g : Good N L S
  g = k.good

  v : Valid L
  v = g.valid

  sh : Sized S
  sh = g.sized

  rep : Represents L g.places g.on_page S
  rep = g.represents

  t : Tells L g.places h
  t = k.tells

  u : TellsPages h (regions S).names (pages S)
  u = k.held

  small : (r : ℕ) → stored L r ≤ 16640
  small = stored_bound L v g.paged g.few

  -- the model's answer, and places for the objects of its next
  abbrev After : Call → Store → Type 0
  After c T = (a ≡ reply L c) × (sp : List ℕ) × (ids : ℕ → List ℕ) × Represents (accepted L c) sp ids T × Tells (accepted L c) sp (told c a.values T h) × TellsPages (told c a.values T h) (regions T).names (pages T)

  -- places that stay
  stays : (c : Call) → (a ≡ reply L c) × Represents (accepted L c) g.places g.on_page T → Tells (accepted L c) g.places (told c a.values T h)
      → TellsPages (told c a.values T h) (regions T).names (pages T) → After c T
  stays c r q p = (r.0, g.places, g.on_page, r.1, q, p)

  born_pages : length L.regions < 64 → (n w x : ℕ) → TellsPages (born h w x) (set (regions S).names (unused (regions S)) n) (pages S)
  unfolding born
  born_pages l n w x = same_pages refl refl refl (named_pages rep.on_regions rep.on_pages u (unused (regions S)) n (unused_free rep.on_regions l).1)

  allocate_told : (s r k : ℕ) → refusal L (allocate s r k) ≡ 0 → a ≡ gives []
      → let i = entry_of (regions S) r in After (allocate s r k) (allocated S s i k (page_for S i (size S k)))
  unfolding checks reply accepted told allocated fill_slot with_page tag_of
  allocate_told s r k e b =
      let i = entry_of (regions S) r in
      let j = page_for S i (size S k) in
      let x = 64 * j + pick (roomy S i (size S k)) (taken_at (pages S) j) 0 in
      let T = allocated S s i k j in
      let w = passed L (allocate s r k) e in
      let l = not-false (lives_in L r) w.1.1.0 in
      let f = page_of_new L g.places g.on_page S v sh rep r k l s e in
      let y : x / 64 ≡ j = omega (arith, f.2) in
      let n = add-one x in
      let z = slot_after_is rep v sh t s i k j w.0 w.1.0 ∙ n in
      let on = joined L g.places g.on_page S v sh rep r k l in (
        b,
        g.places ++ (suc x ∷ []),
        on,
        subst (λ o. Represents (accepted L (allocate s r k)) (g.places ++ (o ∷ [])) on T) n (allocated_represents L g.places g.on_page S v sh rep r k l s e),
        subst⁻¹ (λ o. Tells (accepted L (allocate s r k)) (g.places ++ (suc x ∷ [])) (object_made h r k o)) z (fill_told (object_told t r k x l rep.on_objects.known) s _),
        subst⁻¹ (λ o. TellsPages (object_made h r k o) (regions S).names (pages T)) z (subst (λ j. TellsPages (object_made h r k (suc x)) (regions S).names (with_taken (pages S) j (tag_of (regions S) r) (pick (roomy S i (size S k)) (taken_at (pages S) j) 0 + size S k))) y
            (placed_pages rep.on_regions rep.on_pages u r l k _ x (omega (arith, y, f.1, rep.on_pages.most, sh.in_pages.owners)) (omega (arith, y, f.1)) (rw y (⊎_elim inl (λ z. inr z.0) f.0)))),
      )

  accepted_told : (c : Call) → refusal L c ≡ 0 → Accepted c S a T → After c T
  unfolding Accepted accepted told fill_slot pop_frame pointed write_word recounted with_region without_regions deleted popped born reply checks
  accepted_told (declare ms) e q = stays (declare ms) (declare_step L _ _ S v sh rep ms e a T q) (declare_told t ms) (rw q.1 (same_pages refl refl refl u))
  accepted_told new_region e q =
      let n = new_step L _ _ S v sh rep e a T q in
      stays new_region n (rw n.0 (region_told t v 0 1)) (rw q.1 (born_pages (leb-false 64 (length L.regions) (passed L new_region e).0) _ _ 0))
  accepted_told (subregion r) e q =
      let n = sub_step L _ _ S v sh rep r e a T q in
      stays (subregion r) n (rw n.0 (region_told t v r _)) (rw q.1 (born_pages (leb-false 64 (length L.regions) (passed L (subregion r) e).1.1.0) _ _ r))
  accepted_told (push n) e q = stays (push n) (push_step L _ _ S v rep a T sh n e q) (push_told t n) (rw q.1 (same_pages refl refl refl u))
  accepted_told (drop_frame f) e q = stays (drop_frame f) (drop_step L _ _ S v rep a T small f e q) (pop_told t v) (rw (q.1, popped_names S f) (same_pages refl refl refl u))
  accepted_told (hand_back s b f) e q = stays (hand_back s b f) (hand_step L _ _ S v rep a T sh small s b f e q) (fill_told (pop_told t v) b _) (rw (q.1, popped_names S f) (same_pages refl refl refl u))
  accepted_told (allocate s r k) e q = rw q.1 (allocate_told s r k e q.0)
  accepted_told (first s r) e q = stays (first s r) (first_step L _ _ S v rep a T sh s r e q) (fill_told t s _) (rw q.1 u)
  accepted_told (copy s d) e q = stays (copy s d) (copy_step L _ _ S v rep a T sh s d e q) (fill_told t d _) (rw q.1 u)
  accepted_told (fetch b s) e q = stays (fetch b s) (fetch_step L _ _ S v rep a T sh b s e q) (fill_told t s _) (rw q.1 u)
  accepted_told (clear s) e q = stays (clear s) (clear_step L _ _ S v rep a T sh s e q) (fill_told t s _) (rw q.1 u)
  accepted_told (load s w d) e q = stays (load s w d) (load_step L _ _ S v rep a T sh s w d e q) (fill_told t d _) (rw q.1 u)
  accepted_told (set_pointer s w x f) e q = stays (set_pointer s w x f) (pointer_step L _ _ S v rep a T small s w x f e q) (write_told t s w _) (rw (q.1, pointed_names S _ _ _ f) u)
  accepted_told (put s w x) e q = stays (put s w x) (put_step L _ _ S v rep a T s w x e q) (write_told t s w x) (rw q.1 u)
  accepted_told (get s w) e q = stays (get s w) (get_step L _ _ S v rep a T s w e q) t (rw q.1 u)
  accepted_told (view s) e q = stays (view s) (view_step L _ _ S v rep a T s e q) t (rw q.1 u)
  accepted_told (same s d) e q = stays (same s d) (same_step L _ _ S v rep a T s d e q) t (rw q.1 u)
  accepted_told (about s) e q = stays (about s) (about_step L _ _ S v rep a T s e q) t (rw q.1 u)
  accepted_told (report r) e q = stays (report r) (report_step L _ _ S v rep a T r (outside_bound L v g.paged g.few) e q) t (rw q.1 u)
  accepted_told totals e q = stays totals (totals_step L _ _ S v rep a T q) t (rw q.1 u)
  accepted_told audit e q = stays audit (q.0 ∙ ap (λ b. gives (bit b ∷ [])) (is_sound S (audited S v rep sh)), rw q.1 rep) t (rw q.1 u)
  accepted_told (delete r f) e q =
      let m = removable_one L r f e in
      stays (delete r f) (delete_step L _ _ S v rep a T r f (outside_bound L v g.paged g.few) e q) (remove_told t (r ∷ []))
      (rw (q.1, deleted_names S (r ∷ []) f) (ended_pages rep.on_regions rep.on_pages u (r ∷ []) m.live m.distinct))
  accepted_told (delete_all rs f) e q =
      let m = removable_all L rs f e in
      stays (delete_all rs f) (delete_all_step L _ _ S v rep a T rs f (outside_bound L v g.paged g.few) e q) (remove_told t rs)
      (rw (q.1, deleted_names S rs f) (ended_pages rep.on_regions rep.on_pages u rs m.live m.distinct))
  accepted_told (ask x) e q = stays (ask x) (ask_step L _ _ S v rep a T x e q) t (rw q.1 u)

-- ---- any call

-- the store refuses just what the model does, by the same number
pub agree : {N : ℕ} {L : Model} {S : Store} {h : History} → Told N L S h → (c : Call) → store_refusal S c ≡ refusal L c
agree {N} {L} k = refusals_agree k.good.valid k.good.represents (outside_bound L k.good.valid k.good.paged k.good.few)

pub told_step : {N : ℕ} {L : Model} {S : Store} {h : History} → Told N L S h → (e : Event) → Outcome e.call S e.answer e.left
    → (e.answer ≡ answer L e.call) × Told N (next L e.call) e.left (note e h)
unfolding Outcome answer next note Refusals
told_step {N} {L} {S} {h} k e o = subst⁻¹ (λ n. (e.answer ≡ answer_by (refusal L e.call) L e.call) × Told N (next L e.call) e.left (note_by n e h)) ((refusals e.call S e.answer e.left o).0 ∙ agree k e.call)
    (go (refusal L e.call) refl (subst (λ n. Answered n e.call S e.answer e.left) (agree k e.call) o))
  where
    whole : (n : ℕ) → refusal L e.call ≡ n → (sp : List ℕ) (ids : ℕ → List ℕ) → Represents (next_by n L e.call) sp ids e.left → Tells (next_by n L e.call) sp (note_by n e h)
        → TellsPages (note_by n e h) (regions e.left).names (pages e.left) → Told N (next_by n L e.call) e.left (note_by n e h)
    whole n q sp ids r t u = record {
      good = record {
        places = sp;
        on_page = ids;
        few = k.good.few;
        valid = subst (λ n. Valid (next_by n L e.call)) q (next_valid L e.call k.good.valid);
        paged = subst (λ n. Paged N (next_by n L e.call)) q (next_paged L k.good.valid k.good.paged e.call);
        sized = keeps_size e.call S e.answer e.left k.good.sized o;
        represents = r;
      };
      tells = t;
      held = u;
    }

    go : (n : ℕ) → refusal L e.call ≡ n → Answered n e.call S e.answer e.left → (e.answer ≡ answer_by n L e.call) × Told N (next_by n L e.call) e.left (note_by n e h)
    go zero q w = let r = accepted_told k e.answer e.left e.call q w in (r.0, whole zero q r.1 r.2 r.3 r.4 r.5)
    go (suc n) q w = (w.0, whole (suc n) q k.good.places k.good.on_page (rw w.1 k.good.represents) k.tells (rw w.1 k.held))

-- ---- any run

pub run_told : {N : ℕ} {L : Model} {S T : Store} {h : History} {es : List Event} → Told N L S h → Run S es T → (answers es ≡ run L (calls es)) × Told N (after L (calls es)) T (history h es)
unfolding run
run_told k done = (refl, k)
run_told {N = N} {L = L} {h = h} k (step {S = S} {U = U} {e = e} {es = es} o r) =
    let f = told_step k e o in
    let m = run_told {L = next L e.call} f.1 r in
    (ap₂ ◌∷◌ f.0 m.0, m.1)

-- a store that stands for a valid model begins a history that tells of both; so it answers as the model does, and stands for the model's next
pub begins : {N : ℕ} {L : Model} {S : Store} → Good N L S → Told N L S (begin S)
begins g = record { good = g; tells = lists g; held = lists_pages g }

pub run_follows : {N : ℕ} {L : Model} {S T : Store} {es : List Event} → Good N L S → Run S es T → (answers es ≡ run L (calls es)) × Good N (after L (calls es)) T
run_follows g r = let k = run_told (begins g) r in (k.0, k.1.good)
