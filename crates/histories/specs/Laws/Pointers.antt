-- The pointers of a store that represents a model, read by a history that tells of it: they lead where the model's do, keep their marks' rules, and are counted alike.
-- Assumes nothing.
use Rattle.std.specs.Prelude.{◌≡◌, ◌&&◌, ◌||◌, leb, take}
use Rattle.std.proofs.Math.Path.{refl, ap, ap₂, fun_ext}
use Rattle.std.proofs.Common.{◌∙◌, arith}
use Rattle.std.proofs.Math.Bool.{Bool, true, false, not}
use mathlib.Core.List.{List, [], map}
use Prim.Native.Nat.{ℕ, ◌+◌, ◌-◌, ◌≤◌, ◌<◌, min}
use Rattle.std.proofs.Math.Dec.{eqb}
use Rattle.std.proofs.Math.ListN.{length, get_or}
use borrow.Author.Tests.{eqb-true, ne_eqb, not-true}
use Rattle.lists.specs.Lists.{bit, pick, every, keep, sum_of, up_to, among}
use Rattle.lists.specs.Laws.Tests.{by_test, both, or_right, pick_same}
use Rattle.lists.specs.Laws.All.{all_map, all_change, all₂_in}
use Rattle.lists.specs.Laws.Sums.{sum_map, sum_keep}
use Rattle.lists.specs.Laws.Finds.{true_every, all_keep, get_d_map_in}
use Rattle.lists.specs.Laws.UpTo.{all_up_to, each_every, sum_below, sum_part, sum_places, sum₂_places}
use Rattle.model.specs.Model.{Model, object, marks, lives_in, home_in, into, free_into, rule, allowed, in_frames, from_object, in_words, word_pointers, outside, stored, outside_but}
use Rattle.model.specs.Valid.{Valid, known}
use Rattle.model.proofs.Laws.Slots.{Known, slot_known, object_valid}
use Rattle.frames.specs.Frames.{slot_at}
use Rattle.outcomes.specs.Store.{Store, frames, regions, pages}
use Rattle.outcomes.specs.History.{History, Word, slots_of, pointers_of, leads, home_of, above_of, slots_leading_to, words_leading_to, uncounted_into, slots_lead, words_lead}
use Rattle.outcomes.specs.History as history
use Rattle.refinement.specs.Represents.{spot, Alive, words_in, ids_in, FramesAgree, ObjectsAgree}
use Rattle.refinement.specs.Laws.Reads.{by_known, spot_zero}
use Rattle.refinement.specs.Laws.Counts.{word_known}
use Rattle.refinement.specs.Laws.Walks.{marks_in}
use Rattle.refinement.specs.Laws.Report.{weight, ids_objects}
use Rattle.lists.specs.Laws.Kept.{sum_above}
use Rattle.histories.specs.Laws.Tells.{met, Tells, frames_length, each_met, above_is, leads_to, home_is}

module _ {L : Model} {sp : List ℕ} {ids : ℕ → List ℕ} {h : History} (S : Store) (t : Tells L sp h) (v : Valid L) (on_frames : FramesAgree sp L.frames L.counted (frames S))
    (on_objects : ObjectsAgree L sp ids (regions S) (pages S) S.heap) where
  -- ---- slots

  width_is : (i : ℕ) → i < length L.frames → get_or h.frames i 0 ≡ length (get_or L.frames i [])
  width_is i k = ap (λ l. get_or l i 0) t.frames ∙ get_d_map_in length L.frames i 0 [] k

  pub pointer_leads : (q : ℕ) → Known L q → (eqb (spot sp q) 0 || leads h (spot sp q)) ≡ true
  pointer_leads q k = by_known L q k (λ e. rw e) (λ l. or_right (eqb (spot sp q) 0) (leads h (spot sp q)) (leads_to t v on_objects q l))

  pub slots_lead_lem : slots_lead h S ≡ true
  unfolding slots_lead slots_of
  slots_lead_lem = each_every _ (length h.frames) (λ i k.
      let l : i < length L.frames = omega (arith, frames_length t) in
      let f = get_or L.frames i [] in
      rw (width_is i l) (true_every _ (map (slot_at (frames S) i) (up_to (length f))) (all_change (λ s. (eqb (slot_at (frames S) i s) 0 || leads h (slot_at (frames S) i s)) ≡ true) _ (slot_at (frames S) i) (λ s e. e) (up_to (length f))
      (all_up_to _ (length f) (λ s m. rw (on_frames.slots i s l m) (pointer_leads (get_or f s 0) (slot_known L v i s)))))))

  module _ (r : ℕ) where
    slots_into_lem : (i : ℕ) → i < length L.frames → slots_leading_to h S r i ≡ sum_of (into (home_in L) r) (get_or L.frames i [])
    unfolding slots_leading_to slots_of
    slots_into_lem i k =
        let f = get_or L.frames i [] in
        rw (width_is i k)
        (sum_map (λ x. bit (eqb (home_of h x) r)) (slot_at (frames S) i) (up_to (length f))
        ∙ sum_below _ (λ s. into (home_in L) r (get_or f s 0)) (length f) (λ s m. ap (λ x. bit (eqb x r)) (ap (home_of h) (on_frames.slots i s k m) ∙ home_is t v on_objects (get_or f s 0) (slot_known L v i s)))
        ∙ sum_places (into (home_in L) r) f 0)

    slots_are : sum_of (slots_leading_to h S r) (up_to (length L.frames)) ≡ in_frames (home_in L) r L.frames
    unfolding in_frames
    slots_are = sum_below _ _ (length L.frames) slots_into_lem ∙ sum_places (sum_of (into (home_in L) r)) L.frames []

    counted_slots : sum_of (slots_leading_to h S r) (up_to L.counted) ≡ in_frames (home_in L) r (take L.counted L.frames)
    unfolding in_frames
    counted_slots =
        let l : L.counted ≤ length L.frames = omega (arith, v.frames.mark) in
        sum_below _ _ L.counted (λ i k. slots_into_lem i (omega arith)) ∙ sum_part (sum_of (into (home_in L) r)) L.frames [] 0 L.counted L.counted (omega arith) l

  -- ---- words

  word_value : (q : ℕ) → Alive L q → (w : ℕ) → w < length (marks_in L q) → eqb (get_or (marks_in L q) w 0) 0 ≡ false
      → (get_or S.heap (spot sp q - 1 + 1 + w) 0 ≡ spot sp (get_or (words_in L q) w 0)) × Known L (get_or (words_in L q) w 0)
  word_value q l w k z =
      let e : spot sp q - 1 + 1 ≡ spot sp q = omega (arith, (on_objects.laid q l).placed) in
      let m : w < length (words_in L q) = omega (arith, (object_valid L v q l).sized) in
      (rw e ((on_objects.laid q l).words w m ∙ rw z), word_known L v q w l m z)

  -- word w of object q, as the history reads it, and all its pointers
  abbrev word_marked : ℕ → ℕ → Word
  word_marked q w = record { mark = get_or (marks_in L q) w 0; value = get_or S.heap (spot sp q - 1 + 1 + w) 0 }

  pointers_are : (q : ℕ) → pointers_of h S (met L sp q) ≡ keep (λ w. not (eqb w.mark 0)) (map (word_marked q) (up_to (length (marks_in L q))))
  unfolding pointers_of
  pointers_are q = ap (λ ks.
      let ms = marks ks (object L.objects q).kind in
      keep (λ w. not (eqb w.mark 0)) (map (λ w. record { mark = get_or ms w 0; value = get_or S.heap (spot sp q - 1 + 1 + w) 0 }) (up_to (length ms)))) t.kinds

  pub words_lead_lem : words_lead h S ≡ true
  unfolding words_lead allowed
  words_lead_lem = each_met t _ (λ q l.
      let test : Word → Bool = λ w. eqb w.value 0 || (leads h w.value && rule w.mark (home_of h w.value) (home_in L q) (above_of h (home_in L q))) in
      let all = map (word_marked q) (up_to (length (marks_in L q))) in
      ap (every test) (pointers_are q) ∙ true_every test (keep (λ w. not (eqb w.mark 0)) all) (all_map (λ x k. k.0 k.1) (keep (λ w. not (eqb w.mark 0)) all)
      (all_keep (λ x. not (eqb x.mark 0) ≡ true → test x ≡ true) _ all (all_change (λ w. not (eqb (get_or (marks_in L q) w 0) 0) ≡ true → test (word_marked q w) ≡ true) _ (word_marked q) (λ w e. e) (up_to (length (marks_in L q)))
      (all_up_to _ (length (marks_in L q)) (λ w k z. word q l w k (not-true (eqb (get_or (marks_in L q) w 0) 0) z)))))))
    where
      word : (q : ℕ) → Alive L q → (w : ℕ) → w < length (marks_in L q) → eqb (get_or (marks_in L q) w 0) 0 ≡ false
          → (eqb (get_or S.heap (spot sp q - 1 + 1 + w) 0) 0
          || (leads h (get_or S.heap (spot sp q - 1 + 1 + w) 0) && rule (get_or (marks_in L q) w 0) (home_of h (get_or S.heap (spot sp q - 1 + 1 + w) 0)) (home_in L q) (above_of h (home_in L q)))) ≡ true
      word q l w k z =
          let x = get_or (words_in L q) w 0 in
          let o = object_valid L v q l in
          let n = word_value q l w k z in
          let f = both (known (lives_in L) (home_in L) x) _ (rw z at (all₂_in _ (marks_in L q) (words_in L q) w 0 0 (o.fine_words l) k (omega (arith, o.sized)))) in
          rw (n.0, home_is t v on_objects x n.1, above_is t v (home_in L q) l, spot_zero on_objects x n.1) (by_test (eqb x 0) (λ e. rw e) (λ e.
          rw (e, rw (spot_zero on_objects x n.1, e) at (pointer_leads x n.1), rw e at f.1)))

  module _ (r : ℕ) where
    words_into_lem : (q : ℕ) → Alive L q → words_leading_to h S r (met L sp q) ≡ pick (eqb (home_in L q) r) 0 (weight L r q)
    unfolding words_leading_to
    words_into_lem q l =
        let f : Word → ℕ = λ w. bit (eqb w.mark 1 && eqb (home_of h w.value) r) in
        let ms = marks_in L q in
        ap (pick (eqb (home_in L q) r) 0)
        (ap (sum_of f) (pointers_are q)
        ∙ sum_keep f (λ w. not (eqb w.mark 0)) (map (word_marked q) (up_to (length ms)))
        ∙ sum_map (λ w. pick (not (eqb w.mark 0)) (f w) 0) (word_marked q) (up_to (length ms))
        ∙ sum_below _ (λ w. free_into (home_in L) r (get_or ms w 0) (get_or (words_in L q) w 0)) (length ms) (each q l)
        ∙ sum₂_places (free_into (home_in L) r) ms (words_in L q) 0 0 (object_valid L v q l).sized)
      where
        each : (q : ℕ) → Alive L q → (w : ℕ) → w < length (marks_in L q)
            → pick (not (eqb (get_or (marks_in L q) w 0) 0)) (bit (eqb (get_or (marks_in L q) w 0) 1 && eqb (home_of h (get_or S.heap (spot sp q - 1 + 1 + w) 0)) r)) 0
            ≡ free_into (home_in L) r (get_or (marks_in L q) w 0) (get_or (words_in L q) w 0)
        each q l w k = by_test (eqb (get_or (marks_in L q) w 0) 1)
            (λ e.
            let z = ne_eqb (get_or (marks_in L q) w 0) 0 (λ z. omega (arith, eqb-true (get_or (marks_in L q) w 0) 1 e)) in
            let n = word_value q l w k z in
            rw (z, e, n.0, home_is t v on_objects (get_or (words_in L q) w 0) n.1))
            (λ e. rw e (pick_same {A = ℕ} (not (eqb (get_or (marks_in L q) w 0) 0)) 0))

    -- the words of all objects but those of some regions
    words_but : (gone : ℕ → Bool) → sum_of (λ o. pick (gone o.home) 0 (words_leading_to h S r o)) h.objects ≡ sum_of (λ o. pick (gone o.home) 0 (from_object (lives_in L) (home_in L) L.kinds r o)) L.objects
    unfolding from_object
    words_but gone =
        t.objects (λ o. pick (gone o.home) 0 (words_leading_to h S r o))
        ∙ ap (λ f. sum_of f (ids_in L)) (fun_ext (λ q. past (lives_in L (home_in L q)) (gone (home_in L q)) _ ∙ ap (pick (gone (home_in L q)) 0) (each q)))
        ∙ ids_objects L (λ o. pick (gone o.home) 0 (from_object (lives_in L) (home_in L) L.kinds r o))
      where
        past : (a b : Bool) (n : ℕ) → pick a (pick b 0 n) 0 ≡ pick b 0 (pick a n 0)
        past true b n = refl
        past false true n = refl
        past false false n = refl

        each : (q : ℕ) → pick (lives_in L (home_in L q)) (words_leading_to h S r (met L sp q)) 0 ≡ from_object (lives_in L) (home_in L) L.kinds r (object L.objects q)
        each q = by_test (lives_in L (home_in L q)) (λ l. rw (l, words_into_lem q l) (go (eqb (home_in L q) r))) (λ l. rw l)
          where
            go : (b : Bool) → pick b 0 (weight L r q) ≡ pick (not b) (weight L r q) 0
            go true = refl
            go false = refl

    words_are : sum_of (words_leading_to h S r) h.objects ≡ word_pointers L r
    unfolding in_words
    words_are = words_but (λ q. false)

    -- ---- outside pointers, and those that the stored count leaves out

    pub outside_is : history.outside h S r ≡ outside L r
    unfolding history.outside outside
    outside_is = rw (frames_length t, slots_are r, words_are) (omega arith)

    pub outside_but_is : (rs : List ℕ) → history.outside_but h S rs r ≡ outside_but L rs r
    unfolding history.outside_but outside_but
    outside_but_is rs = rw (frames_length t, slots_are r, words_but (λ q. among q rs)) (omega arith)

    pub uncounted_is : stored L r + uncounted_into h S r ≡ outside L r
    unfolding uncounted_into stored outside
    uncounted_is =
        let e : min L.counted (length L.frames) ≡ L.counted = omega (arith, v.frames.mark) in
        let c = ap₂ (λ m n. sum_of (λ i. pick (leb m i) (slots_leading_to h S r i) 0) (up_to n)) t.counted (frames_length t) in
        omega (arith, c, rw (e, counted_slots r, slots_are r) at (sum_above (slots_leading_to h S r) L.counted (length L.frames)))
