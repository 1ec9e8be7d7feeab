-- How each change of a model changes the stored count of every region, and its outside pointers.
-- Assumes nothing.
use Rattle.std.specs.Prelude.{◌≡◌, ◌≢◌, Bool, not, ◌&&◌, ◌||◌, List, [], ◌∷◌, ◌++◌, leb, length, get_or, set, take, drop, replicate}
use Rattle.std.proofs.Math.Path.{refl, sym, ap, fun_ext}
use Rattle.std.proofs.Common.{◌∙◌, length-take, drop_of_length-le, length-take-le, take-take, take-suc, drop_at}
use Rattle.std.proofs.Math.Bool.{true, false, true≢false}
use Prim.Native.Nat.{ℕ, zero, suc, ◌+◌, ◌-◌, ◌≤◌, ◌<◌}
use native.Mathlib.Omega.{arith}
use Rattle.std.proofs.Math.Dec.{eqb}
use Rattle.std.proofs.Math.Seq.{drop-nil}
use Rattle.std.proofs.lemmas.List.{take-set-le, take-append-le}
use borrow.Author.Tests.{eqb-true, eqb-false, eq-eqb, ne_eqb, lt-leb, le-leb}
use Rattle.lists.specs.Lists.{bit, pick, sum_of, sum_of₂, All, times, among}
use Rattle.lists.specs.Laws.Tests.{both, by_test, pick_same, pick_not}
use Rattle.lists.specs.Laws.All.{all_map, all_take, all₂_map}
use Rattle.lists.specs.Laws.Sums.{sum_set, sum_append, sum_split, sum_plus, sum_pick, sum_same, sum₂_set, sum₂_same, sum₂_none}
use Rattle.lists.specs.Laws.Kept.{sum_members}
use Rattle.model.specs.Model.{Model, Object, Region, no_object, object, live, home_of, marks, lives_in, home_in, top_place, top, beneath, slot, in_slot, into, free_into, from_object, in_words, in_frames, word_pointers, outside, stored, allowed, declare}
use Rattle.model.specs.Calls.{accepted, with_frames, fill_slot, pop_frame, replaced, with_word, write_word, add_region, add_object, page_for, word_for, remove_regions, others, size, null}
use Rattle.model.specs.Valid.{Valid, ValidObject, known, fine}
use Rattle.model.specs.Moves.{between, uncounted, newly, weighs, from_region, from_regions}
use Rattle.model.proofs.Laws.Slots.{in_list, object_valid, slot_lives}
use Rattle.model.proofs.Laws.Regions.{live_others, live_removed, homes_kept}
use Rattle.model.proofs.Laws.Removable.{Removable, member_lives}
use Rattle.model.proofs.Laws.Grows.{Extends, region_extends, object_extends, marks_append, change}

-- the outside pointers are those of the stored count and those in uncounted frames
pub outside_stored : (L : Model) (r : ℕ) → outside L r ≡ stored L r + in_frames (home_in L) r (drop L.counted L.frames)
unfolding outside stored in_frames
outside_stored L r = omega (arith, sum_split (sum_of (into (home_in L) r)) L.counted L.frames)

-- ---- frames: the top one is not counted

frames_split : (home : ℕ → ℕ) (r k m : ℕ) (fs : List (List ℕ)) → k ≤ m → in_frames home r (take m fs) ≡ in_frames home r (take k fs) + in_frames home r (between k m fs)
unfolding in_frames
frames_split home r k m fs h = rw (sum_split (sum_of (into home r)) k (take m fs), take-take k m fs h)

module _ (L : Model) (r : ℕ) (v : Valid L) where
  pub fill_stored : (s p : ℕ) → stored (fill_slot L s p) r ≡ stored L r
  unfolding stored fill_slot
  fill_stored s p = rw (take-set-le L.counted L.frames (top_place L.frames) (set (top L) s p) v.frames.mark)

  pub push_stored : (f : List ℕ) → stored (with_frames L (L.frames ++ (f ∷ [])) L.counted) r ≡ stored L r
  unfolding stored
  push_stored f = rw (take-append-le L.counted L.frames (f ∷ []) (omega (arith, v.frames.mark)))

  pub pop_stored : stored (pop_frame L) r + in_frames (home_in L) r (uncounted L) ≡ stored L r
  unfolding stored pop_frame uncounted
  pop_stored = go (pick (leb (top_place L.frames) L.counted) (L.counted - 1) L.counted) (lower (leb (top_place L.frames) L.counted))
    where
      lower : (b : Bool) → pick b (L.counted - 1) L.counted ≤ L.counted
      lower true = omega arith
      lower false = omega arith

      go : (k : ℕ) → k ≤ L.counted
          → word_pointers L r + in_frames (home_in L) r (take k (take (top_place L.frames) L.frames)) + in_frames (home_in L) r (between k L.counted L.frames)
          ≡ word_pointers L r + in_frames (home_in L) r (take L.counted L.frames)
      go k h = rw (take-take k (top_place L.frames) L.frames (omega (arith, v.frames.mark)), frames_split (home_in L) r k L.counted L.frames h) (omega arith)

-- Removing a frame leaves the counts if no frame was counted, or not the new top; and takes the new top's slots out if it was.
pub zero_uncounted : (L : Model) → L.counted ≡ 0 → uncounted L ≡ []
unfolding uncounted
zero_uncounted L e = let k = (pop_frame L).counted in ap (λ m. drop k (take m L.frames)) e ∙ drop-nil k

pub none_uncounted : (L : Model) → L.counted < top_place L.frames → uncounted L ≡ []
unfolding uncounted pop_frame
none_uncounted L h = rw (lt-leb (top_place L.frames) L.counted h) (drop_of_length-le (take L.counted L.frames) {i = L.counted} (simp length-take (omega arith)))

pub top_uncounted : (L : Model) (n : ℕ) → top_place L.frames ≡ suc n → L.counted ≡ suc n → uncounted L ≡ beneath L ∷ []
unfolding uncounted pop_frame
top_uncounted L n e m =
    let b : length L.frames - 2 ≡ n = omega arith in
    let d : suc n - 1 ≡ n = omega arith in
    rw (e, m, le-leb (suc n) (suc n) (omega arith), d, b, take-suc L.frames n [] (omega arith))
    (drop_at (take n L.frames) (get_or L.frames n [] ∷ []) n (length-take-le n L.frames (omega arith)))

-- ---- set pointer, put: the word's old value leaves, and the new one enters

module _ (lives : ℕ → Bool) (home : ℕ → ℕ) (ks : List (List ℕ)) (r : ℕ) where
  -- what word w of object o adds if it holds x
  adds : Object → ℕ → ℕ → ℕ
  adds o w x = pick (eqb o.home r) 0 (free_into home r (get_or (marks ks o.kind) w 0) x)

  from_set : (o : Object) (w x : ℕ) → lives o.home ≡ true → length o.words ≡ length (marks ks o.kind) → w < length o.words
      → from_object lives home ks r (with_word o w x) + adds o w (get_or o.words w 0) ≡ from_object lives home ks r o + adds o w x
  unfolding from_object adds
  from_set o w x l e h = rw l (go (eqb o.home r))
    where
      go : (b : Bool) → pick (not b) (sum_of₂ (free_into home r) (marks ks o.kind) (set o.words w x)) 0 + pick b 0 (free_into home r (get_or (marks ks o.kind) w 0) (get_or o.words w 0))
          ≡ pick (not b) (sum_of₂ (free_into home r) (marks ks o.kind) o.words) 0 + pick b 0 (free_into home r (get_or (marks ks o.kind) w 0) x)
      go true = refl
      go false = sum₂_set (free_into home r) (marks ks o.kind) o.words w x 0 0 (omega arith) h

  words_set : (os : List Object) (p w x : ℕ) → p ≢ 0 → p ≤ length os → lives (home_of os p) ≡ true
      → length (object os p).words ≡ length (marks ks (object os p).kind) → w < length (object os p).words
      → in_words lives home ks (replaced os p (with_word (object os p) w x)) r + adds (object os p) w (get_or (object os p).words w 0) ≡ in_words lives home ks os r + adds (object os p) w x
  unfolding in_words
  words_set os zero w x z i l e h = absurd (z refl)
  words_set os (suc p) w x z i l e h =
      let o = object os (suc p) in
      omega (arith, sum_set (from_object lives home ks r) os p (with_word o w x) no_object i, from_set o w x l e h)

module _ (L : Model) (r : ℕ) (v : Valid L) (s w x : ℕ) (n : null L s ≡ false) (k : w < length (in_slot L s).words) where
  write_words : word_pointers (write_word L s w x) r + weighs L s w r (get_or (in_slot L s).words w 0) ≡ word_pointers L r + weighs L s w r x
  unfolding write_word weighs adds
  write_words =
      let l = slot_lives L v s n in
      rw (homes_kept L.objects (slot L s) w x)
      (words_set (lives_in L) (home_in L) L.kinds r L.objects (slot L s) w x (eqb-false (slot L s) 0 n) (in_list L v (slot L s) l) l (object_valid L v (slot L s) l).sized k)

  pub write_stored : stored (write_word L s w x) r + weighs L s w r (get_or (in_slot L s).words w 0) ≡ stored L r + weighs L s w r x
  unfolding stored write_word
  write_stored = rw (homes_kept L.objects (slot L s) w x) (omega (arith, rw (homes_kept L.objects (slot L s) w x) at write_words))

-- ---- kinds, regions and objects are added: no count changes

pub declare_stored : (L : Model) (r : ℕ) → Valid L → (ms : List ℕ) → stored (accepted L (declare ms)) r ≡ stored L r
unfolding stored accepted in_words from_object
declare_stored L r v ms = ap (λ x. x + in_frames (home_in L) r (take L.counted L.frames))
    (sum_same _ _ L.objects (all_map (λ o s. rw (marks_append L.kinds ms o.kind s.kind.1)) L.objects v.objects))

module _ {lives lives₂ : ℕ → Bool} {parent parent₂ home home₂ : ℕ → ℕ} {given given₂ : ℕ} (m : Extends lives lives₂ parent parent₂ home home₂ given given₂) (z : home₂ 0 ≡ home 0) where
  home_moved : (p : ℕ) → known lives home p ≡ true → home₂ p ≡ home p
  home_moved p k = go (eqb p 0) refl k
    where
      go : (b : Bool) → eqb p 0 ≡ b → (b || lives (home p)) ≡ true → home₂ p ≡ home p
      go true q e = rw (eqb-true p 0 q) z
      go false q e = m.homes p e

  in_frames_moved : (fs : List (List ℕ)) (r : ℕ) → All (All (λ p. known lives home p ≡ true)) fs → in_frames home₂ r fs ≡ in_frames home r fs
  unfolding in_frames
  in_frames_moved fs r h = sum_same _ _ fs (all_map (λ f k. sum_same _ _ f (all_map (λ p e. ap (λ x. bit (eqb x r)) (home_moved p e)) f k)) fs h)

  lives_moved : (r : ℕ) → r ≤ given → lives₂ r ≡ lives r
  lives_moved r h = go (lives₂ r) refl (lives r) refl
    where
      go : (a : Bool) → lives₂ r ≡ a → (b : Bool) → lives r ≡ b → a ≡ b
      go true p b q = sym (m.back r h p) ∙ q
      go false p true q = sym p ∙ m.forth r q
      go false p false q = refl

  from_moved : (ks : List (List ℕ)) (r : ℕ) (o : Object) → ValidObject lives parent home ks given o → from_object lives₂ home₂ ks r o ≡ from_object lives home ks r o
  unfolding from_object
  from_moved ks r o s = rw (lives_moved o.home s.home_given) (go (lives o.home) refl)
    where
      word : (k p : ℕ) → fine lives parent home o.home k p ≡ true → free_into home₂ r k p ≡ free_into home r k p
      word k p f = go (eqb k 1) refl (eqb k 0) refl f
        where
          go : (b : Bool) → eqb k 1 ≡ b → (c : Bool) → eqb k 0 ≡ c → (c || (known lives home p && allowed parent home o.home k p)) ≡ true → pick b (into home₂ r p) 0 ≡ pick b (into home r p) 0
          go false q c q₂ f = refl
          go true q true q₂ f = absurd (omega (arith, eqb-true k 1 q, eqb-true k 0 q₂))
          go true q false q₂ f = ap (λ x. bit (eqb x r)) (home_moved p (both _ _ f).0)

      go : (b : Bool) → lives o.home ≡ b → pick (b && not (eqb o.home r)) (sum_of₂ (free_into home₂ r) (marks ks o.kind) o.words) 0
          ≡ pick (b && not (eqb o.home r)) (sum_of₂ (free_into home r) (marks ks o.kind) o.words) 0
      go true q = ap (λ x. pick (not (eqb o.home r)) x 0) (sum₂_same _ _ (marks ks o.kind) o.words (all₂_map word (marks ks o.kind) o.words (s.fine_words q)))
      go false q = refl

  in_words_moved : (ks : List (List ℕ)) (os : List Object) (r : ℕ) → All (ValidObject lives parent home ks given) os → in_words lives₂ home₂ ks os r ≡ in_words lives home ks os r
  unfolding in_words
  in_words_moved ks os r h = sum_same _ _ os (all_map (from_moved ks r) os h)

pub region_stored : (L : Model) (r : ℕ) → Valid L → (q l : ℕ) → stored (add_region L q l) r ≡ stored L r
unfolding stored add_region
region_stored L r v q l =
    let g : Region = record { name = L.given + 1; parent = q; level = l; newest = 0; room = 0; oldest = 0 } in
    ap (λ x. x + in_frames (home_in L) r (take L.counted L.frames)) (in_words_moved (region_extends L v g refl) refl L.kinds L.objects r v.objects)

words_append : (lives : ℕ → Bool) (home : ℕ → ℕ) (ks : List (List ℕ)) (os : List Object) (o : Object) (r : ℕ) → in_words lives home ks (os ++ (o ∷ [])) r ≡ in_words lives home ks os r + from_object lives home ks r o
unfolding in_words
words_append lives home ks os o r = omega (arith, sum_append (from_object lives home ks r) os (o ∷ []))

-- an object whose words are all 0 leads nowhere
from_new : (lives : ℕ → Bool) (home : ℕ → ℕ) (ks : List (List ℕ)) (r q k j w n : ℕ) → home 0 ≡ 0 → 0 < r → from_object lives home ks r (record { home = q; kind = k; page = j; word = w; words = replicate n 0 }) ≡ 0
unfolding from_object
from_new lives home ks r q k j w n z h = rw (sum₂_none (free_into home r) (marks ks k) n 0 none) (pick_same (lives q && not (eqb q r)) 0)
  where
    none : (k : ℕ) → free_into home r k 0 ≡ 0
    none k = rw (z, ne_eqb 0 r (λ e. omega arith)) (pick_same (eqb k 1) 0)

pub object_stored : (L : Model) (r : ℕ) → Valid L → 0 < r → (q k : ℕ) → stored (add_object L q k) r ≡ stored L r
unfolding stored add_object change
object_stored L r v h q k =
    let n = length (marks L.kinds k) in
    let j = page_for L q (size L k) in
    let w = word_for L q (size L k) in
    let o : Object = record { home = q; kind = k; page = j; word = w; words = replicate n 0 } in
    let m = object_extends L v q (size L k) (length L.objects + 1) j o in
    rw (
      words_append,
      in_frames_moved m refl (take L.counted L.frames) r (all_take _ L.counted L.frames v.frames.slots),
      in_words_moved m refl L.kinds L.objects r v.objects,
      from_new _ (home_of (L.objects ++ (o ∷ []))) L.kinds r q k j w n refl h,
    ) (omega arith)

-- ---- delete: the words of the members' objects leave, and the frames newly counted enter

module _ (L : Model) (v : Valid L) (rs : List ℕ) (m : Removable L rs) (r : ℕ) (n : among r rs ≡ false) where
  -- the words of object o that lead into r
  abbrev leading : Object → ℕ
  leading o = sum_of₂ (free_into (home_in L) r) (marks L.kinds o.kind) o.words

  from_removed : (o : Object) → from_object (live (others L.regions rs)) (home_in L) L.kinds r o + pick (among o.home rs) (leading o) 0 ≡ from_object (lives_in L) (home_in L) L.kinds r o
  unfolding from_object
  from_removed o = by_test (among o.home rs)
      (λ e. rw (e, live_removed L.regions rs o.home e, member_lives m o.home e, ne_eqb o.home r (λ q. true≢false (sym e ∙ ap (λ x. among x rs) q ∙ n))) (omega arith))
      (λ e. rw (e, live_others L.regions rs o.home e) (omega arith))

  remove_words : word_pointers (remove_regions L rs) r + from_regions L rs r ≡ word_pointers L r
  unfolding remove_regions from_regions from_region in_words
  remove_words =
      ap (λ x. word_pointers (remove_regions L rs) r + x) (sum_members (λ o. o.home) leading L.objects rs m.distinct)
      ∙ sym (sum_plus _ _ L.objects) ∙ ap (λ f. sum_of f L.objects) (fun_ext from_removed)

  pub remove_stored : stored (remove_regions L rs) r + from_regions L rs r ≡ stored L r + in_frames (home_in L) r (newly L)
  unfolding stored remove_regions newly
  remove_stored = omega (arith, remove_words, frames_split (home_in L) r L.counted (top_place L.frames) L.frames v.frames.mark)

-- ---- the words that lead into r: those of several live regions, but for r, and those of the others

module _ (L : Model) (rs : List ℕ) (ls : All (λ q. lives_in L q ≡ true) rs) (once : (q : ℕ) → times q rs ≤ 1) (r : ℕ) where
  abbrev pub from_one : Object → ℕ
  from_one = from_object (lives_in L) (home_in L) L.kinds r

  from_member : (q : ℕ) → lives_in L q ≡ true → sum_of (λ o. pick (eqb o.home q) (from_one o) 0) L.objects ≡ pick (eqb q r) 0 (from_region L q r)
  unfolding from_object from_region
  from_member q l = ap (λ f. sum_of f L.objects) (fun_ext each) ∙ sum_pick (not (eqb q r)) (λ o. pick (eqb o.home q) (words o) 0) L.objects ∙ pick_not (eqb q r) _
    where
      words : Object → ℕ
      words o = sum_of₂ (free_into (home_in L) r) (marks L.kinds o.kind) o.words

      each : (o : Object) → pick (eqb o.home q) (pick (lives_in L o.home && not (eqb o.home r)) (words o) 0) 0 ≡ pick (not (eqb q r)) (pick (eqb o.home q) (words o) 0) 0
      each o = by_test (eqb o.home q)
          (λ e. rw (eqb-true o.home q e, l, eq-eqb q q refl))
          (λ e. rw e (sym (pick_same (not (eqb q r)) 0)))

  pub words_parted : sum_of (λ o. pick (among o.home rs) 0 (from_one o)) L.objects + sum_of (λ q. pick (eqb q r) 0 (from_region L q r)) rs ≡ word_pointers L r
  unfolding in_words
  words_parted =
      ap (λ x. sum_of (λ o. pick (among o.home rs) 0 (from_one o)) L.objects + x)
      (sum_same _ _ rs (all_map (λ q l. sym (from_member q l)) rs ls) ∙ sum_members (λ o. o.home) from_one L.objects rs once)
      ∙ sym (sum_plus _ _ L.objects) ∙ ap (λ f. sum_of f L.objects) (fun_ext (λ o. go (among o.home rs) (from_one o)))
    where
      go : (b : Bool) (n : ℕ) → pick b 0 n + pick b n 0 ≡ n
      go true n = omega arith
      go false n = omega arith
