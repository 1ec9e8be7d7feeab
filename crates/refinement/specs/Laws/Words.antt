-- Put and set pointer: what the store leaves represents what the model leaves, and the answers are the same.
-- Assumes nothing.
use Rattle.std.specs.Prelude.{◌≡◌, ◌⊎◌, ◌≢◌, Bool, ◌&&◌, List, [], ◌∷◌, ℕ, zero, suc, ◌+◌, ◌-◌, ◌*◌, ◌≤◌, ◌<◌, eqb, length, set}
use Rattle.std.proofs.Math.Path.{refl, sym}
use Rattle.std.proofs.Common.{ap, ◌∙◌, inl, inr, arith, get_or-set_same, get_or-set_other}
use Rattle.std.proofs.Math.Bool.{true, false, not}
use Rattle.std.proofs.Math.ListN.{get_or, length-set}
use borrow.Author.Tests.{eqb-true, eqb-false, leb-false, not-false}
use Rattle.lists.specs.Lists.{bit, pick, times}
use Rattle.lists.specs.Laws.Tests.{neither, by_same, pick_same, eqb_sym}
use Rattle.model.specs.Model.{Model, Object, Answer, no_object, object, marks, lives_in, home_in, top, slot, in_slot, slot_marks, mark_at, stored, put, set_pointer}
use Rattle.model.specs.Calls.{checks, refusal, reply, accepted, lacks, null, replaced, with_word, write_word}
use Rattle.model.specs.Valid.{Valid}
use Rattle.model.proofs.Laws.Regions.{homes_kept}
use Rattle.model.proofs.Laws.Slots.{Known, slot_lives, in_list}
use Rattle.model.specs.Moves.{weighs, moves}
use Rattle.model.proofs.Laws.Passed.{passed, filler_one}
use Rattle.model.proofs.Laws.Moves.{accepted_stored}
use Rattle.regions.specs.declared.Regions.{Regions}
use Rattle.regions.specs.Regions.{entry_of, tag_of, count_at}
use Rattle.regions.specs.Laws.Recount.{Beside, beside_same, recount_beside}
use Rattle.pages.specs.Pages.{owner_of}
use Rattle.objects.specs.Objects.{word_at}
use Rattle.outcomes.specs.Store.{Store, regions, pages}
use Rattle.outcomes.specs.Outcome.{Accepted, with_regions, recounted, counted_in, pointed, write_word as store_write}
use Rattle.refinement.specs.Represents.{spot, image_of, Alive, words_in, Laid, Represents}
use Rattle.refinement.specs.Laws.Reads.{top_known, slot_is, word_is, mark_is}
use Rattle.refinement.specs.Laws.Counts.{count_is, word_known, leads_into}
use Rattle.refinement.specs.Laws.Kept.{same_entry, same_tag, regions_kept, pages_kept, tiles_kept}

-- ---- one object replaced

length_replaced : (os : List Object) (p : ℕ) (o : Object) → length (replaced os p o) ≡ length os
length_replaced os zero o = refl
length_replaced os (suc i) o = length-set os i o

object_same : (os : List Object) (p : ℕ) (o : Object) → p ≢ 0 → p ≤ length os → object (replaced os p o) p ≡ o
object_same os zero o z h = absurd (z refl)
object_same os (suc i) o z h = get_or-set_same os i o no_object h

object_other : (os : List Object) (p : ℕ) (o : Object) (q : ℕ) → q ≢ p → object (replaced os p o) q ≡ object os q
object_other os zero o q h = refl
object_other os (suc i) o zero h = refl
object_other os (suc i) o (suc j) h = get_or-set_other os i j o no_object (λ e. h (ap suc e))

-- ---- one heap word written

-- outside an object
laid_kept : (heap sp ms : List ℕ) (q : ℕ) (o : Object) (i x : ℕ) → (spot sp q - 1 ≢ i) × ((j : ℕ) → j < length o.words → spot sp q + j ≢ i) → Laid heap sp ms q o
    → Laid (set heap i x) sp ms q o
laid_kept heap sp ms q o i x a l = record {
  placed = l.placed;
  page = l.page;
  word = l.word;
  inside = simp length-set l.inside;
  header = rw (get_or-set_other heap i (spot sp q - 1) x 0 a.0) l.header;
  words = λ j k. rw (get_or-set_other heap i (spot sp q + j) x 0 (a.1 j k)) (l.words j k);
}

-- its word w
laid_set : (heap sp ms : List ℕ) (q : ℕ) (o : Object) (w x : ℕ) → w < length o.words → Laid heap sp ms q o
    → Laid (set heap (spot sp q + w) (image_of sp (get_or ms w 0) x)) sp ms q (with_word o w x)
laid_set heap sp ms q o w x h l = record {
  placed = l.placed;
  page = l.page;
  word = l.word;
  inside = simp length-set l.inside;
  header = rw (get_or-set_other heap (spot sp q + w) (spot sp q - 1) (image_of sp (get_or ms w 0) x) 0 (λ e. omega (arith, l.placed))) l.header;
  words = λ j k. go j (rw length-set at k) (by_same j w);
}
  where
    go : (j : ℕ) → j < length o.words → (j ≡ w) ⊎ (j ≢ w)
        → get_or (set heap (spot sp q + w) (image_of sp (get_or ms w 0) x)) (spot sp q + j) 0 ≡ image_of sp (get_or ms j 0) (get_or (set o.words w x) j 0)
    go j k (inl e) = rw (e, get_or-set_same heap (spot sp q + w) (image_of sp (get_or ms w 0) x) 0 (omega (arith, l.inside)), get_or-set_same o.words w x 0 h)
    go j k (inr n) = rw (get_or-set_other heap (spot sp q + w) (spot sp q + j) (image_of sp (get_or ms w 0) x) 0 (λ e. n (omega arith)), get_or-set_other o.words w j x 0 n) (l.words j k)

module _ (L : Model) (sp : List ℕ) (ids : ℕ → List ℕ) (S : Store) (v : Valid L) (h : Represents L sp ids S) (s w x : ℕ) (n : null L s ≡ false) (k : w < length (in_slot L s).words) where
  os₂ : List Object
  os₂ = replaced L.objects (slot L s) (with_word (in_slot L s) w x)

  here : Alive L (slot L s)
  here = slot_lives L v s n

  -- the object q afterwards: the one written, or as it was
  object_either : (P : ℕ → Object → Type 0) → P (slot L s) (with_word (in_slot L s) w x) → ((q : ℕ) → q ≢ slot L s → P q (object L.objects q)) → (q : ℕ) → P q (object os₂ q)
  unfolding os₂
  object_either P a b q = go (by_same q (slot L s))
    where
      go : (q ≡ slot L s) ⊎ (q ≢ slot L s) → P q (object (replaced L.objects (slot L s) (with_word (in_slot L s) w x)) q)
      go (inl e) = rw (e, object_same L.objects (slot L s) (with_word (in_slot L s) w x) (eqb-false (slot L s) 0 n) (in_list L v (slot L s) here)) a
      go (inr e) = rw (object_other L.objects (slot L s) (with_word (in_slot L s) w x) q e) (b q e)

  size_kept : (q : ℕ) → length (object os₂ q).words ≡ length (words_in L q)
  size_kept = object_either (λ q o. length o.words ≡ length (words_in L q)) (length-set (in_slot L s).words w x) (λ q e. refl)

  alive_was : (q : ℕ) → Alive (write_word L s w x) q → Alive L q
  unfolding write_word
  alive_was q l = rw (homes_kept L.objects (slot L s) w x) at l

  alive_is : (q : ℕ) → Alive L q → Alive (write_word L s w x) q
  unfolding write_word
  alive_is q l = rw (homes_kept L.objects (slot L s) w x) l

  -- the word written is no header, and no word of another object
  away : (q : ℕ) → (spot sp (slot L s) + length (in_slot L s).words < spot sp q) ⊎ (spot sp q + length (words_in L q) < spot sp (slot L s))
      → (spot sp q - 1 ≢ spot sp (slot L s) + w) × ((j : ℕ) → j < length (words_in L q) → spot sp q + j ≢ spot sp (slot L s) + w)
  away q (inl a) = ((λ e. omega arith), (λ j b e. omega arith))
  away q (inr a) = ((λ e. omega arith), (λ j b e. omega arith))

  written : (g : Regions) → Beside (regions S) g → ((r : ℕ) → lives_in L r ≡ true → count_at g (entry_of (regions S) r) ≡ stored (write_word L s w x) r)
      → Represents (write_word L s w x) sp ids (store_write (with_regions S g) (spot sp (slot L s)) w (image_of sp (mark_at L s w) x))
  unfolding write_word store_write os₂
  written g b counts =
      let o = h.on_objects in
      record {
        on_frames = h.on_frames;
        on_kinds = h.on_kinds;
        on_regions = regions_kept L L.kinds L.frames L.counted os₂ b sp h.on_regions;
        on_pages = rw length-set (pages_kept L L.kinds L.frames L.counted os₂ b (pages S) (length S.heap) h.on_pages);
        on_objects = record {
          known = o.known ∙ sym (length_replaced L.objects (slot L s) (with_word (in_slot L s) w x));
          laid = λ q l. object_either (λ q p. Alive L q → Laid (set S.heap (spot sp (slot L s) + w) (image_of sp (mark_at L s w) x)) sp (marks L.kinds p.kind) q p)
              (λ a. laid_set S.heap sp (slot_marks L s) (slot L s) (in_slot L s) w x k (o.laid (slot L s) a))
              (λ q e a. laid_kept S.heap sp (marks L.kinds (object L.objects q).kind) q (object L.objects q) (spot sp (slot L s) + w) (image_of sp (mark_at L s w) x)
              (away q (o.apart (slot L s) q here a (λ d. e (sym d)))) (o.laid q a)) q (alive_was q l);
          apart = λ p q a b e. rw (size_kept p, size_kept q) (o.apart p q (alive_was p a) (alive_was q b) e);
          owned = λ q l. o.owned q (alive_was q l) ∙ sym (same_tag b (home_in L q)) ∙ sym (ap (λ f. tag_of g (f q)) (homes_kept L.objects (slot L s) w x));
          within = λ q l. rw (size_kept q) (o.within q (alive_was q l));
          full = o.full;
          tiled = λ j a b. tiles_kept L (write_word L s w x) sp sp (λ q l. (alive_is q l, refl, size_kept q)) (64 * j) (64 * j + get_or (pages S).taken j 0) (ids j) (o.tiled j a b);
          once = λ r l f. rw (same_tag b r, homes_kept L.objects (slot L s) w x, length_replaced L.objects (slot L s) (with_word (in_slot L s) w x)) (o.once r l f);
        };
        counts = λ r l. rw (same_entry b r) (counts r l);
      }

-- ---- counts

-- a pointer into region q counts in r once, and not in the region h that holds it
once_unless : (b : Bool) (q h r : ℕ) → pick (b && not (eqb q h)) (bit (eqb q r) + 0) 0 ≡ pick (eqb h r) 0 (pick b (bit (eqb q r)) 0)
once_unless b q h r = go b (eqb q r) refl
  where
    go : (b c : Bool) → eqb q r ≡ c → pick (b && not (eqb q h)) (bit c + 0) 0 ≡ pick (eqb h r) 0 (pick b (bit c) 0)
    go true true e = rw (eqb-true q r e, eqb_sym r h) (neg (eqb h r))
      where
        neg : (c : Bool) → pick {A = ℕ} (not c) 1 0 ≡ pick c 0 1
        neg true = refl
        neg false = refl
    go true false e = rw (pick_same {A = ℕ} (not (eqb q h)) 0, pick_same {A = ℕ} (eqb h r) 0)
    go false c e = rw (pick_same {A = ℕ} (eqb h r) 0)

weighs_most : (L : Model) (s w r x : ℕ) → weighs L s w r x ≤ 1
unfolding weighs
weighs_most L s w r x = go (eqb (in_slot L s).home r) (eqb (mark_at L s w) 1) (eqb (home_in L x) r)
  where
    go : (a b c : Bool) → pick a 0 (pick b (bit c) 0) ≤ 1
    go true b c = omega arith
    go false true true = omega arith
    go false true false = omega arith
    go false false c = omega arith

module _ (L : Model) (sp : List ℕ) (ids : ℕ → List ℕ) (S : Store) (v : Valid L) (h : Represents L sp ids S) (s w : ℕ) (n : null L s ≡ false) (r : ℕ) (l : lives_in L r ≡ true) where
  -- what word w of the object in slot s adds to the count of live region r, while it holds q
  counted_weighs : (q : ℕ) → Known L q
      → times (tag_of (regions S) r) (counted_in S (mark_at L s w) (owner_of (pages S) (spot sp (slot L s))) (spot sp q)) ≡ weighs L s w r q
  unfolding counted_in weighs
  counted_weighs q k =
      let o = slot_lives L v s n in
      rw (h.on_objects.owned (slot L s) o, leads_into h.on_regions h.on_objects (in_slot L s).home o q k) (go (eqb (mark_at L s w) 1 && not (eqb (home_in L q) (in_slot L s).home)))
      ∙ once_unless (eqb (mark_at L s w) 1) (home_in L q) (in_slot L s).home r
    where
      go : (b : Bool) → times (tag_of (regions S) r) (pick b (owner_of (pages S) (spot sp q) ∷ []) []) ≡ pick b (bit (eqb (home_in L q) r) + 0) 0
      go true = rw (leads_into h.on_regions h.on_objects r l q k)
      go false = refl

module _ (L : Model) (sp : List ℕ) (ids : ℕ → List ℕ) (S : Store) (v : Valid L) (h : Represents L sp ids S) (a : Answer) (T : Store) where
  pub pointer_step : ((r : ℕ) → stored L r ≤ 16640) → (s w t f : ℕ) → refusal L (set_pointer s w t f) ≡ 0 → Accepted (set_pointer s w t f) S a T
      → (a ≡ reply L (set_pointer s w t f)) × Represents (accepted L (set_pointer s w t f)) sp ids T
  unfolding checks Accepted reply accepted write_word pointed recounted moves
  pointer_step small s w t f e y =
      let c = passed L (set_pointer s w t f) e in
      let b = neither (lacks (top L) s) (lacks (top L) t) c.1.1.0 in
      let n = c.1.1.1.0 in
      let k = leb-false (length (in_slot L s).words) w c.1.1.1.1.0 in
      let m = c.1.1.1.1.1.0 in
      let o = slot_lives L v s n in
      let old = get_or (in_slot L s).words w 0 in
      let was : word_at S.heap (spot sp (slot L s)) w ≡ spot sp old = rw m at (word_is h.on_objects (slot L s) w o k) in
      let sort = mark_is h.on_objects h.on_kinds v (slot L s) w (top_known v s) k in
      let counted = counted_in S (mark_at L s w) (owner_of (pages S) (spot sp (slot L s))) in (
        y.0,
        rw (y.1, slot_is h s b.0, slot_is h t b.1, was, sort) (rw m at (written L sp ids S v h s w (slot L t) n k _ (recount_beside (regions S) f (counted (spot sp (slot L t))) (counted (spot sp old))) (λ r l.
            let i = counted_weighs L sp ids S v h s w n r l (slot L t) (top_known v t) in
            let j = counted_weighs L sp ids S v h s w n r l old (word_known L v (slot L s) w o k m) in
            let d = accepted_stored L r v (set_pointer s w t f) e l in
            count_is h.on_regions r f (filler_one f c.0) l (counted (spot sp (slot L t))) (counted (spot sp old)) (stored (accepted L (set_pointer s w t f)) r)
            (omega (arith, h.counts r l)) (omega (arith, small r, weighs_most L s w r (slot L t)))))),
      )

  pub put_step : (s w x : ℕ) → refusal L (put s w x) ≡ 0 → Accepted (put s w x) S a T → (a ≡ reply L (put s w x)) × Represents (accepted L (put s w x)) sp ids T
  unfolding checks Accepted reply accepted write_word moves
  put_step s w x e y =
      let t = passed L (put s w x) e in
      let m = not-false (eqb (mark_at L s w) 0) t.1.1.1.1.0 in
      let k = leb-false (length (in_slot L s).words) w t.1.1.1.0 in (
        y.0,
        rw (y.1, slot_is h s t.1.0) (rw m at (written L sp ids S v h s w x t.1.1.0 k (regions S) (beside_same (regions S)) (λ r l. omega (arith, h.counts r l, accepted_stored L r v (put s w x) e l)))),
      )
