-- Calls that read and write slots and words keep a valid model valid, as do push, drop and hand back.
-- Assumes nothing.
use Rattle.std.specs.Prelude.{◌≡◌, Bool, ◌||◌, eqb, ltb, length, get_or, set, take, replicate}
use Rattle.std.proofs.Math.Path.{refl, sym, subst}
use Rattle.std.proofs.Common.{◌∙◌, true≢false, arith}
use Rattle.std.proofs.Math.Bool.{true, false}
use mathlib.Core.List.{List, [], ◌∷◌, ◌++◌}
use Prim.Native.Nat.{ℕ, zero, suc, ◌-◌, ◌≤◌, min}
use Rattle.std.proofs.Math.Dec.{leb}
use Rattle.std.proofs.Math.ListN.{length-set, length-append, length-take, length-replicate}
use borrow.Author.Tests.{ltb-false, leb-false, eqb-true, eqb-false, not-false}
use Rattle.lists.specs.Lists.{pick, All}
use Rattle.lists.specs.Laws.Tests.{neither, both, or_right, or_other}
use Rattle.lists.specs.Laws.All.{all_at, all_in, all_set, all_update, all_append, all_take, all_replicate, all₂_set, all₂_in}
use Rattle.lists.specs.Laws.Finds.{all_find}
use Rattle.model.specs.Model.{Model, Object, no_object, no_region, object, called, region, lives_in, home_in, parent_in, top_place, top, beneath, slot, in_slot, slot_marks, mark_at, allowed}
use Rattle.model.specs.Model.{push, hand_back, first, copy, fetch, clear, load, set_pointer, put}
use Rattle.model.specs.Calls.{checks, refusal, accepted, with_frames, fill_slot, pop_frame, replaced, with_word, write_word, null}
use Rattle.model.specs.Valid.{Valid, ValidFrames, ValidObject, OwnOldest, known, fine}
use Rattle.model.proofs.Laws.Passed.{passed}
use Rattle.model.proofs.Laws.Regions.{name_is, homes_kept, live_zero, in_range}

-- p is null or leads to a live object
abbrev pub Known : Model → ℕ → Type 0
Known L p = known (lives_in L) (home_in L) p ≡ true

-- object o is valid in L
abbrev pub ValidIn : Model → Object → Type 0
ValidIn L o = ValidObject (lives_in L) (parent_in L) (home_in L) L.kinds L.given o

module _ (L : Model) (v : Valid L) where
  -- ---- what is read

  -- a slot of any frame
  pub slot_known : (i s : ℕ) → Known L (get_or (get_or L.frames i []) s 0)
  slot_known i s = all_at (Known L) (get_or L.frames i []) s 0 (all_at (All (Known L)) L.frames i [] v.frames.slots tt) refl

  -- what leads into a live region leads to an object of the list, which is valid
  pub in_list : (p : ℕ) → lives_in L (home_in L p) ≡ true → p ≤ length L.objects
  in_list p l = in_range (lives_in L) L.objects p (live_zero L.regions v.names.named) l

  pub object_valid : (p : ℕ) → lives_in L (home_in L p) ≡ true → ValidIn L (object L.objects p)
  object_valid zero l = absurd (true≢false (sym l ∙ live_zero L.regions v.names.named))
  object_valid (suc i) l = all_in (ValidIn L) L.objects i no_object v.objects (in_list (suc i) l)

  -- the object in a slot that is not null lives
  pub slot_lives : (s : ℕ) → null L s ≡ false → lives_in L (in_slot L s).home ≡ true
  slot_lives s n = or_other (null L s) (lives_in L (in_slot L s).home) (slot_known (top_place L.frames) s) n

  -- ---- frames

  frames_valid : (fs : List (List ℕ)) (m : ℕ) → ValidFrames (lives_in L) (home_in L) fs m → Valid (with_frames L fs m)
  frames_valid fs m f = record { kinds = v.kinds; names = v.names; parents = v.parents; oldest = v.oldest; objects = v.objects; frames = f }

  pub fill_valid : (s p : ℕ) → Known L p → Valid (fill_slot L s p)
  unfolding fill_slot
  fill_valid s p k = frames_valid (set L.frames (top_place L.frames) (set (top L) s p)) L.counted (record {
    mark = simp length-set v.frames.mark;
    many = simp length-set v.frames.many;
    sized = all_update _ L.frames (top_place L.frames) [] (set (top L) s p) v.frames.sized (λ h. simp length-set h);
    slots = all_update _ L.frames (top_place L.frames) [] (set (top L) s p) v.frames.slots (λ h. all_set _ (top L) s p h k);
  })

  pub push_valid : (n : ℕ) → refusal L (push n) ≡ 0 → Valid (accepted L (push n))
  unfolding accepted checks
  push_valid n e =
      let t = passed L (push n) e in
      let q = neither (eqb n 0) (ltb 8 n) t.0 in
      let low = eqb-false n 0 q.0 in
      let high = ltb-false 8 n q.1 in
      let few = leb-false 32 (length L.frames) t.1.0 in
      frames_valid (L.frames ++ (replicate n 0 ∷ [])) L.counted (record {
        mark = simp length-append (omega (arith, v.frames.mark));
        many = simp length-append (omega arith);
        sized = all_append _ L.frames (replicate n 0 ∷ []) v.frames.sized (simp length-replicate (omega arith), tt);
        slots = all_append _ L.frames (replicate n 0 ∷ []) v.frames.slots (all_replicate _ n 0 refl, tt);
      })

  pub pop_valid : Valid (pop_frame L)
  unfolding pop_frame
  pop_valid = frames_valid (take (top_place L.frames) L.frames) (pick (leb (top_place L.frames) L.counted) (L.counted - 1) L.counted) (record {
    mark = simp length-take (go (leb (top_place L.frames) L.counted) refl);
    many = simp length-take (omega (arith, v.frames.many));
    sized = all_take _ (top_place L.frames) L.frames v.frames.sized;
    slots = all_take _ (top_place L.frames) L.frames v.frames.slots;
  })
    where
      go : (b : Bool) → leb (top_place L.frames) L.counted ≡ b → pick b (L.counted - 1) L.counted ≤ min (top_place L.frames) (length L.frames) - 1
      go true q = omega (arith, v.frames.mark)
      go false q = omega (arith, leb-false (top_place L.frames) L.counted q)

  -- ---- slots

  pub clear_valid : (s : ℕ) → Valid (accepted L (clear s))
  unfolding accepted
  clear_valid s = fill_valid s 0 refl

  pub copy_valid : (s t : ℕ) → Valid (accepted L (copy s t))
  unfolding accepted
  copy_valid s t = fill_valid t (slot L s) (slot_known (top_place L.frames) s)

  pub fetch_valid : (b s : ℕ) → Valid (accepted L (fetch b s))
  unfolding accepted
  fetch_valid b s = fill_valid s (get_or (beneath L) b 0) (slot_known (length L.frames - 2) b)

  pub load_valid : (s w t : ℕ) → refusal L (load s w t) ≡ 0 → Valid (accepted L (load s w t))
  unfolding accepted checks
  load_valid s w t e =
      let c = passed L (load s w t) e in
      let l = slot_lives s c.1.1.0 in
      let o = object_valid (slot L s) l in
      let k = leb-false (length (in_slot L s).words) w c.1.1.1.0 in
      let f = all₂_in _ (slot_marks L s) (in_slot L s).words w 0 0 (o.fine_words l) (omega (arith, o.sized)) k in
      fill_valid t (get_or (in_slot L s).words w 0) (both _ _ (or_other (eqb (mark_at L s w) 0) _ f c.1.1.1.1.0)).0

  -- a region's oldest object is null or lives
  pub oldest_known : (r : ℕ) → lives_in L r ≡ true → Known L (region L.regions r).oldest
  oldest_known r l = go (eqb (region L.regions r).oldest 0) (all_find (OwnOldest (home_in L)) (called r) no_region L.regions v.oldest refl)
    where
      go : (b : Bool) → (b || eqb (home_in L (region L.regions r).oldest) (region L.regions r).name) ≡ true → (b || lives_in L (home_in L (region L.regions r).oldest)) ≡ true
      go true e = refl
      go false e = rw (eqb-true (home_in L (region L.regions r).oldest) (region L.regions r).name e ∙ name_is L.regions r l) l

  pub first_valid : (s r : ℕ) → refusal L (first s r) ≡ 0 → Valid (accepted L (first s r))
  unfolding accepted checks
  first_valid s r e = fill_valid s (region L.regions r).oldest (oldest_known r (not-false (lives_in L r) (passed L (first s r) e).1.1.0))

  -- ---- words

  all_replaced : (P : Object → Type 0) (os : List Object) (p : ℕ) (o : Object) → All P os → (P (object os p) → P o) → All P (replaced os p o)
  all_replaced P os zero o h k = h
  all_replaced P os (suc i) o h k = all_update P os i _ o h k

  write_valid : (s w x : ℕ) → fine (lives_in L) (parent_in L) (home_in L) (in_slot L s).home (mark_at L s w) x ≡ true → Valid (write_word L s w x)
  unfolding write_word
  write_valid s w x f =
      let homes = sym (homes_kept L.objects (slot L s) w x) in
      let o = with_word (in_slot L s) w x in
      record {
        kinds = v.kinds;
        names = v.names;
        parents = v.parents;
        oldest = subst (λ h. All (OwnOldest h) L.regions) homes v.oldest;
        frames = subst (λ h. ValidFrames (lives_in L) h L.frames L.counted) homes v.frames;
        objects =
            subst (λ h. All (ValidObject (lives_in L) (parent_in L) h L.kinds L.given) (replaced L.objects (slot L s) o)) homes
            (all_replaced _ L.objects (slot L s) o v.objects (λ q. record {
              home_given = q.home_given;
              kind = q.kind;
              sized = simp length-set q.sized;
              fine_words = λ l. all₂_set _ (slot_marks L s) (in_slot L s).words w 0 x (q.fine_words l) f;
            }));
      }

  pub set_valid : (s w p f : ℕ) → refusal L (set_pointer s w p f) ≡ 0 → Valid (accepted L (set_pointer s w p f))
  unfolding accepted checks
  set_valid s w p f e =
      let a = not-false (allowed (parent_in L) (home_in L) (in_slot L s).home (mark_at L s w) (slot L p)) (passed L (set_pointer s w p f) e).1.1.1.1.1.1.0 in
      write_valid s w (slot L p) (or_right (eqb (mark_at L s w) 0) _ (rw (slot_known (top_place L.frames) p, a)))

  pub put_valid : (s w x : ℕ) → refusal L (put s w x) ≡ 0 → Valid (accepted L (put s w x))
  unfolding accepted checks
  put_valid s w x e = write_valid s w x (rw (not-false (eqb (mark_at L s w) 0) (passed L (put s w x) e).1.1.1.1.0))

pub hand_valid : (L : Model) → Valid L → (s b f : ℕ) → Valid (accepted L (hand_back s b f))
unfolding accepted pop_frame
hand_valid L v s b f = fill_valid (pop_frame L) (pop_valid L v) b (slot L s) (slot_known L v (top_place L.frames) s)
