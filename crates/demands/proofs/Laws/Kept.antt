-- A history goes on telling of the model: each change of the model that a call makes, with what the call tells.
-- Assumes nothing.
use Rattle.std.specs.Prelude.{◌≡◌, Bool, ◌&&◌, ltb, get_or, set, replicate}
use Rattle.std.proofs.Math.Path.{refl, sym, ap, fun_ext}
use Rattle.std.proofs.Common.{ap₂, ◌∙◌, add-one, length-set}
use Rattle.std.proofs.Math.Bool.{true, false, not}
use mathlib.Core.List.{List, [], ◌∷◌, ◌++◌, map, map-append}
use Prim.Native.Nat.{ℕ, zero, suc, ◌+◌, ◌-◌, ◌≤◌}
use native.Mathlib.Omega.{arith}
use Rattle.std.proofs.Math.Dec.{leb}
use Rattle.std.proofs.Math.ListN.{length, take, length-append, get_or-append, get_or-map}
use Rattle.std.proofs.lemmas.List.{length-replicate}
use Rattle.std.proofs.Math.Seq.{map-set_same, get_or-append_seam}
use Rattle.lists.specs.Lists.{pick, sum_of, from, among}
use Rattle.lists.specs.Laws.Tests.{by_test, pick_same}
use Rattle.lists.specs.Laws.All.{all_map, all_at}
use Rattle.lists.specs.Laws.Sums.{sum_append, sum_map, sum_keep, sum_same}
use Rattle.lists.specs.Laws.UpTo.{sum_from_suc, all_from}
use Rattle.model.specs.Model.{Model, Region, Object, no_object, object, called, live, lives_in, home_in, top_place, top, slot}
use Rattle.model.specs.Calls.{fill_slot, pop_frame, replaced, with_word, with_objects, write_word, add_region, page_for, grown, add_object, others, remove_regions, size}
use Rattle.model.specs.Calls as model
use Rattle.model.specs.Valid.{Valid}
use Rattle.model.proofs.Laws.Regions.{live_less, live_others, live_removed}
use Rattle.outcomes.specs.History.{History}
use Rattle.outcomes.specs.History as history
use Rattle.refinement.specs.Represents.{spot, ids_in}
use Rattle.refinement.specs.Laws.Stack.{mark_falls}
use Rattle.refinement.specs.Laws.Places.{new_object, new_id, made_lives, spot_last}
use Rattle.demands.specs.Told.{with_kinds, with_frames, born, popped, object_made, ended}
use Rattle.histories.specs.Laws.Tells.{listed, met, Tells, frames_length}

map_take : {A B : Type 0} (f : A → B) (n : ℕ) (l : List A) → map f (take n l) ≡ take n (map f l)
map_take f zero l = refl
map_take f (suc n) [] = refl
map_take f (suc n) (x ∷ xs) = ap (λ l. f x ∷ l) (map_take f n xs)

-- what a write into an object leaves
object_set : {X : Type 0} (f : Object → X) (os : List Object) (i : ℕ) (o : Object) → f o ≡ f (get_or os i no_object) → (q : ℕ) → f (object (set os i o) q) ≡ f (object os q)
object_set f os i o e zero = refl
object_set f os i o e (suc q) = sym (get_or-map f (set os i o) q no_object) ∙ ap (λ l. get_or l q (f no_object)) (map-set_same f os i o no_object e) ∙ get_or-map f os q no_object

module _ {L : Model} {sp : List ℕ} {h : History} (t : Tells L sp h) where
  -- ---- kinds and frames

  pub declare_told : (ms : List ℕ) → Tells (model.with_kinds L (L.kinds ++ (ms ∷ []))) sp (with_kinds h (h.kinds ++ (ms ∷ [])))
  declare_told ms = record { kinds = ap (λ ks. ks ++ (ms ∷ [])) t.kinds; frames = t.frames; counted = t.counted; regions = t.regions; objects = t.objects }

  framed : (fs : List (List ℕ)) (m : ℕ) (ws : List ℕ) (k : ℕ) → ws ≡ map length fs → k ≡ m → Tells (model.with_frames L fs m) sp (with_frames h ws k)
  framed fs m ws k e f = record { kinds = t.kinds; frames = e; counted = f; regions = t.regions; objects = t.objects }

  pub fill_told : (s p : ℕ) → Tells (fill_slot L s p) sp h
  unfolding fill_slot
  fill_told s p = framed _ L.counted h.frames h.counted (t.frames ∙ sym (map-set_same length L.frames (top_place L.frames) (set (top L) s p) [] (simp length-set))) t.counted

  pub push_told : (n : ℕ) → Tells (model.with_frames L (L.frames ++ (replicate n 0 ∷ [])) L.counted) sp (with_frames h (h.frames ++ (n ∷ [])) h.counted)
  push_told n = framed _ L.counted (h.frames ++ (n ∷ [])) h.counted
      (ap₂ (λ l k. l ++ (k ∷ [])) t.frames (sym (length-replicate n 0)) ∙ sym (map-append length L.frames (replicate n 0 ∷ []))) t.counted

  pub pop_told : Valid L → Tells (pop_frame L) sp (popped h)
  unfolding pop_frame popped
  pop_told v = framed (take (top_place L.frames) L.frames) _ _ _
      (ap₂ (λ n l. take (n - 1) l) (frames_length t) t.frames ∙ sym (map_take length (top_place L.frames) L.frames))
      (ap₂ (λ n m. pick (ltb 0 (n - 1) && leb (n - 1) m) (m - 1) m) (frames_length t) t.counted ∙ mark_falls (top_place L.frames) L.counted v.frames.mark)

  -- ---- words

  replaced_told : (p w x : ℕ) → Tells (with_objects L (replaced L.objects p (with_word (object L.objects p) w x))) sp h
  replaced_told zero w x = record { kinds = t.kinds; frames = t.frames; counted = t.counted; regions = t.regions; objects = t.objects }
  replaced_told (suc i) w x = record {
    kinds = t.kinds;
    frames = t.frames;
    counted = t.counted;
    regions = t.regions;
    objects = λ f.
        let o = with_word (get_or L.objects i no_object) w x in
        let one : ℕ → Object → ℕ = λ q o. pick (lives_in L o.home) (f (record { place = spot sp q - 1; kind = o.kind; home = o.home })) 0 in
        t.objects f ∙ sym (ap (λ n. sum_of (λ q. one q (object (set L.objects i o) q)) (from 1 n)) (length-set L.objects i o) ∙ ap (λ k. sum_of k (ids_in L)) (fun_ext (λ q. object_set (one q) L.objects i o refl q)));
  }

  pub write_told : (s w x : ℕ) → Tells (write_word L s w x) sp h
  unfolding write_word
  write_told s w x = replaced_told (slot L s) w x

  -- ---- regions

  pub region_told : Valid L → (u l : ℕ) → Tells (add_region L u l) sp (born h (L.given + 1) u)
  unfolding add_region born
  region_told v u l =
      let g : Region = record { name = L.given + 1; parent = u; level = l; newest = 0; room = 0; oldest = 0 } in
      record {
        kinds = t.kinds;
        frames = t.frames;
        counted = t.counted;
        regions = λ f. sum_append f h.regions (listed g ∷ []) ∙ ap (λ n. n + (f (listed g) + 0)) (t.regions f) ∙ sym (sum_append (λ g. f (listed g)) L.regions (g ∷ []));
        objects = λ f. t.objects f ∙ ap (λ k. sum_of k (ids_in L)) (fun_ext (λ q. ap (λ b. pick b (f (met L sp q)) 0) (sym (live_less L.regions g (home_in L q) (λ e. omega (arith, past q))))));
      }
    where
      past : (q : ℕ) → home_in L q ≤ L.given
      past q = all_at (λ o. o.home ≤ L.given) (no_object ∷ L.objects) q no_object (omega arith, all_map (λ o k. k.home_given) L.objects v.objects) (omega arith)

  pub remove_told : (rs : List ℕ) → Tells (remove_regions L rs) sp (ended h rs)
  unfolding remove_regions ended
  remove_told rs = record {
    kinds = t.kinds;
    frames = t.frames;
    counted = ap (λ n. n - 1) (frames_length t);
    regions = λ f. sum_keep f _ h.regions ∙ t.regions (λ g. pick (not (among g.name rs)) (f g) 0) ∙ sym (sum_keep (λ g. f (listed g)) (λ g. not (among g.name rs)) L.regions);
    objects = λ f. sum_keep f _ h.objects ∙ t.objects (λ o. pick (not (among o.home rs)) (f o) 0) ∙ ap (λ k. sum_of k (ids_in L)) (fun_ext (λ q. gone (home_in L q) (f (met L sp q))));
  }
    where
      gone : (q n : ℕ) → pick (lives_in L q) (pick (not (among q rs)) n 0) 0 ≡ pick (live (others L.regions rs) q) n 0
      gone q n = by_test (among q rs)
          (λ e. rw (e, live_removed L.regions rs q e) (pick_same (lives_in L q) 0))
          (λ e. rw (e, live_others L.regions rs q e))

  -- ---- objects

  module _ (r k p : ℕ) (lr : lives_in L r ≡ true) (len : length sp ≡ length L.objects) where
    regions_kept : (j : ℕ) (g : Region) → listed (pick (called r g) (grown (size L k) (new_id L) j g) g) ≡ listed g
    unfolding grown
    regions_kept j g = go (called r g)
      where
        go : (b : Bool) → listed (pick b (grown (size L k) (new_id L) j g) g) ≡ listed g
        go true = refl
        go false = refl

    abbrev os₂ : List Object
    os₂ = L.objects ++ (new_object L r k ∷ [])

    abbrev sp₂ : List ℕ
    sp₂ = sp ++ (suc p ∷ [])

    -- what object o, as object q, adds to a sum over the live objects
    abbrev adds : (history.Object → ℕ) → ℕ → Object → ℕ
    adds f x o = pick (lives_in (add_object L r k) o.home) (f (record { place = x - 1; kind = o.kind; home = o.home })) 0

    adds_old : (f : history.Object → ℕ) (q : ℕ) → q ≤ length L.objects → adds f (spot sp₂ q) (object os₂ q) ≡ pick (lives_in L (home_in L q)) (f (met L sp q)) 0
    adds_old f q b =
        ap₂ (adds f) (get_or-append (0 ∷ sp) (suc p ∷ []) 0 q (omega arith)) (get_or-append (no_object ∷ L.objects) (new_object L r k ∷ []) no_object q (omega arith))
        ∙ ap (λ b. pick b (f (met L sp q)) 0) (made_lives L r k (home_in L q))

    adds_new : (f : history.Object → ℕ) → adds f (spot sp₂ (new_id L)) (object os₂ (new_id L)) ≡ f (record { place = p; kind = k; home = r })
    adds_new f =
        let e : suc p - 1 ≡ p = omega arith in
        ap₂ (adds f) (spot_last L sp len (suc p)) (ap (object os₂) (add-one (length L.objects)) ∙ get_or-append_seam (no_object ∷ L.objects) (new_object L r k) [] no_object)
        ∙ rw (made_lives L r k r, lr, e)

    pub object_told : Tells (add_object L r k) sp₂ (object_made h r k (suc p))
    unfolding add_object
    object_told = record {
      kinds = t.kinds;
      frames = t.frames;
      counted = t.counted;
      regions = λ f. t.regions f ∙ sym (sum_map (λ g. f (listed g)) _ L.regions ∙ ap (λ k. sum_of k L.regions) (fun_ext (λ g. ap f (regions_kept (page_for L r (size L k)) g))));
      objects = λ f.
          let n = length L.objects in
          let one : ℕ → ℕ = λ q. adds f (spot sp₂ q) (object os₂ q) in
          let e : length os₂ ≡ suc n = simp length-append (omega arith) in
          let i : 1 + n ≡ new_id L = omega arith in
          let old = sum_same one _ (ids_in L) (all_from _ 1 n (λ q a b. adds_old f q (omega arith))) in
          sum_append f h.objects _ ∙ omega (arith, t.objects f, old, ap one i, adds_new f, sum_from_suc one 1 n, ap (λ m. sum_of one (from 1 m)) e);
    }
