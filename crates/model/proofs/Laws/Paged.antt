-- What make leaves is paged, and every call keeps a valid model paged. So no count of pointers passes 16,640.
-- Assumes nothing.
use Rattle.std.specs.Prelude.{◌≡◌, ◌≢◌, Bool, ◌&&◌, ◌||◌, ℕ, zero, suc, ◌+◌, ◌-◌, ◌*◌, ◌≤◌, ◌<◌, get_or, set}
use Rattle.std.proofs.Math.Path.{refl, ap, subst⁻¹, fun_ext}
use Rattle.std.proofs.Common.{sym, ◌∙◌, true≢false, length-set}
use Rattle.std.proofs.Math.Bool.{true, false, not}
use mathlib.Core.List.{List, [], ◌∷◌, ◌++◌, map}
use native.Mathlib.Omega.{arith}
use Rattle.std.proofs.Math.Dec.{eqb}
use Rattle.std.proofs.Math.ListN.{length, length-map}
use Rattle.std.proofs.lemmas.List.{length-replicate}
use borrow.Author.Tests.{eqb-true, eqb-false, ne_eqb, lt-ltb, leb-true, not-false, not-true}
use Rattle.lists.specs.Lists.{bit, pick, any_of, sum_of, count_of, All, up_to, times, among}
use Rattle.lists.specs.Laws.Tests.{by_test, or_right, eqb_sym}
use Rattle.lists.specs.Laws.All.{all_map, all_at, all_set, all_append, all_replicate, all_both, all_change}
use Rattle.lists.specs.Laws.Sums.{sum_set, sum_append, sum_map, sum_swap, sum_le, sum_most, sum_any, sum₂_most, count_most}
use Rattle.lists.specs.Laws.Finds.{all_keep, any_count, sum_none}
use Rattle.lists.specs.Laws.Kept.{all_each}
use Rattle.lists.specs.Laws.UpTo.{find_found, sum_places}
use Rattle.model.specs.Model.{Model, Object, Region, Call, declare, new_region, subregion, push, drop_frame, hand_back, allocate, first, copy, fetch, clear, load, set_pointer, put, get, view, same, about, report, totals, audit, delete, delete_all, ask}
use Rattle.model.specs.Model.{called, live, region, object, marks, lives_in, home_in, held_by, lowest_free, beneath, slot, in_slot, into, free_into, from_object, in_words, in_frames, word_pointers, outside, stored}
use Rattle.model.specs.Calls.{checks, refusal, accepted, next, next_by, after, fresh, size, fits, fill_slot, pop_frame, write_word, replaced, with_word, add_region, grown, page_for, holders_for, add_object, held_after, remove_regions, others}
use Rattle.model.specs.Valid.{Valid}
use Rattle.model.specs.Paged.{Paged, Lies, space, space_of}
use Rattle.model.proofs.Laws.Passed.{passed}
use Rattle.model.proofs.Laws.Regions.{live_more, live_map, live_others, found_itself, distinct_once}
use Rattle.model.proofs.Laws.Grows.{change, name_kept, known_moved}
use Rattle.model.proofs.Laws.Removable.{Removable, removable_one, removable_all}
use Rattle.model.proofs.Laws.Next.{next_valid}
use Rattle.model.proofs.Laws.Counts.{outside_stored}

-- where a page is free, the lowest free page is one of them
lowest_free_lem : (os : List ℕ) → times 0 os ≢ 0 → (lowest_free os < length os) × (get_or os (lowest_free os) 0 ≡ 0)
unfolding lowest_free
lowest_free_lem os e =
    let f : ℕ → Bool = λ j. eqb (get_or os j 0) 0 in
    let some : any_of f (up_to (length os)) ≡ true = any_count f (up_to (length os)) ∙ lt-ltb 0 (count_of f (up_to (length os))) (omega (arith, sum_places (λ x. bit (eqb x 0)) os 0)) in
    let q = find_found f (length os) (length os) some in
    (q.0, eqb-true _ 0 q.1)

-- a word written: the object takes as many words as before
space_replaced : (r : ℕ) (os : List Object) (q w x : ℕ) → sum_of (space_of r) (replaced os q (with_word (object os q) w x)) ≡ sum_of (space_of r) os
space_replaced r os zero w x = refl
space_replaced r [] (suc q) w x = refl
space_replaced r (o ∷ os) (suc zero) w x = simp length-set
space_replaced r (o ∷ os) (suc (suc q)) w x = ap (λ n. space_of r o + n) (space_replaced r os (suc q) w x)

module _ {N : ℕ} (L : Model) (p : Paged N L) where
  -- neither pages nor what lies in them changes
  still : {M : Model} → M.holders ≡ L.holders → M.regions ≡ L.regions → ((r : ℕ) → space M r ≡ space L r) → Paged N M
  still {M} o g s = record {
    whole = rw o p.whole;
    held = rw (o, g) p.held;
    fits = subst⁻¹ (All (Lies M)) g (all_map (λ x h. let e : held_by M x.name ≡ held_by L x.name = ap (times x.name) o in omega (arith, s x.name, e)) L.regions p.fits);
  }

  fill_paged : (s q : ℕ) → Paged N (fill_slot L s q)
  unfolding fill_slot space
  fill_paged s q = still refl refl (λ r. refl)

  pop_paged : Paged N (pop_frame L)
  unfolding pop_frame space
  pop_paged = still refl refl (λ r. refl)

  write_paged : (s w x : ℕ) → Paged N (write_word L s w x)
  unfolding write_word space
  write_paged s w x = still refl refl (λ r. space_replaced r L.objects (slot L s) w x)

  -- ---- new region, subregion: no object has the new name

  region_paged : Valid L → (r l : ℕ) → Paged N (add_region L r l)
  unfolding add_region space
  region_paged v r l =
      let n = L.given + 1 in
      let g : Region = record { name = n; parent = r; level = l; newest = 0; room = 0; oldest = 0 } in
      let none = sum_none (λ o. eqb o.home n) (λ o. length o.words + 1) L.objects (all_map (λ o s. ne_eqb o.home n (λ e. omega (arith, s.home_given))) L.objects v.objects) in
      record {
        whole = p.whole;
        held = all_map (λ q. known_moved (lives_in L) (live (L.regions ++ (g ∷ []))) (λ x. x) (λ x. x) q (λ l. (refl, live_more L.regions g q l))) L.holders p.held;
        fits = all_append _ L.regions (g ∷ []) p.fits (omega (arith, none), tt);
      }

  -- ---- allocate

  object_paged : Valid L → (r k : ℕ) → lives_in L r ≡ true → (not (fits (region L.regions r) (size L k)) && eqb (held_by L 0) 0) ≡ false → Paged N (add_object L r k)
  unfolding add_object holders_for grown change space
  object_paged v r k l e = record {
    whole = whole (fits g₀ n);
    held = held (fits g₀ n);
    fits = all_change _ (Lies (add_object L r k)) (change r n i j) (λ g h. lies g h.0 h.1.0 h.1.1 (called r g) refl (fits g₀ n) refl) gs
        (all_both _ _ gs p.fits (all_both _ _ gs v.names.named (found_itself gs v.names.distinct)));
  }
    where
      gs : List Region
      gs = L.regions

      g₀ : Region
      g₀ = region gs r

      n : ℕ
      n = size L k

      i : ℕ
      i = length L.objects + 1

      j : ℕ
      j = page_for L r n

      lowest : ℕ
      lowest = lowest_free L.holders

      whole : (b : Bool) → length (pick b L.holders (set L.holders lowest r)) ≡ N
      whole true = p.whole
      whole false = length-set L.holders lowest r ∙ p.whole

      known : (q : ℕ) → (eqb q 0 || lives_in L q) ≡ true → (eqb q 0 || lives_in (add_object L r k) q) ≡ true
      known q h = rw (live_map (change r n i j) (name_kept r n i j) gs q) h

      held : (b : Bool) → All (λ q. (eqb q 0 || lives_in (add_object L r k) q) ≡ true) (pick b L.holders (set L.holders lowest r))
      held true = all_map known L.holders p.held
      held false = all_set _ L.holders lowest r (all_map known L.holders p.held) (known r (or_right (eqb r 0) _ l))

      few : n ≤ 64
      few = omega (arith, all_at (λ ms. length ms ≤ 16) ([] ∷ L.kinds) k [] (omega arith, all_map (λ ms h. h.1) L.kinds v.kinds.sized) (omega arith))

      more : (q : ℕ) → space (add_object L r k) q ≡ space L q + pick (eqb r q) n 0
      more q = sum_append (space_of q) L.objects _ ∙ simp length-replicate (omega arith)

      -- a page more for region r, where the object takes one
      now : (b : Bool) → fits g₀ n ≡ b → (q : ℕ) → 1 ≤ q → times q (pick b L.holders (set L.holders lowest r)) ≡ held_by L q + pick b 0 (bit (eqb r q))
      now true c q z = omega arith
      now false c q z =
          let f = lowest_free_lem L.holders (eqb-false (held_by L 0) 0 (rw c at e)) in
          omega (arith, sum_set (λ x. bit (eqb x q)) L.holders lowest r 0 f.0, ap (λ x. bit (eqb x q)) f.1, ap bit (ne_eqb 0 q (λ d. omega arith)))

      lies : (g : Region) → Lies L g → 1 ≤ g.name → region gs g.name ≡ g → (b : Bool) → called r g ≡ b → (c : Bool) → fits g₀ n ≡ c → Lies (add_object L r k) (pick b (grown n i j g) g)
      lies g h z own true q c d =
          let t = eqb-true g.name r q in
          let f : fits g n ≡ c = ap (λ x. fits x n) (sym own ∙ ap (region gs) t) ∙ d in
          rw (f, more g.name, d, now c d g.name z, eqb_sym r g.name, q) (room c f)
        where
          room : (c : Bool) → fits g n ≡ c → space L g.name + n + pick c (g.room - n) (64 - n) ≤ 64 * (held_by L g.name + pick c 0 1)
          room true f = omega (arith, leb-true n g.room f)
          room false f = omega (arith, few)
      lies g h z own false q c d = rw (more g.name, d, now c d g.name z, eqb_sym r g.name, q) (omega arith)

  -- ---- delete

  pub remove_paged : Valid L → (rs : List ℕ) → Removable L rs → Paged N (remove_regions L rs)
  unfolding remove_regions space
  remove_paged v rs m = record {
    whole = length-map L.holders (held_after rs) ∙ p.whole;
    held = all_change _ _ (held_after rs) held L.holders p.held;
    fits = all_map fits (others L.regions rs)
        (all_keep _ (λ g. not (among g.name rs)) L.regions (all_both _ _ L.regions p.fits v.names.named));
  }
    where
      held : (q : ℕ) → (eqb q 0 || lives_in L q) ≡ true → (eqb (held_after rs q) 0 || live (others L.regions rs) (held_after rs q)) ≡ true
      held q h = by_test (among q rs) (λ e. rw e) (λ e. rw (e, live_others L.regions rs q e) h)

      same : (q : ℕ) → 1 ≤ q → among q rs ≡ false → times q (map (held_after rs) L.holders) ≡ held_by L q
      same q z n = sum_map (λ x. bit (eqb x q)) (held_after rs) L.holders ∙ ap (λ f. sum_of f L.holders) (fun_ext (λ r. ap bit (one r)))
        where
          one : (r : ℕ) → eqb (held_after rs r) q ≡ eqb r q
          one r = by_test (among r rs)
              (λ e. rw e (ne_eqb 0 q (λ d. omega arith) ∙ sym (ne_eqb r q (λ d. true≢false (sym e ∙ ap (λ x. among x rs) d ∙ n)))))
              (λ e. rw e)

      fits : (g : Region) → (Lies L g × (1 ≤ g.name)) × (not (among g.name rs) ≡ true) → Lies (remove_regions L rs) g
      fits g h = rw (same g.name h.0.1 (not-true (among g.name rs) h.1)) h.0.0

-- ---- every call

pub accepted_paged : {N : ℕ} (L : Model) → Valid L → Paged N L → (c : Call) → refusal L c ≡ 0 → Paged N (accepted L c)
unfolding accepted checks space
accepted_paged L v p (declare ms) e = still L p refl refl (λ r. refl)
accepted_paged L v p new_region e = region_paged L p v 0 1
accepted_paged L v p (subregion r) e = region_paged L p v r ((region L.regions r).level + 1)
accepted_paged L v p (push n) e = still L p refl refl (λ r. refl)
accepted_paged L v p (drop_frame f) e = pop_paged L p
accepted_paged L v p (hand_back s b f) e = fill_paged (pop_frame L) (pop_paged L p) b (slot L s)
accepted_paged L v p (allocate s r k) e =
    let t = passed L (allocate s r k) e in
    fill_paged (add_object L r k) (object_paged L p v r k (not-false (lives_in L r) t.1.1.0) t.1.1.1.1.0) s (length L.objects + 1)
accepted_paged L v p (first s r) e = fill_paged L p s (region L.regions r).oldest
accepted_paged L v p (copy s t) e = fill_paged L p t (slot L s)
accepted_paged L v p (fetch b s) e = fill_paged L p s (get_or (beneath L) b 0)
accepted_paged L v p (clear s) e = fill_paged L p s 0
accepted_paged L v p (load s w t) e = fill_paged L p t (get_or (in_slot L s).words w 0)
accepted_paged L v p (set_pointer s w q f) e = write_paged L p s w (slot L q)
accepted_paged L v p (put s w x) e = write_paged L p s w x
accepted_paged L v p (get s w) e = p
accepted_paged L v p (view s) e = p
accepted_paged L v p (same s t) e = p
accepted_paged L v p (about s) e = p
accepted_paged L v p (report r) e = p
accepted_paged L v p totals e = p
accepted_paged L v p audit e = p
accepted_paged L v p (delete r f) e = remove_paged L p v (r ∷ []) (removable_one L r f e)
accepted_paged L v p (delete_all rs f) e = remove_paged L p v rs (removable_all L rs f e)
accepted_paged L v p (ask q) e = p

pub next_paged : {N : ℕ} (L : Model) → Valid L → Paged N L → (c : Call) → Paged N (next L c)
unfolding next
next_paged {N} L v p c = go (refusal L c) refl
  where
    go : (n : ℕ) → refusal L c ≡ n → Paged N (next_by n L c)
    go zero e = accepted_paged L v p c e
    go (suc n) e = p

pub after_paged : {N : ℕ} (L : Model) → Valid L → Paged N L → (cs : List Call) → Paged N (after L cs)
after_paged L v p [] = p
after_paged L v p (c ∷ cs) = after_paged (next L c) (next_valid L c v) (next_paged L v p c) cs

pub fresh_paged : (n : ℕ) → Paged n (fresh n)
unfolding space
fresh_paged n = record { whole = length-replicate n 0; held = all_replicate _ n 0 refl; fits = (omega arith, tt) }

-- ---- No count passes 16,640 (document 01, The store): 256 pages have 16,384 words, and 32 frames 256 slots. This is why no count wraps modulo 2^32

module _ (L : Model) (r : ℕ) where
  -- an object counts at most once for each of its words, and only while it lives
  from_most : (o : Object) → from_object (lives_in L) (home_in L) L.kinds r o ≤ pick (any_of (λ g. eqb o.home g.name) L.regions) (length o.words + 1) 0
  unfolding from_object
  from_most o =
      let lives : any_of (λ g. eqb o.home g.name) L.regions ≡ lives_in L o.home = ap (λ t. any_of t L.regions) (fun_ext (λ g. eqb_sym o.home g.name)) in
      rw lives (go (lives_in L o.home) (eqb o.home r) (sum₂_most (free_into (home_in L) r) (λ k q. one (eqb k 1) (eqb (home_in L q) r)) (marks L.kinds o.kind) o.words))
    where
      one : (a b : Bool) → pick a (bit b) 0 ≤ 1
      one true true = omega arith
      one true false = omega arith
      one false b = omega arith

      go : (a b : Bool) {m n : ℕ} → m ≤ n → pick (a && not b) m 0 ≤ pick a (n + 1) 0
      go true true h = omega arith
      go true false h = omega arith
      go false b h = omega arith

  -- the live objects lie in the pages of the regions
  words_most : word_pointers L r ≤ sum_of (λ g. space L g.name) L.regions
  unfolding in_words space
  words_most = omega (arith, sum_le _ _ from_most L.objects, sum_any (λ g o. eqb o.home g.name) (λ o. length o.words + 1) L.objects L.regions)

  slots_most : Valid L → in_frames (home_in L) r L.frames ≤ 8 * length L.frames
  unfolding in_frames
  slots_most v = sum_most (sum_of (into (home_in L) r)) 8 L.frames (all_map (λ f h. omega (arith, h.1, count_most (λ q. eqb (home_in L q) r) f)) L.frames v.frames.sized)

pages_most : (L : Model) (gs : List Region) → All (Lies L) gs → sum_of (λ g. space L g.name) gs ≤ 64 * sum_of (λ g. held_by L g.name) gs
pages_most L [] h = omega arith
pages_most L (g ∷ gs) h = omega (arith, h.0, pages_most L gs h.1)

-- no page is held twice
pages_once : (L : Model) → Valid L → sum_of (λ g. held_by L g.name) L.regions ≤ length L.holders
pages_once L v = omega (
  arith,
  sum_swap (λ g o. bit (eqb o g.name)) L.regions L.holders,
  sum_most (λ o. sum_of (λ g. bit (eqb o g.name)) L.regions) 1 L.holders (all_each _ one L.holders),
)
  where
    one : (o : ℕ) → sum_of (λ g. bit (eqb o g.name)) L.regions ≤ 1
    one o = rw (ap (λ f. sum_of f L.regions) (fun_ext (λ g. ap bit (eqb_sym o g.name)))) (distinct_once L.regions v.names.distinct o)

pub outside_bound : {N : ℕ} (L : Model) → Valid L → Paged N L → N ≤ 256 → (r : ℕ) → outside L r ≤ 16640
unfolding outside
outside_bound L v p h r = omega (arith, words_most L r, pages_most L L.regions p.fits, pages_once L v, p.whole, slots_most L r v, v.frames.many)

pub stored_bound : {N : ℕ} (L : Model) → Valid L → Paged N L → N ≤ 256 → (r : ℕ) → stored L r ≤ 16640
stored_bound L v p h r = omega (arith, outside_stored L r, outside_bound L v p h r)
