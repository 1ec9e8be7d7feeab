-- Allocate: a new object on page j, after the t words that are taken there. It is apart from all others, and they stay as they were.
-- Assumes nothing.
use Rattle.std.specs.Prelude.{◌≡◌, ◌⊎◌, ◌≢◌, Bool, false, ◌&&◌, ◌||◌, ℕ, suc, ◌+◌, ◌-◌, ◌*◌, ◌/◌, ◌≤◌, ◌<◌, eqb, leb, replicate}
use Rattle.std.proofs.Math.Path.{refl, sym, ap}
use Rattle.std.proofs.Common.{◌∙◌, subst, inl, inr, true≢false, add-one, arith, eq-eqb, ne_eqb, leb-true, leb-false}
use Rattle.std.proofs.Math.Bool.{true}
use mathlib.Core.List.{List, [], ◌∷◌, ◌++◌}
use Rattle.std.proofs.Math.ListN.{length, get_or, length-append, get_or-append, get_or-eq_default}
use Rattle.std.proofs.lemmas.List.{length-replicate, get_or-replicate}
use Rattle.std.proofs.lemmas.List.Edits.{sets}
use Rattle.std.proofs.Math.Seq.{length-sets, get_or-append_seam}
use Rattle.lists.specs.Lists.{pick, sum_of, from, up_to}
use Rattle.lists.specs.Laws.Tests.{both, pick_same, by_test, by_same}
use Rattle.lists.specs.Laws.All.{all₂_in}
use Rattle.lists.specs.Laws.Sums.{sum_append, sum_same}
use Rattle.lists.specs.Laws.Sets.{get_d_sets_in, get_d_sets_out}
use Rattle.lists.specs.Laws.UpTo.{all_from, sum_change, sum_from_suc}
use Rattle.model.specs.Model.{Model, Object, no_object, object, marks, lives_in, home_in, home_of, parent_in, allowed}
use Rattle.model.specs.Calls.{size, page_for, word_for, add_object}
use Rattle.model.specs.Valid.{Valid, known, fine}
use Rattle.model.proofs.Laws.Slots.{Known, object_valid}
use Rattle.model.proofs.Laws.Regions.{live_map, in_range}
use Rattle.model.proofs.Laws.Grows.{change, name_kept}
use Rattle.regions.specs.declared.Regions.{Regions}
use Rattle.regions.specs.Regions.{tag_of}
use Rattle.pages.specs.declared.Pages.{Pages}
use Rattle.pages.specs.Pages.{owner_at, owner_of, with_taken}
use Rattle.pages.specs.Laws.Taken.{owner_is, owner_here, owner_else, taken_here, taken_else}
use Rattle.refinement.specs.Represents.{spot, image_of, Alive, words_in, ids_in, RegionsAgree, Laid, Tiles, ObjectsAgree}
use Rattle.refinement.specs.Laws.Tags.{zero_dead, tag_some, tag_same}
use Rattle.refinement.specs.Laws.Reads.{by_known}
use Rattle.refinement.specs.Laws.Kept.{tiles_kept}

-- ---- one element more, where what is not there reads as d

module _ {A : Type 0} (d : A) (l : List A) (x : A) where
  more_old : (p : ℕ) → p ≤ length l → get_or (d ∷ l ++ (x ∷ [])) p d ≡ get_or (d ∷ l) p d
  more_old p h = get_or-append (d ∷ l) (x ∷ []) d p (omega arith)

  more_new : get_or (d ∷ l ++ (x ∷ [])) (length l + 1) d ≡ x
  more_new = rw (add-one (length l)) (get_or-append_seam (d ∷ l) x [] d)

  more_none : (p : ℕ) → length l + 1 < p → get_or (d ∷ l ++ (x ∷ [])) p d ≡ d
  more_none p h = get_or-eq_default (d ∷ l ++ (x ∷ [])) d {n = p} (simp length-append (omega arith))

-- ---- the model with the new object

-- the new object, its id, and what a page holds with it
abbrev pub new_object : Model → ℕ → ℕ → Object
new_object L r k = record { home = r; kind = k; page = page_for L r (size L k); word = word_for L r (size L k); words = replicate (length (marks L.kinds k)) 0 }

abbrev pub new_id : Model → ℕ
new_id L = length L.objects + 1

abbrev pub joins : (ℕ → List ℕ) → ℕ → List ℕ → ℕ → List ℕ
joins ids j l i = pick (eqb i j) l (ids i)

abbrev os₂ : Model → ℕ → ℕ → List Object
os₂ L r k = L.objects ++ (new_object L r k ∷ [])

pub made_lives : (L : Model) (r k q : ℕ) → lives_in (add_object L r k) q ≡ lives_in L q
unfolding add_object change
made_lives L r k q = let j = page_for L r (size L k) in live_map (change r (size L k) (new_id L) j) (name_kept r (size L k) (new_id L) j) L.regions q

-- the pointers that are known stay, with the new one after them
module _ (L : Model) (sp : List ℕ) (len : length sp ≡ length L.objects) (a : ℕ) where
  spot_in : (q : ℕ) → q ≤ length L.objects → spot (sp ++ (a ∷ [])) q ≡ spot sp q
  spot_in q h = more_old 0 sp a q (omega arith)

  pub spot_last : spot (sp ++ (a ∷ [])) (new_id L) ≡ a
  spot_last = rw (← len) (more_new 0 sp a)

  pub spot_kept : lives_in L 0 ≡ false → (q : ℕ) → Known L q → spot (sp ++ (a ∷ [])) q ≡ spot sp q
  spot_kept z q h = spot_in q (by_known L q h (λ e. omega arith) (in_range (lives_in L) L.objects q z))

tiles_append : (L : Model) (sp : List ℕ) (a e f : ℕ) (ps qs : List ℕ) → Tiles L sp a e ps → Tiles L sp e f qs → Tiles L sp a f (ps ++ qs)
tiles_append L sp a e f [] qs t u = rw t u
tiles_append L sp a e f (p ∷ ps) qs t u = (t.0, t.1, tiles_append L sp (a + 1 + length (words_in L p)) e f ps qs t.2 u)

-- Page j is the newest page of region r, with the objects `base` in its first t words; or it is free, and the object is its first one.
abbrev pub Onto : Regions → Pages → (ℕ → List ℕ) → ℕ → ℕ → ℕ → List ℕ → Type 0
Onto g p ids r j t base = ((owner_at p j ≡ tag_of g r) × (get_or p.taken j 0 ≡ t) × (base ≡ ids j)) ⊎ ((owner_at p j ≡ 0) × (t ≡ 0) × (base ≡ []))

module _ (L : Model) (sp : List ℕ) (ids : ℕ → List ℕ) (g : Regions) (p : Pages) (heap : List ℕ) (v : Valid L) (ra : RegionsAgree L sp g) (oa : ObjectsAgree L sp ids g p heap)
    (r k j t : ℕ) (base : List ℕ) (lr : lives_in L r ≡ true) (room : t + size L k ≤ 64)
    (jm : j < p.made) (jo : j < length p.owners) (jt : j < length p.taken) (jh : 64 * j + 64 ≤ length heap) (page : Onto g p ids r j t base)
    (onto : page_for L r (size L k) ≡ j) (behind : word_for L r (size L k) ≡ t) where
  abbrev n : ℕ
  n = length (marks L.kinds k)

  abbrev a : ℕ
  a = 64 * j + t + 1

  abbrev sp₂ : List ℕ
  sp₂ = sp ++ (a ∷ [])

  abbrev p₂ : Pages
  p₂ = with_taken p j (tag_of g r) (t + size L k)

  abbrev heap₂ : List ℕ
  heap₂ = sets heap (64 * j + t) (k ∷ replicate n 0)

  -- a page with a live object on it is no free page
  owner_on : (q : ℕ) → Alive L q → owner_at p ((spot sp q - 1) / 64) ≡ tag_of g (home_in L q)
  owner_on q l = sym (owner_is p (spot sp q) (oa.laid q l).placed) ∙ oa.owned q l

  on_page_lem : (q : ℕ) → Alive L q → (spot sp q - 1) / 64 ≡ j → (owner_at p j ≡ tag_of g r) × (get_or p.taken j 0 ≡ t)
  on_page_lem q l e = go page
    where
      go : Onto g p ids r j t base → (owner_at p j ≡ tag_of g r) × (get_or p.taken j 0 ≡ t)
      go (inl h) = (h.0, h.1)
      go (inr h) = absurd (tag_some g (home_in L q) (sym (rw e at (owner_on q l)) ∙ h.0))

  new_apart : (q : ℕ) → Alive L q → (spot sp q + length (words_in L q) < a) ⊎ (a + n < spot sp q)
  new_apart q l = go (by_same ((spot sp q - 1) / 64) j)
    where
      go : ((spot sp q - 1) / 64 ≡ j) ⊎ ((spot sp q - 1) / 64 ≢ j) → (spot sp q + length (words_in L q) < a) ⊎ (a + n < spot sp q)
      go (inl e) = let f = rw (e, (on_page_lem q l e).1) at (oa.within q l) in inl (omega arith)
      go (inr e) = by_test (leb j ((spot sp q - 1) / 64))
          (λ b. let h = leb-true j ((spot sp q - 1) / 64) b in inr (omega arith))
          (λ b. let h = leb-false j ((spot sp q - 1) / 64) b in inl (omega (arith, oa.within q l, oa.full ((spot sp q - 1) / 64) (omega arith) (λ z. tag_some g (home_in L q) (sym (owner_on q l) ∙ z)))))

  -- ---- old and new, before and after

  spot_old : (q : ℕ) → q ≤ length L.objects → spot sp₂ q ≡ spot sp q
  spot_old = spot_in L sp oa.known a

  spot_new : spot sp₂ (new_id L) ≡ a
  spot_new = spot_last L sp oa.known a

  object_old : (q : ℕ) → q ≤ length L.objects → object (os₂ L r k) q ≡ object L.objects q
  object_old q h = more_old no_object L.objects (new_object L r k) q h

  object_new : object (os₂ L r k) (new_id L) ≡ new_object L r k
  object_new = more_new no_object L.objects (new_object L r k)

  -- an object alive afterwards is the new one, or was alive
  either : (q : ℕ) → Alive (add_object L r k) q → (q ≡ new_id L) ⊎ ((q ≤ length L.objects) × Alive L q)
  unfolding add_object
  either q l = go (by_same q (new_id L)) (leb q (length L.objects)) refl
    where
      m : lives_in L (home_of (os₂ L r k) q) ≡ true
      m = sym (made_lives L r k (home_of (os₂ L r k) q)) ∙ l

      go : (q ≡ new_id L) ⊎ (q ≢ new_id L) → (b : Bool) → leb q (length L.objects) ≡ b → (q ≡ new_id L) ⊎ ((q ≤ length L.objects) × Alive L q)
      go (inl e) b z = inl e
      go (inr e) true z = let h = leb-true q (length L.objects) z in inr (h, sym (ap (λ o. lives_in L o.home) (object_old q h)) ∙ m)
      go (inr e) false z = absurd (true≢false (sym m ∙ ap (λ o. lives_in L o.home) (more_none no_object L.objects (new_object L r k) q (omega (arith, leb-false q (length L.objects) z))) ∙ zero_dead ra))

  -- a statement on every object alive afterwards, by its place and what it is
  each : (P : ℕ → ℕ → Object → Type 0) → ((q : ℕ) → q ≤ length L.objects → Alive L q → P q (spot sp q) (object L.objects q)) → P (new_id L) a (new_object L r k)
      → (q : ℕ) → Alive (add_object L r k) q → P q (spot sp₂ q) (object (os₂ L r k) q)
  each P old new q l = go (either q l)
    where
      go : (q ≡ new_id L) ⊎ ((q ≤ length L.objects) × Alive L q) → P q (spot sp₂ q) (object (os₂ L r k) q)
      go (inl e) = rw (e, spot_new, object_new) new
      go (inr h) = rw (spot_old q h.0, object_old q h.0) (old q h.0 h.1)

  -- a word that is fine has the image it had
  image_old : (h m x : ℕ) → fine (lives_in L) (parent_in L) (home_in L) h m x ≡ true → image_of sp₂ m x ≡ image_of sp m x
  image_old h m x f = go (eqb m 0) f
    where
      go : (b : Bool) → (b || (known (lives_in L) (home_in L) x && allowed (parent_in L) (home_in L) h m x)) ≡ true → pick b x (spot sp₂ x) ≡ pick b x (spot sp x)
      go true f = refl
      go false f = spot_kept L sp oa.known a (zero_dead ra) x (both (known (lives_in L) (home_in L) x) (allowed (parent_in L) (home_in L) h m x) f).0

  -- ---- what the objects hold

  heap_out : (i : ℕ) → (i < 64 * j + t) ⊎ (a + n ≤ i) → get_or heap₂ i 0 ≡ get_or heap i 0
  heap_out i (inl h) = get_d_sets_out (k ∷ replicate n 0) heap (64 * j + t) i 0 (inl h)
  heap_out i (inr h) = get_d_sets_out (k ∷ replicate n 0) heap (64 * j + t) i 0 (inr (simp length-replicate (omega arith)))

  heap_in : (i : ℕ) → i ≤ n → get_or heap₂ (64 * j + t + i) 0 ≡ get_or (k ∷ replicate n 0) i 0
  heap_in i h = get_d_sets_in (k ∷ replicate n 0) heap (64 * j + t) i 0 (simp length-replicate (omega arith)) (simp length-replicate (omega arith))

  old_laid : (q : ℕ) → q ≤ length L.objects → Alive L q → Laid heap₂ sp₂ (marks L.kinds (object L.objects q).kind) q (object L.objects q)
  old_laid q h l = go (new_apart q l)
    where
      m : Laid heap sp (marks L.kinds (object L.objects q).kind) q (object L.objects q)
      m = oa.laid q l

      same : (i : ℕ) → i < length (words_in L q) → image_of sp₂ (get_or (marks L.kinds (object L.objects q).kind) i 0) (get_or (words_in L q) i 0) ≡ image_of sp (get_or (marks L.kinds (object L.objects q).kind) i 0) (get_or (words_in L q) i 0)
      same i b =
          let w = object_valid L v q l in
          image_old (object L.objects q).home (get_or (marks L.kinds (object L.objects q).kind) i 0) (get_or (words_in L q) i 0)
          (all₂_in _ (marks L.kinds (object L.objects q).kind) (words_in L q) i 0 0 (w.fine_words l) (omega (arith, w.sized)) b)

      out : (spot sp q + length (words_in L q) < a) ⊎ (a + n < spot sp q) → (i : ℕ) → spot sp q ≤ i + 1 → i < spot sp q + length (words_in L q) → get_or heap₂ i 0 ≡ get_or heap i 0
      out (inl h) i b c = heap_out i (inl (omega arith))
      out (inr h) i b c = heap_out i (inr (omega arith))

      go : (spot sp q + length (words_in L q) < a) ⊎ (a + n < spot sp q) → Laid heap₂ sp₂ (marks L.kinds (object L.objects q).kind) q (object L.objects q)
      go z = record {
        placed = rw (spot_old q h) m.placed;
        page = rw (spot_old q h) m.page;
        word = rw (spot_old q h) m.word;
        inside = rw (spot_old q h, length-sets) m.inside;
        header = rw (spot_old q h) (out z (spot sp q - 1) (omega arith) (omega (arith, m.placed)) ∙ m.header);
        words = λ i b. rw (spot_old q h, same i b) (out z (spot sp q + i) (omega arith) (omega arith) ∙ m.words i b);
      }

  a_page : (a - 1) / 64 ≡ j
  a_page = omega arith

  new_laid : Laid heap₂ sp₂ (marks L.kinds k) (new_id L) (new_object L r k)
  new_laid = record {
    placed = rw spot_new (omega arith);
    page = rw (spot_new, onto) a_page;
    word = rw (spot_new, behind) (omega arith);
    inside = rw (spot_new, length-sets, length-replicate) (omega arith);
    header = let e : 64 * j + t + 0 ≡ a - 1 = omega arith in rw spot_new (subst (λ i. get_or heap₂ i 0 ≡ k) e (heap_in 0 (omega arith)));
    words = λ i h. rw spot_new (word i (rw length-replicate at h));
  }
    where
      word : (i : ℕ) → i < n → get_or heap₂ (a + i) 0 ≡ image_of sp₂ (get_or (marks L.kinds k) i 0) (get_or (replicate n 0) i 0)
      word i h =
          let e : 64 * j + t + suc i ≡ a + i = omega arith in
          rw (get_or-replicate {A = ℕ} n i 0 0 h, pick_same {A = ℕ} (eqb (get_or (marks L.kinds k) i 0) 0) 0)
          (subst (λ m. get_or heap₂ m 0 ≡ 0) e (heap_in (suc i) (omega arith) ∙ get_or-replicate {A = ℕ} n i 0 0 h))

  -- ---- places, pages and owners

  apart₂ : (q s : ℕ) → Alive (add_object L r k) q → Alive (add_object L r k) s → q ≢ s
      → (spot sp₂ q + length (object (os₂ L r k) q).words < spot sp₂ s) ⊎ (spot sp₂ s + length (object (os₂ L r k) s).words < spot sp₂ q)
  apart₂ q s l m =
      each (λ q x o. q ≢ s → (x + length o.words < spot sp₂ s) ⊎ (spot sp₂ s + length (object (os₂ L r k) s).words < x))
      (λ q h b. each (λ s y u. q ≢ s → (spot sp q + length (words_in L q) < y) ⊎ (y + length u.words < spot sp q)) (λ s i c d. oa.apart q s b c d) (λ d. rw length-replicate (new_apart q b)) s m)
      (each (λ s y u. new_id L ≢ s → (a + length (new_object L r k).words < y) ⊎ (y + length u.words < a)) (λ s i c d. rw length-replicate (swap (new_apart s c))) (λ d. absurd (d refl)) s m) q l
    where
      swap : {A B : Type 0} → A ⊎ B → B ⊎ A
      swap (inl x) = inr x
      swap (inr x) = inl x

  owned₂ : (q : ℕ) → Alive (add_object L r k) q → owner_of p₂ (spot sp₂ q) ≡ tag_of g (home_of (os₂ L r k) q)
  owned₂ = each (λ q x o. owner_of p₂ x ≡ tag_of g o.home) (λ q h l. owner_is p₂ (spot sp q) (oa.laid q l).placed ∙ old q l (by_same ((spot sp q - 1) / 64) j))
      (owner_is p₂ a (omega arith) ∙ rw a_page (owner_here p j (tag_of g r) (t + size L k) jo))
    where
      old : (q : ℕ) → Alive L q → ((spot sp q - 1) / 64 ≡ j) ⊎ ((spot sp q - 1) / 64 ≢ j) → owner_at p₂ ((spot sp q - 1) / 64) ≡ tag_of g (home_in L q)
      old q l (inl e) = ap (owner_at p₂) e ∙ owner_here p j (tag_of g r) (t + size L k) jo ∙ sym (on_page_lem q l e).0 ∙ ap (owner_at p) (sym e) ∙ owner_on q l
      old q l (inr e) = owner_else p j (tag_of g r) (t + size L k) ((spot sp q - 1) / 64) e ∙ owner_on q l

  within₂ : (q : ℕ) → Alive (add_object L r k) q → spot sp₂ q + length (object (os₂ L r k) q).words ≤ 64 * ((spot sp₂ q - 1) / 64) + get_or p₂.taken ((spot sp₂ q - 1) / 64) 0
  within₂ = each (λ q x o. x + length o.words ≤ 64 * ((x - 1) / 64) + get_or p₂.taken ((x - 1) / 64) 0) (λ q h l. old q l (by_same ((spot sp q - 1) / 64) j))
      (rw (a_page, taken_here p j (tag_of g r) (t + size L k) jt, length-replicate) (omega arith))
    where
      old : (q : ℕ) → Alive L q → ((spot sp q - 1) / 64 ≡ j) ⊎ ((spot sp q - 1) / 64 ≢ j) → spot sp q + length (words_in L q) ≤ 64 * ((spot sp q - 1) / 64) + get_or p₂.taken ((spot sp q - 1) / 64) 0
      old q l (inl e) = rw (e, taken_here p j (tag_of g r) (t + size L k) jt) (omega (arith, rw e at (oa.within q l), (on_page_lem q l e).1))
      old q l (inr e) = rw (taken_else p j (tag_of g r) (t + size L k) ((spot sp q - 1) / 64) e) (oa.within q l)

  -- a statement on the owner, the words taken and the objects of every page
  paged : (P : ℕ → ℕ → ℕ → List ℕ → Type 0) → P j (tag_of g r) (t + size L k) (base ++ (new_id L ∷ [])) → ((i : ℕ) → i ≢ j → P i (owner_at p i) (get_or p.taken i 0) (ids i))
      → (i : ℕ) → P i (owner_at p₂ i) (get_or p₂.taken i 0) (joins ids j (base ++ (new_id L ∷ [])) i)
  paged P here else i = go (by_same i j)
    where
      go : (i ≡ j) ⊎ (i ≢ j) → P i (owner_at p₂ i) (get_or p₂.taken i 0) (joins ids j (base ++ (new_id L ∷ [])) i)
      go (inl e) = rw (e, owner_here p j (tag_of g r) (t + size L k) jo, taken_here p j (tag_of g r) (t + size L k) jt, eq-eqb j j refl) here
      go (inr e) = rw (owner_else p j (tag_of g r) (t + size L k) i e, taken_else p j (tag_of g r) (t + size L k) i e, ne_eqb i j e) (else i e)

  alive_old : (q : ℕ) → Alive L q → Alive (add_object L r k) q × (spot sp₂ q ≡ spot sp q) × (length (words_in (add_object L r k) q) ≡ length (words_in L q))
  unfolding add_object
  alive_old q l =
      let h = in_range (lives_in L) L.objects q (zero_dead ra) l in
      (made_lives L r k (home_of (os₂ L r k) q) ∙ ap (λ o. lives_in L o.home) (object_old q h) ∙ l, spot_old q h, ap (λ o. length o.words) (object_old q h))

  alive_new : Alive (add_object L r k) (new_id L)
  unfolding add_object
  alive_new = made_lives L r k (home_of (os₂ L r k) (new_id L)) ∙ ap (λ o. lives_in L o.home) object_new ∙ lr

  tiled₂ : (i : ℕ) → i < p.made → owner_at p₂ i ≢ 0 → Tiles (add_object L r k) sp₂ (64 * i) (64 * i + get_or p₂.taken i 0) (joins ids j (base ++ (new_id L ∷ [])) i)
  unfolding add_object
  tiled₂ i h = paged (λ i o m l. i < p.made → o ≢ 0 → Tiles (add_object L r k) sp₂ (64 * i) (64 * i + m) l)
      (λ b c. tiles_append (add_object L r k) sp₂ (64 * j) (64 * j + t) (64 * j + (t + size L k)) base (new_id L ∷ []) (before page)
      (spot_new, alive_new, rw (ap (λ o. length o.words) object_new, length-replicate) (omega arith)))
      (λ i e b c. kept (64 * i) (64 * i + get_or p.taken i 0) (ids i) (oa.tiled i b c)) i h
    where
      kept : (x e : ℕ) (ps : List ℕ) → Tiles L sp x e ps → Tiles (add_object L r k) sp₂ x e ps
      kept = tiles_kept L (add_object L r k) sp sp₂ alive_old

      before : Onto g p ids r j t base → Tiles (add_object L r k) sp₂ (64 * j) (64 * j + t) base
      before (inl b) = subst (λ m. Tiles (add_object L r k) sp₂ (64 * j) (64 * j + m) base) b.1
          (rw b.2 (kept (64 * j) (64 * j + get_or p.taken j 0) (ids j) (oa.tiled j jm (λ z. tag_some g r (sym b.0 ∙ z)))))
      before (inr b) = rw b.2 (omega (arith, b.1))

  -- whatever is added up over the pages of a region q and over its objects: the new object comes in on both sides
  once₂ : (q : ℕ) → lives_in L q ≡ true → (f : ℕ → ℕ)
      → sum_of (λ i. pick (eqb (owner_at p₂ i) (tag_of g q)) (sum_of f (joins ids j (base ++ (new_id L ∷ [])) i)) 0) (up_to p.made) ≡ sum_of (λ x. pick (eqb (home_of (os₂ L r k) x) q) (f x) 0) (from 1 (length (os₂ L r k)))
  once₂ q l f =
      step _ _ _ _ _ _ _ _ _ (sum_change (on p₂ (joins ids j (base ++ (new_id L ∷ [])))) (on p ids) p.made j jm (λ i b e. rw (owner_else p j (tag_of g r) (t + size L k) i e, ne_eqb i j e)))
      (rw (owner_here p j (tag_of g r) (t + size L k) jo, eq-eqb j j refl, tag_same ra r q lr l, sum_append f base (new_id L ∷ [])) (here page))
      (oa.once q l f) (ap (λ m. sum_of of₂ (from 1 m)) (length-append L.objects (new_object L r k ∷ []) ∙ add-one (length L.objects)) ∙ sum_from_suc of₂ 1 (length L.objects)) olds last
    where
      on : Pages → (ℕ → List ℕ) → ℕ → ℕ
      on p ids i = pick (eqb (owner_at p i) (tag_of g q)) (sum_of f (ids i)) 0

      of₂ : ℕ → ℕ
      of₂ x = pick (eqb (home_of (os₂ L r k) x) q) (f x) 0

      step : (x y u v w z b c d : ℕ) → x + u ≡ y + v → v ≡ u + w → y ≡ z → b ≡ c + d → c ≡ z → d ≡ w → x ≡ b
      step x y u v w z b c d e f g h i m = omega arith

      plus : (b : Bool) (x y : ℕ) → pick b (x + (y + 0)) 0 ≡ pick b x 0 + pick b y 0
      plus true x y = omega arith
      plus false x y = refl

      here : Onto g p ids r j t base → pick (eqb r q) (sum_of f base + (f (new_id L) + 0)) 0 ≡ pick (eqb (owner_at p j) (tag_of g q)) (sum_of f (ids j)) 0 + pick (eqb r q) (f (new_id L)) 0
      here (inl b) = rw (b.0, b.2, tag_same ra r q lr l) (plus (eqb r q) (sum_of f (ids j)) (f (new_id L)))
      here (inr b) = rw (b.0, b.2, ne_eqb 0 (tag_of g q) (λ z. tag_some g q (sym z))) (plus (eqb r q) 0 (f (new_id L)) ∙ ap (λ x. x + pick (eqb r q) (f (new_id L)) 0) (pick_same (eqb r q) 0))

      olds : sum_of of₂ (from 1 (length L.objects)) ≡ sum_of (λ x. pick (eqb (home_in L x) q) (f x) 0) (ids_in L)
      olds = sum_same of₂ (λ x. pick (eqb (home_in L x) q) (f x) 0) (ids_in L)
          (all_from (λ x. of₂ x ≡ pick (eqb (home_in L x) q) (f x) 0) 1 (length L.objects) (λ x b c. ap (λ o. pick (eqb o.home q) (f x) 0) (object_old x (omega arith))))

      last : of₂ (1 + length L.objects) ≡ pick (eqb r q) (f (new_id L)) 0
      last = let e : 1 + length L.objects ≡ new_id L = omega arith in rw e (ap (λ o. pick (eqb o.home q) (f (new_id L)) 0) object_new)

  pub objects_made : (h : Regions) → ((q : ℕ) → tag_of h q ≡ tag_of g q) → ObjectsAgree (add_object L r k) sp₂ (joins ids j (base ++ (new_id L ∷ []))) h p₂ heap₂
  unfolding add_object with_taken
  objects_made h same = record {
    known = simp length-append (omega (arith, oa.known));
    laid = λ q l. each (λ q x o. Laid heap₂ sp₂ (marks L.kinds o.kind) q o) old_laid new_laid q l;
    apart = apart₂;
    owned = λ q l. owned₂ q l ∙ sym (same (home_of (os₂ L r k) q));
    within = within₂;
    full = paged (λ i o m l. i < p.made → o ≢ 0 → m ≤ 64) (λ b c. omega arith) (λ i e. oa.full i);
    tiled = tiled₂;
    once = λ q l f. rw (same q) (once₂ q (sym (made_lives L r k q) ∙ l) f);
  }
