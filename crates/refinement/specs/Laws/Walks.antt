-- The walk over a held page of the store meets just the model's objects on that page, and reads their words marked 1.
-- Assumes nothing.
use Rattle.std.specs.Prelude.{◌≡◌, ◌≢◌, ◌&&◌, ltb}
use Rattle.std.proofs.Math.Path.{refl}
use Rattle.std.proofs.Common.{sym, ap₂, ◌∙◌, arith}
use Rattle.std.proofs.Math.Bool.{Bool}
use mathlib.Core.List.{List, [], ◌∷◌, map}
use Prim.Native.Nat.{ℕ, zero, suc, ◌+◌, ◌-◌, ◌*◌, ◌/◌, ◌≤◌, ◌<◌, min}
use Rattle.std.proofs.Math.Dec.{eqb, leb}
use Rattle.std.proofs.Math.ListN.{length, get_or}
use borrow.Author.Tests.{lt-ltb, le-leb, lt-leb, eqb-true, ne_eqb}
use Rattle.lists.specs.Lists.{pick, sum_of, sum_of₂, keep, All, joined, up_to}
use Rattle.lists.specs.Laws.Tests.{by_test}
use Rattle.lists.specs.Laws.All.{all_map, all_in}
use Rattle.lists.specs.Laws.Sums.{sum_map, sum_keep, sum_joined, sum_same}
use Rattle.lists.specs.Laws.UpTo.{sum_below, sum₂_places}
use Rattle.model.specs.Model.{Model, object, marks, home_in}
use Rattle.model.specs.Valid.{Valid}
use Rattle.model.proofs.Laws.Slots.{object_valid}
use Rattle.kinds.specs.declared.Kinds.{Kinds}
use Rattle.kinds.specs.Kinds.{size_of, mark_at}
use Rattle.pages.specs.declared.Pages.{Pages}
use Rattle.pages.specs.Pages.{owner_at, owner_in, owner_of, taken_at}
use Rattle.objects.specs.Objects.{walk, headers_to, headers_on, free_words, free_words_on}
use Rattle.regions.specs.declared.Regions.{Regions}
use Rattle.regions.specs.Regions.{tag_of}
use Rattle.refinement.specs.Represents.{spot, image_of, Alive, words_in, KindsAgree, Laid, Tiles, ObjectsAgree}

-- the marks of object p
abbrev pub marks_in : Model → ℕ → List ℕ
marks_in L p = marks L.kinds (object L.objects p).kind

-- a live object has words, and a mark for each
abbrev Sized : Model → Type 0
Sized L = (p : ℕ) → Alive L p → (1 ≤ length (words_in L p)) × (length (words_in L p) ≡ length (marks_in L p))

pub all_sized : (L : Model) → Valid L → Sized L
all_sized L v p l =
    let o = object_valid L v p l in
    (omega (arith, o.sized, some_mark (object L.objects p).kind o.kind), o.sized)
  where
    some_mark : (k : ℕ) → (1 ≤ k) × (k ≤ length L.kinds) → 1 ≤ length (marks L.kinds k)
    some_mark zero h = absurd (omega arith)
    some_mark (suc k) h = (all_in (λ ms. (1 ≤ length ms) × (length ms ≤ 16)) L.kinds k [] v.kinds.sized h.1).0

-- an object of the list takes at least two words of the page
tiles_long : (L : Model) (sp : List ℕ) → Sized L → (a e : ℕ) (ps : List ℕ) → Tiles L sp a e ps → a + 2 * length ps ≤ e
tiles_long L sp sized a e [] t = omega arith
tiles_long L sp sized a e (p ∷ ps) t = omega (arith, (sized p t.1).0, tiles_long L sp sized (a + 1 + length (words_in L p)) e ps t.2)

module _ (L : Model) (sp : List ℕ) (k : Kinds) (heap : List ℕ) (sized : Sized L) (kinds : KindsAgree L.kinds k)
    (laid : (q : ℕ) → Alive L q → Laid heap sp (marks_in L q) q (object L.objects q)) where
  -- the header that stands at place a, and the size by it
  size_at_lem : (a p : ℕ) → spot sp p ≡ a + 1 → Alive L p → size_of k (get_or heap a 0) ≡ length (words_in L p)
  size_at_lem a p e l =
      let h : spot sp p - 1 ≡ a = omega arith in
      rw (rw h at (laid p l).header) (kinds.sizes _ ∙ sym (sized p l).1)

  walk_tiles : (n a e : ℕ) (ps : List ℕ) → length ps ≤ n → Tiles L sp a e ps → walk k heap n a e ≡ map (λ p. spot sp p - 1) ps
  unfolding walk
  walk_tiles zero a e [] h t = refl
  walk_tiles zero a e (p ∷ ps) h t = absurd (omega arith)
  walk_tiles (suc n) a e [] h t = go (size_of k (get_or heap a 0))
    where
      go : (s : ℕ) → pick (ltb 0 s && leb (a + 1 + s) e) (a ∷ walk k heap n (a + 1 + s) e) [] ≡ []
      go zero = refl
      go (suc s) = rw (lt-ltb 0 (suc s) (omega arith), lt-leb (a + 1 + suc s) e (omega arith))
  walk_tiles (suc n) a e (p ∷ ps) h t =
      let s = length (words_in L p) in
      let b : a ≡ spot sp p - 1 = omega (arith, t.0) in
      rw (size_at_lem a p t.0 t.1, lt-ltb 0 s (sized p t.1).0, le-leb (a + 1 + s) e (omega (arith, tiles_long L sp sized (a + 1 + s) e ps t.2)))
      (ap₂ ◌∷◌ b (walk_tiles n (a + 1 + s) e ps (omega arith) t.2))

  -- the words marked 1 of one object hold the pointers of the objects that the model's words lead to
  pub free_words_lem : (f : ℕ → ℕ) (p : ℕ) → Alive L p → sum_of f (free_words k heap (spot sp p - 1)) ≡ sum_of₂ (λ m x. pick (eqb m 1) (f (spot sp x)) 0) (marks_in L p) (words_in L p)
  unfolding free_words
  free_words_lem f p l =
      let ms = marks_in L p in
      let at : ℕ → ℕ = λ w. get_or heap (spot sp p - 1 + 1 + w) 0 in
      let free : ℕ → Bool = λ w. eqb (mark_at k (object L.objects p).kind w) 1 in
      let c : ℕ → ℕ → ℕ = λ m x. pick (eqb m 1) (f (spot sp x)) 0 in
      rw ((laid p l).header, kinds.sizes _) (sum_map f at (keep free (up_to (length ms))) ∙ sum_keep (λ w. f (at w)) free (up_to (length ms))
      ∙ sum_below _ _ (length ms) each ∙ sum₂_places c ms (words_in L p) 0 0 (sized p l).1)
    where
      one : (m x : ℕ) → pick (eqb m 1) (f (image_of sp m x)) 0 ≡ pick (eqb m 1) (f (spot sp x)) 0
      one m x = by_test (eqb m 1) (λ e. rw (eqb-true m 1 e)) (λ e. rw e)

      each : (w : ℕ) → w < length (marks_in L p) → pick (eqb (mark_at k (object L.objects p).kind w) 1) (f (get_or heap (spot sp p - 1 + 1 + w) 0)) 0
          ≡ pick (eqb (get_or (marks_in L p) w 0) 1) (f (spot sp (get_or (words_in L p) w 0))) 0
      each w h =
          let o = laid p l in
          let e : spot sp p - 1 + 1 ≡ spot sp p = omega (arith, o.placed) in
          rw (kinds.marks_agree (object L.objects p).kind w h, e, o.words w (omega (arith, (sized p l).1))) (one (get_or (marks_in L p) w 0) (get_or (words_in L p) w 0))

  free_joined : (f : ℕ → ℕ) (ps : List ℕ) → All (Alive L) ps
      → sum_of f (joined (free_words k heap) (map (λ p. spot sp p - 1) ps)) ≡ sum_of (λ p. sum_of₂ (λ m x. pick (eqb m 1) (f (spot sp x)) 0) (marks_in L p) (words_in L p)) ps
  free_joined f ps h =
      let at : ℕ → ℕ = λ p. spot sp p - 1 in
      sum_joined f (free_words k heap) (map at ps) ∙ sum_map (λ h. sum_of f (free_words k heap h)) at ps ∙ sum_same _ _ ps (all_map (free_words_lem f) ps h)

tiles_alive : (L : Model) (sp : List ℕ) (a e : ℕ) (ps : List ℕ) → Tiles L sp a e ps → All (Alive L) ps
tiles_alive L sp a e [] t = tt
tiles_alive L sp a e (p ∷ ps) t = (t.1, tiles_alive L sp (a + 1 + length (words_in L p)) e ps t.2)

-- ---- a held page

module _ (L : Model) (sp : List ℕ) (ids : ℕ → List ℕ) (g : Regions) (k : Kinds) (p : Pages) (heap : List ℕ) (v : Valid L) (kinds : KindsAgree L.kinds k)
    (objects : ObjectsAgree L sp ids g p heap) (j : ℕ) (made : j < p.made) (held : owner_at p j ≢ 0) where
  -- the headers met are those of the page's objects
  pub headers_on_lem : headers_on k heap p j ≡ map (λ q. spot sp q - 1) (ids j)
  unfolding headers_on headers_to taken_at
  headers_on_lem =
      let t = objects.tiled j made held in
      let e : min (get_or p.taken j 0) 64 ≡ get_or p.taken j 0 = omega (arith, objects.full j made held) in
      rw e (walk_tiles L sp k heap (all_sized L v) kinds objects.laid 64 (64 * j) (64 * j + get_or p.taken j 0) (ids j)
      (omega (arith, objects.full j made held, tiles_long L sp (all_sized L v) (64 * j) (64 * j + get_or p.taken j 0) (ids j) t)) t)

  -- whatever is added up over the words marked 1 on the page comes to the same over the model's words marked 1
  pub free_words_on_lem : (f : ℕ → ℕ) → sum_of f (free_words_on k heap p j) ≡ sum_of (λ q. sum_of₂ (λ m x. pick (eqb m 1) (f (spot sp x)) 0) (marks_in L q) (words_in L q)) (ids j)
  unfolding free_words_on headers_on
  free_words_on_lem f = rw headers_on_lem (free_joined L sp k heap (all_sized L v) kinds objects.laid f (ids j) (tiles_alive L sp _ _ (ids j) (objects.tiled j made held)))

-- the page's objects are of the region that holds it
pub homes_on : {L : Model} {sp : List ℕ} {ids : ℕ → List ℕ} {g : Regions} {p : Pages} {heap : List ℕ} → Valid L → ObjectsAgree L sp ids g p heap
    → (j : ℕ) → j < p.made → owner_at p j ≢ 0 → All (λ q. Alive L q × (owner_at p j ≡ tag_of g (home_in L q))) (ids j)
unfolding owner_of owner_in owner_at
homes_on {L} {sp} {ids} {g} {p} v objects j made held = go (64 * j) (64 * j + get_or p.taken j 0) (ids j) (omega arith) (omega (arith, objects.full j made held)) (objects.tiled j made held)
  where
    go : (a e : ℕ) (ps : List ℕ) → 64 * j ≤ a → e ≤ 64 * j + 64 → Tiles L sp a e ps → All (λ q. Alive L q × (owner_at p j ≡ tag_of g (home_in L q))) ps
    go a e [] low high t = tt
    go a e (q ∷ qs) low high t =
        let s = length (words_in L q) in
        let long = tiles_long L sp (all_sized L v) (a + 1 + s) e qs t.2 in
        let h : (spot sp q - 1) / 64 ≡ j = omega (arith, t.0) in
        let z : spot sp q ≡ 0 → ⊥ = λ e. omega (arith, t.0) in
        ((t.1, rw (ne_eqb (spot sp q) 0 z, h) at (objects.owned q t.1)), go (a + 1 + s) e qs (omega arith) high t.2)
