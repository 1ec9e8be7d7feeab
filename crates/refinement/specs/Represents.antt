-- Used in proofs only: no demand cites it, and a reader need not believe it.
-- When a store represents a model. `sp` has, for each object of the model in its order, the pointer by which the store knows it, and `ids j` the objects on page j.
-- Nothing is said of entries that are not in use: they may hold anything.
-- Assumes nothing.
use Rattle.std.specs.Prelude.{◌≡◌, ◌⊎◌, ◌≢◌, true, List, [], ◌∷◌, ℕ, zero, suc, ◌+◌, ◌-◌, ◌*◌, ◌/◌, ◌%◌, ◌≤◌, ◌<◌, eqb, length, get_or}
use Rattle.lists.specs.Lists.{pick, sum_of, from, up_to}
use Rattle.model.specs.Model.{Model, Region, Object, object, region, marks, lives_in, home_in, stored}
use Rattle.frames.specs.declared.Frames.{Frames}
use Rattle.frames.specs.Frames.{width_at, slot_at}
use Rattle.kinds.specs.declared.Kinds.{Kinds}
use Rattle.kinds.specs.Kinds.{size_of, mark_at}
use Rattle.regions.specs.declared.Regions.{Regions}
use Rattle.regions.specs.Regions.{name_at, entry_of, tag_of, parent_at, level_at, newest_at, oldest_at, count_at}
use Rattle.pages.specs.declared.Pages.{Pages}
use Rattle.pages.specs.Pages.{owner_at, owner_of}
use Rattle.outcomes.specs.Store.{Store, frames, kinds, regions, pages}

-- the pointer of object p, 0 for null; and a word of the model, with mark k, as the store holds it
abbrev pub spot : List ℕ → ℕ → ℕ
spot sp p = get_or (0 ∷ sp) p 0

abbrev pub image_of : List ℕ → ℕ → ℕ → ℕ
image_of sp k x = pick (eqb k 0) x (spot sp x)

-- object p is one of a live region
abbrev pub Alive : Model → ℕ → Type 0
Alive L p = lives_in L (home_in L p) ≡ true

abbrev pub words_in : Model → ℕ → List ℕ
words_in L p = (object L.objects p).words

-- the ids of all objects ever made
abbrev pub ids_in : Model → List ℕ
ids_in L = from 1 (length L.objects)

-- the tag of the region named r, 0 for none
abbrev pub tag_for : Regions → ℕ → ℕ
tag_for g zero = 0
tag_for g (suc r) = tag_of g (suc r)

pub record FramesAgree (sp : List ℕ) (fs : List (List ℕ)) (m : ℕ) (f : Frames) : Type 0 where
  pub standing : f.standing ≡ length fs
  pub counted : f.counted ≡ m
  pub widths : (i : ℕ) → i < length fs → width_at f i ≡ length (get_or fs i [])
  pub slots : (i s : ℕ) → i < length fs → s < length (get_or fs i []) → slot_at f i s ≡ spot sp (get_or (get_or fs i []) s 0)

pub record KindsAgree (ks : List (List ℕ)) (k : Kinds) : Type 0 where
  pub declared : k.declared ≡ length ks
  pub sizes : (n : ℕ) → size_of k n ≡ length (marks ks n)
  pub few : (n : ℕ) → n < length ks → get_or k.sizes n 0 ≤ 16
  pub marks_agree : (n w : ℕ) → w < length (marks ks n) → mark_at k n w ≡ get_or (marks ks n) w 0

-- the entry of a live region
pub record EntryAgrees (sp : List ℕ) (r : Region) (g : Regions) (i : ℕ) : Type 0 where
  pub parent : parent_at g i ≡ tag_for g r.parent
  pub level : level_at g i ≡ r.level
  pub oldest : oldest_at g i ≡ spot sp r.oldest

-- `rows`: the entries in use are the live regions, each once, in any order: whatever is added up over the one comes to the same over the other
pub record RegionsAgree (L : Model) (sp : List ℕ) (g : Regions) : Type 0 where
  pub given : g.given ≡ L.given
  pub rows : (f : ℕ → ℕ) → sum_of (λ i. pick (eqb (name_at g i) 0) 0 (f (name_at g i))) (up_to 64) ≡ sum_of (λ r. f r.name) L.regions
  pub entry : (r : ℕ) → lives_in L r ≡ true → EntryAgrees sp (region L.regions r) g (entry_of g r)

-- the newest page of a region is its own, and the model's, and has the room that the model says; with none there is no room
pub record NewestAgrees (r : Region) (p : Pages) (tag j : ℕ) : Type 0 where
  pub made : j < p.made
  pub own : owner_at p j ≡ tag
  pub page : r.newest ≡ j
  pub left : get_or p.taken j 0 + r.room ≡ 64

abbrev pub RoomAgrees : Region → Pages → ℕ → ℕ → Type 0
RoomAgrees r p tag zero = r.room ≡ 0
RoomAgrees r p tag (suc j) = NewestAgrees r p tag j

-- page j is free, or its owner is the live region that the model says
abbrev pub Owned : Model → Regions → Pages → ℕ → Type 0
Owned L g p j = let r = get_or L.holders j 0 in ((r ≡ 0) × (owner_at p j ≡ 0)) ⊎ ((lives_in L r ≡ true) × (owner_at p j ≡ tag_of g r))

pub record PagesAgree (L : Model) (g : Regions) (p : Pages) (words : ℕ) : Type 0 where
  pub some : 1 ≤ p.made
  pub most : p.made ≤ 256
  pub whole : words ≡ 64 * p.made
  pub listed : length L.holders ≡ p.made
  pub owned : (j : ℕ) → j < p.made → Owned L g p j
  pub room : (r : ℕ) → lives_in L r ≡ true → RoomAgrees (region L.regions r) p (tag_of g r) (newest_at g (entry_of g r))

-- object p, whose kind has the marks ms, stands in the heap at its pointer, and where the model says
pub record Laid (heap sp ms : List ℕ) (p : ℕ) (o : Object) : Type 0 where
  pub placed : 1 ≤ spot sp p
  pub page : (spot sp p - 1) / 64 ≡ o.page
  pub word : (spot sp p - 1) % 64 ≡ o.word
  pub inside : spot sp p + length o.words ≤ length heap
  pub header : get_or heap (spot sp p - 1) 0 ≡ o.kind
  pub words : (w : ℕ) → w < length o.words → get_or heap (spot sp p + w) 0 ≡ image_of sp (get_or ms w 0) (get_or o.words w 0)

-- the objects ps lie from place a to place e without gaps
abbrev pub Tiles : Model → List ℕ → ℕ → ℕ → List ℕ → Type 0
Tiles L sp a e [] = a ≡ e
Tiles L sp a e (p ∷ ps) = (spot sp p ≡ a + 1) × Alive L p × Tiles L sp (a + 1 + length (words_in L p)) e ps

-- `once`: each object of a live region lies on one page of that region, and there once: whatever is added up over the region's pages comes to the same over its objects
pub record ObjectsAgree (L : Model) (sp : List ℕ) (ids : ℕ → List ℕ) (g : Regions) (p : Pages) (heap : List ℕ) : Type 0 where
  pub known : length sp ≡ length L.objects
  pub laid : (q : ℕ) → Alive L q → Laid heap sp (marks L.kinds (object L.objects q).kind) q (object L.objects q)
  pub apart : (q r : ℕ) → Alive L q → Alive L r → q ≢ r → (spot sp q + length (words_in L q) < spot sp r) ⊎ (spot sp r + length (words_in L r) < spot sp q)
  pub owned : (q : ℕ) → Alive L q → owner_of p (spot sp q) ≡ tag_of g (home_in L q)
  pub within : (q : ℕ) → Alive L q → spot sp q + length (words_in L q) ≤ 64 * ((spot sp q - 1) / 64) + get_or p.taken ((spot sp q - 1) / 64) 0
  pub full : (j : ℕ) → j < p.made → owner_at p j ≢ 0 → get_or p.taken j 0 ≤ 64
  pub tiled : (j : ℕ) → j < p.made → owner_at p j ≢ 0 → Tiles L sp (64 * j) (64 * j + get_or p.taken j 0) (ids j)
  pub once : (r : ℕ) → lives_in L r ≡ true → (f : ℕ → ℕ)
      → sum_of (λ j. pick (eqb (owner_at p j) (tag_of g r)) (sum_of f (ids j)) 0) (up_to p.made) ≡ sum_of (λ q. pick (eqb (home_in L q) r) (f q) 0) (ids_in L)

pub record Represents (L : Model) (sp : List ℕ) (ids : ℕ → List ℕ) (S : Store) : Type 0 where
  pub on_frames : FramesAgree sp L.frames L.counted (frames S)
  pub on_kinds : KindsAgree L.kinds (kinds S)
  pub on_regions : RegionsAgree L sp (regions S)
  pub on_pages : PagesAgree L (regions S) (pages S) (length S.heap)
  pub on_objects : ObjectsAgree L sp ids (regions S) (pages S) S.heap
  -- every stored count is the model's
  pub counts : (r : ℕ) → lives_in L r ≡ true → count_at (regions S) (entry_of (regions S) r) ≡ stored L r
