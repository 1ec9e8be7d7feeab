-- What a memory lists, where it represents a valid model: the objects are those of the live regions, each on a page of its region.
-- Assumes nothing.
use Rattle.std.specs.Prelude.{◌≡◌, refl, ◌≢◌, Bool, true, false, ℕ, ◌-◌, ◌/◌, ◌<◌, eqb, length}
use Rattle.std.proofs.Common.{sym, ap, ◌∙◌, inl, inr}
use mathlib.Core.List.{List, [], map}
use Rattle.std.proofs.Math.ListN.{get_or}
use borrow.Author.Tests.{ne_eqb}
use Rattle.lists.specs.Lists.{pick, sum_of, up_to}
use Rattle.lists.specs.Laws.Tests.{or_right}
use Rattle.lists.specs.Laws.Sums.{sum_map, sum_joined}
use Rattle.lists.specs.Laws.UpTo.{sum_below}
use Rattle.model.specs.Model.{Model, lives_in, home_in}
use Rattle.model.specs.Valid.{Valid}
use Rattle.regions.specs.Regions.{name_of, tag_of, name_in}
use Rattle.pages.specs.Pages.{page_count, owner_at, owner_in, owner_of}
use Rattle.outcomes.specs.Store.{Store, frames, kinds, regions, pages}
use Rattle.outcomes.proofs.Laws.Begin.{holder_of, headers_of, headers}
use Rattle.refinement.specs.Represents.{spot, Alive, ids_in, FramesAgree, KindsAgree, RegionsAgree, PagesAgree, ObjectsAgree, Represents, Owned}
use Rattle.refinement.specs.Laws.Tags.{tag_name, live_named, tag_some}
use Rattle.refinement.specs.Laws.Reads.{page_count_lem, spot_some, owner_name}
use Rattle.refinement.specs.Laws.Walks.{headers_on_lem}
use Rattle.refinement.specs.Laws.Report.{held_objects}

-- a valid model that a memory agrees with in all but the stored counts
pub record Agrees (L : Model) (sp : List ℕ) (ids : ℕ → List ℕ) (S : Store) : Type 0 where
  pub valid : Valid L
  pub on_frames : FramesAgree sp L.frames L.counted (frames S)
  pub on_kinds : KindsAgree L.kinds (kinds S)
  pub on_regions : RegionsAgree L sp (regions S)
  pub on_pages : PagesAgree L (regions S) (pages S) (length S.heap)
  pub on_objects : ObjectsAgree L sp ids (regions S) (pages S) S.heap

pub agrees : {L : Model} {sp : List ℕ} {ids : ℕ → List ℕ} {S : Store} → Valid L → Represents L sp ids S → Agrees L sp ids S
agrees v h = record { valid = v; on_frames = h.on_frames; on_kinds = h.on_kinds; on_regions = h.on_regions; on_pages = h.on_pages; on_objects = h.on_objects }

module _ {L : Model} {sp : List ℕ} {ids : ℕ → List ℕ} (S : Store) (a : Agrees L sp ids S) where
  -- a page is free, or its holder by name is the region that the model says
  pub holder_is : (r j : ℕ) → lives_in L r ≡ true → owner_at (pages S) j ≡ tag_of (regions S) r → holder_of S j ≡ r
  holder_is r j l e = ap (name_of (regions S)) e ∙ tag_name a.on_regions r l

  -- the headers met on a page are those of the model's objects there
  headers_of_lem : (j : ℕ) → j < (pages S).made → headers_of S j ≡ pick (eqb (owner_at (pages S) j) 0) [] (map (λ q. spot sp q - 1) (ids j))
  unfolding name_of name_in
  headers_of_lem j h = go (a.on_pages.owned j h)
    where
      go : Owned L (regions S) (pages S) j
          → headers_of S j ≡ pick (eqb (owner_at (pages S) j) 0) [] (map (λ q. spot sp q - 1) (ids j))
      go (inl (z, e)) = rw e
      go (inr (l, e)) =
          let r = get_or L.holders j 0 in
          let n : owner_at (pages S) j ≢ 0 = λ z. tag_some (regions S) r (sym e ∙ z) in
          let m : holder_of S j ≢ 0 = λ z. live_named a.on_regions r l (sym (holder_is r j l e) ∙ z) in
          rw (ne_eqb (holder_of S j) 0 m, ne_eqb (owner_at (pages S) j) 0 n) (headers_on_lem L sp ids (regions S) (kinds S) (pages S) S.heap a.valid a.on_kinds a.on_objects j h n)

  -- whatever is added up over the headers met comes to the same over the objects of live regions
  pub headers_sum : (f : ℕ → ℕ) → sum_of f (headers S) ≡ sum_of (λ q. pick (lives_in L (home_in L q)) (f (spot sp q - 1)) 0) (ids_in L)
  headers_sum f =
      sum_joined f (headers_of S) (up_to (page_count (pages S)))
      ∙ ap (λ n. sum_of (λ j. sum_of f (headers_of S j)) (up_to n)) (page_count_lem a.on_pages)
      ∙ sum_below _ _ (pages S).made (λ j h. ap (sum_of f) (headers_of_lem j h) ∙ go j (eqb (owner_at (pages S) j) 0))
      ∙ held_objects L sp ids (regions S) (pages S) S.heap a.valid a.on_regions a.on_pages a.on_objects (λ q. f (spot sp q - 1))
    where
      go : (j : ℕ) (b : Bool) → sum_of f (pick b [] (map (λ q. spot sp q - 1) (ids j))) ≡ pick b 0 (sum_of (λ q. f (spot sp q - 1)) (ids j))
      go j true = refl
      go j false = sum_map f (λ q. spot sp q - 1) (ids j)

  -- a live object's page is its region's
  pub place_home : (q : ℕ) → Alive L q → holder_of S ((spot sp q - 1) / 64) ≡ home_in L q
  unfolding owner_of owner_in owner_at
  place_home q l = rw (ne_eqb (spot sp q) 0 (spot_some a.on_objects q l)) at (owner_name a.on_objects a.on_regions q (or_right (eqb q 0) (lives_in L (home_in L q)) l))
