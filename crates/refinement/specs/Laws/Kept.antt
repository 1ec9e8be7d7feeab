-- What stays of the representation where a call changes counts, frames or words alone.
-- Assumes nothing.
use Rattle.std.specs.Prelude.{◌≡◌, refl, true, List, [], ◌∷◌, ℕ, zero, suc, ◌+◌, ◌*◌, length, get_or}
use Rattle.std.proofs.Math.Path.{sym}
use Rattle.std.proofs.Common.{◌∙◌}
use Rattle.std.proofs.Math.Logic.{inl, inr}
use Rattle.model.specs.Model.{Model, Object, region, lives_in, home_in, stored}
use Rattle.model.specs.Calls.{with_frames}
use Rattle.frames.specs.declared.Frames.{Frames}
use Rattle.regions.specs.declared.Regions.{Regions}
use Rattle.regions.specs.Regions.{name_at, entry_of, tag_of, parent_at, level_at, newest_at, oldest_at, count_at}
use Rattle.regions.specs.Laws.Recount.{Beside}
use Rattle.pages.specs.declared.Pages.{Pages}
use Rattle.outcomes.specs.Store.{Store, regions, pages}
use Rattle.outcomes.specs.Outcome.{with_regions, with_frames as store_frames}
use Rattle.refinement.specs.Represents.{spot, tag_for, Alive, words_in, Tiles, FramesAgree, RegionsAgree, Owned, PagesAgree, ObjectsAgree, Represents}

-- the model L with other kinds, frames, m and objects
abbrev pub altered : Model → List (List ℕ) → List (List ℕ) → ℕ → List Object → Model
altered L ks fs m os = record { holders = L.holders; kinds = ks; regions = L.regions; frames = fs; counted = m; given = L.given; objects = os }

-- counts have no part in entries and tags
module _ {g h : Regions} (b : Beside g h) where
  pub same_entry : (r : ℕ) → entry_of h r ≡ entry_of g r
  unfolding entry_of
  same_entry r = rw b.names

  pub same_tag : (r : ℕ) → tag_of h r ≡ tag_of g r
  unfolding tag_of
  same_tag r = rw (same_entry r)

  same_for : (r : ℕ) → tag_for h r ≡ tag_for g r
  same_for zero = refl
  same_for (suc r) = same_tag (suc r)

module _ (L : Model) (ks fs : List (List ℕ)) (m : ℕ) (os : List Object) {g h : Regions} (b : Beside g h) where
  pub regions_kept : (sp : List ℕ) → RegionsAgree L sp g → RegionsAgree (altered L ks fs m os) sp h
  unfolding name_at parent_at level_at oldest_at
  regions_kept sp a = record {
    given = b.given ∙ a.given;
    rows = rw b.names a.rows;
    entry = λ r l. let e = a.entry r l in record {
      parent = rw (same_for b (region L.regions r).parent, same_entry b r, b.parents) e.parent;
      level = rw (same_entry b r, b.levels) e.level;
      oldest = rw (same_entry b r, b.oldest) e.oldest;
    };
  }

  pub pages_kept : (p : Pages) (n : ℕ) → PagesAgree L g p n → PagesAgree (altered L ks fs m os) h p n
  unfolding newest_at
  pages_kept p n a = record {
    some = a.some;
    most = a.most;
    whole = a.whole;
    listed = a.listed;
    owned = λ j k. owned j (a.owned j k);
    room = λ r l. rw (same_entry b r, same_tag b r, b.newest) (a.room r l);
  }
    where
      owned : (j : ℕ) → Owned L g p j → Owned L h p j
      owned j (inl e) = inl e
      owned j (inr (l, e)) = inr (l, e ∙ sym (same_tag b (get_or L.holders j 0)))

-- objects that stay alive, in place and as long as they were
pub tiles_kept : (L L₂ : Model) (sp sp₂ : List ℕ) → ((p : ℕ) → Alive L p → Alive L₂ p × (spot sp₂ p ≡ spot sp p) × (length (words_in L₂ p) ≡ length (words_in L p)))
    → (a e : ℕ) (ps : List ℕ) → Tiles L sp a e ps → Tiles L₂ sp₂ a e ps
tiles_kept L L₂ sp sp₂ h a e [] t = t
tiles_kept L L₂ sp sp₂ h a e (p ∷ ps) t =
    let k = h p t.1 in
    (k.1 ∙ t.0, k.0, tiles_kept L L₂ sp sp₂ h (a + 1 + length (words_in L₂ p)) e ps (rw k.2 t.2))

pub objects_kept : (L : Model) (fs : List (List ℕ)) (m : ℕ) {sp : List ℕ} {ids : ℕ → List ℕ} {g h : Regions} → Beside g h → {p : Pages} {heap : List ℕ}
    → ObjectsAgree L sp ids g p heap → ObjectsAgree (with_frames L fs m) sp ids h p heap
objects_kept L fs m {sp} {ids} b {p} o = record {
  known = o.known;
  laid = o.laid;
  apart = o.apart;
  owned = λ q l. o.owned q l ∙ sym (same_tag b (home_in L q));
  within = o.within;
  full = o.full;
  tiled = λ j a b. tiles_kept L (with_frames L fs m) sp sp (λ p l. (l, refl, refl)) (64 * j) (64 * j + get_or p.taken j 0) (ids j) (o.tiled j a b);
  once = λ r l. rw (same_tag b r) (o.once r l);
}

-- frames, m and counts changed, all else as it was
pub framed : {L : Model} {fs : List (List ℕ)} {m : ℕ} {sp : List ℕ} {ids : ℕ → List ℕ} {S : Store} {f : Frames} {g : Regions} → Beside (regions S) g → FramesAgree sp fs m f
    → ((r : ℕ) → lives_in L r ≡ true → count_at g (entry_of (regions S) r) ≡ stored (with_frames L fs m) r) → Represents L sp ids S → Represents (with_frames L fs m) sp ids (store_frames (with_regions S g) f)
framed {L} {fs} {m} {sp} {ids} {S} b hf hc h = record {
  on_frames = hf;
  on_kinds = h.on_kinds;
  on_regions = regions_kept L L.kinds fs m L.objects b sp h.on_regions;
  on_pages = pages_kept L L.kinds fs m L.objects b (pages S) (length S.heap) h.on_pages;
  on_objects = objects_kept L fs m b h.on_objects;
  counts = λ r l. rw (same_entry b r) (hc r l);
}
