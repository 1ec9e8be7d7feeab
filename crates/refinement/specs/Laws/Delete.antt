-- Delete, single and joint: what is left once the regions of a list go represents the model without them; a single delete is the list of one. Refusals are in Refusals and Together.
-- Assumes nothing.
use Rattle.std.specs.Prelude.{◌≡◌, ◌⊎◌, ◌≢◌, take, drop}
use Rattle.std.proofs.Math.Path.{refl, sym, ap, ap₂, fun_ext}
use Rattle.std.proofs.Common.{◌∙◌, inl, inr, true≢false, take-take}
use Rattle.std.proofs.Math.Bool.{Bool, true, false, not}
use mathlib.Core.List.{List, [], ◌∷◌, map}
use Prim.Native.Nat.{ℕ, zero, suc, ◌+◌, ◌-◌, ◌*◌, ◌/◌, ◌<◌, ◌≤◌}
use native.Mathlib.Omega.{arith}
use Rattle.std.proofs.Math.Dec.{eqb}
use Rattle.std.proofs.Math.ListN.{length, get_or, length-map}
use borrow.Author.Tests.{eqb-true, eq-eqb}
use Rattle.lists.specs.Lists.{bit, pick, sum_of, sum_of₂, keep, All, from, up_to, times, among, joined}
use Rattle.lists.specs.Laws.Tests.{by_test, pick_same, eqb_sym}
use Rattle.lists.specs.Laws.All.{all_map}
use Rattle.lists.specs.Laws.Sums.{sum_same, sum_map, sum_keep, sum_joined, sum_split}
use Rattle.lists.specs.Laws.Finds.{get_d_map_in, times_keep, any_false}
use Rattle.lists.specs.Laws.UpTo.{all_from, sum_below, sum_part}
use Rattle.model.specs.Model.{Model, Region, Answer, delete, delete_all, gives, live, region, marks, lives_in, home_in, parent_in, top_place, into, free_into, in_frames, outside, stored}
use Rattle.model.specs.Calls.{checks, refusal, reply, accepted, others, held_after, remove_regions}
use Rattle.model.specs.Valid.{Valid}
use Rattle.model.specs.Moves.{newly, from_region, from_regions}
use Rattle.model.proofs.Laws.Passed.{passed, filler_one}
use Rattle.model.proofs.Laws.Regions.{live_others, region_others, not_removed, lived_before}
use Rattle.model.proofs.Laws.Removable.{Removable, removable_one, removable_all, parent_away}
use Rattle.model.proofs.Laws.Counts.{outside_stored, remove_stored}
use Rattle.frames.specs.declared.Frames.{Frames}
use Rattle.frames.specs.Frames.{frame_count, width_at, slot_at, raised}
use Rattle.regions.specs.declared.Regions.{Regions}
use Rattle.regions.specs.Regions.{name_at, entry_of, tag_of, parent_at, level_at, newest_at, oldest_at, count_at, without_regions, recount}
use Rattle.regions.specs.Laws.Recount.{recount_beside}
use Rattle.regions.specs.Laws.Removed.{count_stays, name_left, entry_left, tag_left_lem}
use Rattle.pages.specs.declared.Pages.{Pages}
use Rattle.pages.specs.Pages.{page_count, owner_at, owner_of, freed, owners_to}
use Rattle.pages.specs.Laws.Gone.{gone_owner, gone_other, gone_held, gone_pointer}
use Rattle.objects.specs.Objects.{free_words_on, free_words_of, out_of}
use Rattle.objects.specs.Laws.Leaving.{out_own}
use Rattle.outcomes.specs.Store.{Store, frames, kinds, regions, pages, slot_targets}
use Rattle.outcomes.specs.Outcome.{Accepted, with_frames, with_regions, with_pages, recounted, outgoing, newly_in, newly_counted, deleted}
use Rattle.refinement.specs.Represents.{spot, tag_for, Alive, words_in, FramesAgree, RegionsAgree, Owned, PagesAgree, RoomAgrees, Tiles, ObjectsAgree, Represents}
use Rattle.refinement.specs.Laws.Tags.{tag_some, live_named, tag_same, tag_among, name_among, entry_among}
use Rattle.refinement.specs.Laws.Kept.{same_entry, same_tag, regions_kept, pages_kept, objects_kept}
use Rattle.refinement.specs.Laws.Reads.{frame_count_lem, top_frame_lem, page_count_lem, held_are}
use Rattle.refinement.specs.Laws.Counts.{count_is, slots_into_lem}
use Rattle.refinement.specs.Laws.Walks.{homes_on}
use Rattle.refinement.specs.Laws.Report.{ids_objects, weight, page_words}

in_page : (x n words made : ℕ) → 1 ≤ x → x + n ≤ words → words ≡ 64 * made → (x - 1) / 64 < made
in_page x n words made a b c = omega arith

-- ---- the parts, each without the regions that rs names

module _ {L : Model} {sp : List ℕ} {g : Regions} (v : Valid L) (a : RegionsAgree L sp g) (rs : List ℕ) (m : Removable L rs) where
  abbrev tags : List ℕ
  tags = map (tag_of g) rs

  abbrev left : Regions
  left = without_regions g (map (entry_of g) rs)

  abbrev Left : ℕ → Type 0
  Left q = live (others L.regions rs) q ≡ true

  other : (q : ℕ) → Left q → (lives_in L q ≡ true) × (among q rs ≡ false)
  other q k = (lived_before L.regions rs q k, not_removed L.regions rs q k)

  not_named : (q : ℕ) → among q rs ≡ false → (i : ℕ) → among i (map (entry_of g) rs) ≡ true → name_at g i ≢ q
  not_named q n i e d = true≢false (sym (name_among a rs m.live i e) ∙ ap (λ x. among x rs) d ∙ n)

  entry_kept : (q : ℕ) → Left q → entry_of left q ≡ entry_of g q
  entry_kept q k = let o = other q k in entry_left g (map (entry_of g) rs) q (live_named a q o.0) (not_named q o.1)

  tag_kept : (q : ℕ) → Left q → tag_of left q ≡ tag_of g q
  tag_kept q k = let o = other q k in tag_left_lem g (map (entry_of g) rs) q (live_named a q o.0) (not_named q o.1)

  tag_apart : (q : ℕ) → Left q → among (tag_of g q) tags ≡ false
  tag_apart q k = let o = other q k in tag_among a rs m.live q o.0 ∙ o.1

  pub regions_left : RegionsAgree (remove_regions L rs) sp left
  unfolding remove_regions without_regions parent_at level_at oldest_at
  regions_left = record {
    given = a.given;
    rows = rows;
    entry = λ q k. let o = other q k in let e = a.entry q o.0 in rw (region_others L.regions rs q o.1, entry_kept q k) (record {
      parent = e.parent ∙ above (parent_in L q) (parent_away m v q o.1);
      level = e.level;
      oldest = e.oldest;
    });
  }
    where
      -- an entry given up adds nothing, and had the name of a member
      row : (f : ℕ → ℕ) (b : Bool) (n : ℕ) → pick (eqb (pick b 0 n) 0) 0 (f (pick b 0 n)) ≡ pick (eqb n 0) 0 (pick (not b) (f n) 0)
      row f true n = sym (pick_same (eqb n 0) 0)
      row f false n = refl

      rows : (f : ℕ → ℕ) → sum_of (λ i. pick (eqb (name_at left i) 0) 0 (f (name_at left i))) (up_to 64) ≡ sum_of (λ x. f x.name) (others L.regions rs)
      rows f =
          sum_below (λ i. pick (eqb (name_at left i) 0) 0 (f (name_at left i))) (λ i. pick (eqb (name_at g i) 0) 0 (pick (not (among (name_at g i) rs)) (f (name_at g i)) 0)) 64
          (λ i h. rw (name_left g (map (entry_of g) rs) i, entry_among a v rs m.live i h) (row f (among (name_at g i) rs) (name_at g i)))
          ∙ a.rows (λ n. pick (not (among n rs)) (f n) 0)
          ∙ sym (sum_keep (λ x. f x.name) (λ x. not (among x.name rs)) L.regions)

      above : (q : ℕ) → among q rs ≡ false → tag_for g q ≡ tag_for left q
      above zero n = refl
      above (suc q) n = sym (tag_left_lem g (map (entry_of g) rs) (suc q) (λ e. omega arith) (not_named (suc q) n))

  module _ {p : Pages} {words : ℕ} (b : PagesAgree L g p words) where
    abbrev free : Pages
    free = freed p tags

    counted : (j : ℕ) → j < p.made → j < page_count p
    counted j h = rw (page_count_lem b) h

    -- a page of a region that is left
    owner_kept : (j q : ℕ) → j < p.made → Left q → owner_at p j ≡ tag_of g q → owner_at free j ≡ tag_of left q
    owner_kept j q h k e = gone_owner p tags j (counted j h) ∙ rw (e, tag_apart q k) (sym (tag_kept q k))

    pub pages_left : PagesAgree (remove_regions L rs) left free words
    unfolding remove_regions without_regions newest_at freed owners_to owner_at
    pages_left = record {
      some = b.some;
      most = b.most;
      whole = b.whole;
      listed = length-map L.holders (held_after rs) ∙ b.listed;
      owned = λ j h. owned j h (b.owned j h);
      room = λ q k. let o = other q k in
          rw (region_others L.regions rs q o.1, entry_kept q k) (room q k (region L.regions q) (newest_at g (entry_of g q)) (b.room q o.0));
    }
      where
        -- the holder in the model
        holder : (j : ℕ) → j < p.made → get_or (map (held_after rs) L.holders) j 0 ≡ held_after rs (get_or L.holders j 0)
        holder j h = get_d_map_in (held_after rs) L.holders j 0 0 (omega (arith, b.listed))

        owned : (j : ℕ) → j < p.made → Owned L g p j
            → let q = get_or (map (held_after rs) L.holders) j 0 in ((q ≡ 0) × (owner_at free j ≡ 0)) ⊎ (Left q × (owner_at free j ≡ tag_of left q))
        owned j h (inl (z, e)) = inl (holder j h ∙ rw (z, pick_same {A = ℕ} (among 0 rs) 0), gone_owner p tags j (counted j h) ∙ rw (e, pick_same {A = ℕ} (among 0 tags) 0))
        owned j h (inr (l, e)) =
            let q = get_or L.holders j 0 in
            by_test (among q rs)
            (λ d. inl (holder j h ∙ rw d, gone_owner p tags j (counted j h) ∙ rw (e, tag_among a rs m.live q l, d)))
            (λ d. let k = live_others L.regions rs q d ∙ l in let s = holder j h ∙ rw d in inr (rw s k, owner_kept j q h k e ∙ ap (tag_of left) (sym s)))

        room : (q : ℕ) → Left q → (x : Region) (i : ℕ) → RoomAgrees x p (tag_of g q) i → RoomAgrees x free (tag_of left q) i
        room q k x zero h = h
        room q k x (suc j) h = record { made = h.made; own = owner_kept j q h.made k h.own; page = h.page; left = h.left }

    module _ {ids : ℕ → List ℕ} {heap : List ℕ} (o : ObjectsAgree L sp ids g p heap) (all : length heap ≡ words) where
      -- the objects of a page that is still held are left
      tiles_left : (a e : ℕ) (qs : List ℕ) → All (λ q. Left (home_in L q)) qs → Tiles L sp a e qs → Tiles (remove_regions L rs) sp a e qs
      unfolding remove_regions
      tiles_left a e [] h t = t
      tiles_left a e (q ∷ qs) h t = (t.0, h.0, tiles_left (a + 1 + length (words_in L q)) e qs h.1 t.2)

      pub objects_left : ObjectsAgree (remove_regions L rs) sp ids left free heap
      unfolding remove_regions freed owners_to owner_at
      objects_left = record {
        known = o.known;
        laid = λ q h. o.laid q (was q h);
        apart = λ q s h i. o.apart q s (was q h) (was s i);
        owned = λ q h. gone_pointer p tags (spot sp q) (page q (was q h)) (ap (λ t. among t tags) (o.owned q (was q h)) ∙ tag_apart (home_in L q) h) ∙ o.owned q (was q h) ∙ sym (tag_kept (home_in L q) h);
        within = λ q h. o.within q (was q h);
        full = λ j h n. o.full j h (held j h n).0;
        tiled = λ j h n. tiles_left (64 * j) (64 * j + get_or p.taken j 0) (ids j)
            (all_map (λ q e. kept q e.0 (ap (λ t. among t tags) (sym e.1) ∙ (held j h n).1)) (ids j) (homes_on v o j h (held j h n).0))
            (o.tiled j h (held j h n).0);
        once = λ q h f.
            sum_below _ _ p.made (λ j i. ap (λ b. pick b (sum_of f (ids j)) 0) (ap (eqb (owner_at free j)) (tag_kept q h) ∙ gone_other p tags j (tag_of g q) (counted j i) (tag_some g q) (tag_apart q h)))
            ∙ o.once q (other q h).0 f;
      }
        where
          was : (q : ℕ) → Left (home_in L q) → Alive L q
          was q h = (other (home_in L q) h).0

          kept : (q : ℕ) → Alive L q → among (tag_of g (home_in L q)) tags ≡ false → Left (home_in L q)
          kept q h d = live_others L.regions rs (home_in L q) (sym (tag_among a rs m.live (home_in L q) h) ∙ d) ∙ h

          held : (j : ℕ) → j < p.made → owner_at free j ≢ 0 → (owner_at p j ≢ 0) × (among (owner_at p j) tags ≡ false)
          held j h n = gone_held p tags j (counted j h) n

          page : (q : ℕ) → Alive L q → (spot sp q - 1) / 64 < page_count p
          page q h = counted ((spot sp q - 1) / 64) (in_page (spot sp q) (length (words_in L q)) (length heap) p.made (o.laid q h).placed (o.laid q h).inside (all ∙ b.whole))

-- all frames but the top one are counted
frames_raised : {sp : List ℕ} {fs : List (List ℕ)} {m : ℕ} {f : Frames} → FramesAgree sp fs m f → FramesAgree sp fs (top_place fs) (raised f)
unfolding raised width_at slot_at
frames_raised a = record { standing = a.standing; counted = top_frame_lem a; widths = a.widths; slots = a.slots }

-- ---- counts

module _ {L : Model} {sp : List ℕ} {ids : ℕ → List ℕ} (S : Store) (v : Valid L) (h : Represents L sp ids S) (q : ℕ) (l : lives_in L q ≡ true) where
  -- what enters the count of q: the slots of the frames that become counted
  come_are : times (tag_of (regions S) q) (newly_counted S) ≡ in_frames (home_in L) q (newly L)
  unfolding newly_counted newly_in slot_targets frame_count newly in_frames
  come_are =
      let m = L.counted in
      let n = top_place L.frames in
      ap₂ (λ m n. times (tag_of (regions S) q) (joined (slot_targets S) (from m (n - 1 - m)))) h.on_frames.counted (frame_count_lem h.on_frames v.frames.many)
      ∙ sum_joined (λ t. bit (eqb t (tag_of (regions S) q))) (slot_targets S) (from m (n - m))
      ∙ sum_same _ (λ i. sum_of (into (home_in L) q) (get_or L.frames i [])) (from m (n - m))
      (all_from _ m (n - m) (λ i a b. slots_into_lem S v h.on_frames h.on_regions h.on_objects q l i (below (length L.frames) m i a b)))
      ∙ sum_part (sum_of (into (home_in L) q)) L.frames [] m (n - m) n (fill (length L.frames) m v.frames.mark) (omega arith)
    where
      below : (n m i : ℕ) → m ≤ i → i < m + (n - 1 - m) → i < n
      below n m i a b = omega arith

      fill : (n m : ℕ) → m ≤ n - 1 → m + (n - 1 - m) ≡ n - 1
      fill n m a = omega arith

  -- what leaves it: the words of another region r
  gone_one : (r : ℕ) → lives_in L r ≡ true → eqb r q ≡ false → times (tag_of (regions S) q) (out_of (pages S).owners (tag_of (regions S) r) (free_words_of (kinds S) S.heap (pages S) (tag_of (regions S) r))) ≡ from_region L r q
  unfolding free_words_of out_of owner_of from_region
  gone_one r m n =
      let P = pages S in
      let t = tag_of (regions S) r in
      let u = tag_of (regions S) q in
      let W : ℕ → List ℕ = free_words_on (kinds S) S.heap P in
      let mine : ℕ → Bool = λ j. eqb (owner_at P j) t in
      let leads : ℕ → ℕ = λ x. bit (eqb (owner_of P x) u) in
      times_keep u (λ x. not (eqb x t)) (map (owner_of P) (joined W (keep mine (up_to (page_count P)))))
      ∙ ap (λ b. pick (not b) (times u (map (owner_of P) (joined W (keep mine (up_to (page_count P)))))) 0) (tag_same h.on_regions q r l m ∙ eqb_sym q r ∙ n)
      ∙ sum_map (λ x. bit (eqb x u)) (owner_of P) (joined W (keep mine (up_to (page_count P))))
      ∙ sum_joined leads W (keep mine (up_to (page_count P)))
      ∙ sum_keep (λ j. sum_of leads (W j)) mine (up_to (page_count P))
      ∙ ap (λ n. sum_of (λ j. pick (mine j) (sum_of leads (W j)) 0) (up_to n)) (page_count_lem h.on_pages)
      ∙ sum_below _ (λ j. pick (mine j) (sum_of (weight L q) (ids j)) 0) P.made page
      ∙ h.on_objects.once r m (weight L q)
      ∙ ids_objects L (λ o. pick (eqb o.home r) (sum_of₂ (free_into (home_in L) q) (marks L.kinds o.kind) o.words) 0)
    where
      page : (j : ℕ) → j < (pages S).made
          → pick (eqb (owner_at (pages S) j) (tag_of (regions S) r)) (sum_of (λ x. bit (eqb (owner_of (pages S) x) (tag_of (regions S) q))) (free_words_on (kinds S) S.heap (pages S) j)) 0
          ≡ pick (eqb (owner_at (pages S) j) (tag_of (regions S) r)) (sum_of (weight L q) (ids j)) 0
      page j i = by_test (eqb (owner_at (pages S) j) (tag_of (regions S) r))
          (λ e. ap (λ n. pick (eqb (owner_at (pages S) j) (tag_of (regions S) r)) n 0) (page_words L sp ids S v h.on_kinds h.on_regions h.on_pages h.on_objects q l j i
          (λ z. tag_some (regions S) r (sym (eqb-true (owner_at (pages S) j) (tag_of (regions S) r) e) ∙ z))))
          (λ e. rw e)

  -- so of the regions that rs names, but for q itself, whose own words are in no count of it
  pub gone_members : (rs : List ℕ) → All (λ r. lives_in L r ≡ true) rs → times (tag_of (regions S) q) (outgoing S (map (tag_of (regions S)) rs)) ≡ sum_of (λ r. pick (eqb r q) 0 (from_region L r q)) rs
  unfolding outgoing
  gone_members rs ls =
      sum_joined (λ t. bit (eqb t (tag_of (regions S) q))) _ (map (tag_of (regions S)) rs)
      ∙ sum_map _ (tag_of (regions S)) rs
      ∙ sum_same _ _ rs (all_map one rs ls)
    where
      one : (r : ℕ) → lives_in L r ≡ true → times (tag_of (regions S) q) (out_of (pages S).owners (tag_of (regions S) r) (free_words_of (kinds S) S.heap (pages S) (tag_of (regions S) r))) ≡ pick (eqb r q) 0 (from_region L r q)
      one r k = by_test (eqb r q)
          (λ e. rw (eqb-true r q e, eq-eqb q q refl, out_own (pages S).owners (tag_of (regions S) q) (free_words_of (kinds S) S.heap (pages S) (tag_of (regions S) q))))
          (λ e. rw e (gone_one r k e))

  gone_are : (rs : List ℕ) → All (λ r. lives_in L r ≡ true) rs → among q rs ≡ false → times (tag_of (regions S) q) (outgoing S (map (tag_of (regions S)) rs)) ≡ from_regions L rs q
  unfolding from_regions
  gone_are rs ls n = gone_members rs ls ∙ sum_same _ _ rs (all_map (λ r e. ap (λ b. pick b 0 (from_region L r q)) e) rs (any_false (λ r. eqb r q) rs n))

  -- no slot enters twice
  come_most : in_frames (home_in L) q (newly L) ≤ in_frames (home_in L) q (drop L.counted L.frames)
  unfolding newly in_frames
  come_most =
      let f : List ℕ → ℕ = sum_of (into (home_in L) q) in
      let fs = L.frames in
      parts _ _ _ _ _ _ _ (sum_split f L.counted fs) (sum_split f (top_place fs) fs) (sum_split f L.counted (take (top_place fs) fs)) (ap (sum_of f) (take-take L.counted (top_place fs) fs v.frames.mark))
    where
      parts : (all low rest below top low₂ new : ℕ) → all ≡ low + rest → all ≡ below + top → below ≡ low₂ + new → low₂ ≡ low → new ≤ rest
      parts all low rest below top low₂ new a b c d = omega arith

  count_left : (f : ℕ) → f < 4 → (rs : List ℕ) → Removable L rs → among q rs ≡ false → outside L q ≤ 16640
      → count_at (recount (regions S) f (newly_counted S) (outgoing S (map (tag_of (regions S)) rs))) (entry_of (regions S) q) ≡ stored (remove_regions L rs) q
  count_left f k rs m n small =
      let e = remove_stored L v rs m q n in
      count_is h.on_regions q f k l (newly_counted S) (outgoing S (map (tag_of (regions S)) rs)) (stored (remove_regions L rs) q)
      (ap (λ n. stored (remove_regions L rs) q + n) (gone_are rs m.live n) ∙ e ∙ sym (ap₂ ◌+◌ (h.counts q l) come_are))
      (bound _ _ _ _ _ _ e come_most (outside_stored L q) small)
    where
      bound : (x f s n d o : ℕ) → x + f ≡ s + n → n ≤ d → o ≡ s + d → o ≤ 16640 → x < 4294967296
      bound x f s n d o a b c e = omega arith

-- the regions g without those that rs names, known by the entries and tags that e and t give, their pages free, m raised
abbrev without : Store → Regions → List ℕ → (ℕ → ℕ) → (ℕ → ℕ) → Store
without S g rs e t = with_frames (with_pages (with_regions S (without_regions g (map e rs))) (freed (pages S) (map t rs))) (raised (frames S))

-- regions that may go together: what is left of the store represents what is left of the model
pub deleted_represents : (L : Model) (sp : List ℕ) (ids : ℕ → List ℕ) (S : Store) → Valid L → Represents L sp ids S → (f : ℕ) → f < 4 → (rs : List ℕ) → Removable L rs → ((q : ℕ) → outside L q ≤ 16640)
    → Represents (remove_regions L rs) sp ids (deleted S rs f)
unfolding remove_regions deleted recounted
deleted_represents L sp ids S v h f few rs m small =
    let gone = outgoing S (map (tag_of (regions S)) rs) in
    let now = recount (regions S) f (newly_counted S) gone in
    let b = recount_beside (regions S) f (newly_counted S) gone in
    let g = regions_kept L L.kinds L.frames L.counted L.objects b sp h.on_regions in
    let p = pages_kept L L.kinds L.frames L.counted L.objects b (pages S) (length S.heap) h.on_pages in
    let o = objects_kept L L.frames L.counted b h.on_objects in
    -- by the entries and tags beside the new counts, which are the same
    let same : without S now rs (entry_of (regions S)) (tag_of (regions S)) ≡ without S now rs (entry_of now) (tag_of now) = sym (ap₂ (without S now rs) (fun_ext (same_entry b)) (fun_ext (same_tag b))) in
    rw same (record {
      on_frames = frames_raised h.on_frames;
      on_kinds = h.on_kinds;
      on_regions = regions_left v g rs m;
      on_pages = pages_left v g rs m p;
      on_objects = objects_left v g rs m p o refl;
      counts = λ q k.
          let n = other v g rs m q k in
          count_stays now (map (entry_of now) rs) _ ∙ ap (count_at now) (entry_kept v g rs m q k ∙ same_entry b q) ∙ count_left S v h q n.0 f few rs m n.1 (small q);
    })

pub delete_all_step : (L : Model) (sp : List ℕ) (ids : ℕ → List ℕ) (S : Store) → Valid L → Represents L sp ids S → (a : Answer) (T : Store) (rs : List ℕ) (f : ℕ) → ((q : ℕ) → outside L q ≤ 16640)
    → refusal L (delete_all rs f) ≡ 0 → Accepted (delete_all rs f) S a T → (a ≡ reply L (delete_all rs f)) × Represents (accepted L (delete_all rs f)) sp ids T
unfolding checks Accepted reply accepted
delete_all_step L sp ids S v h a T rs f small e (x, y) =
    let m = removable_all L rs f e in
    (x ∙ ap (λ n. gives (n ∷ [])) (sum_same _ _ rs (all_map (held_are h.on_regions h.on_pages) rs m.live)), rw y (deleted_represents L sp ids S v h f (filler_one f (passed L (delete_all rs f) e).0) rs m small))

pub delete_step : (L : Model) (sp : List ℕ) (ids : ℕ → List ℕ) (S : Store) → Valid L → Represents L sp ids S → (a : Answer) (T : Store) (r f : ℕ) → ((q : ℕ) → outside L q ≤ 16640)
    → refusal L (delete r f) ≡ 0 → Accepted (delete r f) S a T → (a ≡ reply L (delete r f)) × Represents (accepted L (delete r f)) sp ids T
unfolding checks Accepted reply accepted
delete_step L sp ids S v h a T r f small e (x, y) =
    let m = removable_one L r f e in
    (x ∙ rw (held_are h.on_regions h.on_pages r m.live.0), rw y (deleted_represents L sp ids S v h f (filler_one f (passed L (delete r f) e).0) (r ∷ []) m small))
