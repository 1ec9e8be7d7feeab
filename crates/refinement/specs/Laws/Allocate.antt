-- Allocate: the store takes the page that the model takes, and represents the model with the new object.
-- Assumes nothing.
use Rattle.std.specs.Prelude.{◌≡◌, ◌⊎◌, ◌≢◌, eqb, ltb, set, replicate}
use Rattle.std.proofs.Math.Path.{refl, sym, ap, subst, subst⁻¹, fun_ext}
use Rattle.std.proofs.Common.{◌∙◌, arith, get_or-set_same, get_or-set_other}
use Rattle.std.proofs.Math.Logic.{inl, inr}
use Rattle.std.proofs.Math.Bool.{Bool, true, false}
use mathlib.Core.List.{List, [], ◌∷◌, ◌++◌}
use Prim.Native.Nat.{ℕ, zero, suc, ◌+◌, ◌-◌, ◌*◌, ◌≤◌, ◌<◌}
use Rattle.std.proofs.Math.Numerals.{add-one}
use Rattle.std.proofs.Math.ListN.{length, get_or, length-set}
use Rattle.std.proofs.lemmas.List.Edits.{sets}
use Rattle.std.proofs.Math.Seq.{length-sets}
use borrow.Author.Tests.{eqb-true, eq-eqb, ne_eqb, ltb-true, leb-true, leb-false}
use Rattle.lists.specs.Lists.{pick, sum_of}
use Rattle.lists.specs.Laws.Tests.{both, by_same}
use Rattle.lists.specs.Laws.All.{all_map, all_at}
use Rattle.lists.specs.Laws.Sums.{sum_map}
use Rattle.model.specs.Model.{Model, Region, region, marks, lives_in, lowest_free, top, allocate}
use Rattle.model.specs.Calls.{checks, refusal, accepted, size, fits, page_for, word_for, holders_for, grown, add_object}
use Rattle.model.specs.Valid.{Valid}
use Rattle.model.proofs.Laws.Passed.{passed}
use Rattle.model.proofs.Laws.Slots.{Known, slot_known, oldest_known}
use Rattle.model.proofs.Laws.Regions.{name_is, live_positive, region_map}
use Rattle.model.proofs.Laws.Grows.{change, name_kept, made_valid}
use Rattle.model.proofs.Laws.Counts.{object_stored}
use Rattle.kinds.specs.Kinds.{size_of}
use Rattle.regions.specs.declared.Regions.{Regions}
use Rattle.regions.specs.Regions.{name_at, entry_of, tag_of, parent_at, level_at, newest_at, oldest_at, with_page}
use Rattle.regions.specs.Laws.Added.{count_kept, page_entry, page_tag, newest_here, newest_else, oldest_here, oldest_else}
use Rattle.pages.specs.declared.Pages.{Pages}
use Rattle.pages.specs.Pages.{page_count, owner_at, taken_at, is_free, first_free, with_taken}
use Rattle.pages.specs.Laws.Taken.{owner_here, owner_else, taken_here, taken_else}
use Rattle.outcomes.specs.Store.{Store, kinds, regions, pages, roomy, size as store_size}
use Rattle.outcomes.specs.Shape.{PagesSized, RegionsSized, Sized}
use Rattle.outcomes.specs.Outcome.{with_regions, with_pages, with_heap, page_for as store_page, allocated, fill_slot as store_fill}
use Rattle.outcomes.proofs.Laws.PageFor.{newest_or_free}
use Rattle.refinement.specs.Represents.{spot, tag_for, EntryAgrees, RegionsAgree, NewestAgrees, RoomAgrees, Owned, PagesAgree, Represents}
use Rattle.refinement.specs.Laws.Tags.{zero_dead, tag_some, tag_injective, entry_in_lem}
use Rattle.refinement.specs.Laws.Places.{Onto, new_id, joins, made_lives, spot_last, spot_kept, objects_made}
use Rattle.refinement.specs.Laws.Reads.{spot_zero, free_are, lowest_is}
use Rattle.refinement.specs.Laws.Refusals.{size_same, roomy_is}
use Rattle.refinement.specs.Laws.Slots.{fill_represents}

-- ---- the regions of the model: r has grown, the others are as they were

module _ (L : Model) (r k : ℕ) where
  -- the page that the object goes to
  abbrev on : ℕ
  on = page_for L r (size L k)

  region_grown : lives_in L r ≡ true → region (add_object L r k).regions r ≡ grown (size L k) (new_id L) on (region L.regions r)
  unfolding add_object change
  region_grown l = region_map (change r (size L k) (new_id L) on) (name_kept r (size L k) (new_id L) on) L.regions r l ∙ rw (name_is L.regions r l, eq-eqb r r refl)

  region_other : (q : ℕ) → lives_in L q ≡ true → q ≢ r → region (add_object L r k).regions q ≡ region L.regions q
  unfolding add_object change
  region_other q l d = region_map (change r (size L k) (new_id L) on) (name_kept r (size L k) (new_id L) on) L.regions q l ∙ rw (name_is L.regions q l, ne_eqb q r d)

  -- a statement on every region that lives afterwards
  by_region : (P : ℕ → Region → Type 0) → lives_in L r ≡ true → P r (grown (size L k) (new_id L) on (region L.regions r)) → ((q : ℕ) → lives_in L q ≡ true → q ≢ r → P q (region L.regions q))
      → (q : ℕ) → lives_in (add_object L r k) q ≡ true → P q (region (add_object L r k).regions q)
  by_region P lr here else q l = go (by_same q r) (sym (made_lives L r k q) ∙ l)
    where
      go : (q ≡ r) ⊎ (q ≢ r) → lives_in L q ≡ true → P q (region (add_object L r k).regions q)
      go (inl e) m = rw (e, region_grown lr) here
      go (inr d) m = rw (region_other q m d) (else q m d)

entry_other : (L : Model) {sp : List ℕ} (g : Regions) → RegionsAgree L sp g → (r q : ℕ) → lives_in L r ≡ true → lives_in L q ≡ true → q ≢ r → entry_of g q ≢ entry_of g r
unfolding tag_of
entry_other L g ra r q k l d e = d (tag_injective ra q r l k (ap (λ i. i + 1) e))

-- Page j is the newest page of region r, where the object fits after the t words taken; or the object does not fit there, and the page is the lowest free one.
abbrev Takes : Model → Regions → Pages → ℕ → ℕ → ℕ → ℕ → Type 0
Takes L g p r k j t =
    let x = region L.regions r in
    ((fits x (size L k) ≡ true) × (owner_at p j ≡ tag_of g r) × (get_or p.taken j 0 ≡ t) × (t + x.room ≡ 64) × (x.newest ≡ j))
    ⊎ ((fits x (size L k) ≡ false) × (owner_at p j ≡ 0) × (t ≡ 0) × (lowest_free L.holders ≡ j))

-- the model takes that page, and the object begins at that word
takes_page : (L : Model) (g : Regions) (p : Pages) (r k j t : ℕ) → Takes L g p r k j t → (page_for L r (size L k) ≡ j) × (word_for L r (size L k) ≡ t)
unfolding page_for word_for
takes_page L g p r k j t (inl h) = rw h.0 (h.4, omega (arith, h.3))
takes_page L g p r k j t (inr h) = rw h.0 (h.3, sym h.2)

module _ (L : Model) (sp : List ℕ) (g : Regions) (p : Pages) (words : ℕ) (ra : RegionsAgree L sp g) (pa : PagesAgree L g p words) (rs : RegionsSized g) (ps : PagesSized p) (r k j t y : ℕ)
    (lr : lives_in L r ≡ true) (room : t + size L k ≤ 64) (jm : j < p.made) (page : Takes L g p r k j t) where
  abbrev p₂ : Pages
  p₂ = with_taken p j (tag_of g r) (t + size L k)

  abbrev g₂ : Regions
  g₂ = with_page g (entry_of g r) (j + 1) y

  j_in : j < 256
  j_in = omega (arith, pa.most)

  -- page j is of no other region
  not_theirs : (q : ℕ) → lives_in L q ≡ true → q ≢ r → owner_at p j ≢ tag_of g q
  not_theirs q l d e = go page
    where
      go : Takes L g p r k j t → ⊥
      go (inl h) = d (tag_injective ra q r l lr (sym e ∙ h.1))
      go (inr h) = tag_some g q (sym e ∙ h.1)

  here : owner_at p₂ j ≡ tag_of g r
  here = owner_here p j (tag_of g r) (t + size L k) (omega (arith, j_in, ps.owners))

  -- a page whose owner and holder stay
  kept : (i q : ℕ) → q ≡ get_or L.holders i 0 → owner_at p₂ i ≡ owner_at p i → Owned L g p i
      → ((q ≡ 0) × (owner_at p₂ i ≡ 0)) ⊎ ((lives_in (add_object L r k) q ≡ true) × (owner_at p₂ i ≡ tag_of g₂ q))
  kept i q e o (inl (z, w)) = inl (e ∙ z, o ∙ w)
  kept i q e o (inr (l, w)) = inr (made_lives L r k q ∙ ap (lives_in L) e ∙ l, o ∙ w ∙ ap (tag_of g) (sym e) ∙ sym (page_tag g (entry_of g r) (j + 1) y q))

  owned₂ : (i : ℕ) → i < p.made → Owned (add_object L r k) g₂ p₂ i
  unfolding add_object holders_for
  owned₂ i h = go page (by_same i j)
    where
      os : Bool → List ℕ
      os b = pick b L.holders (set L.holders (lowest_free L.holders) r)

      go : Takes L g p r k j t → (i ≡ j) ⊎ (i ≢ j) → Owned (add_object L r k) g₂ p₂ i
      go (inl m) (inl e) = kept i _ (ap (λ b. get_or (os b) i 0) m.0) (ap (owner_at p₂) e ∙ here ∙ sym m.1 ∙ ap (owner_at p) (sym e)) (pa.owned i h)
      go (inl m) (inr d) = kept i _ (ap (λ b. get_or (os b) i 0) m.0) (owner_else p j (tag_of g r) (t + size L k) i d) (pa.owned i h)
      go (inr m) (inl e) =
          let q : get_or (os (fits (region L.regions r) (size L k))) i 0 ≡ r = rw (m.0, m.3, e) (get_or-set_same L.holders j r 0 (omega (arith, pa.listed))) in
          inr (made_lives L r k _ ∙ ap (lives_in L) q ∙ lr, ap (owner_at p₂) e ∙ here ∙ ap (tag_of g) (sym q) ∙ sym (page_tag g (entry_of g r) (j + 1) y _))
      go (inr m) (inr d) = kept i _ (rw (m.0, m.3) (get_or-set_other L.holders j i r 0 d)) (owner_else p j (tag_of g r) (t + size L k) i d) (pa.owned i h)

  listed₂ : length (add_object L r k).holders ≡ p.made
  unfolding add_object holders_for
  listed₂ = go (fits (region L.regions r) (size L k))
    where
      go : (b : Bool) → length (pick b L.holders (set L.holders (lowest_free L.holders) r)) ≡ p.made
      go true = pa.listed
      go false = length-set L.holders (lowest_free L.holders) r ∙ pa.listed

  room_here : NewestAgrees (grown (size L k) (new_id L) (page_for L r (size L k)) (region L.regions r)) p₂ (tag_of g r) j
  unfolding with_taken grown
  room_here = record {
    made = jm;
    own = here;
    page = (takes_page L g p r k j t page).0;
    left = rw (taken_here p j (tag_of g r) (t + size L k) (omega (arith, j_in, ps.taken))) (go page);
  }
    where
      go : Takes L g p r k j t → t + size L k + pick (fits (region L.regions r) (size L k)) ((region L.regions r).room - size L k) (64 - size L k) ≡ 64
      go (inl h) = rw h.0 (omega (arith, h.3, leb-true (size L k) (region L.regions r).room h.0))
      go (inr h) = rw h.0 (omega (arith, h.2))

  room_else : (q : ℕ) → lives_in L q ≡ true → q ≢ r → (x : Region) (n : ℕ) → RoomAgrees x p (tag_of g q) n → RoomAgrees x p₂ (tag_of g q) n
  unfolding with_taken
  room_else q l d x zero a = a
  room_else q l d x (suc i) a = record {
    made = a.made;
    own = owner_else p j (tag_of g r) (t + size L k) i other ∙ a.own;
    page = a.page;
    left = rw (taken_else p j (tag_of g r) (t + size L k) i other) a.left;
  }
    where
      other : i ≢ j
      other e = not_theirs q l d (sym (ap (owner_at p) e) ∙ a.own)

  pub pages_made : PagesAgree (add_object L r k) g₂ p₂ words
  unfolding with_taken
  pages_made = record {
    some = pa.some;
    most = pa.most;
    whole = pa.whole;
    listed = listed₂;
    owned = owned₂;
    room = by_region L r k (λ q x. RoomAgrees x p₂ (tag_of g₂ q) (newest_at g₂ (entry_of g₂ q))) lr
        (rw (page_tag g (entry_of g r) (j + 1) y r, page_entry g (entry_of g r) (j + 1) y r, newest_here g (entry_of g r) (j + 1) y (omega (arith, entry_in_lem ra r lr, rs.newest)), add-one j) room_here)
        (λ q l d. rw (page_tag g (entry_of g r) (j + 1) y q, page_entry g (entry_of g r) (j + 1) y q, newest_else g (entry_of g r) (j + 1) y (entry_of g q) (entry_other L g ra r q lr l d))
        (room_else q l d (region L.regions q) (newest_at g (entry_of g q)) (pa.room q l)));
  }

-- ---- the entries: region r has a new newest page, and its first object where it had none

for_page : (g : Regions) (i x y q : ℕ) → tag_for (with_page g i x y) q ≡ tag_for g q
for_page g i x y zero = refl
for_page g i x y (suc q) = page_tag g i x y (suc q)

module _ (L : Model) (sp : List ℕ) (g : Regions) (v : Valid L) (ra : RegionsAgree L sp g) (rs : RegionsSized g) (r k j a : ℕ) (lr : lives_in L r ≡ true)
    (len : length sp ≡ length L.objects) (nulls : (q : ℕ) → Known L q → eqb (spot sp q) 0 ≡ eqb q 0) where
  abbrev i : ℕ
  i = entry_of g r

  abbrev o : ℕ
  o = pick (eqb (oldest_at g i) 0) a (oldest_at g i)

  oldest_first : o ≡ spot (sp ++ (a ∷ [])) (pick (eqb (region L.regions r).oldest 0) (new_id L) (region L.regions r).oldest)
  oldest_first =
      let x = (region L.regions r).oldest in
      rw ((ra.entry r lr).oldest, nulls x (oldest_known L v r lr)) (go (eqb x 0))
    where
      go : (b : Bool) → pick b a (spot sp (region L.regions r).oldest) ≡ spot (sp ++ (a ∷ [])) (pick b (new_id L) (region L.regions r).oldest)
      go true = sym (spot_last L sp len a)
      go false = sym (spot_kept L sp len a (zero_dead ra) (region L.regions r).oldest (oldest_known L v r lr))

  pub regions_made : RegionsAgree (add_object L r k) (sp ++ (a ∷ [])) (with_page g i (j + 1) o)
  unfolding add_object change grown with_page name_at parent_at level_at
  regions_made = record {
    given = ra.given;
    rows = λ f. ra.rows f ∙ sym (sum_map (λ x. f x.name) (change r (size L k) (new_id L) (on L r k)) L.regions ∙ ap (λ h. sum_of h L.regions) (fun_ext (λ x. ap f (name_kept r (size L k) (new_id L) (on L r k) x))));
    entry = by_region L r k (λ q x. EntryAgrees (sp ++ (a ∷ [])) x (with_page g i (j + 1) o) (entry_of (with_page g i (j + 1) o) q)) lr
        (let e = ra.entry r lr in rw (page_entry g i (j + 1) o r) (record {
          parent = e.parent ∙ sym (for_page g i (j + 1) o (region L.regions r).parent);
          level = e.level;
          oldest = oldest_here g i (j + 1) o (omega (arith, entry_in_lem ra r lr, rs.oldest)) ∙ oldest_first;
        }))
        (λ q l d. let e = ra.entry q l in rw (page_entry g i (j + 1) o q) (record {
          parent = e.parent ∙ sym (for_page g i (j + 1) o (region L.regions q).parent);
          level = e.level;
          oldest = oldest_else g i (j + 1) o (entry_of g q) (entry_other L g ra r q lr l d) ∙ e.oldest ∙ sym (spot_kept L sp len a (zero_dead ra) (region L.regions q).oldest (oldest_known L v q l));
        }));
  }

-- ---- the store with the object, of z words with its header and n without, on page j after t words; it is in no slot yet

abbrev with_object : Store → ℕ → ℕ → ℕ → ℕ → ℕ → ℕ → Store
with_object S i k j t z n =
    let a = 64 * j + t + 1 in
    let o = oldest_at (regions S) i in
    let T = with_heap S (sets S.heap (64 * j + t) (k ∷ replicate n 0)) in
    with_regions (with_pages T (with_taken (pages S) j (i + 1) (t + z))) (with_page (regions S) i (j + 1) (pick (eqb o 0) a o))

module _ (L : Model) (sp : List ℕ) (ids : ℕ → List ℕ) (S : Store) (v : Valid L) (sh : Sized S) (rep : Represents L sp ids S) (r k j : ℕ) (lr : lives_in L r ≡ true) where
  object_represents : (t : ℕ) (base : List ℕ) → t + size L k ≤ 64 → j < (pages S).made → Takes L (regions S) (pages S) r k j t → Onto (regions S) (pages S) ids r j t base
      → Represents (add_object L r k) (sp ++ ((64 * j + t + 1) ∷ [])) (joins ids j (base ++ (new_id L ∷ []))) (with_object S (entry_of (regions S) r) k j t (size L k) (length (marks L.kinds k)))
  unfolding add_object tag_of
  object_represents t base room jm takes onto =
      let g = regions S in
      let p = pages S in
      let i = entry_of g r in
      let a = 64 * j + t + 1 in
      let o = pick (eqb (oldest_at g i) 0) a (oldest_at g i) in
      let oa = rep.on_objects in
      let fs = rep.on_frames in
      record {
        on_frames = record { standing = fs.standing; counted = fs.counted; widths = fs.widths; slots = λ x y h l. fs.slots x y h l ∙ sym (kept a (get_or (get_or L.frames x []) y 0) (slot_known L v x y)) };
        on_kinds = rep.on_kinds;
        on_regions = regions_made L sp g v rep.on_regions sh.in_regions r k j a lr oa.known (spot_zero oa);
        on_pages = rw length-sets (pages_made L sp g p (length S.heap) rep.on_regions rep.on_pages sh.in_regions sh.in_pages r k j t o lr room jm takes);
        on_objects = objects_made L sp ids g p S.heap v rep.on_regions oa r k j t base lr room jm (omega (arith, sh.in_pages.owners, rep.on_pages.most)) (omega (arith, sh.in_pages.taken, rep.on_pages.most))
            (omega (arith, rep.on_pages.whole)) onto (takes_page L g p r k j t takes).0 (takes_page L g p r k j t takes).1 (with_page g i (j + 1) o) (page_tag g i (j + 1) o);
        counts = λ q l. let m = sym (made_lives L r k q) ∙ l in rw (page_entry g i (j + 1) o q, count_kept g i (j + 1) o (entry_of g q)) (rep.counts q m ∙ sym (object_stored L q v (live_positive L.regions q v.names.named m) r k));
      }
    where
      kept : (a q : ℕ) → Known L q → spot (sp ++ (a ∷ [])) q ≡ spot sp q
      kept a q h = spot_kept L sp rep.on_objects.known a (zero_dead rep.on_regions) q h

module _ (L : Model) (sp : List ℕ) (ids : ℕ → List ℕ) (S : Store) (v : Valid L) (sh : Sized S) (rep : Represents L sp ids S) (r k : ℕ) (lr : lives_in L r ≡ true) where
  -- the page that the store takes
  abbrev j : ℕ
  j = store_page S (entry_of (regions S) r) (store_size S k)

  -- what is known of it, by whether the object fits the newest page
  taken : (b : Bool) → fits (region L.regions r) (size L k) ≡ b → pick b (eqb (newest_at (regions S) (entry_of (regions S) r)) (j + 1)) (is_free (pages S) j) ≡ true → (b ≡ false → j ≡ first_free (pages S))
      → (j < (pages S).made) × Takes L (regions S) (pages S) r k j (pick b (taken_at (pages S) j) 0) × Onto (regions S) (pages S) ids r j (pick b (taken_at (pages S) j) 0) (pick b (ids j) [])
  unfolding taken_at is_free page_count
  taken true f c low =
      let e = eqb-true (newest_at (regions S) (entry_of (regions S) r)) (j + 1) c ∙ add-one j in
      let a : NewestAgrees (region L.regions r) (pages S) (tag_of (regions S) r) j = rw e at (rep.on_pages.room r lr) in
      let t : get_or (pages S).taken j 0 ≡ taken_at (pages S) j = omega (arith, a.left) in
      (a.made, inl (f, a.own, t, omega (arith, a.left), a.page), inl (a.own, t, refl))
  taken false f c low =
      let q = both (ltb j (page_count (pages S))) (eqb (owner_at (pages S) j) 0) c in
      let own = eqb-true (owner_at (pages S) j) 0 q.1 in
      (omega (arith, ltb-true j (page_count (pages S)) q.0), inr (f, own, refl, sym (low refl ∙ lowest_is rep.on_regions rep.on_pages)), inr (own, refl, refl))

  -- the object fits there
  room_for : (t : ℕ) → Takes L (regions S) (pages S) r k j t → t + size L k ≤ 64
  room_for t (inl h) = omega (arith, h.3, leb-true (size L k) (region L.regions r).room h.0)
  room_for t (inr h) = omega (arith, h.2, all_at (λ l. length l ≤ 16) ([] ∷ L.kinds) k [] (omega arith, all_map (λ l m. m.1) L.kinds v.kinds.sized) (omega arith))

  roomy_fits : roomy S (entry_of (regions S) r) (store_size S k) ≡ fits (region L.regions r) (size L k)
  roomy_fits = rw (size_same v rep k) (roomy_is v rep r (size L k) lr (omega arith))

  -- where the object begins, and who is on its page with it
  abbrev start : ℕ
  start = pick (roomy S (entry_of (regions S) r) (store_size S k)) (taken_at (pages S) j) 0

  abbrev pub joined : ℕ → List ℕ
  joined = joins ids j (pick (roomy S (entry_of (regions S) r) (store_size S k)) (ids j) [] ++ (new_id L ∷ []))

  module _ (s : ℕ) (e : refusal L (allocate s r k) ≡ 0) where
    page_taken : (j < (pages S).made) × Takes L (regions S) (pages S) r k j start × Onto (regions S) (pages S) ids r j start (pick (roomy S (entry_of (regions S) r) (store_size S k)) (ids j) [])
    unfolding checks store_page
    page_taken = taken (roomy S (entry_of (regions S) r) (store_size S k)) (sym roomy_fits)
        (newest_or_free S (entry_of (regions S) r) (store_size S k) (rw (roomy_fits, free_are rep.on_regions rep.on_pages) (passed L (allocate s r k) e).1.1.1.1.0))
        (λ b. rw b)

    -- the page was the region's, or the lowest free one, where the object begins at its start; it is one of those made, and has a word left
    pub page_of_new : ((owner_at (pages S) j ≡ tag_of (regions S) r) ⊎ ((owner_at (pages S) j ≡ 0) × (j ≡ first_free (pages S)) × (start ≡ 0))) × (j < (pages S).made) × (start < 64)
    page_of_new = let f = page_taken in (own f.1, f.0, omega (arith, room_for start f.1))
      where
        own : Takes L (regions S) (pages S) r k j start → (owner_at (pages S) j ≡ tag_of (regions S) r) ⊎ ((owner_at (pages S) j ≡ 0) × (j ≡ first_free (pages S)) × (start ≡ 0))
        own (inl h) = inl h.1
        own (inr h) = inr (h.1, sym (lowest_is rep.on_regions rep.on_pages ∙ h.3), h.2)

    pub allocated_represents : Represents (accepted L (allocate s r k)) (sp ++ ((64 * j + start + 1) ∷ [])) joined (allocated S s (entry_of (regions S) r) k j)
    unfolding accepted checks allocated add_object
    allocated_represents =
        let i = entry_of (regions S) r in
        let f = page_taken in
        let a = 64 * j + start + 1 in
        let m = object_represents L sp ids S v sh rep r k j lr start (pick (roomy S i (store_size S k)) (ids j) []) (room_for start f.1) f.0 f.1 f.2 in
        let W = with_object S i k j start in
        let n = subst⁻¹ (λ z. Represents (add_object L r k) (sp ++ (a ∷ [])) joined (W z (size_of (kinds S) k))) (size_same v rep k)
        (subst⁻¹ (λ n. Represents (add_object L r k) (sp ++ (a ∷ [])) joined (W (size L k) n)) (rep.on_kinds.sizes k) m) in
        subst (λ x. Represents (accepted L (allocate s r k)) (sp ++ (a ∷ [])) joined (store_fill (W (store_size S k) (size_of (kinds S) k)) s x)) (spot_last L sp rep.on_objects.known a)
        (fill_represents (add_object L r k) (sp ++ (a ∷ [])) joined (W (store_size S k) (size_of (kinds S) k)) (made_valid L v s r k e) n sh.in_frames.slots s (new_id L)
        (leb-false (length (top L)) s (passed L (allocate s r k) e).1.0))
