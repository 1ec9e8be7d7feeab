-- What is added up over the pages of a store comes to the same over the model's objects; and report's outside pointers are the model's.
-- Assumes nothing.
use Rattle.std.specs.Prelude.{◌≡◌, refl, ◌≢◌, Bool, true, false, ◌||◌, List, [], ◌∷◌, ℕ, suc, ◌+◌, ◌≤◌, ◌<◌, eqb, length, get_or}
use Rattle.std.proofs.Common.{sym, ap, ◌∙◌, inl, inr, arith, eqb-true, eq-eqb}
use Rattle.std.proofs.Math.Path.{fun_ext}
use Rattle.std.proofs.Math.Seq.{take-length}
use Rattle.std.proofs.lemmas.Bool.{not-false}
use Rattle.lists.specs.Lists.{bit, pick, sum_of, sum_of₂, count_of, All, up_to}
use Rattle.lists.specs.Laws.Tests.{by_test, both, or_right, eqb_sym}
use Rattle.lists.specs.Laws.All.{all_map, all₂_map}
use Rattle.lists.specs.Laws.Sums.{sum_same, sum₂_same, sum_swap}
use Rattle.lists.specs.Laws.UpTo.{sum_below, sum_part}
use Rattle.model.specs.Model.{Model, Answer, report, Object, Region, no_object, object, live, lives_in, home_in, parent_in, free_into, outside}
use Rattle.model.specs.Calls.{checks, refusal, reply, accepted}
use Rattle.model.specs.Valid.{Valid, Distinct, fine}
use Rattle.model.proofs.Laws.Passed.{passed}
use Rattle.model.proofs.Laws.Slots.{object_valid}
use Rattle.model.proofs.Laws.Counts.{outside_stored}
use Rattle.regions.specs.declared.Regions.{Regions}
use Rattle.regions.specs.Regions.{entry_of, tag_of}
use Rattle.pages.specs.declared.Pages.{Pages}
use Rattle.pages.specs.Pages.{owner_at, owner_of}
use Rattle.objects.specs.Objects.{free_words_on}
use Rattle.outcomes.specs.Store.{Store, kinds, regions, pages, outside_of}
use Rattle.outcomes.specs.Outcome.{Accepted}
use Rattle.refinement.specs.Represents.{spot, Alive, words_in, ids_in, tag_for, KindsAgree, RegionsAgree, PagesAgree, ObjectsAgree, Represents, Owned}
use Rattle.refinement.specs.Laws.Tags.{Named, zero_dead, live_for, tag_for_lem, for_same, subregions_are}
use Rattle.refinement.specs.Laws.Reads.{held_are}
use Rattle.refinement.specs.Laws.Counts.{leads_into, slots_beyond_lem}
use Rattle.refinement.specs.Laws.Walks.{marks_in, free_words_on_lem, homes_on}

-- one region of the list has the name r, if it lives
named_once : (gs : List Region) → Distinct gs → (r c : ℕ) → sum_of (λ x. pick (eqb r x.name) c 0) gs ≡ pick (live gs r) c 0
named_once [] d r c = refl
named_once (x ∷ xs) d r c = rw (eqb_sym r x.name) (go (eqb x.name r) refl (named_once xs d.1 r c))
  where
    go : (b : Bool) → eqb x.name r ≡ b → sum_of (λ x. pick (eqb r x.name) c 0) xs ≡ pick (live xs r) c 0 → pick b c 0 + sum_of (λ x. pick (eqb r x.name) c 0) xs ≡ pick (b || live xs r) c 0
    go true e ih = let z : live xs r ≡ false = rw (eqb-true x.name r e) at d.0 in omega (arith, rw z at ih)
    go false e ih = omega arith

pub names_live : (gs : List Region) → All (λ x. live gs x.name ≡ true) gs
names_live [] = tt
names_live (x ∷ xs) = (rw (eq-eqb x.name x.name refl), all_map (λ y l. or_right (eqb x.name y.name) (live xs y.name) l) xs (names_live xs))

-- what object q's words marked 1 add to the outside pointers of r, if it is of another region
abbrev pub weight : Model → ℕ → ℕ → ℕ
weight L r q = sum_of₂ (free_into (home_in L) r) (marks_in L q) (words_in L q)

-- whatever is added up over the ids comes to the same over the objects
pub ids_objects : (L : Model) (f : Object → ℕ) → sum_of (λ q. f (object L.objects q)) (ids_in L) ≡ sum_of f L.objects
ids_objects L f = sum_part f (no_object ∷ L.objects) no_object 1 (length L.objects) (suc (length L.objects)) (omega arith) (omega arith) ∙ ap (sum_of f) (take-length L.objects)

module _ (L : Model) (sp : List ℕ) (ids : ℕ → List ℕ) (g : Regions) (p : Pages) (heap : List ℕ) (v : Valid L) (on_regions : RegionsAgree L sp g) (on_pages : PagesAgree L g p (length heap)) (on_objects : ObjectsAgree L sp ids g p heap) where
  -- whatever is added up over all held pages comes to the same over the pages of each live region
  held_pages : (c : ℕ → ℕ) → sum_of (λ j. pick (eqb (owner_at p j) 0) 0 (c j)) (up_to p.made) ≡ sum_of (λ x. sum_of (λ j. pick (eqb (owner_at p j) (tag_of g x.name)) (c j) 0) (up_to p.made)) L.regions
  held_pages c = sum_below _ _ p.made (λ j h. page j (on_pages.owned j h)) ∙ sum_swap (λ j x. pick (eqb (owner_at p j) (tag_of g x.name)) (c j) 0) (up_to p.made) L.regions
    where
      lives : (r : ℕ) → Named L r → (n : ℕ) → pick (eqb r 0) 0 n ≡ pick (lives_in L r) n 0
      lives r k n = by_test (eqb r 0) (λ e. rw (eqb-true r 0 e, zero_dead on_regions)) (λ e. rw (e, rw e at k))

      owner : (r : ℕ) → Named L r → (n : ℕ) → pick (eqb (tag_for g r) 0) 0 n ≡ sum_of (λ x. pick (eqb (tag_for g r) (tag_of g x.name)) n 0) L.regions
      owner r k n =
          ap (λ b. pick b 0 n) (for_same on_regions r 0 k refl) ∙ lives r k n ∙ sym (named_once L.regions v.names.distinct r n)
          ∙ sum_same (λ x. pick (eqb r x.name) n 0) (λ x. pick (eqb (tag_for g r) (tag_of g x.name)) n 0) L.regions (all_map each L.regions (names_live L.regions))
        where
          each : (x : Region) → lives_in L x.name ≡ true → pick (eqb r x.name) n 0 ≡ pick (eqb (tag_for g r) (tag_of g x.name)) n 0
          each x l = ap (λ b. pick b n 0) (sym (for_same on_regions r x.name k (live_for on_regions x.name l)) ∙ ap (eqb (tag_for g r)) (tag_for_lem on_regions x.name l))

      page : (j : ℕ) → Owned L g p j → pick (eqb (owner_at p j) 0) 0 (c j) ≡ sum_of (λ x. pick (eqb (owner_at p j) (tag_of g x.name)) (c j) 0) L.regions
      page j (inl (z, e)) = rw e (owner 0 refl (c j))
      page j (inr (l, e)) = let r = get_or L.holders j 0 in rw (e, ← (tag_for_lem on_regions r l)) (owner r (live_for on_regions r l) (c j))

  -- whatever is added up over the objects of all held pages comes to the same over the objects of live regions
  pub held_objects : (f : ℕ → ℕ) → sum_of (λ j. pick (eqb (owner_at p j) 0) 0 (sum_of f (ids j))) (up_to p.made) ≡ sum_of (λ q. pick (lives_in L (home_in L q)) (f q) 0) (ids_in L)
  held_objects f =
      held_pages (λ j. sum_of f (ids j))
      ∙ sum_same _ _ L.regions (all_map (λ x l. on_objects.once x.name l f) L.regions (names_live L.regions))
      ∙ sum_swap (λ x q. pick (eqb (home_in L q) x.name) (f q) 0) L.regions (ids_in L)
      ∙ ap (λ f. sum_of f (ids_in L)) (fun_ext (λ q. named_once L.regions v.names.distinct (home_in L q) (f q)))

module _ (L : Model) (sp : List ℕ) (ids : ℕ → List ℕ) (S : Store) (v : Valid L) (on_kinds : KindsAgree L.kinds (kinds S)) (on_regions : RegionsAgree L sp (regions S))
    (on_pages : PagesAgree L (regions S) (pages S) (length S.heap)) (on_objects : ObjectsAgree L sp ids (regions S) (pages S) S.heap) (r : ℕ) (l : lives_in L r ≡ true) where
  -- the words marked 1 on a held page that lead into r
  pub page_words : (j : ℕ) → j < (pages S).made → owner_at (pages S) j ≢ 0
      → count_of (λ x. eqb (owner_of (pages S) x) (tag_of (regions S) r)) (free_words_on (kinds S) S.heap (pages S) j) ≡ sum_of (weight L r) (ids j)
  page_words j made held =
      free_words_on_lem L sp ids (regions S) (kinds S) (pages S) S.heap v on_kinds on_objects j made held (λ x. bit (eqb (owner_of (pages S) x) (tag_of (regions S) r)))
      ∙ sum_same _ _ (ids j) (all_map each (ids j) (homes_on v on_objects j made held))
    where
      word : (h m x : ℕ) → fine (lives_in L) (parent_in L) (home_in L) h m x ≡ true
          → pick (eqb m 1) (bit (eqb (owner_of (pages S) (spot sp x)) (tag_of (regions S) r))) 0 ≡ free_into (home_in L) r m x
      word h m x f = by_test (eqb m 1)
          (λ e. let k = both _ _ (rw (eqb-true m 1 e) at f) in ap (λ b. pick (eqb m 1) (bit b) 0) (leads_into on_regions on_objects r l x k.0))
          (λ e. rw e)

      each : (q : ℕ) → Alive L q × (owner_at (pages S) j ≡ tag_of (regions S) (home_in L q))
          → sum_of₂ (λ m x. pick (eqb m 1) (bit (eqb (owner_of (pages S) (spot sp x)) (tag_of (regions S) r))) 0) (marks_in L q) (words_in L q) ≡ weight L r q
      each q h = sum₂_same _ _ (marks_in L q) (words_in L q) (all₂_map (word (home_in L q)) (marks_in L q) (words_in L q) ((object_valid L v q h.0).fine_words h.0))

-- the stored count, and the slots of the uncounted frames: all outside pointers, which 32 bits hold
pub outside_is : {L : Model} {sp : List ℕ} {ids : ℕ → List ℕ} (S : Store) → Valid L → Represents L sp ids S → (r : ℕ) → lives_in L r ≡ true → outside L r ≤ 16640
    → outside_of S (entry_of (regions S) r) ≡ outside L r
unfolding outside_of tag_of
outside_is {L} S v h r l small = omega (arith, h.counts r l, slots_beyond_lem S v h.on_frames h.on_regions h.on_objects r l, outside_stored L r)

pub report_step : (L : Model) (sp : List ℕ) (ids : ℕ → List ℕ) (S : Store) → Valid L → Represents L sp ids S → (a : Answer) (T : Store) (r : ℕ) → ((q : ℕ) → outside L q ≤ 16640)
    → refusal L (report r) ≡ 0 → Accepted (report r) S a T → (a ≡ reply L (report r)) × Represents (accepted L (report r)) sp ids T
unfolding checks Accepted reply accepted
report_step L sp ids S v h a T r small e (x, y) =
    let l = not-false (lives_in L r) (passed L (report r) e).0 in
    (x ∙ rw (h.counts r l, outside_is S v h r l (small r), held_are h.on_regions h.on_pages r l, subregions_are h.on_regions v r l), rw y h)
