-- What a store that represents a model reads: frames and slots, kinds, and the objects that pointers lead to.
-- Assumes nothing.
use Rattle.std.specs.Prelude.{◌≡◌, ◌⊎◌, ◌≢◌, true, false, List, [], ℕ, ◌+◌, ◌-◌, ◌*◌, ◌≤◌, ◌<◌, leb, length, get_or}
use Rattle.std.proofs.Math.Path.{refl, sym, ap}
use Rattle.std.proofs.Common.{◌∙◌, inl, inr, arith}
use Rattle.std.proofs.Math.Dec.{eqb}
use Rattle.std.proofs.Math.ListN.{get_or-eq_default}
use borrow.Author.Tests.{eqb-true, eqb-false, eq-eqb, ne_eqb, leb-true, leb-false}
use Rattle.lists.specs.Lists.{bit, sum_of, count_of, All, up_to}
use Rattle.lists.specs.Laws.Tests.{by_test, or_right, or_other}
use Rattle.lists.specs.Laws.All.{all_map, all_at}
use Rattle.lists.specs.Laws.Finds.{find_same}
use Rattle.lists.specs.Laws.UpTo.{all_up_to, sum_below, sum_places}
use Rattle.model.specs.Model.{Model, object, marks, lives_in, home_in, held_by, lowest_free, top_place, top, slot}
use Rattle.model.specs.Calls.{lacks}
use Rattle.model.specs.Valid.{Valid}
use Rattle.model.proofs.Laws.Slots.{Known, slot_known, object_valid}
use Rattle.frames.specs.declared.Frames.{Frames}
use Rattle.frames.specs.Frames.{frame_count, top_frame, width_at, slot_at}
use Rattle.kinds.specs.declared.Kinds.{Kinds}
use Rattle.kinds.specs.Kinds.{kind_count}
use Rattle.regions.specs.declared.Regions.{Regions}
use Rattle.regions.specs.Regions.{name_of, tag_of}
use Rattle.pages.specs.declared.Pages.{Pages}
use Rattle.pages.specs.Pages.{page_count, owner_at, owner_in, owner_of, page_of, word_of, first_free, first_free_in, pages_of, pages_in, wrong_length, wrong_length_in}
use Rattle.objects.specs.Objects.{kind_of, word_count, mark_of, word_at}
use Rattle.outcomes.specs.Store.{Store, slot as store_slot}
use Rattle.refinement.specs.Represents.{Represents, FramesAgree, KindsAgree, RegionsAgree, Owned, PagesAgree, ObjectsAgree, Alive, spot, image_of, words_in, tag_for}
use Rattle.refinement.specs.Laws.Tags.{Named, live_for, tag_for_lem, for_name, for_same}

-- ---- frames

-- a frame that has a slot stands
pub frame_in : (fs : List (List ℕ)) (i s : ℕ) → s < length (get_or fs i []) → i < length fs
frame_in fs i s h = by_test (leb (length fs) i)
    (λ e. absurd (omega (arith, ap length (get_or-eq_default fs [] {n = i} (leb-true (length fs) i e)))))
    (λ e. leb-false (length fs) i e)

pub frame_small : (fs : List (List ℕ)) → All (λ f. (1 ≤ length f) × (length f ≤ 8)) fs → (i : ℕ) → length (get_or fs i []) ≤ 8
frame_small fs h i = all_at (λ f. length f ≤ 8) fs i [] (all_map (λ f k. k.1) fs h) (omega arith)

module _ {sp : List ℕ} {fs : List (List ℕ)} {m : ℕ} {f : Frames} (a : FramesAgree sp fs m f) where
  pub frame_count_lem : length fs ≤ 32 → frame_count f ≡ length fs
  unfolding frame_count
  frame_count_lem h = omega (arith, a.standing)

  pub top_frame_lem : top_frame f ≡ top_place fs
  unfolding top_frame
  top_frame_lem = omega (arith, a.standing)

  pub beneath_frame : top_frame f - 1 ≡ length fs - 2
  beneath_frame = omega (arith, top_frame_lem)

  pub top_width_lem : length fs ≢ 0 → width_at f (top_frame f) ≡ length (get_or fs (top_place fs) [])
  top_width_lem n = rw top_frame_lem (a.widths (top_place fs) (omega arith))

  pub beneath_width : 2 ≤ length fs → width_at f (top_frame f - 1) ≡ length (get_or fs (length fs - 2) [])
  beneath_width n = rw beneath_frame (a.widths (length fs - 2) (omega arith))

  pub top_slot : (s : ℕ) → s < length (get_or fs (top_place fs) []) → slot_at f (top_frame f) s ≡ spot sp (get_or (get_or fs (top_place fs) []) s 0)
  top_slot s h = rw top_frame_lem (a.slots (top_place fs) s (frame_in fs (top_place fs) s h) h)

  pub beneath_slot : (s : ℕ) → s < length (get_or fs (length fs - 2) []) → slot_at f (top_frame f - 1) s ≡ spot sp (get_or (get_or fs (length fs - 2) []) s 0)
  beneath_slot s h = rw beneath_frame (a.slots (length fs - 2) s (frame_in fs (length fs - 2) s h) h)

-- ---- kinds and pages

pub kind_count_lem : {ks : List (List ℕ)} {k : Kinds} → KindsAgree ks k → length ks ≤ 16 → kind_count k ≡ length ks
unfolding kind_count
kind_count_lem a h = omega (arith, a.declared)

module _ {L : Model} {g : Regions} {p : Pages} {words : ℕ} (a : PagesAgree L g p words) where
  pub page_count_lem : page_count p ≡ p.made
  unfolding page_count
  page_count_lem = omega (arith, a.most)

  -- the pages with tag t
  pub pages_by_lem : (t : ℕ) → pages_of p t ≡ sum_of (λ j. bit (eqb (owner_at p j) t)) (up_to p.made)
  unfolding pages_of pages_in owner_at page_count
  pages_by_lem t = ap (λ n. count_of (λ j. eqb (owner_at p j) t) (up_to n)) page_count_lem

  pub right_length : wrong_length p words ≡ false
  unfolding wrong_length wrong_length_in
  right_length = rw (ne_eqb p.made 0 (λ e. omega (arith, a.some)), eq-eqb words (64 * p.made) a.whole)

-- who holds each page, how many pages each region holds and how many are free, and which of these is the lowest
module _ {L : Model} {sp : List ℕ} {g : Regions} {p : Pages} {words : ℕ} (b : RegionsAgree L sp g) (a : PagesAgree L g p words) where
  pub owner_for : (j : ℕ) → j < p.made → let r = get_or L.holders j 0 in Named L r × (owner_at p j ≡ tag_for g r)
  owner_for j h = go (a.owned j h)
    where
      go : Owned L g p j → let r = get_or L.holders j 0 in Named L r × (owner_at p j ≡ tag_for g r)
      go (inl (z, e)) = (rw z, e ∙ ap (tag_for g) (sym z))
      go (inr (l, e)) = (live_for b (get_or L.holders j 0) l, e ∙ sym (tag_for_lem b (get_or L.holders j 0) l))

  holds_is : (r j : ℕ) → Named L r → j < p.made → eqb (owner_at p j) (tag_for g r) ≡ eqb (get_or L.holders j 0) r
  holds_is r j k h = let o = owner_for j h in ap (λ t. eqb t (tag_for g r)) o.1 ∙ for_same b (get_or L.holders j 0) r o.0 k

  pages_are : (r : ℕ) → Named L r → pages_of p (tag_for g r) ≡ held_by L r
  pages_are r k =
      pages_by_lem a (tag_for g r)
      ∙ sum_below _ (λ j. bit (eqb (get_or L.holders j 0) r)) p.made (λ j h. ap bit (holds_is r j k h))
      ∙ ap (λ n. sum_of (λ j. bit (eqb (get_or L.holders j 0) r)) (up_to n)) (sym a.listed)
      ∙ sum_places (λ x. bit (eqb x r)) L.holders 0

  pub free_are : pages_of p 0 ≡ held_by L 0
  free_are = pages_are 0 refl

  pub held_are : (r : ℕ) → lives_in L r ≡ true → pages_of p (tag_of g r) ≡ held_by L r
  held_are r l = ap (pages_of p) (sym (tag_for_lem b r l)) ∙ pages_are r (live_for b r l)

  pub lowest_is : first_free p ≡ lowest_free L.holders
  unfolding first_free first_free_in lowest_free page_count owner_at
  lowest_is = rw (page_count_lem a, a.listed) (find_same _ _ p.made (up_to p.made) (all_up_to _ p.made (λ j h. holds_is 0 j refl h)))

-- ---- pointers

-- a known pointer is null or leads to an object of a live region
pub by_known : {P : Type 0} (L : Model) (q : ℕ) → Known L q → (q ≡ 0 → P) → (Alive L q → P) → P
by_known L q k null alive = by_test (eqb q 0) (λ e. null (eqb-true q 0 e)) (λ e. alive (or_other (eqb q 0) (lives_in L (home_in L q)) k e))

-- it leads into none or a live region
pub home_named : (L : Model) (q : ℕ) → Known L q → Named L (home_in L q)
home_named L q k = by_known L q k (λ e. rw e) (λ l. or_right (eqb (home_in L q) 0) (lives_in L (home_in L q)) l)

-- what it leads to has as many words as its kind has marks: null, none
pub sized_known : {L : Model} → Valid L → (q : ℕ) → Known L q → length (words_in L q) ≡ length (marks L.kinds (object L.objects q).kind)
sized_known {L} v q k = by_known L q k (λ e. rw e) (λ l. (object_valid L v q l).sized)

module _ {L : Model} {sp : List ℕ} {ids : ℕ → List ℕ} {g : Regions} {p : Pages} {heap : List ℕ} (a : ObjectsAgree L sp ids g p heap) where
  -- null, and only null, stands at 0
  pub spot_some : (q : ℕ) → Alive L q → spot sp q ≢ 0
  spot_some q l e = omega (arith, (a.laid q l).placed)

  pub spot_zero : (q : ℕ) → Known L q → eqb (spot sp q) 0 ≡ eqb q 0
  spot_zero q k = by_known L q k (λ e. rw e) (λ l. ne_eqb (spot sp q) 0 (spot_some q l) ∙ sym (ne_eqb q 0 (λ e. spot_some q l (rw e))))

  -- pointers at one place are one
  pub spot_injective : (q r : ℕ) → Known L q → Known L r → spot sp q ≡ spot sp r → q ≡ r
  spot_injective q r k m e = by_known L q k
      (λ z. by_known L r m (λ y. rw (z, y)) (λ l. absurd (spot_some r l (sym e ∙ ap (spot sp) z))))
      (λ j. by_known L r m (λ y. absurd (spot_some q j (e ∙ ap (spot sp) y))) (λ l. by_test (eqb q r) (eqb-true q r) (λ n. absurd (go (a.apart q r j l (eqb-false q r n))))))
    where
      go : (spot sp q + length (words_in L q) < spot sp r) ⊎ (spot sp r + length (words_in L r) < spot sp q) → ⊥
      go (inl h) = omega arith
      go (inr h) = omega arith

  pub spot_same : (q r : ℕ) → Known L q → Known L r → eqb (spot sp q) (spot sp r) ≡ eqb q r
  spot_same q r k m = by_test (eqb q r) (λ e. rw (eqb-true q r e, eq-eqb (spot sp r) (spot sp r) refl, eq-eqb r r refl))
      (λ e. rw e (ne_eqb (spot sp q) (spot sp r) (λ t. eqb-false q r e (spot_injective q r k m t))))

  pub kind_is : (q : ℕ) → Known L q → kind_of heap (spot sp q) ≡ (object L.objects q).kind
  unfolding kind_of
  kind_is q k = by_known L q k (λ e. rw e) (λ l. rw (ne_eqb (spot sp q) 0 (spot_some q l)) (a.laid q l).header)

  pub word_is : (q w : ℕ) → Alive L q → w < length (words_in L q)
      → word_at heap (spot sp q) w ≡ image_of sp (get_or (marks L.kinds (object L.objects q).kind) w 0) (get_or (words_in L q) w 0)
  unfolding word_at
  word_is q w l h = (a.laid q l).words w h

  -- where it lies: of null, page 256 and word 0
  pub page_is : (q : ℕ) → Known L q → page_of (spot sp q) ≡ (object L.objects q).page
  unfolding page_of
  page_is q k = by_known L q k (λ e. rw e) (λ l. rw (ne_eqb (spot sp q) 0 (spot_some q l)) (a.laid q l).page)

  pub word_of_lem : (q : ℕ) → Known L q → word_of (spot sp q) ≡ (object L.objects q).word
  unfolding word_of
  word_of_lem q k = by_known L q k (λ e. rw e) (λ l. rw (ne_eqb (spot sp q) 0 (spot_some q l)) (a.laid q l).word)

  module _ {k : Kinds} (b : KindsAgree L.kinds k) where
    pub size_is : Valid L → (q : ℕ) → Known L q → word_count k heap (spot sp q) ≡ length (words_in L q)
    unfolding word_count
    size_is v q n = rw (kind_is q n) (b.sizes (object L.objects q).kind ∙ sym (sized_known v q n))

    pub mark_is : Valid L → (q w : ℕ) → Known L q → w < length (words_in L q) → mark_of k heap (spot sp q) w ≡ get_or (marks L.kinds (object L.objects q).kind) w 0
    unfolding mark_of
    mark_is v q w n h = rw (kind_is q n) (b.marks_agree (object L.objects q).kind w (omega (arith, sized_known v q n)))

  module _ (b : RegionsAgree L sp g) where
    pub owner_is : (q : ℕ) → Known L q → owner_of p (spot sp q) ≡ tag_for g (home_in L q)
    unfolding owner_of owner_in
    owner_is q k = by_known L q k (λ e. rw e) (λ l. a.owned q l ∙ sym (tag_for_lem b (home_in L q) l))

    pub owner_name : (q : ℕ) → Known L q → name_of g (owner_of p (spot sp q)) ≡ home_in L q
    owner_name q k = ap (name_of g) (owner_is q k) ∙ for_name b (home_in L q) (home_named L q k)

-- ---- slots of the top frame

pub top_known : {L : Model} → Valid L → (s : ℕ) → Known L (slot L s)
top_known {L} v s = slot_known L v (top_place L.frames) s

pub slot_is : {L : Model} {sp : List ℕ} {ids : ℕ → List ℕ} {S : Store} → Represents L sp ids S → (s : ℕ) → lacks (top L) s ≡ false → store_slot S s ≡ spot sp (slot L s)
unfolding store_slot
slot_is {L} h s k = top_slot h.on_frames s (leb-false (length (top L)) s k)
