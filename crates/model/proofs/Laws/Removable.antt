-- Regions that may go together: what an accepted delete has tested, said of a list of names.
-- Assumes nothing.
use Rattle.std.specs.Prelude.{◌≡◌, refl, Bool, true, false, ◌&&◌, ◌||◌, List, [], ◌∷◌, ℕ, ◌+◌, ◌≤◌, ltb, length}
use Rattle.std.proofs.Common.{sym, ap, ◌∙◌, true≢false, arith}
use Rattle.std.proofs.Math.Path.{fun_ext}
use Rattle.std.proofs.Math.Bool.{not}
use Rattle.std.proofs.Math.Dec.{eqb}
use borrow.Author.Tests.{eqb-true, eq-eqb, ne_eqb, not-false}
use Rattle.lists.specs.Lists.{bit, pick, sum_of, All, All₂, times, among, repeats}
use Rattle.lists.specs.Laws.Tests.{by_test, neither, or_other, bit_zero}
use Rattle.lists.specs.Laws.All.{all_map, all₂_map}
use Rattle.lists.specs.Laws.Sums.{sum_zero, sum₂_zero}
use Rattle.lists.specs.Laws.Finds.{all_found, find_none, any_false, false_any, every_true, true_every}
use Rattle.lists.specs.Laws.Kept.{among_alone, all_among, repeats_once, all_each_of, all₂_each_of}
use Rattle.model.specs.Model.{Model, Object, Region, no_region, called, marks, lives_in, home_in, parent_in, into, free_into, from_object, in_words, in_frames, outside, subregions, closed, outside_but, delete, delete_all}
use Rattle.model.specs.Calls.{checks, refusal, dead, wrong_names}
use Rattle.model.specs.Valid.{Valid}
use Rattle.model.proofs.Laws.Passed.{passed, names_passed}
use Rattle.model.proofs.Laws.Regions.{live_zero, name_is}

-- pointer p leads into no region that rs names
abbrev pub Away : Model → List ℕ → ℕ → Type 0
Away L rs p = among (home_in L p) rs ≡ false

-- The regions that rs names, each once, live, and region 1 is none of them. A live region directly below a member is a member. No slot leads into a member, and no word marked 1 of a live object of another region.
-- Pointers from one member to another may stand.
pub record Removable (L : Model) (rs : List ℕ) : Type 0 where
  pub distinct : (q : ℕ) → times q rs ≤ 1
  pub live : All (λ r. lives_in L r ≡ true) rs
  pub not_one : among 1 rs ≡ false
  pub closed : All (λ g. among g.parent rs ≡ true → among g.name rs ≡ true) L.regions
  pub slots : All (All (Away L rs)) L.frames
  pub words : All (λ o. lives_in L o.home ≡ true → among o.home rs ≡ false → All₂ (λ k p. eqb k 1 ≡ true → Away L rs p) (marks L.kinds o.kind) o.words) L.objects

module _ {L : Model} {rs : List ℕ} (m : Removable L rs) where
  pub member_lives : (q : ℕ) → among q rs ≡ true → lives_in L q ≡ true
  member_lives = all_among (λ r. lives_in L r ≡ true) rs m.live

  -- neither 0 nor the region above one that is left is a member
  module _ (v : Valid L) where
    pub zero_away : among 0 rs ≡ false
    zero_away = by_test (among 0 rs) (λ e. absurd (true≢false (sym (member_lives 0 e) ∙ live_zero L.regions v.names.named))) (λ e. e)

    pub parent_away : (q : ℕ) → among q rs ≡ false → among (parent_in L q) rs ≡ false
    parent_away q n = by_test (lives_in L q)
        (λ l. by_test (among (parent_in L q) rs) (λ e. absurd (true≢false (sym (all_found _ (called q) no_region L.regions m.closed l e) ∙ ap (λ x. among x rs) (name_is L.regions q l) ∙ n))) (λ e. e))
        (λ l. ap (λ g. among g.parent rs) (find_none (called q) no_region L.regions l) ∙ zero_away)

-- ---- what the tests of a delete have found

from_zero : (lives : ℕ → Bool) (home : ℕ → ℕ) (ks : List (List ℕ)) (r : ℕ) (o : Object) → lives o.home ≡ true → eqb o.home r ≡ false → from_object lives home ks r o ≡ 0
    → All₂ (λ k p. free_into home r k p ≡ 0) (marks ks o.kind) o.words
unfolding from_object
from_zero lives home ks r o l n e = sum₂_zero (free_into home r) (marks ks o.kind) o.words (rw (l, n) at e)

module _ (L : Model) (rs : List ℕ) where
  abbrev Member : ℕ → Type 0
  Member q = among q rs ≡ true

  -- a pointer that counts nothing for the region it leads into, where that is a member, leads into no member
  away : (p : ℕ) → (Member (home_in L p) → into (home_in L) (home_in L p) p ≡ 0) → Away L rs p
  away p h = by_test (among (home_in L p) rs) (λ e. absurd (one (h e))) (λ e. e)
    where
      one : into (home_in L) (home_in L p) p ≡ 0 → ⊥
      one z = true≢false (sym (eq-eqb (home_in L p) (home_in L p) refl) ∙ bit_zero (eqb (home_in L p) (home_in L p)) z)

  apart : (h q : ℕ) → among h rs ≡ false → Member q → eqb h q ≡ false
  apart h q n e = ne_eqb h q (λ z. true≢false (sym e ∙ ap (λ x. among x rs) (sym z) ∙ n))

  -- no outside pointer of a member but in the words of members
  module _ (none : All (λ r. outside_but L rs r ≡ 0) rs) where
    zero_of : (q : ℕ) → Member q → outside_but L rs q ≡ 0
    zero_of = all_among (λ r. outside_but L rs r ≡ 0) rs none

    slots_away : All (All (Away L rs)) L.frames
    unfolding outside_but in_frames
    slots_away =
        all_map (λ f h. all_map (λ p k. away p (k (home_in L p))) f (all_each_of Member (λ q p. into (home_in L) q p ≡ 0) f (λ q m. sum_zero (into (home_in L) q) f (h q m)))) L.frames
        (all_each_of Member (λ q f. sum_of (into (home_in L) q) f ≡ 0) L.frames (λ q m. sum_zero (sum_of (into (home_in L) q)) L.frames (omega (arith, zero_of q m))))

    words_away : All (λ o. lives_in L o.home ≡ true → among o.home rs ≡ false → All₂ (λ k p. eqb k 1 ≡ true → Away L rs p) (marks L.kinds o.kind) o.words) L.objects
    unfolding outside_but
    words_away =
        all_map (λ o h l n. all₂_map (λ k p y one. away p (λ m. rw one at (y (home_in L p) m))) (marks L.kinds o.kind) o.words
        (all₂_each_of Member (λ q k p. free_into (home_in L) q k p ≡ 0) (marks L.kinds o.kind) o.words
        (λ q m. from_zero (lives_in L) (home_in L) L.kinds q o l (apart o.home q n m) (rw n at (h q m))))) L.objects
        (all_each_of Member (λ q o. pick (among o.home rs) 0 (from_object (lives_in L) (home_in L) L.kinds q o) ≡ 0) L.objects
        (λ q m. sum_zero (λ o. pick (among o.home rs) 0 (from_object (lives_in L) (home_in L) L.kinds q o)) L.objects (omega (arith, zero_of q m))))

    removable_by : repeats rs ≡ false → All (λ r. (dead L r ≡ false) × (eqb r 1 ≡ false)) rs → closed L.regions rs ≡ true → Removable L rs
    unfolding closed
    removable_by d ns c = record {
      distinct = repeats_once rs d;
      live = all_map (λ r h. not-false (lives_in L r) h.0) rs ns;
      not_one = false_any (λ r. eqb r 1) rs (all_map (λ r h. h.1) rs ns);
      closed = all_map (λ g h a. or_other (not (among g.parent rs)) (among g.name rs) h (ap not a)) L.regions
          (every_true (λ g. not (among g.parent rs) || among g.name rs) L.regions c);
      slots = slots_away;
      words = words_away;
    }

-- an accepted joint delete
pub removable_all : (L : Model) (rs : List ℕ) (f : ℕ) → refusal L (delete_all rs f) ≡ 0 → Removable L rs
unfolding checks wrong_names
removable_all L rs f e =
    let c = passed L (delete_all rs f) e in
    let n = names_passed (dead L) rs _ c.1.1 in
    let w = neither (eqb (length rs) 0 || ltb 16 (length rs)) (repeats rs) c.1.0 in
    removable_by L rs (all_map (λ r z. eqb-true (outside_but L rs r) 0 (not-false (eqb (outside_but L rs r) 0) z)) rs (any_false (λ r. not (eqb (outside_but L rs r) 0)) rs n.1.1.0))
    w.1 n.0 (not-false (closed L.regions rs) n.1.0)

-- ---- the list of one

-- its outside pointers are the region's: its own words are none of them
outside_one : (L : Model) (r : ℕ) → outside_but L (r ∷ []) r ≡ outside L r
unfolding outside_but outside in_words from_object
outside_one L r = ap (λ n. n + in_frames (home_in L) r L.frames) (ap (λ f. sum_of f L.objects) (fun_ext own))
  where
    own : (o : Object) → pick (among o.home (r ∷ [])) 0 (from_object (lives_in L) (home_in L) L.kinds r o) ≡ from_object (lives_in L) (home_in L) L.kinds r o
    own o = rw (among_alone o.home r) (go (eqb o.home r) (lives_in L o.home) _)
      where
        go : (a b : Bool) (n : ℕ) → pick a 0 (pick (b && not a) n 0) ≡ pick (b && not a) n 0
        go true true n = refl
        go true false n = refl
        go false b n = refl

pub removable_one : (L : Model) (r f : ℕ) → refusal L (delete r f) ≡ 0 → Removable L (r ∷ [])
unfolding checks closed
removable_one L r f e =
    let c = passed L (delete r f) e in
    let subs = eqb-true (subregions L r) 0 (not-false (eqb (subregions L r) 0) c.1.1.1.0) in
    let out = eqb-true (outside L r) 0 (not-false (eqb (outside L r) 0) c.1.1.1.1.0) in
    removable_by L (r ∷ []) (outside_one L r ∙ out, tt) refl ((c.1.0, c.1.1.0), tt)
    (true_every (λ g. not (among g.parent (r ∷ [])) || among g.name (r ∷ [])) L.regions (all_map none L.regions (sum_zero (λ g. bit (eqb g.parent r)) L.regions subs)))
  where
    none : (g : Region) → bit (eqb g.parent r) ≡ 0 → (not (among g.parent (r ∷ [])) || among g.name (r ∷ [])) ≡ true
    none g z = rw (among_alone g.parent r, bit_zero (eqb g.parent r) z)
