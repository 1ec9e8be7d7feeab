-- Regions that are to go together: a store that represents a valid model tests of them what the model does.
-- Assumes nothing.
use Rattle.std.specs.Prelude.{◌≡◌, refl, true, false, ◌||◌, List, map, ltb, take, drop}
use Rattle.std.proofs.Math.Path.{sym, ap, fun_ext}
use Rattle.std.proofs.Common.{◌∙◌, add-one, ne_eqb, lt-ltb}
use Rattle.std.proofs.Math.Bool.{Bool, not}
use Prim.Native.Nat.{ℕ, zero, suc, ◌+◌, ◌<◌, ◌≤◌}
use native.Mathlib.Omega.{arith}
use Rattle.std.proofs.Math.Dec.{eqb}
use Rattle.std.proofs.lemmas.Bool.{eqb-false}
use Rattle.lists.specs.Lists.{bit, pick, any_of, sum_of, All, up_to, times, among}
use Rattle.lists.specs.Laws.Tests.{eqb_sym}
use Rattle.lists.specs.Laws.All.{all_map}
use Rattle.lists.specs.Laws.Sums.{sum_same, sum_split}
use Rattle.lists.specs.Laws.Finds.{any_map, any_same, any_sum, any_count, any_swap, any_either, every_count, false_any}
use Rattle.lists.specs.Laws.UpTo.{sum_below}
use Rattle.model.specs.Model.{Model, lives_in, home_in, parent_in, into, in_frames, outside, stored, closed, outside_but}
use Rattle.model.specs.Valid.{Valid}
use Rattle.model.proofs.Laws.Regions.{found_itself}
use Rattle.model.proofs.Laws.Counts.{outside_stored, words_parted, from_one}
use Rattle.regions.specs.declared.Regions.{Regions}
use Rattle.regions.specs.Regions.{name_at, entry_of, tag_of, parent_at, follows_in, closed_in, count_at}
use Rattle.regions.specs.Laws.Counts.{rolled_exact}
use Rattle.outcomes.specs.Store.{Store, frames, regions, pages, targets_in, slot_targets, uncounted_in, slots_beyond_in, slots_beyond, led_in, led_into, led_among_in, led_among}
use Rattle.outcomes.specs.Outcome.{outgoing, count_but}
use Rattle.refinement.specs.Represents.{tag_for, RegionsAgree, Represents}
use Rattle.refinement.specs.Laws.Tags.{Named, live_named, tag_among, zero_tag, entry_live, entry_own, parent_known}
use Rattle.refinement.specs.Laws.Counts.{slots_beyond_lem}
use Rattle.refinement.specs.Laws.Delete.{gone_members}

-- ---- the look over the uncounted frames, of any memory: once for all members, it finds what it finds for one of them

pub led_each : (S : Store) (ts : List ℕ) → led_among S ts ≡ any_of (led_into S) ts
unfolding led_among led_among_in led_into led_in
led_each S ts =
    let f = frames S in
    let targets : ℕ → List ℕ = targets_in f.widths f.slots (pages S).owners in
    let fs = uncounted_in f.standing f.counted in
    ap (λ g. any_of g fs) (fun_ext (λ i. any_swap (λ t x. eqb x t) (targets i) ts ∙ ap (λ g. any_of g ts) (fun_ext (λ x. ap (λ g. any_of g (targets i)) (fun_ext (λ t. eqb_sym x t))))))
    ∙ any_swap (λ i x. among x (targets i)) fs ts

-- one of two numbers is not 0 exactly where their sum is not
pub either_not : (a b : ℕ) → (not (eqb a 0) || ltb 0 b) ≡ not (eqb (a + b) 0)
either_not zero zero = refl
either_not zero (suc b) = rw (lt-ltb 0 (suc b) (omega arith), ne_eqb (0 + suc b) 0 (λ e. omega arith))
either_not (suc a) b = rw (ne_eqb (suc a) 0 (λ e. omega arith), ne_eqb (suc a + b) 0 (λ e. omega arith))

-- ---- a store that represents a model

module _ {L : Model} {sp : List ℕ} {g : Regions} (v : Valid L) (a : RegionsAgree L sp g) (rs : List ℕ) (ls : All (λ r. lives_in L r ≡ true) rs) where
  abbrev tags : List ℕ
  tags = map (tag_of g) rs

  -- the tag of a region, or of none, is a member's where the region is a member
  for_among : (q : ℕ) → Named L q → among (tag_for g q) tags ≡ among q rs
  for_among zero n = zero_tag a rs ls ∙ sym (false_any (λ r. eqb r 0) rs (all_map (λ r l. ne_eqb r 0 (live_named a r l)) rs ls))
  for_among (suc q) n = let l : lives_in L (suc q) ≡ true = rw (ne_eqb (suc q) 0 (λ e. omega arith)) at n in tag_among a rs ls (suc q) l

  -- no live region right below a member is left out
  pub closed_is : closed_in g.names g.parents (λ t. among t tags) ≡ closed L.regions rs
  unfolding closed_in follows_in closed name_at parent_at tag_of
  closed_is =
      every_count test (up_to 64)
      ∙ ap (λ n. eqb n 0)
      (sum_below (λ i. bit (not (test i))) (λ i. pick (eqb (name_at g i) 0) 0 (stray (name_at g i))) 64 below
      ∙ a.rows stray
      ∙ sum_same _ _ L.regions (all_map (λ x e. ap (λ y. bit (not (not (among y.parent rs) || among x.name rs))) e) L.regions (found_itself L.regions v.names.distinct)))
      ∙ sym (every_count (λ x. not (among x.parent rs) || among x.name rs) L.regions)
    where
      test : ℕ → Bool
      test i = eqb (name_at g i) 0 || not (among (parent_at g i) tags) || among (suc i) tags

      stray : ℕ → ℕ
      stray n = bit (not (not (among (parent_in L n) rs) || among n rs))

      below : (i : ℕ) → i < 64 → bit (not (test i)) ≡ pick (eqb (name_at g i) 0) 0 (stray (name_at g i))
      below i h = go (eqb (name_at g i) 0) refl
        where
          go : (b : Bool) → eqb (name_at g i) 0 ≡ b → bit (not (b || not (among (parent_at g i) tags) || among (suc i) tags)) ≡ pick b 0 (stray (name_at g i))
          go true e = refl
          go false e =
              let n = eqb-false (name_at g i) 0 e in
              let l = entry_live a i h n in
              let p : parent_at g i ≡ tag_for g (parent_in L (name_at g i)) = rw (entry_own a v i h n) at (a.entry (name_at g i) l).parent in
              let t : suc i ≡ tag_of g (name_at g i) = own i (entry_own a v i h n) in
              rw (p, t, for_among (parent_in L (name_at g i)) (parent_known a v (name_at g i)), tag_among a rs ls (name_at g i) l)
            where
              own : (i : ℕ) → entry_of g (name_at g i) ≡ i → suc i ≡ tag_of g (name_at g i)
              own i e = sym (ap (λ n. n + 1) e ∙ add-one i)

module _ {L : Model} {sp : List ℕ} {ids : ℕ → List ℕ} {S : Store} (v : Valid L) (h : Represents L sp ids S) where
  -- the look over the uncounted frames finds what the stored count lacks
  pub look_is : (r : ℕ) → lives_in L r ≡ true → led_into S (tag_of (regions S) r) ≡ ltb 0 (in_frames (home_in L) r (drop L.counted L.frames))
  unfolding led_into led_in led_among_in slot_targets slots_beyond slots_beyond_in
  look_is r l =
      let t = tag_of (regions S) r in
      let fs = uncounted_in (frames S).standing (frames S).counted in
      ap (λ f. any_of f fs) (fun_ext (λ i. any_count (λ x. eqb x t) (slot_targets S i)))
      ∙ any_sum (λ i. times t (slot_targets S i)) fs
      ∙ ap (ltb 0) (slots_beyond_lem S v h.on_frames h.on_regions h.on_objects r l)

  module _ (small : (q : ℕ) → outside L q ≤ 16640) (rs : List ℕ) (ls : All (λ r. lives_in L r ≡ true) rs) (once : (q : ℕ) → times q rs ≤ 1) where
    abbrev ts : List ℕ
    ts = map (tag_of (regions S)) rs

    -- what is left of a count, with what the look finds, is what leads there from outside
    abbrev left : ℕ → ℕ
    left r = sum_of (λ o. pick (among o.home rs) 0 (from_one L rs ls once r o)) L.objects + in_frames (home_in L) r (take L.counted L.frames)

    left_is : (r : ℕ) → outside_but L rs r ≡ left r + in_frames (home_in L) r (drop L.counted L.frames)
    unfolding outside_but in_frames
    left_is r = omega (arith, sum_split (sum_of (into (home_in L) r)) L.counted L.frames)

    count_left : (r : ℕ) → lives_in L r ≡ true → count_but S ts (entry_of (regions S) r) ≡ left r
    unfolding count_but stored tag_of
    count_left r l = rolled_exact (count_at (regions S) (entry_of (regions S) r)) 0 (times (suc (entry_of (regions S) r)) (outgoing S ts)) (left r)
        (parts _ _ _ _ _ _ (rw (add-one (entry_of (regions S) r)) at (gone_members S v h r l rs ls)) (words_parted L rs ls once r) (h.counts r l))
        (omega (arith, words_parted L rs ls once r, outside_stored L r, small r))
      where
        parts : (w f g x p c : ℕ) → x ≡ g → w + g ≡ p → c ≡ p + f → w + f + x ≡ c + 0
        parts w f g x p c a b d = omega arith

    -- some pointer leads into a member from outside
    pub pointed_is : (any_of (λ r. not (eqb (count_but S ts (entry_of (regions S) r)) 0)) rs || led_among S ts) ≡ any_of (λ r. not (eqb (outside_but L rs r) 0)) rs
    pointed_is =
        ap (λ b. any_of (λ r. not (eqb (count_but S ts (entry_of (regions S) r)) 0)) rs || b) (led_each S ts ∙ any_map (led_into S) (tag_of (regions S)) rs)
        ∙ sym (any_either _ _ rs)
        ∙ any_same _ _ rs (all_map each rs ls)
      where
        each : (r : ℕ) → lives_in L r ≡ true → (not (eqb (count_but S ts (entry_of (regions S) r)) 0) || led_into S (tag_of (regions S) r)) ≡ not (eqb (outside_but L rs r) 0)
        each r l = rw (count_left r l, look_is r l, left_is r) (either_not (left r) (in_frames (home_in L) r (drop L.counted L.frames)))
