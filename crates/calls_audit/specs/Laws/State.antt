-- The tests that read no heap word hold exactly if Sound's clauses on the state do.
-- Assumes nothing.
use Rattle.std.specs.Prelude.{◌≡◌, ◌≢◌, Bool, true, ◌&&◌, ◌||◌, length, get_or}
use Rattle.std.proofs.Math.Path.{refl, sym}
use Rattle.std.proofs.Common.{◌∙◌, ne_eqb, leb-true}
use Rattle.std.proofs.Math.Bool.{not}
use mathlib.Core.List.{List, [], ◌∷◌, map}
use Prim.Native.Nat.{ℕ, zero, suc, ◌+◌, ◌-◌, ◌*◌, ◌<◌}
use Rattle.std.proofs.Math.Numerals.{add-one}
use native.Mathlib.Omega.{arith}
use Rattle.std.proofs.Math.Dec.{eqb, leb, eqb-suc-zero}
use Rattle.std.proofs.lemmas.Bool.{eqb-false}
use Rattle.lists.specs.Lists.{pick, every, All, up_to, times, among}
use Rattle.lists.specs.Laws.Tests.{both, by_test, or_other, or_right}
use Rattle.lists.specs.Laws.UpTo.{every_each, each_every}
use Rattle.lists.specs.Laws.Every.{every_map, every_below}
use Rattle.frames.specs.Frames.{frame_count, width_at}
use Rattle.kinds.specs.Kinds.{kind_count_in, kind_count, size_of, mark_at}
use Rattle.regions.specs.Regions.{name_at, parent_at, level_at, entry_of, is_live}
use Rattle.outcomes.specs.Store.{Store, frames, kinds, regions, pages}
use Rattle.outcomes.specs.History.{entries, listed_kinds, listed_frames}
use Rattle.outcomes.specs.Sound.{Sound, within, placed}
use Rattle.outcomes.proofs.Laws.Begin.{every_entry, each_entry, name_times, one_lives}
use Rattle.audit_regions.specs.Filed.{placed_at, namesakes, region_fits, entry_fits, regions_fit}
use Rattle.audit_state.specs.Fits.{numbers_fit, marks_fit, kind_fits, kinds_fit, widths_fit, state_fits_in, state_fits}

-- tests joined by `&&`, from the left
abbrev pub folded : Bool → List Bool → Bool
folded b [] = b
folded b (x ∷ xs) = folded (b && x) xs

pub folded_true : (b : Bool) (l : List Bool) → folded b l ≡ true → (b ≡ true) × All (λ x. x ≡ true) l
folded_true b [] e = (e, tt)
folded_true b (x ∷ xs) e =
    let t = folded_true (b && x) xs e in
    let q = both b x t.0 in
    (q.0, (q.1, t.1))

module _ (S : Store) where
  -- a test that each entry in use passes is one that all do
  pub entry_each : (f : ℕ → Bool) → ((i : ℕ) → i < 64 → name_at (regions S) i ≢ 0 → f i ≡ true) → every f (entries S) ≡ true
  entry_each f h = every_entry S f ∙ each_every (λ i. eqb (name_at (regions S) i) 0 || f i) 64 (λ i l.
      by_test (eqb (name_at (regions S) i) 0) (λ e. rw e) (λ e. or_right (eqb (name_at (regions S) i) 0) (f i) (h i l (eqb-false (name_at (regions S) i) 0 e))))

  -- ---- the tests over lists, of those of S

  abbrev marks_pass : ℕ → Bool
  marks_pass = marks_fit (kinds S).declared (kinds S).sizes (kinds S).marks

  abbrev kind_passes : ℕ → Bool
  kind_passes = kind_fits (kinds S).declared (kinds S).sizes (kinds S).marks

  abbrev kinds_pass : Bool
  kinds_pass = kinds_fit (kinds S).declared (kinds S).sizes (kinds S).marks

  abbrev widths_pass : Bool
  widths_pass = widths_fit (frames S).standing (frames S).widths

  abbrev place_passes : ℕ → Bool
  place_passes = placed_at (regions S).names (regions S).parents (regions S).levels

  abbrev region_passes : ℕ → Bool
  region_passes = region_fits (regions S).given (regions S).names (regions S).parents (regions S).levels

  abbrev entry_passes : ℕ → Bool
  entry_passes = entry_fits (regions S).given (regions S).names (regions S).parents (regions S).levels

  abbrev regions_pass : Bool
  regions_pass = regions_fit (regions S).given (regions S).names (regions S).parents (regions S).levels

  abbrev numbers_pass : Bool
  numbers_pass = numbers_fit (pages S).made (length S.heap) (kinds S).declared (frames S).standing (frames S).counted (regions S).given

  -- ---- clauses that are the same tests

  all_kinds : leb (kinds S).declared 16 ≡ true → kind_count_in (kinds S).declared ≡ (kinds S).declared
  all_kinds e = omega (arith, leb-true (kinds S).declared 16 e)

  marks_same : every (every (λ m. leb m 4)) (listed_kinds S) ≡ every (λ n. marks_pass (suc n)) (up_to (kind_count_in (kinds S).declared))
  unfolding listed_kinds marks_fit kind_count size_of mark_at
  marks_same =
      every_map (every (λ m. leb m 4)) (λ n. map (mark_at (kinds S) (suc n)) (up_to (size_of (kinds S) (suc n)))) (up_to (kind_count (kinds S)))
      ∙ every_below _ _ (kind_count (kinds S)) (λ n h. every_map (λ m. leb m 4) (mark_at (kinds S) (suc n)) (up_to (size_of (kinds S) (suc n))))

  pub widths_same : every (within 1 8) (listed_frames S) ≡ widths_pass
  unfolding listed_frames widths_fit frame_count width_at
  widths_same = every_map (within 1 8) (width_at (frames S)) (up_to (frame_count (frames S)))

  placed_same : (i : ℕ) → placed S i ≡ place_passes i
  unfolding placed placed_at name_at parent_at level_at
  placed_same i = go (parent_at (regions S) i)
    where
      go : (t : ℕ)
          → elim t [ zero ↦ eqb (level_at (regions S) i) 1 | suc p ↦ not (eqb (name_at (regions S) p) 0) && eqb (level_at (regions S) i) (level_at (regions S) p + 1) && not (eqb (name_at (regions S) i) 1) ]
          ≡ pick (eqb t 0) (eqb (level_at (regions S) i) 1) (not (eqb (name_at (regions S) (t - 1)) 0) && eqb (level_at (regions S) i) (level_at (regions S) (t - 1) + 1) && not (eqb (name_at (regions S) i) 1))
      go zero = refl
      go (suc p) = let e : suc p - 1 ≡ p = omega arith in rw (eqb-suc-zero p, e)

  names_same : (i : ℕ) → name_at (regions S) i ≢ 0 → times (name_at (regions S) i) (map (name_at (regions S)) (entries S)) ≡ namesakes (regions S).names (name_at (regions S) i)
  unfolding namesakes name_at
  names_same i h = name_times S (name_at (regions S) i) h

  -- ---- from Sound

  module _ (h : Sound S) where
    kinds_pass_lem : kinds_pass ≡ true
    unfolding kinds_fit kind_fits
    kinds_pass_lem = each_every kind_passes (kind_count_in (kinds S).declared) (λ i l.
        rw (every_each (λ k. within 1 16 (get_or (kinds S).sizes k 0)) (kinds S).declared h.sizes i (omega (arith, all_kinds h.declared)), add-one i)
        (every_each (λ n. marks_pass (suc n)) (kind_count_in (kinds S).declared) (sym marks_same ∙ h.marks) i l))

    region_passes_lem : (i : ℕ) → i < 64 → name_at (regions S) i ≢ 0 → region_passes i ≡ true
    unfolding region_fits name_at level_at
    region_passes_lem i l n =
        rw (
          each_entry S (λ i. leb (name_at (regions S) i) (regions S).given) h.names_given i l n,
          ← names_same i n,
          each_entry S (λ i. eqb (times (name_at (regions S) i) (map (name_at (regions S)) (entries S))) 1) h.distinct i l n,
          each_entry S (λ i. leb (level_at (regions S) i) 16) h.levels i l n,
        )
        (sym (placed_same i) ∙ each_entry S (placed S) h.parents i l n)

    regions_pass_lem : regions_pass ≡ true
    unfolding regions_fit entry_fits name_at is_live entry_of
    regions_pass_lem = rw (sym (one_lives S) ∙ h.permanent) (sym (every_entry S region_passes) ∙ entry_each region_passes region_passes_lem)

    pub state_passes_lem : state_fits S.state (length S.heap) ≡ true
    unfolding state_fits state_fits_in numbers_fit
    state_passes_lem = rw (h.made, h.heap_length, h.declared, h.standing, h.counted, h.given, kinds_pass_lem, sym widths_same ∙ h.widths) regions_pass_lem

  -- ---- and back

  module _ (e : state_fits S.state (length S.heap) ≡ true) where
    groups : (numbers_pass ≡ true) × All (λ b. b ≡ true) (kinds_pass ∷ widths_pass ∷ regions_pass ∷ [])
    unfolding state_fits state_fits_in
    groups = folded_true numbers_pass (kinds_pass ∷ widths_pass ∷ regions_pass ∷ []) e

    pub record Numbers : Type 0 where
      pub made : within 1 256 (pages S).made ≡ true
      pub heap_length : eqb (length S.heap) (64 * (pages S).made) ≡ true
      pub declared : leb (kinds S).declared 16 ≡ true
      pub standing : leb (frames S).standing 32 ≡ true
      pub counted : leb (frames S).counted ((frames S).standing - 1) ≡ true
      pub given : leb (regions S).given 1000000 ≡ true

    pub numbers : Numbers
    unfolding numbers_fit
    numbers =
        let t = folded_true (within 1 256 (pages S).made) (eqb (length S.heap) (64 * (pages S).made) ∷ leb (kinds S).declared 16 ∷ leb (frames S).standing 32 ∷ leb (frames S).counted ((frames S).standing - 1) ∷ leb (regions S).given 1000000 ∷ []) groups.0 in
        record { made = t.0; heap_length = t.1.0; declared = t.1.1.0; standing = t.1.1.1.0; counted = t.1.1.1.1.0; given = t.1.1.1.1.1.0 }

    kind_parts : (i : ℕ) → i < kind_count_in (kinds S).declared → (within 1 16 (get_or (kinds S).sizes i 0) ≡ true) × (marks_pass (suc i) ≡ true)
    unfolding kinds_fit kind_fits
    kind_parts i l = rw (add-one i) at (both (within 1 16 (get_or (kinds S).sizes i 0)) (marks_pass (i + 1)) (every_each kind_passes (kind_count_in (kinds S).declared) groups.1.0 i l))

    pub sizes : every (λ k. within 1 16 (get_or (kinds S).sizes k 0)) (up_to (kinds S).declared) ≡ true
    sizes = each_every (λ k. within 1 16 (get_or (kinds S).sizes k 0)) (kinds S).declared (λ i l. (kind_parts i (omega (arith, all_kinds numbers.declared))).0)

    pub marks : every (every (λ m. leb m 4)) (listed_kinds S) ≡ true
    marks = marks_same ∙ each_every (λ n. marks_pass (suc n)) (kind_count_in (kinds S).declared) (λ i l. (kind_parts i l).1)

    pub widths : every (within 1 8) (listed_frames S) ≡ true
    widths = widths_same ∙ groups.1.1.0

    region_groups : (is_live (regions S) 1 ≡ true) × (every entry_passes (up_to 64) ≡ true)
    unfolding regions_fit is_live entry_of
    region_groups = both (is_live (regions S) 1) (every entry_passes (up_to 64)) groups.1.1.1.0

    pub record Region (i : ℕ) : Type 0 where
      pub name_given : leb (name_at (regions S) i) (regions S).given ≡ true
      pub alone : eqb (namesakes (regions S).names (name_at (regions S) i)) 1 ≡ true
      pub level : leb (level_at (regions S) i) 16 ≡ true
      pub below : place_passes i ≡ true

    pub region : (i : ℕ) → i < 64 → name_at (regions S) i ≢ 0 → Region i
    unfolding entry_fits region_fits name_at level_at
    region i l n =
        let g = regions S in
        let f = or_other (eqb (name_at g i) 0) (region_passes i) (every_each entry_passes 64 region_groups.1 i l) (ne_eqb (name_at g i) 0 n) in
        let t = folded_true (leb (name_at g i) g.given) (eqb (namesakes g.names (name_at g i)) 1 ∷ leb (level_at g i) 16 ∷ place_passes i ∷ []) f in
        record { name_given = t.0; alone = t.1.0; level = t.1.1.0; below = t.1.1.1.0 }

    pub levels : every (λ i. leb (level_at (regions S) i) 16) (entries S) ≡ true
    levels = entry_each (λ i. leb (level_at (regions S) i) 16) (λ i l n. (region i l n).level)

    pub distinct : every (λ i. eqb (times (name_at (regions S) i) (map (name_at (regions S)) (entries S))) 1) (entries S) ≡ true
    distinct = entry_each (λ i. eqb (times (name_at (regions S) i) (map (name_at (regions S)) (entries S))) 1) (λ i l n. rw (names_same i n) (region i l n).alone)

    pub names_given : every (λ i. leb (name_at (regions S) i) (regions S).given) (entries S) ≡ true
    names_given = entry_each (λ i. leb (name_at (regions S) i) (regions S).given) (λ i l n. (region i l n).name_given)

    pub permanent : among 1 (map (name_at (regions S)) (entries S)) ≡ true
    permanent = one_lives S ∙ region_groups.0

    pub parents : every (placed S) (entries S) ≡ true
    parents = entry_each (placed S) (λ i l n. placed_same i ∙ (region i l n).below)
