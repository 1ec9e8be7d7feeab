-- The tree of regions on any memory that passes Sound's clauses on names, levels and regions above; and that the way up by tags, as code climbs it, is the one by names.
-- Assumes nothing.
use Rattle.std.specs.Prelude.{◌≡◌, ◌≢◌, ◌⊎◌, Bool, ◌&&◌, map, length}
use Rattle.std.proofs.Math.Path.{refl, ap}
use Rattle.std.proofs.Common.{sym, ◌∙◌, arith}
use Rattle.std.proofs.Math.Logic.{inl, inr}
use Rattle.std.proofs.Math.Bool.{true, not}
use Prim.Native.Nat.{ℕ, zero, suc, ◌+◌, ◌≤◌, ◌<◌, min}
use Rattle.std.proofs.Math.Dec.{eqb, leb}
use borrow.Author.Tests.{eqb-true, eqb-false, leb-true, not-true}
use Rattle.lists.specs.Lists.{every, count_of, up_to, times}
use Rattle.lists.specs.Laws.Tests.{both}
use Rattle.model.proofs.Laws.Climb.{climb_enough, climb_map}
use Rattle.regions.specs.Regions.{name_at, name_of, name_in, parent_at, level_at, up_in, level_in, above_in}
use Rattle.regions.specs.Laws.Entries.{name_none}
use Rattle.outcomes.specs.Store.{Store, regions}
use Rattle.outcomes.specs.History.{begin, entries, parent_of, above_of}
use Rattle.outcomes.specs.Sound.{placed, sound_levels, sound_distinct, sound_parents}
use Rattle.outcomes.proofs.Laws.Begin.{used_below, each_entry, name_times, parent_is}

module _ (S : Store) where
  -- entry p is above entry i, and lives
  pub record Below (i p : ℕ) : Type 0 where
    pub parent : parent_at (regions S) i ≡ suc p
    pub used : name_at (regions S) p ≢ 0
    pub level : level_at (regions S) i ≡ level_at (regions S) p + 1
    pub other : name_at (regions S) i ≢ 1

  -- none is above entry i, or one that lives
  abbrev pub Place : ℕ → Type 0
  Place i = ((parent_at (regions S) i ≡ 0) × (level_at (regions S) i ≡ 1)) ⊎ ((p : ℕ) × Below i p)

  -- ---- by tags: t is that of a region that lives; the tag of the one above it; its level

  abbrev pub Lives : ℕ → Type 0
  Lives t = name_of (regions S) t ≢ 0

  abbrev pub up : ℕ → ℕ
  up = up_in (regions S).parents

  abbrev pub level : ℕ → ℕ
  level = level_in (regions S).levels

  -- the region above one that lives does too, and is less deep; levels are 1 to 16
  pub record Tree : Type 0 where
    pub lives : (t : ℕ) → Lives t → up t ≢ 0 → Lives (up t)
    pub falls : (t : ℕ) → Lives t → up t ≢ 0 → level (up t) < level t
    pub some : (t : ℕ) → Lives t → 1 ≤ level t
    pub deep : (t : ℕ) → Lives t → level t ≤ 16

  -- of the tag above
  up_parts : (i : ℕ) → Place i → parent_at (regions S) i ≢ 0 → (name_of (regions S) (parent_at (regions S) i) ≢ 0) × (level_at (regions S) i ≡ level_in (regions S).levels (parent_at (regions S) i) + 1)
  unfolding name_of name_in name_at level_in level_at
  up_parts i (inl e) h = absurd (h e.0)
  up_parts i (inr (p, b)) h = rw b.parent (b.used, b.level)

  level_one : (i : ℕ) → Place i → 1 ≤ level_at (regions S) i
  level_one i (inl e) = omega (arith, e.1)
  level_one i (inr (p, b)) = omega (arith, b.level)

module _ (S : Store) (names : length (regions S).names ≡ 64) where
  pub each_used : (f : ℕ → Bool) → every f (entries S) ≡ true → (i : ℕ) → name_at (regions S) i ≢ 0 → f i ≡ true
  each_used f e i h = each_entry S f e i (used_below S names i h) h

  -- where names are distinct, an entry's name is no other's
  pub few : sound_distinct S ≡ true → (i : ℕ) → name_at (regions S) i ≢ 0 → count_of (λ k. eqb (name_at (regions S) k) (name_at (regions S) i)) (up_to 64) ≡ 1
  few d i h = sym (name_times S (name_at (regions S) i) h) ∙ eqb-true (times (name_at (regions S) i) (map (name_at (regions S)) (entries S))) 1 (each_used _ d i h)

  -- where the clause on the regions above holds, each entry in use has its place
  pub entry_above : sound_parents S ≡ true → (i : ℕ) → name_at (regions S) i ≢ 0 → Place S i
  unfolding placed
  entry_above e i h = go (parent_at (regions S) i) refl (each_used (placed S) e i h)
    where
      go : (t : ℕ) → parent_at (regions S) i ≡ t → elim t [
        | zero ↦ eqb (level_at (regions S) i) 1
        | suc p ↦ not (eqb (name_at (regions S) p) 0) && eqb (level_at (regions S) i) (level_at (regions S) p + 1) && not (eqb (name_at (regions S) i) 1)
      ] ≡ true → Place S i
      go zero q e = inl (q, eqb-true (level_at (regions S) i) 1 e)
      go (suc p) q e =
          let t = both _ (not (eqb (name_at (regions S) i) 1)) e in
          let u = both (not (eqb (name_at (regions S) p) 0)) (eqb (level_at (regions S) i) (level_at (regions S) p + 1)) t.0 in
          inr (
            p,
            record {
              parent = q;
              used = eqb-false (name_at (regions S) p) 0 (not-true (eqb (name_at (regions S) p) 0) u.0);
              level = eqb-true (level_at (regions S) i) (level_at (regions S) p + 1) u.1;
              other = eqb-false (name_at (regions S) i) 1 (not-true (eqb (name_at (regions S) i) 1) t.1);
            },
          )

  module _ (l : sound_levels S ≡ true) (e : sound_parents S ≡ true) where
    tree_lives : (t : ℕ) → Lives S t → up S t ≢ 0 → Lives S (up S t)
    unfolding up_in name_of name_in name_at parent_at
    tree_lives zero n h = absurd (n refl)
    tree_lives (suc i) n h = (up_parts S i (entry_above e i n) h).0

    tree_falls : (t : ℕ) → Lives S t → up S t ≢ 0 → level S (up S t) < level S t
    unfolding up_in level_in name_of name_in name_at parent_at level_at
    tree_falls zero n h = absurd (n refl)
    tree_falls (suc i) n h = omega (arith, (up_parts S i (entry_above e i n) h).1)

    tree_some : (t : ℕ) → Lives S t → 1 ≤ level S t
    unfolding level_in name_of name_in name_at level_at
    tree_some zero n = absurd (n refl)
    tree_some (suc i) n = level_one S i (entry_above e i n)

    tree_deep : (t : ℕ) → Lives S t → level S t ≤ 16
    unfolding level_in name_of name_in name_at level_at
    tree_deep zero n = absurd (n refl)
    tree_deep (suc i) n = leb-true (level_at (regions S) i) 16 (each_used (λ i. leb (level_at (regions S) i) 16) l i n)

    pub tree : Tree S
    tree = record { lives = tree_lives; falls = tree_falls; some = tree_some; deep = tree_deep }

  -- ---- the climb, where names are distinct

  module _ (once : (i : ℕ) → name_at (regions S) i ≢ 0 → count_of (λ k. eqb (name_at (regions S) k) (name_at (regions S) i)) (up_to 64) ≡ 1) where
    -- one step
    pub parent_tag : (t : ℕ) → Lives S t → parent_of (begin S) (name_of (regions S) t) ≡ name_of (regions S) (up S t)
    unfolding up_in name_of name_in name_at parent_at
    parent_tag zero n = absurd (n refl)
    parent_tag (suc i) n = parent_is S names once i n

    pub above_same : Tree S → (t : ℕ) → Lives S t → above_of (begin S) (name_of (regions S) t) ≡ above_in (regions S).names (regions S).parents (regions S).levels t
    unfolding above_in name_of
    above_same k t n =
        climb_map (up S) (Lives S) k.lives (name_of (regions S)) (parent_of (begin S)) (name_none (regions S)) (λ t n z. n) parent_tag 16 t n
        ∙ ap (map (name_of (regions S))) (climb_enough (up S) (Lives S) k.lives (level S) k.falls 16 (min (level S t) 16) t n (k.deep t n) (omega (arith, k.deep t n)))
