-- The regions of the model that an audited memory lists are valid and agree with their entries.
-- Assumes nothing.
use Rattle.std.specs.Prelude.{◌≡◌, ◌≢◌, Bool, ◌||◌, List, [], ◌∷◌, map, ℕ, suc, ◌+◌, ◌≤◌, length}
use Rattle.std.proofs.Math.Path.{refl, sym, ap}
use Rattle.std.proofs.Common.{◌∙◌, inl, inr}
use Rattle.std.proofs.Math.Bool.{true, false}
use native.Mathlib.Omega.{arith}
use Rattle.std.proofs.Math.Dec.{eqb, leb}
use Rattle.std.proofs.lemmas.List.{length-map}
use borrow.Author.Tests.{eqb-true, eq-eqb, ne_eqb, le-ltb, leb-true}
use Rattle.lists.specs.Lists.{bit, All, count_of, times}
use Rattle.lists.specs.Laws.All.{all_map, all_change}
use Rattle.lists.specs.Laws.Sums.{sum_map}
use Rattle.lists.specs.Laws.Finds.{any_map, any_count, every_true}
use Rattle.lists.specs.Laws.Kept.{kept_most}
use Rattle.model.specs.Model.{Region, called, live, parent_of, home_in}
use Rattle.model.specs.Valid.{Distinct, ValidNames, ValidParent, OwnOldest}
use Rattle.model.proofs.Laws.Regions.{live_zero, level_is}
use Rattle.regions.specs.Regions.{name_at, name_of, entry_of, parent_at, level_at, oldest_at, name_in}
use Rattle.outcomes.specs.Store.{Store, regions}
use Rattle.outcomes.specs.History.{begin, entries, leads, home_of}
use Rattle.outcomes.specs.Sound.{Sound, oldest_own}
use Rattle.outcomes.specs.Shape.{Sized}
use Rattle.outcomes.proofs.Laws.Tree.{Place, each_used, entry_above}
use Rattle.refinement.specs.Represents.{tag_for, RegionsAgree}
use Rattle.audited.specs.Rebuild.{places, read_region, rebuilt}
use Rattle.refinement.specs.Laws.Tags.{for_some}
use Rattle.audited.specs.Laws.RebuildIds.{home_leads, known}
use Rattle.audited.specs.Laws.RebuildRegions.{used, all_regions, live_used, rows, region_used, tag_name, Read, read}

distinct_few : (gs : List Region) → All (λ g. count_of (called g.name) gs ≤ 1) gs → Distinct gs
distinct_few [] h = tt
distinct_few (g ∷ gs) h = (none, distinct_few gs (all_map (λ x k. omega (arith, k)) gs h.1))
  where
    none : live gs g.name ≡ false
    none = any_count (called g.name) gs ∙ le-ltb 0 (count_of (called g.name) gs) (omega (arith, h.0, one))
      where
        one : bit (eqb g.name g.name) ≡ 1
        one = rw (eq-eqb g.name g.name refl)

module _ (S : Store) (sh : Sized S) (so : Sound S) where
  above : (i : ℕ) → name_at (regions S) i ≢ 0 → Place S i
  above = entry_above S sh.in_regions.names so.parents

  -- the name above, and its tag
  name_above : (i : ℕ) → name_at (regions S) i ≢ 0 → parent_at (regions S) i ≡ tag_for (regions S) (name_of (regions S) (parent_at (regions S) i))
  unfolding name_of name_at name_in
  name_above i h = go (above i h)
    where
      go : Place S i → parent_at (regions S) i ≡ tag_for (regions S) (name_of (regions S) (parent_at (regions S) i))
      go (inl e) = rw e.0
      go (inr (p, b)) = rw b.parent (sym (for_some (regions S) (name_at (regions S) p) b.used ∙ tag_name S sh so (suc p) b.used))

  -- an entry's oldest object is none or leads to an object
  oldest_leads : (i : ℕ) → name_at (regions S) i ≢ 0 → (eqb (oldest_at (regions S) i) 0 || leads (begin S) (oldest_at (regions S) i)) ≡ true
  unfolding oldest_own
  oldest_leads i h = go (eqb (oldest_at (regions S) i) 0) (each_used S sh.in_regions.names (oldest_own S) so.oldest i h)
    where
      go : (b : Bool) → (b || eqb (home_of (begin S) (oldest_at (regions S) i)) (name_at (regions S) i)) ≡ true → (b || leads (begin S) (oldest_at (regions S) i)) ≡ true
      go true e = refl
      go false e = home_leads S (oldest_at (regions S) i) (λ z. h (sym (eqb-true (home_of (begin S) (oldest_at (regions S) i)) (name_at (regions S) i) e) ∙ z))

  pub regions_agree : RegionsAgree (rebuilt S) (places S) (regions S)
  unfolding rebuilt read_region
  regions_agree = record {
    given = refl;
    rows = rows S sh;
    entry = λ r l.
        let t = read S sh so r l in
        let i = entry_of (regions S) r in
        rw t.is (record { parent = name_above i (λ z. t.some (sym t.name ∙ z)); level = refl; oldest = sym (known S sh (oldest_at (regions S) i) (oldest_leads i (λ z. t.some (sym t.name ∙ z)))).back });
  }

  named : All (λ g. 1 ≤ g.name) (rebuilt S).regions
  unfolding read_region
  named = all_regions S sh (λ g. 1 ≤ g.name) (λ i h. omega arith)

  zero_dead : live (rebuilt S).regions 0 ≡ false
  zero_dead = live_zero (rebuilt S).regions named

  parent_valid : (i : ℕ) → name_at (regions S) i ≢ 0 → ValidParent (rebuilt S).regions (read_region S i)
  unfolding read_region name_of name_at name_in
  parent_valid i h = go (above i h)
    where
      deep : level_at (regions S) i ≤ 16
      deep = leb-true (level_at (regions S) i) 16 (each_used S sh.in_regions.names (λ i. leb (level_at (regions S) i) 16) so.levels i h)

      go : Place S i → ValidParent (rebuilt S).regions (read_region S i)
      go (inl e) = record { parent = rw e.0; level = rw (e.0, e.1); deep = deep }
      go (inr (p, b)) =
          let r = name_at (regions S) p in
          let l = live_used S sh p b.used in
          record {
            parent = rw (b.parent, ne_eqb r 0 b.used) l;
            level = rw (b.parent, b.level) (ap (λ n. n + 1) (sym (level_is (rebuilt S).regions r zero_dead l ∙ ap (λ g. g.level) (region_used S sh so p b.used))));
            deep = deep;
          }

  pub parents_valid : All (ValidParent (rebuilt S).regions) (rebuilt S).regions
  parents_valid = all_regions S sh (ValidParent (rebuilt S).regions) parent_valid

  pub oldest_valid : All (OwnOldest (home_in (rebuilt S))) (rebuilt S).regions
  unfolding read_region oldest_own
  oldest_valid = all_regions S sh (OwnOldest (home_in (rebuilt S))) (λ i h.
      let k = known S sh (oldest_at (regions S) i) (oldest_leads i h) in
      rw (k.null, k.home) (each_used S sh.in_regions.names (oldest_own S) so.oldest i h))

  entries_most : length (entries S) ≤ 64
  unfolding entries
  entries_most = kept_most (used (regions S)) 64

  one_lives : live (rebuilt S).regions 1 ≡ true
  unfolding rebuilt read_region
  one_lives = any_map (called 1) (read_region S) (entries S) ∙ sym (any_map (λ x. eqb x 1) (name_at (regions S)) (entries S)) ∙ so.permanent

  root : parent_of (rebuilt S).regions 1 ≡ 0
  unfolding read_region name_of name_in
  root = ap (λ g. g.parent) t.is ∙ go (above i (λ z. t.some (sym t.name ∙ z)))
    where
      t : Read S sh so 1
      t = read S sh so 1 one_lives

      i : ℕ
      i = entry_of (regions S) 1

      go : Place S i → name_of (regions S) (parent_at (regions S) i) ≡ 0
      go (inl e) = rw e.0
      go (inr (p, b)) = absurd (b.other t.name)

  pub names_valid : ValidNames (rebuilt S).regions (rebuilt S).given
  unfolding rebuilt read_region
  names_valid = record {
    many = rw (length-map (entries S) (read_region S)) entries_most;
    distinct = distinct_few (rebuilt S).regions (all_change _ _ (read_region S) (λ i e. omega (
      arith,
      eqb-true (times (name_at (regions S) i) (map (name_at (regions S)) (entries S))) 1 e,
      sum_map (λ x. bit (eqb x (name_at (regions S) i))) (name_at (regions S)) (entries S),
      sum_map (λ g. bit (eqb g.name (name_at (regions S) i))) (read_region S) (entries S),
    )) (entries S) (every_true _ (entries S) so.distinct));
    named = named;
    names_given = all_regions S sh (λ g. g.name ≤ (regions S).given) (λ i h. leb-true (name_at (regions S) i) (regions S).given (each_used S sh.in_regions.names _ so.names_given i h));
    last_given = leb-true (regions S).given 1000000 so.given;
    permanent = one_lives;
    root = root;
  }
