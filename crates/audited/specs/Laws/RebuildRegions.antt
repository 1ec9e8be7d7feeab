-- The regions of the model that a memory lists.
-- Assumes nothing.
use Rattle.std.specs.Prelude.{◌≡◌, refl, ◌≢◌, Bool, true, false, not}
use Rattle.std.proofs.Math.Path.{sym, ap, fun_ext}
use Rattle.std.proofs.Common.{◌∙◌, add-one}
use Prim.Native.Nat.{ℕ, zero, suc, ◌<◌}
use Rattle.std.proofs.Math.Dec.{eqb}
use Rattle.std.proofs.Math.ListN.{get_or}
use borrow.Author.Tests.{eqb-true, eqb-false, eq-eqb, ne_eqb, not-true}
use Rattle.lists.specs.Lists.{pick, any_of, find_or, sum_of, All, up_to}
use Rattle.lists.specs.Laws.All.{all_in, all_change}
use Rattle.lists.specs.Laws.Sums.{sum_map, sum_keep}
use Rattle.lists.specs.Laws.Finds.{any_map, any_keep, find_keep}
use Rattle.lists.specs.Laws.UpTo.{any_one}
use Rattle.lists.specs.Laws.Kept.{any_index, find_changed, each_kept}
use Rattle.model.specs.Model.{Region, no_region, region, called, lives_in}
use Rattle.regions.specs.declared.Regions.{Regions}
use Rattle.regions.specs.Regions.{name_at, name_of, entry_of, tag_of, entry_in, name_in}
use Rattle.outcomes.specs.Store.{Store, regions}
use Rattle.outcomes.specs.History.{entries}
use Rattle.outcomes.specs.Sound.{Sound}
use Rattle.outcomes.specs.Shape.{Sized}
use Rattle.outcomes.proofs.Laws.Begin.{used_below, entry_is}
use Rattle.outcomes.proofs.Laws.Tree.{few}
use Rattle.audited.specs.Rebuild.{read_region, rebuilt}

-- ---- any memory

-- entry i is in use
abbrev pub used : Regions → ℕ → Bool
used g i = not (eqb (name_at g i) 0)

is_used : (g : Regions) (i : ℕ) → name_at g i ≢ 0 → used g i ≡ true
is_used g i h = rw (ne_eqb (name_at g i) 0 h)

pub used_is : (g : Regions) (i : ℕ) → used g i ≡ true → name_at g i ≢ 0
used_is g i e = eqb-false (name_at g i) 0 (not-true (eqb (name_at g i) 0) e)

-- whatever is added up over the entries in use
pub entries_by : (S : Store) (f : ℕ → ℕ) → sum_of (λ i. f (name_at (regions S) i)) (entries S) ≡ sum_of (λ i. pick (eqb (name_at (regions S) i) 0) 0 (f (name_at (regions S) i))) (up_to 64)
unfolding entries
entries_by S f = sum_keep (λ i. f (name_at (regions S) i)) (used (regions S)) (up_to 64) ∙ ap (λ h. sum_of h (up_to 64)) (fun_ext (λ i. go i (eqb (name_at (regions S) i) 0)))
  where
    go : (i : ℕ) (b : Bool) → pick (not b) (f (name_at (regions S) i)) 0 ≡ pick b 0 (f (name_at (regions S) i))
    go i true = refl
    go i false = refl

module _ (S : Store) (sh : Sized S) where
  below : (i : ℕ) → name_at (regions S) i ≢ 0 → i < 64
  below = used_below S sh.in_regions.names

  -- what holds of each entry in use holds of the regions read there
  pub all_regions : (P : Region → Type 0) → ((i : ℕ) → name_at (regions S) i ≢ 0 → P (read_region S i)) → All P (rebuilt S).regions
  unfolding rebuilt entries
  all_regions P h =
      all_change (λ i. P (read_region S i)) P (read_region S) (λ i p. p) (entries S) (each_kept (λ i. P (read_region S i)) (used (regions S)) 64 (λ i a b. h i (used_is (regions S) i b)))

  -- the regions that live are those that have an entry
  live_by : (r : ℕ) → lives_in (rebuilt S) r ≡ any_of (λ i. eqb (name_at (regions S) i) r) (entries S)
  unfolding rebuilt read_region
  live_by r = any_map (called r) (read_region S) (entries S)

  pub live_used : (i : ℕ) → name_at (regions S) i ≢ 0 → lives_in (rebuilt S) (name_at (regions S) i) ≡ true
  unfolding entries
  live_used i h =
      let r = name_at (regions S) i in
      live_by r
      ∙ any_keep (λ k. eqb (name_at (regions S) k) r) (used (regions S)) (λ k e. is_used (regions S) k (λ z. h (sym (eqb-true (name_at (regions S) k) r e) ∙ z))) (up_to 64)
      ∙ any_one (λ k. eqb (name_at (regions S) k) r) 64 i (below i h) (eq-eqb r r refl)

  -- the name at a tag
  pub live_name : (t : ℕ) → name_of (regions S) t ≢ 0 → lives_in (rebuilt S) (name_of (regions S) t) ≡ true
  unfolding name_of name_at name_in
  live_name zero h = absurd (h refl)
  live_name (suc i) h = live_used i h

  pub used_live : (r : ℕ) → lives_in (rebuilt S) r ≡ true → (i : ℕ) × (name_at (regions S) i ≢ 0) × (name_at (regions S) i ≡ r)
  unfolding entries
  used_live r e =
      let t = any_index (λ i. eqb (name_at (regions S) i) r) (entries S) 0 (sym (live_by r) ∙ e) in
      let i = get_or (entries S) t.0 0 in
      (i, all_in (λ i. name_at (regions S) i ≢ 0) (entries S) t.0 0 (each_kept (λ i. name_at (regions S) i ≢ 0) (used (regions S)) 64 (λ i a b. used_is (regions S) i b)) t.1, eqb-true (name_at (regions S) i) r t.2)

  pub rows : (f : ℕ → ℕ) → sum_of (λ i. pick (eqb (name_at (regions S) i) 0) 0 (f (name_at (regions S) i))) (up_to 64) ≡ sum_of (λ g. f g.name) (rebuilt S).regions
  unfolding rebuilt read_region
  rows f = sym (entries_by S f) ∙ sym (sum_map (λ g. f g.name) (read_region S) (entries S))

  -- ---- audited memory

  module _ (so : Sound S) where
    entry_used : (i : ℕ) → name_at (regions S) i ≢ 0 → entry_of (regions S) (name_at (regions S) i) ≡ i
    entry_used = entry_is S sh.in_regions.names (few S sh.in_regions.names so.distinct)

    find_used : (i : ℕ) → name_at (regions S) i ≢ 0 → find_or (λ k. eqb (name_at (regions S) k) (name_at (regions S) i)) 64 (up_to 64) ≡ i
    unfolding entry_of entry_in name_at
    find_used i h = rw (ne_eqb (name_at (regions S) i) 0 h) at (entry_used i h)

    pub region_used : (i : ℕ) → name_at (regions S) i ≢ 0 → region (rebuilt S).regions (name_at (regions S) i) ≡ read_region S i
    unfolding rebuilt read_region entries
    region_used i h =
        let r = name_at (regions S) i in
        find_changed (called r) (read_region S) no_region 64 (entries S) (sym (live_by r) ∙ live_used i h)
        ∙ ap (read_region S) (find_keep (λ k. eqb (name_at (regions S) k) r) (used (regions S)) 64 (λ k e. is_used (regions S) k (λ z. h (sym (eqb-true (name_at (regions S) k) r e) ∙ z))) (up_to 64) ∙ find_used i h)

    -- the tag that a name belongs to
    pub tag_name : (t : ℕ) → name_of (regions S) t ≢ 0 → tag_of (regions S) (name_of (regions S) t) ≡ t
    unfolding name_of tag_of name_at name_in
    tag_name zero h = absurd (h refl)
    tag_name (suc i) h = rw (add-one (entry_of (regions S) (name_at (regions S) i))) (ap suc (entry_used i h))

    -- a live region is read at its entry
    pub record Read (r : ℕ) : Type 0 where
      pub name : name_at (regions S) (entry_of (regions S) r) ≡ r
      pub some : r ≢ 0
      pub is : region (rebuilt S).regions r ≡ read_region S (entry_of (regions S) r)

    pub read : (r : ℕ) → lives_in (rebuilt S) r ≡ true → Read r
    read r l =
        let t = used_live r l in
        let e : entry_of (regions S) r ≡ t.0 = ap (entry_of (regions S)) (sym t.2) ∙ entry_used t.0 t.1 in
        record {
          name = ap (name_at (regions S)) e ∙ t.2;
          some = λ z. t.1 (t.2 ∙ z);
          is = ap (region (rebuilt S).regions) (sym t.2) ∙ region_used t.0 t.1 ∙ ap (read_region S) (sym e);
        }
