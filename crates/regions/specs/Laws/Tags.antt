-- Regions known by their names, on any memory: their tags go with their entries, and where they live two names have two tags, each below 256.
-- Assumes nothing.
use Rattle.std.specs.Prelude.{◌≡◌, ℕ, suc, ◌<◌, ◌≤◌, false, ◌≢◌, List, map, nat_eq}
use Rattle.std.proofs.Math.Path.{ap, sym, fun_ext}
use Rattle.std.proofs.Common.{◌∙◌, add-one, arith}
use Rattle.std.proofs.Math.Dec.{eqb-suc-suc}
use Rattle.lists.specs.Lists.{All, any_of, times, among, repeats}
use Rattle.lists.specs.Laws.All.{all_map, all_change}
use Rattle.lists.specs.Laws.Finds.{any_map}
use Rattle.lists.specs.Laws.Kept.{repeats_once, map_once}
use Rattle.regions.specs.declared.Regions.{Regions}
use Rattle.regions.specs.Regions.{name_at, name_of, entry_of, tag_of}
use Rattle.regions.specs.Laws.Entries.{name_of_lem, entry_named, entry_used}

module _ (g : Regions) (rs : List ℕ) where
  -- the region at entry i is one of them
  pub tag_entry : (i : ℕ) → among (suc i) (map (tag_of g) rs) ≡ among i (map (entry_of g) rs)
  unfolding tag_of
  tag_entry i = any_map (λ t. nat_eq t (suc i)) (tag_of g) rs ∙ ap (λ f. any_of f rs) (fun_ext (λ r. ap (λ t. nat_eq t (suc i)) (add-one (entry_of g r)) ∙ eqb-suc-suc (entry_of g r) i)) ∙ sym (any_map (λ e. nat_eq e i) (entry_of g) rs)

  module _ (live : All (λ r. entry_of g r < 64) rs) where
    pub entries_below : All (λ i. i < 64) (map (entry_of g) rs)
    entries_below = all_change (λ r. entry_of g r < 64) (λ i. i < 64) (entry_of g) (λ r h. h) rs live

    pub entries_used : All (λ i. name_at g i ≢ 0) (map (entry_of g) rs)
    entries_used = all_change (λ r. entry_of g r < 64) (λ i. name_at g i ≢ 0) (entry_of g) (entry_used g) rs live

    pub tags_below : All (λ t. t < 256) (map (tag_of g) rs)
    unfolding tag_of
    tags_below = all_change (λ r. entry_of g r < 64) (λ t. t < 256) (tag_of g) (λ r h. omega arith) rs live

    pub tags_once : repeats rs ≡ false → (t : ℕ) → times t (map (tag_of g) rs) ≤ 1
    unfolding tag_of entry_of name_at
    tags_once d = map_once (tag_of g) (name_of g) rs (all_map (λ r h. name_of_lem g (entry_of g r) ∙ entry_named g.names r h) rs live) (repeats_once rs d)
