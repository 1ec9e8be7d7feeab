-- What of the regions named is still counted, and the names left: what Joint says by a test of tags is what the outcome says by the list.
-- Assumes nothing.
use Rattle.std.specs.Prelude.{◌≡◌, ◌&&◌, List, map, get_or}
use Rattle.std.proofs.Math.Path.{sym, ap, fun_ext}
use Rattle.std.proofs.Common.{◌∙◌, arith}
use Rattle.std.proofs.Math.Bool.{Bool, not}
use Prim.Native.Nat.{ℕ, suc, ◌<◌}
use Rattle.std.proofs.Math.Dec.{eqb, ltb}
use Rattle.std.proofs.Math.Seq.{ext_get_or}
use borrow.Author.Tests.{ltb-false, ne_eqb}
use Rattle.lists.specs.Lists.{pick, any_of, All, up_to, among, zeroed}
use Rattle.lists.specs.Laws.Tests.{by_test}
use Rattle.lists.specs.Laws.All.{all_map}
use Rattle.lists.specs.Laws.Finds.{any_map, false_any}
use Rattle.lists.specs.Laws.Kept.{any_members}
use Rattle.lists.specs.Laws.Zeroed.{zeroed_length, zeroed_at}
use Rattle.regions.specs.declared.Regions.{Regions}
use Rattle.regions.specs.Regions.{entry_of, tag_of, count_in, cleared_at}
use Rattle.regions.specs.Laws.Removed.{cleared_length, cleared_at_lem}
use Rattle.regions.specs.Laws.Tags.{tag_entry, entries_below}
use Rattle.joint_parts.specs.Joint.{still_counted, names_left}

module _ (g : Regions) (rs : List ℕ) (live : All (λ r. entry_of g r < 64) rs) where
  -- some count of the regions named is not 0
  pub still_are : (cs : List ℕ) → still_counted cs (λ t. among t (map (tag_of g) rs)) ≡ any_of (λ r. not (eqb (count_in cs (entry_of g r)) 0)) rs
  unfolding still_counted
  still_are cs =
      let some : ℕ → Bool = λ i. not (eqb (count_in cs i) 0) in
      ap (λ f. any_of f (up_to 64)) (fun_ext (λ i. ap (λ b. b && some i) (tag_entry g rs i)))
      ∙ any_members some 64 (map (entry_of g) rs) (entries_below g rs live)
      ∙ any_map some (entry_of g) rs

  -- the names left
  pub names_are : names_left g.names (λ t. among t (map (tag_of g) rs)) 64 ≡ cleared_at g.names (map (entry_of g) rs)
  unfolding names_left
  names_are =
      let f : ℕ → Bool = λ i. ltb i 64 && among (suc i) (map (tag_of g) rs) in
      ext_get_or 0 (zeroed f g.names) (cleared_at g.names (map (entry_of g) rs))
      (zeroed_length f g.names ∙ sym (cleared_length g.names (map (entry_of g) rs)))
      (λ i h. zeroed_at f g.names i ∙ ap (λ b. pick b 0 (get_or g.names i 0)) (given_up i) ∙ sym (cleared_at_lem g.names (map (entry_of g) rs) i))
    where
      given_up : (i : ℕ) → (ltb i 64 && among (suc i) (map (tag_of g) rs)) ≡ among i (map (entry_of g) rs)
      given_up i = by_test (ltb i 64)
          (λ e. rw e (tag_entry g rs i))
          (λ e. rw e (sym (false_any (λ e. eqb e i) (map (entry_of g) rs) (all_map (λ j h. ne_eqb j i (λ q. omega (arith, ltb-false i 64 e))) (map (entry_of g) rs) (entries_below g rs live)))))
