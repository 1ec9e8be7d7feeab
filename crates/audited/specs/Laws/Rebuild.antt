-- Memory that the audit accepts represents a valid model: the one that it lists.
-- Assumes nothing.
use Rattle.std.specs.Prelude.{◌≡◌}
use Rattle.std.proofs.Math.Path.{subst}
use Rattle.std.proofs.Math.Bool.{true}
use Prim.Native.Nat.{ℕ, ◌+◌}
use Rattle.std.proofs.Common.{arith}
use Rattle.std.proofs.Math.Dec.{eqb}
use borrow.Author.Tests.{eqb-true}
use Rattle.lists.specs.Lists.{All}
use Rattle.lists.specs.Laws.Finds.{every_true, all_found}
use Rattle.lists.specs.Laws.Kept.{map_all}
use Rattle.model.specs.Model.{called, no_region, lives_in, stored}
use Rattle.model.specs.Valid.{Valid}
use Rattle.model.proofs.Laws.Regions.{name_is}
use Rattle.regions.specs.Regions.{count_at, entry_of}
use Rattle.outcomes.specs.Store.{Store, regions}
use Rattle.outcomes.specs.History.{begin, stored_count, uncounted_into, outside, counts_exact}
use Rattle.outcomes.specs.Sound.{Sound}
use Rattle.outcomes.specs.Shape.{Sized}
use Rattle.refinement.specs.Represents.{Represents}
use Rattle.audited.specs.Rebuild.{places, ids_on, rebuilt}
use Rattle.histories.specs.Laws.Tells.{listed}
use Rattle.histories.specs.Laws.Pointers.{outside_is, uncounted_is}
use Rattle.audited.specs.Laws.RebuildTree.{regions_agree, names_valid, parents_valid, oldest_valid}
use Rattle.audited.specs.Laws.RebuildStack.{kinds_agree, kinds_valid, frames_agree, frames_valid}
use Rattle.audited.specs.Laws.RebuildPages.{pages_agree}
use Rattle.audited.specs.Laws.RebuildLaid.{begin_regions, objects_valid}
use Rattle.audited.specs.Laws.RebuildTiles.{objects_agree}
use Rattle.audited.specs.Laws.AuditedObjects.{Agrees}
use Rattle.audited.specs.Laws.AuditedLists.{begin_tells}

module _ (S : Store) (sh : Sized S) (so : Sound S) where
  pub rebuilt_valid : Valid (rebuilt S)
  unfolding rebuilt
  rebuilt_valid = record {
    kinds = kinds_valid S sh so;
    names = names_valid S sh so;
    parents = parents_valid S sh so;
    oldest = oldest_valid S sh so;
    objects = objects_valid S sh so;
    frames = frames_valid S sh so;
  }

  rebuilt_agrees : Agrees (rebuilt S) (places S) (ids_on S) S
  unfolding rebuilt
  rebuilt_agrees = record {
    valid = rebuilt_valid;
    on_frames = frames_agree S sh so;
    on_kinds = kinds_agree S sh so;
    on_regions = regions_agree S sh so;
    on_pages = pages_agree S sh so;
    on_objects = objects_agree S sh so;
  }

  counts : (r : ℕ) → lives_in (rebuilt S) r ≡ true → count_at (regions S) (entry_of (regions S) r) ≡ stored (rebuilt S) r
  unfolding counts_exact stored_count
  counts r l =
      let gs = (rebuilt S).regions in
      let test : ℕ → Type 0 = λ n. eqb (stored_count S n + uncounted_into (begin S) S n) (outside (begin S) S n) ≡ true in
      let all = map_all (λ g. test g.name) listed gs (subst (All (λ g. test g.name)) (begin_regions S) (every_true _ (begin S).regions so.counts)) in
      let one = subst test (name_is gs r l) (all_found (λ g. test g.name) (called r) no_region gs all l) in
      let t = begin_tells S rebuilt_agrees in
      omega (arith, eqb-true (stored_count S r + uncounted_into (begin S) S r) (outside (begin S) S r) one, outside_is S t rebuilt_valid rebuilt_agrees.on_frames rebuilt_agrees.on_objects r, uncounted_is S t rebuilt_valid rebuilt_agrees.on_frames rebuilt_agrees.on_objects r)

  pub rebuilt_represents : Represents (rebuilt S) (places S) (ids_on S) S
  rebuilt_represents = record {
    on_frames = rebuilt_agrees.on_frames;
    on_kinds = rebuilt_agrees.on_kinds;
    on_regions = rebuilt_agrees.on_regions;
    on_pages = rebuilt_agrees.on_pages;
    on_objects = rebuilt_agrees.on_objects;
    counts = counts;
  }
