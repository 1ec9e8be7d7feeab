-- What a memory lists, where it represents a valid model, tells of the model.
-- Assumes nothing.
use Rattle.std.specs.Prelude.{◌≡◌, true, List, [], map, length}
use Rattle.std.proofs.Common.{sym, ap₂, ◌∙◌, arith, ext_get_or}
use Rattle.std.proofs.Math.Path.{ap, fun_ext, subst}
use Prim.Native.Nat.{ℕ, suc, ◌-◌, ◌<◌}
use Rattle.std.proofs.lemmas.List.{length-map}
use Rattle.lists.specs.Lists.{pick, sum_of, All}
use Rattle.lists.specs.Laws.Tests.{by_test}
use Rattle.lists.specs.Laws.All.{all_map}
use Rattle.lists.specs.Laws.Sums.{sum_map, sum_same}
use Rattle.lists.specs.Laws.Finds.{get_d_map_in}
use Rattle.lists.specs.Laws.Kept.{each_kept}
use Rattle.model.specs.Model.{Model, marks, lives_in, home_in, parent_in}
use Rattle.model.proofs.Laws.Regions.{found_itself}
use Rattle.frames.specs.Frames.{frame_count}
use Rattle.regions.specs.Regions.{name_at, entry_of}
use Rattle.outcomes.specs.Store.{Store, frames, regions}
use Rattle.outcomes.specs.History.{Region, Object, begin, entries, listed_kinds, listed_frames, listed_regions}
use Rattle.outcomes.proofs.Laws.Begin.{headers, object_at, begin_objects}
use Rattle.outcomes.proofs.Laws.Pointers.{kinds_length, marks_length, marks_at_lem, frames_length, width_is}
use Rattle.refinement.specs.Represents.{spot, ids_in}
use Rattle.refinement.specs.Laws.Tags.{entry_name, entry_live, entry_own, parent_name}
use Rattle.refinement.specs.Laws.Reads.{frame_count_lem, kind_count_lem}
use Rattle.audited.specs.Laws.RebuildRegions.{used, used_is, entries_by}
use Rattle.histories.specs.Laws.Tells.{listed, met, Tells}
use Rattle.audited.specs.Laws.AuditedObjects.{Agrees, headers_sum, place_home}

module _ {L : Model} {sp : List ℕ} {ids : ℕ → List ℕ} (S : Store) (a : Agrees L sp ids S) where
  pub kinds_are : listed_kinds S ≡ L.kinds
  kinds_are = ext_get_or [] (listed_kinds S) L.kinds (kinds_length S ∙ kind_count_lem a.on_kinds a.valid.kinds.many) (λ n h.
      let e = sym (marks_length S (suc n)) ∙ a.on_kinds.sizes (suc n) in
      ext_get_or 0 (marks (listed_kinds S) (suc n)) (marks L.kinds (suc n)) e (λ w k. sym (marks_at_lem S (suc n) w k) ∙ a.on_kinds.marks_agree (suc n) w (omega (arith, e))))

  frames_all : frame_count (frames S) ≡ length L.frames
  frames_all = frame_count_lem a.on_frames a.valid.frames.many

  pub frames_are : listed_frames S ≡ map length L.frames
  frames_are = ext_get_or 0 (listed_frames S) (map length L.frames) (frames_length S ∙ frames_all ∙ sym (length-map L.frames length)) (λ i h.
      let l : i < length L.frames = omega (arith, frames_length S, frames_all) in
      width_is S i (omega (arith, frames_all)) ∙ a.on_frames.widths i l ∙ sym (get_d_map_in length L.frames i 0 [] l))

  -- what holds at each live region's entry holds of the entries in use
  pub entries_all : (P : ℕ → Type 0) → ((r : ℕ) → lives_in L r ≡ true → P (entry_of (regions S) r)) → All P (entries S)
  unfolding entries
  entries_all P h = each_kept P (used (regions S)) 64 (λ i b e.
      let n = used_is (regions S) i e in
      subst P (entry_own a.on_regions a.valid i b n) (h (name_at (regions S) i) (entry_live a.on_regions i b n)))

  regions_are : (f : Region → ℕ) → sum_of f (listed_regions S) ≡ sum_of (λ g. f (listed g)) L.regions
  unfolding listed_regions
  regions_are f =
      let named : ℕ → ℕ = λ n. f (record { name = n; parent = parent_in L n }) in
      sum_map f _ (entries S)
      ∙ sum_same _ (λ i. named (name_at (regions S) i)) (entries S) (entries_all _ (λ r l. ap (λ u. f (record { name = name_at (regions S) (entry_of (regions S) r); parent = u }))
      (parent_name a.on_regions a.valid r l ∙ ap (parent_in L) (sym (entry_name a.on_regions r l)))))
      ∙ entries_by S named
      ∙ a.on_regions.rows named
      ∙ sum_same _ _ L.regions (all_map (λ g e. ap (λ x. f (record { name = g.name; parent = x.parent })) e) L.regions (found_itself L.regions a.valid.names.distinct))

  objects_are : (f : Object → ℕ) → sum_of f (begin S).objects ≡ sum_of (λ q. pick (lives_in L (home_in L q)) (f (met L sp q)) 0) (ids_in L)
  objects_are f =
      ap (sum_of f) (begin_objects S) ∙ sum_map f (object_at S) (headers S) ∙ headers_sum S a (λ x. f (object_at S x)) ∙ ap (λ k. sum_of k (ids_in L)) (fun_ext each)
    where
      each : (q : ℕ) → pick (lives_in L (home_in L q)) (f (object_at S (spot sp q - 1))) 0 ≡ pick (lives_in L (home_in L q)) (f (met L sp q)) 0
      each q = by_test (lives_in L (home_in L q))
          (λ l. rw l (ap₂ (λ k r. f (record { place = spot sp q - 1; kind = k; home = r })) (a.on_objects.laid q l).header (place_home S a q l)))
          (λ l. rw l)

  pub begin_tells : Tells L sp (begin S)
  unfolding begin
  begin_tells = record { kinds = kinds_are; frames = frames_are; counted = a.on_frames.counted; regions = regions_are; objects = objects_are }
