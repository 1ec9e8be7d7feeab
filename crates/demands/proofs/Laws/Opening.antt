-- A state with all pages free and region 1 lists what an accepted make begins.
-- Assumes nothing.
use Rattle.std.specs.Prelude.{◌≡◌, refl, Bool, true, false, eqb}
use Rattle.std.proofs.Math.Path.{ap, ap₂}
use Rattle.std.proofs.Common.{◌∙◌, lt-ltb}
use Rattle.std.proofs.Math.Bool.{not}
use mathlib.Core.List.{List, [], ◌∷◌, map}
use Prim.Native.Nat.{ℕ, ◌≤◌}
use native.Mathlib.Omega.{arith}
use Rattle.lists.specs.Lists.{keep, All, joined, up_to}
use Rattle.lists.specs.Laws.All.{all_change}
use Rattle.lists.specs.Laws.UpTo.{all_up_to}
use Rattle.kinds.specs.Kinds.{kind_count}
use Rattle.frames.specs.Frames.{frame_count}
use Rattle.regions.specs.Regions.{name_at, name_of, parent_at, name_in}
use Rattle.pages.specs.Pages.{page_count, owner_at, is_free}
use Rattle.outcomes.specs.Store.{Store, regions, pages}
use Rattle.outcomes.specs.History.{History, Holding, begin, entries, listed_kinds, listed_frames, listed_regions, listed_held, listed_free, met_on}
use Rattle.outcomes.specs.Outcome.{store, blank}
use Rattle.refinement.specs.Laws.Fresh.{all_free}
use Rattle.demands.specs.Told.{opening}

module _ {A : Type 0} (f : A → Bool) where
  keep_every : (l : List A) → All (λ x. f x ≡ true) l → keep f l ≡ l
  keep_every [] h = refl
  keep_every (x ∷ xs) h = rw h.0 (ap (λ l. x ∷ l) (keep_every xs h.1))

  keep_none : (l : List A) → All (λ x. f x ≡ false) l → keep f l ≡ []
  keep_none [] h = refl
  keep_none (x ∷ xs) h = rw h.0 (keep_none xs h.1)

module _ (n : ℕ) (heap : List ℕ) (few : n ≤ 256) where
  abbrev S : Store
  S = store (blank n 1) heap

  all_made : page_count (pages S) ≡ n
  unfolding page_count blank
  all_made = omega arith

  none_held : listed_held S ≡ []
  unfolding listed_held name_of name_in
  none_held =
      let all = up_to (page_count (pages S)) in
      let t : ℕ → Holding = λ j. record { page = j; region = name_of (regions S) (owner_at (pages S) j) } in
      keep_none (λ t. not (eqb t.region 0)) (map t all) (all_change (λ j. owner_at (pages S) j ≡ 0) (λ t. not (eqb t.region 0) ≡ false) t (λ j e. rw e) all (all_up_to _ (page_count (pages S)) (λ j l. all_free n j)))

  free_listed : listed_free S ≡ up_to n
  unfolding listed_free is_free
  free_listed = keep_every (is_free (pages S)) (up_to (page_count (pages S))) (all_up_to _ (page_count (pages S)) (λ j l. rw (lt-ltb j (page_count (pages S)) l, all_free n j))) ∙ ap up_to all_made

  pub blank_opens : begin S ≡ opening n
  unfolding begin opening blank frame_count kind_count name_at name_of parent_at entries listed_regions listed_kinds listed_frames name_in
  blank_opens =
      let opens : List Holding → List ℕ → ℕ → History = λ hs fs k. record {
        kinds = [];
        frames = [];
        counted = 0;
        regions = record { name = 1; parent = 0 } ∷ [];
        objects = joined (met_on S) hs;
        held = hs;
        free = fs;
        pages = k;
      } in
      ap₂ (λ hs fs. opens hs fs (page_count (pages S))) none_held free_listed ∙ ap (opens [] (up_to n)) all_made
