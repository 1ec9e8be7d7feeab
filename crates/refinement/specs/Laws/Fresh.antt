-- What an accepted make leaves represents the model that it leaves.
-- Assumes nothing.
use Rattle.std.specs.Prelude.{◌≡◌, true, ◌&&◌, eqb, leb, replicate}
use Rattle.std.proofs.Math.Path.{refl, subst}
use Rattle.std.proofs.Common.{sym, ◌∙◌}
use Rattle.std.proofs.Math.Logic.{inl}
use Rattle.std.proofs.Math.Bool.{false, or-false}
use Rattle.std.proofs.lemmas.Bool.{false≢true}
use mathlib.Core.List.{List, []}
use Prim.Native.Nat.{ℕ, zero, suc, ◌*◌, ◌/◌, ◌%◌, ◌≤◌, ◌<◌}
use native.Mathlib.Omega.{arith}
use Rattle.std.proofs.Math.ListN.{length, length-replicate}
use borrow.Author.Tests.{eqb-true, leb-true, lt-ltb, lt-leb}
use Rattle.lists.specs.Lists.{pick, up_to}
use Rattle.lists.specs.Laws.Tests.{both, pick_same}
use Rattle.lists.specs.Laws.Sums.{sum_pick}
use Rattle.lists.specs.Laws.UpTo.{sum_below}
use Rattle.model.specs.Model.{Answer, region, marks, lives_in, home_in, gives, stored, in_words, in_frames}
use Rattle.model.specs.Calls.{fresh, makes}
use Rattle.frames.specs.Frames.{width_at, slot_at}
use Rattle.kinds.specs.declared.Kinds.{Kinds}
use Rattle.kinds.specs.Kinds.{kind_count, size_of, size_in}
use Rattle.regions.specs.declared.Regions.{Regions}
use Rattle.regions.specs.Regions.{name_at, entry_of, tag_of, parent_at, level_at, newest_at, oldest_at, count_at, count_in, added, entry_in}
use Rattle.pages.specs.declared.Pages.{Pages}
use Rattle.pages.specs.Pages.{owner_at}
use Rattle.lists.specs.Laws.Ticks.{blank_at}
use Rattle.outcomes.specs.Store.{Store}
use Rattle.outcomes.specs.Outcome.{store, blank, MakeOutcome}
use Rattle.outcomes.specs.Shape.{Sized}
use Rattle.outcomes.proofs.Laws.Sized.{blank_sized}
use Rattle.refinement.specs.Represents.{Represents, EntryAgrees, RoomAgrees}

module _ (n : ℕ) where
  -- only region 1 lives, and no object
  one_lives : (r : ℕ) → lives_in (fresh n) r ≡ true → 1 ≡ r
  one_lives r l = eqb-true 1 r (sym (or-false (eqb 1 r)) ∙ l)

  none_alive : (q : ℕ) → lives_in (fresh n) (home_in (fresh n) q) ≡ true → ⊥
  none_alive zero l = false≢true l
  none_alive (suc q) l = false≢true l

  g : Regions
  g = (blank n 1).regions

  abbrev pub p : Pages
  p = (blank n 1).pages

  k : Kinds
  k = (blank n 1).kinds

  pub all_free : (j : ℕ) → owner_at p j ≡ 0
  unfolding owner_at blank
  all_free j = blank_at 256 j

  no_kind : (m : ℕ) → size_of k m ≡ length (marks [] m)
  unfolding size_of kind_count k blank size_in
  no_kind zero = refl
  no_kind (suc m) = rw (lt-ltb 0 (suc m) (omega arith), lt-leb (suc m) 0 (omega arith))

  pub fresh_represents : 1 ≤ n → n ≤ 256 → Represents (fresh n) [] (λ j. []) (store (blank n 1) (replicate (64 * n) 0))
  unfolding blank width_at slot_at name_at entry_of tag_of parent_at level_at newest_at oldest_at count_at count_in added stored in_words in_frames g k entry_in
  fresh_represents low high = record {
    on_frames = record { standing = refl; counted = refl; widths = λ i h. absurd (omega arith); slots = λ i s h l. absurd (omega arith) };
    on_kinds = record { declared = refl; sizes = no_kind; few = λ m h. absurd (omega arith); marks_agree = λ m w h. absurd (unmarked m w h) };
    on_regions = record {
      given = refl;
      rows = λ f. refl;
      entry = λ r l. subst (λ q. EntryAgrees [] (region (fresh n).regions q) g (entry_of g q)) (one_lives r l) (record { parent = refl; level = refl; oldest = refl });
    };
    on_pages = record {
      some = low;
      most = high;
      whole = length-replicate (64 * n) 0;
      listed = length-replicate n 0;
      owned = λ j h. inl (blank_at n j, all_free j);
      room = λ r l. subst (λ q. RoomAgrees (region (fresh n).regions q) p (tag_of g q) (newest_at g (entry_of g q))) (one_lives r l) refl;
    };
    on_objects = record {
      known = refl;
      laid = λ q l. absurd (none_alive q l);
      apart = λ q r l m d. absurd (none_alive q l);
      owned = λ q l. absurd (none_alive q l);
      within = λ q l. absurd (none_alive q l);
      full = λ j h o. absurd (o (all_free j));
      tiled = λ j h o. absurd (o (all_free j));
      once = λ r l f. sum_below (λ j. pick (eqb (owner_at p j) (tag_of g r)) 0 0) (λ j. 0) n (λ j h. pick_same (eqb (owner_at p j) (tag_of g r)) 0) ∙ sum_pick false (λ j. 0) (up_to n);
    };
    counts = λ r l. subst (λ q. count_at g (entry_of g q) ≡ stored (fresh n) q) (one_lives r l) refl;
  }
    where
      unmarked : (m w : ℕ) → w < length (marks [] m) → ⊥
      unmarked zero w h = omega arith
      unmarked (suc m) w h = omega arith

-- ---- make

pub make_pages : (w : ℕ) → makes w ≡ true → (1 ≤ w / 64) × (w / 64 ≤ 256) × (64 * (w / 64) ≡ w)
make_pages w e =
    let q = both (eqb (w % 64) 0 && leb 64 w) (leb w 16384) e in
    let t = both (eqb (w % 64) 0) (leb 64 w) q.0 in
    let d = eqb-true (w % 64) 0 t.0 in
    let low = leb-true 64 w t.1 in
    let high = leb-true w 16384 q.1 in
    (omega arith, omega arith, omega arith)

module _ (heap : List ℕ) (a : Answer) (T : Store) (ok : makes (length heap) ≡ true) (o : MakeOutcome heap a T) where
  -- its answer, and a store that the heap's length fixes
  pub make_leaves : (a ≡ gives []) × (T ≡ store (blank (length heap / 64) 1) (replicate (64 * (length heap / 64)) 0))
  unfolding MakeOutcome
  make_leaves = rw (make_pages (length heap) ok).2 (rw ok at o)

  pub make_answers : a ≡ gives []
  make_answers = make_leaves.0

  pub make_represents : Represents (fresh (length heap / 64)) [] (λ j. []) T
  make_represents = let m = make_pages (length heap) ok in rw make_leaves.1 (fresh_represents (length heap / 64) m.0 m.1)

  pub make_sized : Sized T
  make_sized = rw make_leaves.1 (blank_sized (length heap / 64) 1 (replicate (64 * (length heap / 64)) 0))
