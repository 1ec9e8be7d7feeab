-- In a model that a memory represents each page is free or a live region's, and no region's objects take more words than its pages have.
-- Assumes nothing.
use Rattle.std.specs.Prelude.{◌≡◌, refl, ◌≢◌, Bool, true, List, [], ◌∷◌, eqb, length, get_or}
use Rattle.std.proofs.Common.{sym, ap, ◌∙◌, arith, eqb-true, eq-eqb}
use Rattle.std.proofs.Math.Path.{fun_ext}
use Prim.Native.Nat.{ℕ, zero, suc, ◌+◌, ◌*◌, ◌≤◌, ◌<◌}
use Rattle.lists.specs.Lists.{pick, sum_of, All, up_to}
use Rattle.lists.specs.Laws.Tests.{by_test, bit_pick}
use Rattle.lists.specs.Laws.All.{all_map, all_both}
use Rattle.lists.specs.Laws.Kept.{all_places, sum_slack}
use Rattle.model.specs.Model.{Model, Region, region, lives_in, held_by}
use Rattle.model.proofs.Laws.Regions.{found_itself}
use Rattle.model.specs.Paged.{Paged, Lies, space, space_of}
use Rattle.regions.specs.Regions.{tag_of, entry_of, newest_at}
use Rattle.pages.specs.Pages.{owner_at}
use Rattle.outcomes.specs.Store.{Store, regions, pages}
use Rattle.refinement.specs.Represents.{words_in, Tiles, RoomAgrees}
use Rattle.refinement.specs.Laws.Tags.{tag_some}
use Rattle.refinement.specs.Laws.Reads.{pages_by_lem, owner_for, held_are}
use Rattle.refinement.specs.Laws.Report.{names_live, ids_objects}
use Rattle.audited.specs.Laws.AuditedObjects.{Agrees}

pub tiles_sum : (L : Model) (sp : List ℕ) (a e : ℕ) (ps : List ℕ) → Tiles L sp a e ps → a + sum_of (λ q. length (words_in L q) + 1) ps ≡ e
tiles_sum L sp a e [] t = omega (arith, t)
tiles_sum L sp a e (q ∷ qs) t = omega (arith, tiles_sum L sp (a + 1 + length (words_in L q)) e qs t.2)

sum_times : {A : Type 0} (f : A → ℕ) (l : List A) → sum_of (λ x. 64 * f x) l ≡ 64 * sum_of f l
sum_times f [] = refl
sum_times f (x ∷ xs) = omega (arith, sum_times f xs)

module _ {L : Model} {sp : List ℕ} {ids : ℕ → List ℕ} (S : Store) (a : Agrees L sp ids S) where
  -- each live region is the one found under its name
  own : All (λ g. (lives_in L g.name ≡ true) × (region L.regions g.name ≡ g)) L.regions
  own = all_both _ _ L.regions (names_live L.regions) (found_itself L.regions a.valid.names.distinct)

  -- whether the region named r holds page j, and the words that its objects take there
  abbrev holds : ℕ → ℕ → Bool
  holds r j = eqb (owner_at (pages S) j) (tag_of (regions S) r)

  pages_of_lem : (g : Region) → lives_in L g.name ≡ true → held_by L g.name ≡ sum_of (λ j. pick (holds g.name j) 1 0) (up_to (pages S).made)
  pages_of_lem g l =
      sym (held_are a.on_regions a.on_pages g.name l) ∙ pages_by_lem a.on_pages (tag_of (regions S) g.name)
      ∙ ap (λ f. sum_of f (up_to (pages S).made)) (fun_ext (λ j. bit_pick (holds g.name j)))

  lies : (g : Region) → (lives_in L g.name ≡ true) × (region L.regions g.name ≡ g) → Lies L g
  unfolding space
  lies g h = room (newest_at (regions S) (entry_of (regions S) g.name)) (rw h.1 at (a.on_pages.room g.name h.0))
    where
      n : ℕ
      n = (pages S).made

      taken : ℕ → ℕ
      taken j = pick (holds g.name j) (sum_of (λ q. length (words_in L q) + 1) (ids j)) 0

      space_is : sum_of (space_of g.name) L.objects ≡ sum_of taken (up_to n)
      space_is = sym (ids_objects L (space_of g.name)) ∙ sym (a.on_objects.once g.name h.0 (λ q. length (words_in L q) + 1))

      pages_are : 64 * held_by L g.name ≡ sum_of (λ j. 64 * pick (holds g.name j) 1 0) (up_to n)
      pages_are = omega (arith, pages_of_lem g h.0, sum_times (λ j. pick (holds g.name j) 1 0) (up_to n))

      -- a page that the region holds
      on_page_lem : (j : ℕ) → j < n → holds g.name j ≡ true → (sum_of (λ q. length (words_in L q) + 1) (ids j) ≡ get_or (pages S).taken j 0) × (get_or (pages S).taken j 0 ≤ 64)
      on_page_lem j k e =
          let m : owner_at (pages S) j ≢ 0 = λ z. tag_some (regions S) g.name (sym (eqb-true (owner_at (pages S) j) (tag_of (regions S) g.name) e) ∙ z) in
          (omega (arith, tiles_sum L sp (64 * j) (64 * j + get_or (pages S).taken j 0) (ids j) (a.on_objects.tiled j k m)), a.on_objects.full j k m)

      few : (j : ℕ) → j < n → taken j ≤ 64 * pick (holds g.name j) 1 0
      few j k = by_test (holds g.name j) (λ e. let t = on_page_lem j k e in rw e (omega arith)) (λ e. rw e (omega arith))

      left : (k c : ℕ) → k < n → taken k + c ≤ 64 * pick (holds g.name k) 1 0 → sum_of (space_of g.name) L.objects + c ≤ 64 * held_by L g.name
      left k c l e = omega (arith, space_is, pages_are, sum_slack taken (λ j. 64 * pick (holds g.name j) 1 0) n k c few l e)

      room : (x : ℕ) → RoomAgrees g (pages S) (tag_of (regions S) g.name) x → sum_of (space_of g.name) L.objects + g.room ≤ 64 * held_by L g.name
      room zero e = omega (arith, left 0 0 a.on_pages.some (omega (arith, few 0 a.on_pages.some)))
      room (suc j) e =
          let o : holds g.name j ≡ true = eq-eqb (owner_at (pages S) j) (tag_of (regions S) g.name) e.own in
          let t = on_page_lem j e.made o in
          left j g.room e.made (rw o (omega (arith, e.left)))

  pub paged : Paged (pages S).made L
  paged = record {
    whole = a.on_pages.listed;
    held = all_places _ L.holders 0 (λ j h. (owner_for a.on_regions a.on_pages j (omega (arith, a.on_pages.listed))).0);
    fits = all_map lies L.regions own;
  }
