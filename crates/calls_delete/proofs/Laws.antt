-- The tests and the state left are those of the call's outcome.
-- Assumes nothing.
use mathlib.Core.Path.{◌≡◌, refl, sym, ap, ◌∙◌, subst⁻¹, fun_ext}
use mathlib.Core.Bool.{Bool, not, ◌||◌}
use mathlib.Core.List.{List, [], ◌∷◌}
use Prim.Native.Nat.{ℕ, ◌+◌, ◌<◌}
use native.Mathlib.Omega.{arith}
use lib.Dec.{eqb, ltb, leb}
use lib.ListN.{length, set, replicate}
use borrow.Author.Tests.{ltb-true, ltb-false, le-leb, lt-leb}
use Rattle.lists.specs.Ticks.{tick_at, ticked}
use Rattle.lists.specs.Laws.Tests.{by_test}
use Rattle.lists.specs.Laws.Ticks.{blank_ticked}
use Rattle.lists.specs.Lists.{count_of, up_to, among}
use Rattle.lists.specs.Laws.Kept.{among_alone, repeats_once}
use Rattle.model.specs.Model.{Answer, delete, gives}
use Rattle.model.specs.Calls.{reason, ◌yields◌, no_filler}
use Rattle.frames.specs.Frames.{raised}
use Rattle.regions.specs.Regions.{entry_in, entry_of, tag_of, is_live, subregions_in, subregions_of, count_in, count_at, without_regions, with_shares}
use Rattle.regions.specs.Laws.Entries.{entry_most}
use Rattle.regions.specs.Laws.Counts.{Shares}
use Rattle.regions.specs.Laws.Steps.{enterings}
use Rattle.pages.specs.Pages.{wrong_length, page_count_in, pages_with, pages_in}
use Rattle.outcomes.specs.Store.{Store, frames, kinds, regions, pages, led_among_in, led_in, led_into}
use Rattle.outcomes.specs.Outcome.{Outcome, Accepted, bad_length, dead, checks, refusal, newly_in}
use Rattle.outcomes.specs.Apart.{Scans, GivesBack, named}
use Rattle.outcomes.proofs.Laws.Steps.{reason_append, by_effect}
use Rattle.outcomes.proofs.Laws.Apart.{mine}
use Rattle.outcomes.proofs.Laws.Deleted.{code_number, code_deleted}
use Rattle.checks.specs.Checks.{first_refusal, filler_tests}
use Rattle.checks.specs.Laws.Tests.{first_zero, filler_passed}
use Rattle.delete_parts.specs.Delete.{delete_tests}

not_ltb : (a b : ℕ) → not (ltb a b) ≡ leb b a
not_ltb a b = by_test (ltb a b) (λ e. rw (e, lt-leb b a (ltb-true a b e))) (λ e. rw (e, le-leb b a (ltb-false a b e)))

module _ (S : Store) (r f : ℕ) where
  abbrev entry : ℕ
  entry = entry_in (regions S).names r

  -- the tests that follow that of the filler, of the region with entry e, and with it as the member
  abbrev tests : ℕ → (ℕ → Bool) → List (Bool × ℕ)
  tests e member =
      let fs = frames S in
      let g = regions S in
      delete_tests r e (subregions_in g.names g.parents (e + 1)) (count_in g.shares e) (led_among_in fs.standing fs.counted fs.widths fs.slots (pages S).owners member)

  delete_refused : refusal S (delete r f) ≡ first_refusal (reason (filler_tests (pages S).made (length S.heap) f)) (reason (tests entry (λ t. eqb t (entry + 1))))
  unfolding refusal checks bad_length wrong_length dead is_live filler_tests delete_tests led_into led_in entry_of tag_of subregions_of count_at
  delete_refused =
      let rest = eqb r 1 yields 3 ∷ not (eqb (subregions_in (regions S).names (regions S).parents (entry + 1)) 0) yields 18 ∷ (not (eqb (count_in (regions S).shares entry) 0) || led_into S (entry + 1)) yields 19 ∷ [] in
      ap (λ b. reason (bad_length S yields 21 ∷ no_filler f yields 23 ∷ b yields 2 ∷ rest)) (not_ltb entry 64) ∙ reason_append (filler_tests (pages S).made (length S.heap) f) (tests entry (λ t. eqb t (entry + 1))) refl

  -- e, ms and g are what functions gave: the region's entry, the tick at its tag, and for the tests
  module _ (e g : ℕ) (ms : List ℕ) (found : e ≡ entry) (ticks : ms ≡ set (replicate 256 0) (e + 1) 1)
      (asked : g ≡ first_refusal (reason (filler_tests (pages S).made (length S.heap) f)) (reason (tests e (tick_at ms)))) where
    -- it is ticked alone
    ticks_are : tick_at ms ≡ (λ t. among t ((e + 1) ∷ []))
    unfolding ticked
    ticks_are = fun_ext (λ t. rw ticks (blank_ticked 256 ((e + 1) ∷ []) t (omega (arith, found, entry_most (regions S).names r), tt)))

    ticks_one : tick_at ms ≡ (λ t. eqb t (e + 1))
    ticks_one = ticks_are ∙ fun_ext (λ t. among_alone t (e + 1))

    pub delete_second : refusal S (delete r f) ≡ g
    delete_second = delete_refused ∙ sym (asked ∙ rw (ticks_one, found))

    ticks_named : tick_at ms ≡ named S (r ∷ [])
    unfolding tag_of entry_of
    ticks_named = ticks_are ∙ rw found

    -- and where the tests accept, h is the number of the region's pages, cs the shares once it is scanned, ds with the frames entered, os the owners once its pages are given back
    pub delete_effect : (a : Answer) (T : Store) (h : ℕ) (cs ds os : List ℕ) → g ≡ 0 → a ≡ gives (h ∷ []) → Shares (regions S).shares → length (pages S).owners ≡ 256
        → h ≡ pages_in (pages S).made (pages S).owners (e + 1)
        → (f < 4 → h ≡ count_of (mine (pages S).owners (tick_at ms)) (up_to (page_count_in (pages S).made)) → Scans f (kinds S) S.heap (pages S) (tick_at ms) (regions S).shares cs)
        → let fs = frames S in ds ≡ enterings f cs (newly_in fs.standing fs.counted fs.widths fs.slots (pages S).owners)
        → GivesBack (pages S).made (pages S).owners (λ t. eqb t (e + 1)) os (pages_in (pages S).made (pages S).owners (e + 1))
        → frames T ≡ raised fs → kinds T ≡ kinds S → regions T ≡ without_regions (with_shares (regions S) ds) (e ∷ []) → pages T ≡ pages_with (pages S).made os (pages S).taken → T.heap ≡ S.heap
        → Outcome (delete r f) S a T
    unfolding Accepted entry_of pages_in
    delete_effect a T h cs ds os z p fits long counts scans enters back ef en er ep eh =
        let once = repeats_once (tag_of (regions S) r ∷ []) refl in
        let few = filler_passed (pages S).made (length S.heap) f (first_zero _ _ (sym asked ∙ z)) in
        let scanned = scans few (counts ∙ ap (λ m. count_of (mine (pages S).owners m) (up_to (page_count_in (pages S).made))) (sym ticks_one)) in
        let given = subst⁻¹ (λ m. GivesBack (pages S).made (pages S).owners m os (pages_in (pages S).made (pages S).owners (e + 1))) ticks_one back in
        let number = code_number f S (r ∷ []) once few fits long (tick_at ms) ticks_named cs ds os _ scanned enters given in
        by_effect (delete r f) S a T (delete_second ∙ z)
        (p ∙ ap (λ n. gives (n ∷ [])) (counts ∙ number ∙ omega arith), code_deleted f S (r ∷ []) once few fits long (tick_at ms) ticks_named cs ds os _ scanned enters given T ef en (er ∙ rw found) ep eh)
