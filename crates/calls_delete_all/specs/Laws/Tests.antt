-- The tests of the list, and then of what leads into those named, are the call's tests.
-- Assumes nothing.
use Rattle.std.specs.Prelude.{◌≡◌, ◌≢◌, true, false, ◌||◌, ℕ, ◌<◌, ◌≤◌, eqb, length}
use Rattle.std.proofs.Math.Path.{refl, ap}
use Rattle.std.proofs.Common.{sym, ◌∙◌}
use Rattle.std.proofs.Math.Bool.{Bool, not}
use mathlib.Core.List.{List, [], ◌∷◌, map, append_assoc}
use Rattle.std.proofs.Math.Dec.{ltb}
use borrow.Author.Tests.{ltb-true, not-false}
use Rattle.lists.specs.Lists.{pick, any_of, every, All, among, repeats, times}
use Rattle.lists.specs.Laws.Tests.{neither}
use Rattle.lists.specs.Laws.All.{all_map}
use Rattle.lists.specs.Laws.Finds.{any_same}
use Rattle.model.specs.Model.{delete_all}
use Rattle.model.specs.Calls.{reason, ◌yields◌, no_filler, wrong_names, name_tests}
use Rattle.model.proofs.Laws.Passed.{filler_one, positive, all_passed, names_numbers, names_passed, names_agree}
use Rattle.regions.specs.declared.Regions.{Regions}
use Rattle.regions.specs.Regions.{entry_of, tag_of, is_live, closed_in, count_at, with_shares}
use Rattle.regions.specs.Laws.Counts.{Shares}
use Rattle.regions.specs.Laws.Recount.{recount_at}
use Rattle.regions.specs.Laws.Tags.{tags_once}
use Rattle.pages.specs.Pages.{wrong_length_in, wrong_length}
use Rattle.outcomes.specs.Store.{Store, frames, regions, pages, led_among_in, led_among}
use Rattle.outcomes.specs.Outcome.{bad_length, dead, outgoing, count_but, checks, refusal}
use Rattle.outcomes.specs.Apart.{scanned}
use Rattle.outcomes.proofs.Laws.Steps.{reason_append}
use Rattle.outcomes.proofs.Laws.Deleted.{scan_leaves, left_are}
use Rattle.checks.specs.Checks.{first_refusal}
use Rattle.checks.specs.Laws.Tests.{else_first, else_next}
use Rattle.members.specs.Members.{dead_by}
use Rattle.joint_parts.specs.Joint.{still_counted}
use Rattle.calls_delete_all.specs.DeleteAll.{list_tests}
use Rattle.calls_delete_all.specs.Laws.Gone.{still_are}

module _ (S : Store) (rs : List ℕ) (f : ℕ) where
  -- those named live, and their tags
  abbrev pub Live : Type 0
  Live = All (λ r. entry_of (regions S) r < 64) rs

  abbrev pub tags : List ℕ
  tags = map (tag_of (regions S)) rs

  -- the tests before the scan, with members by their tags
  abbrev pub firsts : (ℕ → Bool) → List (Bool × ℕ)
  firsts = list_tests (pages S).made (length S.heap) f rs (regions S).names (regions S).parents

  firsts_numbers : (member : ℕ → Bool) → every positive (firsts member) ≡ true
  unfolding list_tests
  firsts_numbers member = names_numbers (ltb 0) refl refl (dead_by (regions S).names) rs _ refl

  names_live : All (λ r. (dead_by (regions S).names r ≡ false) × (eqb r 1 ≡ false)) rs → Live
  unfolding dead_by entry_of
  names_live = all_map (λ r h. ltb-true (entry_of (regions S) r) 64 (not-false (ltb (entry_of (regions S) r) 64) h.0)) rs

  -- where they accept, the filler is one of four, those named live, and none is named twice
  firsts_passed : (member : ℕ → Bool) → reason (firsts member) ≡ 0 → (f < 4) × (repeats rs ≡ false) × Live
  unfolding list_tests wrong_names
  firsts_passed member e =
      let t = all_passed (firsts member) (firsts_numbers member) e in
      (filler_one f t.1.0, (neither (eqb (length rs) 0 || ltb 16 (length rs)) (repeats rs) t.1.1.0).1, names_live (names_passed (dead_by (regions S).names) rs _ t.1.1.1).0)

  -- the members matter only where those named live
  firsts_same : (m n : ℕ → Bool) → (Live → m ≡ n) → reason (firsts m) ≡ reason (firsts n)
  unfolding list_tests
  firsts_same m n h =
      let last : (ℕ → Bool) → List (Bool × ℕ) = λ m. not (closed_in (regions S).names (regions S).parents m) yields 18 ∷ [] in
      let gone = dead_by (regions S).names in
      ap (λ n. pick (wrong_length_in (pages S).made (length S.heap)) 21 (pick (no_filler f) 23 (pick (wrong_names rs) 22 n)))
      (names_agree gone gone (λ r. refl) rs (last m) (last n) (λ ns. ap (λ m. reason (last m)) (h (names_live ns))))

  -- the call's last test: something is left of a member's count, or a slot of an uncounted frame leads into one
  abbrev pub pointed : Bool
  pointed = any_of (λ r. not (eqb (count_but S tags (entry_of (regions S) r)) 0)) rs || led_among S tags

  tests_are : refusal S (delete_all rs f) ≡ first_refusal (reason (firsts (λ t. among t tags))) (pick pointed 19 0)
  unfolding refusal checks list_tests bad_length wrong_length dead is_live entry_of dead_by
  tests_are =
      let strays = not (closed_in (regions S).names (regions S).parents (λ t. among t tags)) in
      ap (λ l. reason (bad_length S yields 21 ∷ no_filler f yields 23 ∷ wrong_names rs yields 22 ∷ l)) (sym (append_assoc (name_tests (dead S) rs) (strays yields 18 ∷ []) (pointed yields 19 ∷ [])))
      ∙ reason_append (firsts (λ t. among t tags)) (pointed yields 19 ∷ []) (firsts_numbers (λ t. among t tags))

  -- g is what the first tests gave, with members that are those named where these live
  module _ (member : ℕ → Bool) (marked : Live → member ≡ (λ t. among t tags)) (g : ℕ) (asked : g ≡ reason (firsts member)) where
    asked_same : g ≡ reason (firsts (λ t. among t tags))
    asked_same = asked ∙ firsts_same member (λ t. among t tags) marked

    pub refused_first : g ≢ 0 → refusal S (delete_all rs f) ≡ g
    refused_first z = tests_are ∙ else_first _ g (pick pointed 19 0) asked_same z

    module _ (z : g ≡ 0) where
      pub passed_first : refusal S (delete_all rs f) ≡ pick pointed 19 0
      passed_first = tests_are ∙ else_next _ g (pick pointed 19 0) asked_same z

      pub passed_filler : f < 4
      passed_filler = (firsts_passed member (sym asked ∙ z)).0

      pub passed_live : Live
      passed_live = (firsts_passed member (sym asked ∙ z)).2

      pub passed_once : (t : ℕ) → times t tags ≤ 1
      passed_once = tags_once (regions S) rs passed_live (firsts_passed member (sym asked ∙ z)).1

  -- that test, by the shares cs that the scan has left
  pub pointed_is : f < 4 → Live → ((t : ℕ) → times t tags ≤ 1) → Shares (regions S).shares → (cs : List ℕ)
      → let fs = frames S in let m : ℕ → Bool = λ t. among t tags in cs ≡ (regions (scanned f S m)).shares
      → (still_counted cs m || led_among_in fs.standing fs.counted fs.widths fs.slots (pages S).owners m) ≡ pointed
  unfolding count_but count_at with_shares led_among
  pointed_is few live once fits cs e =
      let some : Regions → Bool = λ g. any_of (λ r. not (eqb (count_at g (entry_of (regions S) r)) 0)) rs in
      ap (λ b. b || led_among S tags)
      (still_are (regions S) rs live cs
      ∙ ap (λ c. some (with_shares (regions S) c)) (e ∙ ap (λ g. g.shares) (scan_leaves f S (λ t. among t tags) few fits))
      ∙ ap some (left_are S tags once f few fits)
      ∙ any_same _ _ rs (all_map (λ r l. ap (λ n. not (eqb n 0)) (recount_at (regions S) f [] (outgoing S tags) few (entry_of (regions S) r) l)) rs live))
