-- The shared tests are those that the calls begin with.
-- Assumes nothing.
use Rattle.std.specs.Prelude.{◌≡◌, ◌≢◌, Bool, ◌||◌, List, [], ◌∷◌, ℕ, ◌<◌, eqb, length}
use Rattle.std.proofs.Math.Path.{refl, ap}
use Rattle.std.proofs.Common.{sym, ◌∙◌, eqb-true, ne_eqb}
use Rattle.std.proofs.Math.Bool.{true, false}
use Rattle.lists.specs.Laws.Tests.{by_test}
use Rattle.model.specs.Calls.{reason, ◌yields◌, no_filler}
use Rattle.model.proofs.Laws.Passed.{all_passed, filler_one}
use Rattle.frames.specs.Frames.{width_at, top_frame}
use Rattle.regions.specs.Regions.{entry_of, is_live}
use Rattle.pages.specs.Pages.{wrong_length}
use Rattle.outcomes.specs.Store.{Store, frames, regions, pages}
use Rattle.outcomes.specs.Outcome.{bad_length, no_frame, one_frame, lacks, lacks_beneath, dead}
use Rattle.outcomes.proofs.Laws.Steps.{reason_append}
use Rattle.checks.specs.Checks.{first_refusal, filler_tests, top_tests, beneath_tests, region_tests}

or_same : (b : Bool) → (b || b) ≡ b
or_same true = refl
or_same false = refl

module _ (S : Store) where
  -- the shared tests, on what the store has
  abbrev pub top : ℕ → ℕ → List (Bool × ℕ)
  top = top_tests (pages S).made (length S.heap) (frames S).standing (frames S).widths

  abbrev pub beneath : ℕ → ℕ → List (Bool × ℕ)
  beneath = beneath_tests (pages S).made (length S.heap) (frames S).standing (frames S).widths

  abbrev pub named : ℕ → List (Bool × ℕ)
  named r = region_tests (pages S).made (length S.heap) (entry_of (regions S) r)

module _ (S : Store) (rest : List (Bool × ℕ)) where
  -- a call that names a filler: the tests that it has beside, which begin with 21 too, are asked after that of the filler
  pub filler_first : (f : ℕ) → reason (bad_length S yields 21 ∷ no_filler f yields 23 ∷ rest)
      ≡ first_refusal (reason (filler_tests (pages S).made (length S.heap) f)) (reason (bad_length S yields 21 ∷ rest))
  unfolding filler_tests bad_length wrong_length
  filler_first f = go (bad_length S) (no_filler f)
    where
      go : (a b : Bool) → reason (a yields 21 ∷ b yields 23 ∷ rest) ≡ first_refusal (reason (a yields 21 ∷ b yields 23 ∷ [])) (reason (a yields 21 ∷ rest))
      go true b = refl
      go false true = refl
      go false false = refl

  -- a call that begins with one slot of the top frame, with two, with one of each of the two upper frames, with a region's name
  pub one_slot : (s : ℕ) → reason (bad_length S yields 21 ∷ no_frame S yields 6 ∷ lacks S s yields 9 ∷ rest) ≡ first_refusal (reason (top S s s)) (reason rest)
  unfolding top_tests bad_length no_frame lacks wrong_length width_at top_frame
  one_slot s = ap (λ b. reason (bad_length S yields 21 ∷ no_frame S yields 6 ∷ b yields 9 ∷ rest)) (sym (or_same (lacks S s))) ∙ reason_append (top S s s) rest refl

  pub two_slots : (s t : ℕ) → reason (bad_length S yields 21 ∷ no_frame S yields 6 ∷ (lacks S s || lacks S t) yields 9 ∷ rest) ≡ first_refusal (reason (top S s t)) (reason rest)
  unfolding top_tests bad_length no_frame lacks wrong_length width_at top_frame
  two_slots s t = reason_append (top S s t) rest refl

  pub slot_beneath : (s b : ℕ) → reason (bad_length S yields 21 ∷ one_frame S yields 6 ∷ (lacks S s || lacks_beneath S b) yields 9 ∷ rest) ≡ first_refusal (reason (beneath S s b)) (reason rest)
  unfolding beneath_tests bad_length one_frame lacks lacks_beneath wrong_length width_at top_frame
  slot_beneath s b = reason_append (beneath S s b) rest refl

  pub one_region : (r : ℕ) → reason (bad_length S yields 21 ∷ dead S r yields 2 ∷ rest) ≡ first_refusal (reason (named S r)) (reason rest)
  unfolding region_tests bad_length dead is_live wrong_length
  one_region r = reason_append (named S r) rest refl

-- with no test more
pub or_zero : (g : ℕ) → first_refusal g 0 ≡ g
or_zero g = by_test (eqb g 0) (λ e. rw e (sym (eqb-true g 0 e))) (λ e. rw e)

-- the first group accepts where all do; so the filler is one of four
pub first_zero : (g h : ℕ) → first_refusal g h ≡ 0 → g ≡ 0
first_zero g h e = by_test (eqb g 0) (λ z. eqb-true g 0 z) (λ z. rw z at e)

pub filler_passed : (made n f : ℕ) → reason (filler_tests made n f) ≡ 0 → f < 4
unfolding filler_tests
filler_passed made n f e = filler_one f (all_passed (filler_tests made n f) refl e).1.0

-- where the first group of tests refuses, and where it accepts; g is what a function gave for it
pub else_first : (t g h : ℕ) → g ≡ t → g ≢ 0 → first_refusal t h ≡ g
else_first t g h e z = rw (← e, ne_eqb g 0 z)

pub else_next : (t g h : ℕ) → g ≡ t → g ≡ 0 → first_refusal t h ≡ h
else_next t g h e z = rw (← e, z)
