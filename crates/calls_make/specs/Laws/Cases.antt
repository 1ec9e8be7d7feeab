-- What make and declare refuse and leave, computed. Each case is false of an edit of these calls that must be refused, which it names.
-- Assumes nothing.
use Rattle.std.specs.Prelude.{◌≡◌, refl, true, List, [], ◌∷◌, ℕ, eqb, replicate}
use Rattle.lists.specs.Lists.{bit, every}
use Rattle.model.specs.Model.{declare}
use Rattle.model.specs.Calls.{makes}
use Rattle.kinds.specs.declared.Kinds.{Kinds}
use Rattle.kinds.specs.Kinds.{mark_at, with_kind, wrong_marks}
use Rattle.regions.specs.Regions.{live_count, live_in}
use Rattle.pages.specs.Pages.{wrong_length, wrong_length_in}
use Rattle.outcomes.specs.Outcome.{bad_length, checks, refusal, blank}
use Rattle.outcomes.specs.Examples.{small}

-- two kinds of 16 words, marked 4 and 1
abbrev paired : Kinds
paired = with_kind (with_kind (blank 1 1).kinds (replicate 16 4)) (replicate 16 1)

-- what is computed, and what it has to be
abbrev cases : List (ℕ × ℕ)
cases =
    -- make_takes_16448_words
    (bit (makes 16384), 1)
    ∷ (bit (makes 16448), 0)
    -- refused_make_leaves_region_1
    ∷ (live_count (blank 0 0).regions, 0)
    -- declare_takes_wrong_marks
    ∷ (refusal small (declare (replicate 17 0)), 11)
    ∷ (refusal small (declare (5 ∷ [])), 11)
    ∷ (refusal small (declare (replicate 16 4)), 0)
    -- marks_of_two_kinds_overlap
    ∷ (mark_at paired 1 15, 4)
    ∷ (mark_at paired 2 15, 1)
    ∷ []

pub computed : every (λ p. eqb p.0 p.1) cases ≡ true
unfolding mark_at with_kind wrong_marks live_count wrong_length bad_length checks refusal blank live_in wrong_length_in
computed = refl
