-- The tests of each call, as the functions of `checks` run them.
-- Assumes nothing.
use mathlib.Core.Path.{◌≡◌, ◌∙◌}
use mathlib.Core.List.{[]}
use Prim.Native.Nat.{ℕ}
use Rattle.model.specs.Model.{same, about, locate, ask}
use Rattle.model.specs.Calls.{reason}
use Rattle.outcomes.specs.Store.{Store}
use Rattle.outcomes.specs.Outcome.{refusal, checks, query_checks}
use Rattle.checks.specs.Laws.Tests.{top, one_slot, two_slots, or_zero}

module _ (S : Store) where
  pub same_tests : (s t : ℕ) → refusal S (same s t) ≡ reason (top S s t)
  unfolding refusal checks
  same_tests s t = two_slots S [] s t ∙ or_zero (reason (top S s t))

  pub about_tests : (s : ℕ) → refusal S (about s) ≡ reason (top S s s)
  unfolding refusal checks
  about_tests s = one_slot S [] s ∙ or_zero (reason (top S s s))

  pub locate_tests : (s : ℕ) → refusal S (ask (locate s)) ≡ reason (top S s s)
  unfolding refusal checks query_checks
  locate_tests s = one_slot S [] s ∙ or_zero (reason (top S s s))
