-- The tests of each call, as the functions of `checks` run them.
-- Assumes nothing.
use mathlib.Core.Path.{◌≡◌, ap, ◌∙◌}
use mathlib.Core.Bool.{not, or_comm}
use mathlib.Core.List.{[], ◌∷◌}
use Prim.Native.Nat.{ℕ, ◌≤◌, ◌<◌}
use lib.Dec.{ltb}
use borrow.Author.Tests.{le-ltb, lt-ltb}
use Rattle.model.specs.Model.{first, copy, fetch, clear}
use Rattle.model.specs.Calls.{reason, ◌yields◌}
use Rattle.outcomes.specs.Store.{Store}
use Rattle.outcomes.specs.Outcome.{refusal, checks, dead, lacks, lacks_beneath, bad_length, one_frame}
use Rattle.checks.specs.Checks.{first_refusal}
use Rattle.checks.specs.Laws.Tests.{top, beneath, one_slot, two_slots, slot_beneath, or_zero}

module _ (S : Store) where
  pub first_tests : (s r : ℕ) → refusal S (first s r) ≡ first_refusal (reason (top S s s)) (reason (dead S r yields 2 ∷ []))
  unfolding refusal checks
  first_tests s r = one_slot S (dead S r yields 2 ∷ []) s

  pub copy_tests : (s t : ℕ) → refusal S (copy s t) ≡ reason (top S s t)
  unfolding refusal checks
  copy_tests s t = two_slots S [] s t ∙ or_zero (reason (top S s t))

  pub fetch_tests : (b s : ℕ) → refusal S (fetch b s) ≡ reason (beneath S s b)
  unfolding refusal checks
  fetch_tests b s = ap (λ x. reason (bad_length S yields 21 ∷ one_frame S yields 6 ∷ x yields 9 ∷ [])) (or_comm (lacks_beneath S b) (lacks S s)) ∙ slot_beneath S [] s b ∙ or_zero (reason (beneath S s b))

  pub clear_tests : (s : ℕ) → refusal S (clear s) ≡ reason (top S s s)
  unfolding refusal checks
  clear_tests s = one_slot S [] s ∙ or_zero (reason (top S s s))

-- the test of a live region, as the entry found decides it
pub refuses : (i j : ℕ) → i ≡ j → 64 ≤ i → reason (not (ltb j 64) yields 2 ∷ []) ≡ 2
refuses i j e h = rw (← e, le-ltb i 64 h)

pub accepts : (i j : ℕ) → i ≡ j → i < 64 → reason (not (ltb j 64) yields 2 ∷ []) ≡ 0
accepts i j e h = rw (← e, lt-ltb i 64 h)
