-- A call that is not refused passed each of its tests: `let t = passed S c e in`, and then t.0, t.1.0, t.1.1.0, .. in the tests' order.
-- Assumes nothing.
use Rattle.std.specs.Prelude.{◌≡◌, refl, true, false, ltb}
use Rattle.lists.specs.Lists.{every, All}
use Rattle.model.specs.Model.{Call, declare, new_region, subregion, push, drop_frame, hand_back, allocate, first, copy, fetch, clear, load, set_pointer, put, get, view, same, about, report, totals, audit, delete, delete_all, Query, locate, ask}
use Rattle.model.proofs.Laws.Passed.{positive, all_passed, names_numbers}
use Rattle.outcomes.specs.Store.{Store}
use Rattle.outcomes.specs.Outcome.{checks, query_checks, refusal, dead}

query_numbers : (S : Store) (q : Query) → every positive (query_checks S q) ≡ true
unfolding query_checks
query_numbers S (locate s) = refl

numbers : (S : Store) (c : Call) → every positive (checks S c) ≡ true
unfolding checks
numbers S (declare ms) = refl
numbers S new_region = refl
numbers S (subregion r) = refl
numbers S (push n) = refl
numbers S (drop_frame f) = refl
numbers S (hand_back s b f) = refl
numbers S (allocate s r k) = refl
numbers S (first s r) = refl
numbers S (copy s t) = refl
numbers S (fetch b s) = refl
numbers S (clear s) = refl
numbers S (load s w t) = refl
numbers S (set_pointer s w v f) = refl
numbers S (put s w x) = refl
numbers S (get s w) = refl
numbers S (view s) = refl
numbers S (same s t) = refl
numbers S (about s) = refl
numbers S (report r) = refl
numbers S totals = refl
numbers S audit = refl
numbers S (delete r f) = refl
numbers S (delete_all rs f) = names_numbers (ltb 0) refl refl (dead S) rs _ refl
numbers S (ask q) = query_numbers S q

pub passed : (S : Store) (c : Call) → refusal S c ≡ 0 → All (λ t. t.0 ≡ false) (checks S c)
unfolding refusal
passed S c e = all_passed (checks S c) (numbers S c) e
