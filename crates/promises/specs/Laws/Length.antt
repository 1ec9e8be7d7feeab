-- The heap's length is tested before all else.
-- Assumes nothing.
use Rattle.std.specs.Prelude.{◌≡◌, refl, ◌≢◌, Bool, true, false, not, List, [], ◌∷◌, ℕ, eqb, leb}
use Rattle.std.proofs.Common.{sym, ap, subst, ◌∙◌, true≢false, arith, eq-eqb, ne_eqb, leb-true}
use Rattle.lists.specs.Lists.{pick, every}
use Rattle.lists.specs.Laws.Tests.{both}
use Rattle.model.specs.Model.{Call, declare, new_region, subregion, push, drop_frame, hand_back, allocate, first, copy, fetch, clear, load, set_pointer, put, get, view, same, about, report, totals, audit, delete, delete_all, Query, locate, ask}
use Rattle.model.specs.Calls.{reason, ◌yields◌}
use Rattle.model.proofs.Laws.Passed.{names_numbers}
use Rattle.pages.specs.Pages.{wrong_length, wrong_length_in}
use Rattle.outcomes.specs.Store.{Store, pages}
use Rattle.outcomes.specs.Sound.{Sound}
use Rattle.outcomes.specs.Outcome.{Outcome, Answered, bad_length, dead, checks, query_checks, refusal}
use Rattle.promises.specs.Promises.{LengthFirst, Refusals}
use Rattle.promises.specs.Laws.Refused.{refusals}

-- 21 comes first, and with no other test
other : Bool × ℕ → Bool
other t = not (eqb t.1 21)

query_test : (S : Store) (q : Query) → every other (query_checks S q) ≡ true
unfolding query_checks other
query_test S (locate s) = refl

first_test : (S : Store) (c : Call) → c ≢ totals → c ≢ audit → (ts : List (Bool × ℕ)) × (checks S c ≡ bad_length S yields 21 ∷ ts) × (every other ts ≡ true)
unfolding checks other
first_test S (declare ms) nt na = (_, refl, refl)
first_test S new_region nt na = (_, refl, refl)
first_test S (subregion r) nt na = (_, refl, refl)
first_test S (push n) nt na = (_, refl, refl)
first_test S (drop_frame f) nt na = (_, refl, refl)
first_test S (hand_back s b f) nt na = (_, refl, refl)
first_test S (allocate s r k) nt na = (_, refl, refl)
first_test S (first s r) nt na = (_, refl, refl)
first_test S (copy s t) nt na = (_, refl, refl)
first_test S (fetch b s) nt na = (_, refl, refl)
first_test S (clear s) nt na = (_, refl, refl)
first_test S (load s w t) nt na = (_, refl, refl)
first_test S (set_pointer s w v f) nt na = (_, refl, refl)
first_test S (put s w x) nt na = (_, refl, refl)
first_test S (get s w) nt na = (_, refl, refl)
first_test S (view s) nt na = (_, refl, refl)
first_test S (same s t) nt na = (_, refl, refl)
first_test S (about s) nt na = (_, refl, refl)
first_test S (report r) nt na = (_, refl, refl)
first_test S totals nt na = absurd (nt refl)
first_test S audit nt na = absurd (na refl)
first_test S (delete r f) nt na = (_, refl, refl)
first_test S (delete_all rs f) nt na = (_, refl, names_numbers (λ n. not (eqb n 21)) refl refl (dead S) rs _ refl)
first_test S (ask q) nt na = (_, refl, query_test S q)

never : (ts : List (Bool × ℕ)) → every other ts ≡ true → reason ts ≢ 21
unfolding other
never [] p e = omega arith
never (t ∷ ts) p e = let q = both (not (eqb t.1 21)) _ p in go t.0 t.1 q.0 (never ts q.1) e
  where
    go : (b : Bool) (n : ℕ) → not (eqb n 21) ≡ true → reason ts ≢ 21 → pick b n (reason ts) ≢ 21
    go true n h ih e = true≢false (sym h ∙ ap not (eq-eqb n 21 e))
    go false n h ih e = ih e

pub right_length : (S : Store) → Sound S → bad_length S ≡ false
unfolding bad_length wrong_length wrong_length_in
right_length S h =
    let m = both (leb 1 (pages S).made) _ h.made in
    rw (ne_eqb (pages S).made 0 (λ e. omega (arith, leb-true 1 (pages S).made m.0, e)), h.heap_length)

pub length_first : LengthFirst
unfolding LengthFirst Outcome refusal Refusals
length_first c S a T n m h = (
  (λ e. subst (λ k. Answered k c S a T) (at e) h),
  (λ s e. never f.0 f.2 (sym (rest s) ∙ sym (refusals c S a T h).0 ∙ e)),
)
  where
    f : (ts : List (Bool × ℕ)) × (checks S c ≡ bad_length S yields 21 ∷ ts) × (every other ts ≡ true)
    f = first_test S c n m

    at : bad_length S ≡ true → reason (checks S c) ≡ 21
    at e = rw (f.1, e)

    rest : Sound S → reason (checks S c) ≡ reason f.0
    rest s = rw (f.1, right_length S s)
