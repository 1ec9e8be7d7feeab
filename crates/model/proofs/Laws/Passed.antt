-- An accepted call passed each of its tests.
-- Assumes nothing.
use Rattle.std.specs.Prelude.{◌≡◌, refl, Bool, true, false, List, [], ◌∷◌, ◌++◌, ℕ, ◌<◌, eqb, ltb}
use Rattle.std.proofs.Common.{true≢false, arith, ltb-true, ltb-false}
use Rattle.std.proofs.lemmas.Bool.{false≢true}
use Rattle.lists.specs.Lists.{pick, every, All}
use Rattle.lists.specs.Laws.Tests.{both}
use Rattle.model.specs.Model.{Model, Call, declare, new_region, subregion, push, drop_frame, hand_back, allocate, first, copy, fetch, clear, load, set_pointer, put, get, view, same, about, report, totals, audit, delete, delete_all, Query, locate, ask}
use Rattle.model.specs.Calls.{checks, query_checks, refusal, reason, no_filler, dead, name_tests}

-- a filler that passes is one of four
pub filler_one : (f : ℕ) → no_filler f ≡ false → f < 4
filler_one f e = omega (arith, ltb-false 3 f e)

abbrev pub positive : Bool × ℕ → Bool
positive t = ltb 0 t.1

one_passed : (b : Bool) (n k : ℕ) → 0 < n → pick b n k ≡ 0 → (b ≡ false) × (k ≡ 0)
one_passed true n k h e = absurd (omega arith)
one_passed false n k h e = (refl, e)

pub all_passed : (ts : List (Bool × ℕ)) → every positive ts ≡ true → reason ts ≡ 0 → All (λ t. t.0 ≡ false) ts
all_passed [] p e = tt
all_passed (t ∷ ts) p e =
    let q = both (positive t) (every positive ts) p in
    let r = one_passed t.0 t.1 (reason ts) (ltb-true 0 t.1 q.0) e in
    (r.0, all_passed ts q.1 r.1)

-- the first tests agree, and the rest do where the first fails
pub step : (a b : Bool) (n x y : ℕ) → a ≡ b → (b ≡ false → x ≡ y) → pick a n x ≡ pick b n y
step true true n x y e h = refl
step true false n x y e h = absurd (true≢false e)
step false true n x y e h = absurd (false≢true e)
step false false n x y e h = h refl

-- the tests of names in turn, with others after them
pub names_numbers : (f : ℕ → Bool) → f 2 ≡ true → f 3 ≡ true → (gone : ℕ → Bool) (rs : List ℕ) (ts : List (Bool × ℕ)) → every (λ t. f t.1) ts ≡ true
    → every (λ t. f t.1) (name_tests gone rs ++ ts) ≡ true
unfolding name_tests
names_numbers f a b gone [] ts h = h
names_numbers f a b gone (r ∷ rs) ts h = rw (a, b) (names_numbers f a b gone rs ts h)

pub names_passed : (gone : ℕ → Bool) (rs : List ℕ) (ts : List (Bool × ℕ)) → All (λ t. t.0 ≡ false) (name_tests gone rs ++ ts)
    → All (λ r. (gone r ≡ false) × (eqb r 1 ≡ false)) rs × All (λ t. t.0 ≡ false) ts
unfolding name_tests
names_passed gone [] ts h = (tt, h)
names_passed gone (r ∷ rs) ts h = let q = names_passed gone rs ts h.1.1 in (((h.0, h.1.0), q.0), q.1)

-- and others, which agree where every name has passed
pub names_agree : (f g : ℕ → Bool) → ((r : ℕ) → f r ≡ g r) → (rs : List ℕ) (x y : List (Bool × ℕ)) → (All (λ r. (g r ≡ false) × (eqb r 1 ≡ false)) rs → reason x ≡ reason y)
    → reason (name_tests f rs ++ x) ≡ reason (name_tests g rs ++ y)
unfolding name_tests
names_agree f g e [] x y h = h tt
names_agree f g e (r ∷ rs) x y h = step _ (g r) 2 _ _ (e r) (λ d. step _ (eqb r 1) 3 _ _ refl (λ o. names_agree f g e rs x y (λ ns. h ((d, o), ns))))

-- names that all pass: the tests after them decide
pub names_go : (gone : ℕ → Bool) (rs : List ℕ) (ts : List (Bool × ℕ)) → All (λ r. (gone r ≡ false) × (eqb r 1 ≡ false)) rs → reason (name_tests gone rs ++ ts) ≡ reason ts
unfolding name_tests
names_go gone [] ts h = refl
names_go gone (r ∷ rs) ts h = rw (h.0.0, h.0.1) (names_go gone rs ts h.1)

query_numbers : (L : Model) (q : Query) → every positive (query_checks L q) ≡ true
unfolding query_checks
query_numbers L (locate s) = refl

numbers : (L : Model) (c : Call) → every positive (checks L c) ≡ true
unfolding checks
numbers L (declare ms) = refl
numbers L new_region = refl
numbers L (subregion r) = refl
numbers L (push n) = refl
numbers L (drop_frame f) = refl
numbers L (hand_back s b f) = refl
numbers L (allocate s r k) = refl
numbers L (first s r) = refl
numbers L (copy s t) = refl
numbers L (fetch b s) = refl
numbers L (clear s) = refl
numbers L (load s w t) = refl
numbers L (set_pointer s w v f) = refl
numbers L (put s w x) = refl
numbers L (get s w) = refl
numbers L (view s) = refl
numbers L (same s t) = refl
numbers L (about s) = refl
numbers L (report r) = refl
numbers L totals = refl
numbers L audit = refl
numbers L (delete r f) = refl
numbers L (delete_all rs f) = names_numbers (ltb 0) refl refl (dead L) rs _ refl
numbers L (ask q) = query_numbers L q

-- in the tests' order: t.0, t.1.0, t.1.1.0, .. of `passed L c e`
pub passed : (L : Model) (c : Call) → refusal L c ≡ 0 → All (λ t. t.0 ≡ false) (checks L c)
unfolding refusal
passed L c e = all_passed (checks L c) (numbers L c) e
