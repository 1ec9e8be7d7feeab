-- The order of a list's numbers: lists that have each number equally often have one sum.
-- Assumes nothing.
use Rattle.std.specs.Prelude.{◌≡◌, refl, Bool, true, false, ◌||◌, List, [], ◌∷◌, ℕ, ◌+◌, ◌<◌, eqb}
use Rattle.std.proofs.Common.{◌∙◌, arith, eqb-true, eq-eqb, lt-ltb}
use Rattle.std.proofs.lemmas.Bool.{false≢true}
use Rattle.lists.specs.Lists.{bit, pick, sum_of, times, among}
use Rattle.lists.specs.Laws.Finds.{any_count}

-- a list without the first n that stands in it
abbrev less : ℕ → List ℕ → List ℕ
less n [] = []
less n (x ∷ xs) = let ys = less n xs in pick (eqb x n) xs (x ∷ ys)

less_sum : (f : ℕ → ℕ) (n : ℕ) (l : List ℕ) → among n l ≡ true → sum_of f l ≡ f n + sum_of f (less n l)
less_sum f n [] e = absurd (false≢true e)
less_sum f n (x ∷ xs) e = go (eqb x n) refl e (less_sum f n xs)
  where
    go : (b : Bool) → eqb x n ≡ b → (b || among n xs) ≡ true → (among n xs ≡ true → sum_of f xs ≡ f n + sum_of f (less n xs)) → f x + sum_of f xs ≡ f n + sum_of f (pick b xs (x ∷ less n xs))
    go true q e ih = rw (eqb-true x n q)
    go false q e ih = omega (arith, ih e)

-- the first number of a list stands in it
first_times : (x : ℕ) (l : List ℕ) → 0 < times x (x ∷ l)
first_times x l = rw (eq-eqb x x refl) (omega arith)

pub sum_order : (f : ℕ → ℕ) (k l : List ℕ) → ((n : ℕ) → times n k ≡ times n l) → sum_of f k ≡ sum_of f l
sum_order f [] [] h = refl
sum_order f [] (y ∷ l) h = absurd (omega (arith, h y, first_times y l))
sum_order f (x ∷ k) l h =
    let m : among x l ≡ true = any_count (λ y. eqb y x) l ∙ lt-ltb 0 (times x l) (omega (arith, h x, first_times x k)) in
    omega (arith, less_sum f x l m, sum_order f k (less x l) (λ n. omega (arith, h n, less_sum (λ y. bit (eqb y n)) x l m)))
