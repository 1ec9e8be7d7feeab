-- Laws of the marks that declare takes, and of the size of a kind.
-- Assumes nothing.
use Rattle.std.specs.Prelude.{◌≡◌, refl, Bool, true, false, ◌&&◌, ◌||◌, List, [], ◌∷◌, map, ℕ, ◌-◌, ◌≤◌, ◌%◌, min, eqb, ltb, leb, length, get_or}
use Rattle.std.proofs.Common.{ap₂, arith, ltb-false}
use Rattle.lists.specs.Lists.{pick, any_of}
use Rattle.lists.specs.Laws.Tests.{neither}
use Rattle.kinds.specs.Kinds.{kind_count_in, size_in, wrong_marks}

-- marks that are not wrong are at most 16, each its own lowest byte
marks_fit_lem : (s : List ℕ) → any_of (ltb 4) s ≡ false → map (λ m. m % 256) s ≡ s
marks_fit_lem [] h = refl
marks_fit_lem (m ∷ ms) h =
    let q = neither (ltb 4 m) (any_of (ltb 4) ms) h in
    ap₂ ◌∷◌ (omega (arith, ltb-false 4 m q.0)) (marks_fit_lem ms q.1)

pub marks_right : (ms : List ℕ) → wrong_marks ms ≡ false → (length ms ≤ 16) × (map (λ m. m % 256) ms ≡ ms)
unfolding wrong_marks
marks_right ms e =
    let p = neither (eqb (length ms) 0 || ltb 16 (length ms)) (any_of (ltb 4) ms) e in
    let q = neither (eqb (length ms) 0) (ltb 16 (length ms)) p.0 in
    (ltb-false 16 (length ms) q.1, marks_fit_lem ms p.1)

-- no kind has more than 16 words
pub size_most : (declared : ℕ) (sizes : List ℕ) (n : ℕ) → size_in declared sizes n ≤ 16
unfolding size_in
size_most declared sizes n = go (ltb 0 n && leb n (kind_count_in declared))
  where
    go : (b : Bool) → pick b (min (get_or sizes (n - 1) 0) 16) 0 ≤ 16
    go true = omega arith
    go false = omega arith
