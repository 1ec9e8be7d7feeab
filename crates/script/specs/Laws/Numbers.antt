-- Laws of the value of a word: the digits read so far and those to come give the whole.
-- Assumes nothing.
use Rattle.std.specs.Prelude.{◌≡◌, true, false, List, [], ◌∷◌, ℕ, ◌+◌, ◌-◌, ◌*◌, ◌≤◌, ◌<◌, min, leb, length, get_or, drop}
use Rattle.std.proofs.Common.{sym, ◌∙◌, add-one, arith, drop_of_length-le}
use Rattle.std.proofs.Math.Bool.{and-false}
use Rattle.std.proofs.Math.Seq.{drop-cons}
use borrow.Author.Tests.{leb-true, le-leb, lt-leb, lt-ltb}
use Rattle.lists.specs.Lists.{pick, every}
use Rattle.lists.specs.Laws.Tests.{both, pick_same}
use Rattle.script.specs.Script.{digit, decimal, no_number, value}

-- the number v with the digits of a list after it
unfoldable pub valued : ℕ → List ℕ → ℕ
valued v l = pick (every digit l) (min (decimal v l) no_number) no_number

pub value_empty : (w : List ℕ) → length w ≡ 0 → no_number ≡ value w
unfolding value
value_empty w e = rw e

pub value_digits : (w : List ℕ) → (length w ≡ 0 → ⊥) → valued 0 w ≡ value w
unfolding value valued
value_digits w e = rw (lt-ltb 0 (length w) (omega arith))

-- more digits make no number less
decimal_grows : (v : ℕ) (l : List ℕ) → v ≤ decimal v l
decimal_grows v [] = omega arith
decimal_grows v (b ∷ l) = omega (arith, decimal_grows (v * 10 + (b - 48)) l)

pub valued_great : (v : ℕ) (l : List ℕ) → no_number ≤ v → no_number ≡ valued v l
unfolding valued
valued_great v l h =
    let e : min (decimal v l) no_number ≡ no_number = omega (arith, decimal_grows v l) in
    rw e (sym (pick_same (every digit l) no_number))

pub valued_end : (v : ℕ) (w : List ℕ) (i : ℕ) → length w ≤ i → v < no_number → v ≡ valued v (drop i w)
unfolding valued
valued_end v w i h k = rw (drop_of_length-le w {i = i} h) (omega arith)

module _ (v : ℕ) (w : List ℕ) (i : ℕ) (h : i < length w) where
  pub valued_next : 48 ≤ get_or w i 0 → get_or w i 0 ≤ 57 → valued v (drop i w) ≡ valued (v * 10 + (get_or w i 0 - 48)) (drop (i + 1) w)
  unfolding valued
  valued_next a b = rw (add-one i, drop-cons w i 0 h, le-leb 48 (get_or w i 0) a, le-leb (get_or w i 0) 57 b)

  pub valued_below : get_or w i 0 < 48 → no_number ≡ valued v (drop i w)
  unfolding valued
  valued_below a = rw (drop-cons w i 0 h, lt-leb 48 (get_or w i 0) a)

  pub valued_above : 57 < get_or w i 0 → no_number ≡ valued v (drop i w)
  unfolding valued
  valued_above a = rw (drop-cons w i 0 h, lt-leb (get_or w i 0) 57 a, and-false (leb 48 (get_or w i 0)))

  -- by the test of a digit
  pub valued_odd : digit (get_or w i 0) ≡ false → no_number ≡ valued v (drop i w)
  unfolding valued
  valued_odd e = rw (drop-cons w i 0 h, e)

  module _ (q : digit (get_or w i 0) ≡ true) (d : ℕ) (e : d ≡ get_or w i 0 - 48) where
    pub valued_read : valued (v * 10 + d) (drop (i + 1) w) ≡ valued v (drop i w)
    valued_read = let k = both (leb 48 (get_or w i 0)) (leb (get_or w i 0) 57) q in rw e (sym (valued_next (leb-true _ _ k.0) (leb-true _ _ k.1)))

    pub valued_over : no_number ≤ v * 10 + d → no_number ≡ valued v (drop i w)
    valued_over k = valued_great (v * 10 + d) (drop (i + 1) w) k ∙ valued_read
