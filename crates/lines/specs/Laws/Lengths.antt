-- How long a printed line can be.
-- Assumes nothing.
use Rattle.std.specs.Prelude.{Bool, true, false, List, [], ◌∷◌, ◌++◌, ℕ, zero, suc, ◌+◌, ◌/◌, ◌%◌, ◌≤◌, ltb, length}
use Rattle.std.proofs.Common.{arith, length-append}
use Rattle.lists.specs.Lists.{pick}
use Rattle.state.specs.declared.Reply.{Reply}
use Rattle.lines.specs.Lines.{numeral, decimal, column, line_of, bad_of, summary_of}

pub numeral_length : (k n : ℕ) → length (numeral k n) ≤ k
unfolding numeral
numeral_length zero n = omega arith
numeral_length (suc k) n = go (ltb n 10) (numeral_length k (n / 10))
  where
    l : List ℕ
    l = numeral k (n / 10)

    go : (b : Bool) → length l ≤ k → length (pick b ((48 + n) ∷ []) (l ++ ((48 + n % 10) ∷ []))) ≤ suc k
    go true h = omega arith
    go false h = rw (length-append l ((48 + n % 10) ∷ [])) (omega arith)

pub decimal_length : (n : ℕ) → length (decimal n) ≤ 20
unfolding decimal
decimal_length n = numeral_length 20 n

pub column_length : (n : ℕ) → length (column n) ≤ 21
unfolding column
column_length n = omega (arith, decimal_length n)

pub line_length : (p : ℕ) (r : Reply) → length (line_of p r) ≤ 126
unfolding line_of
line_length p r =
    simp length-append
    (omega (arith, decimal_length p, column_length r.refusal, column_length r.a, column_length r.b, column_length r.c, column_length r.d))

pub bad_length_lem : (k : ℕ) → length (bad_of k) ≤ 23
unfolding bad_of
bad_length_lem k = simp length-append (omega (arith, decimal_length k))

pub summary_length : (a b c d : ℕ) → length (summary_of a b c d) ≤ 86
unfolding summary_of
summary_length a b c d = simp length-append (omega (arith, column_length a, column_length b, column_length c, column_length d))
