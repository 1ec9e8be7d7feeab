-- Printed lines by computation, byte by byte.
-- Assumes nothing.
use Rattle.std.specs.Prelude.{◌≡◌, refl, [], ◌∷◌}
use Rattle.lines.specs.Lines.{numeral, decimal, column, line_of, bad_of, summary_of}

-- `18446744073709551615 19 1 0 4294967295 7`: the greatest place, a refusal and four values
a_line : line_of 18446744073709551615 (record { refusal = 19; a = 1; b = 0; c = 4294967295; d = 7 })
    ≡ 49 ∷ 56 ∷ 52 ∷ 52 ∷ 54 ∷ 55 ∷ 52 ∷ 52 ∷ 48 ∷ 55 ∷ 51 ∷ 55 ∷ 48 ∷ 57 ∷ 53 ∷ 53 ∷ 49 ∷ 54 ∷ 49 ∷ 53 ∷ 32 ∷ 49 ∷ 57 ∷ 32 ∷ 49 ∷ 32 ∷ 48 ∷ 32 ∷ 52 ∷ 50 ∷ 57 ∷ 52 ∷ 57 ∷ 54 ∷ 55 ∷ 50 ∷ 57 ∷ 53 ∷ 32 ∷ 55 ∷ 10 ∷ []
unfolding numeral decimal column line_of
a_line = refl

-- `? 18446744073709551615`
a_bad_line : bad_of 18446744073709551615 ≡ 63 ∷ 32 ∷ 49 ∷ 56 ∷ 52 ∷ 52 ∷ 54 ∷ 55 ∷ 52 ∷ 52 ∷ 48 ∷ 55 ∷ 51 ∷ 55 ∷ 48 ∷ 57 ∷ 53 ∷ 53 ∷ 49 ∷ 54 ∷ 49 ∷ 53 ∷ 10 ∷ []
unfolding numeral decimal bad_of
a_bad_line = refl

-- `= 1205 1200 5 10`
a_summary : summary_of 1205 1200 5 10 ≡ 61 ∷ 32 ∷ 49 ∷ 50 ∷ 48 ∷ 53 ∷ 32 ∷ 49 ∷ 50 ∷ 48 ∷ 48 ∷ 32 ∷ 53 ∷ 32 ∷ 49 ∷ 48 ∷ 10 ∷ []
unfolding numeral decimal column summary_of
a_summary = refl
