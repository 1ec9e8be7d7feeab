-- The digits that `io::decimal` gives are `decimal`.
use mathlib.Core.Path.{◌≡◌}
use Prim.Native.Nat.{ℕ, zero, suc, ◌+◌, ◌-◌, ◌*◌, ◌/◌, ◌%◌, ◌^◌, ◌≤◌, ◌<◌}
use native.Mathlib.Nat.{pow-suc, one-le-pow}
use native.Mathlib.Omega.{arith}
use borrow.Author.Tests.{lt-ltb, le-ltb}
use Rattle.io.specs.Digits.{hex_digit_ascii, last_digits, IsDigitCount}
use Rattle.lines.specs.Lines.{numeral}

glyph_digit : (d : ℕ) → d < 10 → hex_digit_ascii d ≡ 48 + d
glyph_digit d h = rw (lt-ltb d 10 h)

-- as many digits as n has
pub fewest : (f k n : ℕ) → n < 10 ^ suc f → IsDigitCount 10 1 n k → last_digits 10 k n ≡ numeral (suc f) n
unfolding numeral
fewest f zero n h w = absurd (omega (arith, w.0))
fewest f (suc zero) n h w =
    let b : n < 10 = w.1 in
    let e : n % 10 ≡ n = omega arith in
    rw (lt-ltb n 10 b, e, glyph_digit n b)
fewest zero (suc (suc j)) n h w =
    let d : suc (suc j) - 1 ≡ suc j = omega arith in
    let low : 10 ^ suc j ≤ n = rw d at (w.2 (omega arith)) in
    absurd (omega (arith, pow-suc 10 j, one-le-pow j 10 (omega arith)))
fewest (suc f) (suc (suc j)) n h w =
    let p : 10 ^ suc j ≡ 10 ^ j * 10 = pow-suc 10 j in
    let q : 10 ^ suc (suc j) ≡ 10 ^ suc j * 10 = pow-suc 10 (suc j) in
    let g : 10 ^ suc (suc f) ≡ 10 ^ suc f * 10 = pow-suc 10 (suc f) in
    let o : 1 ≤ 10 ^ j = one-le-pow j 10 (omega arith) in
    let d : suc (suc j) - 1 ≡ suc j = omega arith in
    let d2 : suc j - 1 ≡ j = omega arith in
    let low : 10 ^ suc j ≤ n = rw d at (w.2 (omega arith)) in
    let b : n < 10 ^ suc (suc j) = w.1 in
    rw (le-ltb n 10 (omega arith), glyph_digit (n % 10) (omega arith), fewest f (suc j) (n / 10) (omega arith) (omega arith, omega arith, λ _. rw d2 (omega arith)))
