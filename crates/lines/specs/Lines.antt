-- Printed lines as bytes, and what it is to add to a buffer.
-- Assumes nothing.
use Rattle.std.specs.Prelude.{◌≡◌, List, [], ◌∷◌, ◌++◌, ℕ, zero, suc, ◌+◌, ◌/◌, ◌%◌, ◌≤◌, ltb, length, take}
use Rattle.lists.specs.Lists.{pick}
use Rattle.state.specs.declared.Reply.{Reply}
use Rattle.lines.specs.declared.Buffer.{Buffer}

-- n in decimal, where it has at most k digits
unfoldable pub numeral : ℕ → ℕ → List ℕ
numeral zero n = []
numeral (suc k) n = let l = numeral k (n / 10) in pick (ltb n 10) ((48 + n) ∷ []) (l ++ ((48 + n % 10) ∷ []))

-- n in decimal: a number of 64 bits has at most twenty digits
unfoldable pub decimal : ℕ → List ℕ
decimal n = numeral 20 n

-- a space and a number
unfoldable pub column : ℕ → List ℕ
column n = 32 ∷ decimal n

-- a call's line: its place, the refusal and four values, with the newline (document 01, One session)
unfoldable pub line_of : ℕ → Reply → List ℕ
line_of p r = decimal p ++ column r.refusal ++ column r.a ++ column r.b ++ column r.c ++ column r.d ++ (10 ∷ [])

-- `? k`, for line k of a script, a bad one
unfoldable pub bad_of : ℕ → List ℕ
bad_of k = (63 ∷ 32 ∷ []) ++ decimal k ++ (10 ∷ [])

-- a summary's line, `= CALLS ACCEPTED REFUSED BAD`
unfoldable pub summary_of : ℕ → ℕ → ℕ → ℕ → List ℕ
summary_of calls accepted refused bad = (61 ∷ []) ++ column calls ++ column accepted ++ column refused ++ column bad ++ (10 ∷ [])

-- Where s fits after the first `at` bytes of the buffer l, the first r bytes of the buffer m are those bytes and then s.
pub record Added (l : List ℕ) (at : ℕ) (s : List ℕ) (m : List ℕ) (r : ℕ) : Type 0 where
  pub end : at + length s ≤ length l → r ≡ at + length s
  pub text : at + length s ≤ length l → take r m ≡ take at l ++ s

-- s is added to a buffer, where it fits; the buffer's bytes are the ones that were lent, and as many
pub record Appends (b : Buffer) (s : List ℕ) (c : Buffer) : Type 0 where
  pub added : Added b.bytes.now b.used s c.bytes.now c.used
  pub as_long : length c.bytes.now ≡ length b.bytes.now
  pub same_reference : c.bytes.ghost_name ≡ b.bytes.ghost_name
