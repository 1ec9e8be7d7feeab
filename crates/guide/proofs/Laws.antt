-- The line of a number among the lines of a text, from a place on; and the reasons as lines.
-- Assumes nothing.
use mathlib.Core.Path.{◌≡◌, sym, ◌∙◌}
use mathlib.Core.List.{List, [], map}
use Prim.Native.Nat.{ℕ, ◌+◌, ◌<◌, ◌≤◌, min}
use native.Mathlib.Numerals.{add-one}
use native.Mathlib.Omega.{arith}
use borrow.Author.Tests.{ltb-true, ltb-false}
use lib.Dec.{ltb}
use lib.ListN.{length, get_or, drop, drop_of_length-le}
use Rattle.lists.specs.Laws.Tests.{by_test}
use Rattle.lists.specs.Laws.Finds.{get_d_map_in}
use Rattle.script.specs.Script.{bytes}
use Rattle.script.specs.Found.{LineAt}
use Rattle.guide.specs.Text.{lines_of}
use Rattle.guide.specs.Guide.{reasons}
use Rattle.guide.specs.Laws.Text.{lines_at, lines_end}

module _ (text : List ℕ) (at : ℕ) where
  -- none is left
  pub nth_past : (n : ℕ) → length text ≤ at → get_or (lines_of (drop at text)) n [] ≡ []
  nth_past n h = rw (lines_end text at h)

  module _ (line : List ℕ) (k : LineAt text at line) where
    -- the line there is passed, and its newline
    pub nth_next : (m n : ℕ) → at < length text → m ≡ n + 1 → get_or (lines_of (drop (at + length line + 1) text)) n [] ≡ get_or (lines_of (drop at text)) m []
    nth_next m n h e = rw (e, add-one n, lines_at text at line h k)

    -- the line there is meant
    pub nth_here : line ≡ get_or (lines_of (drop at text)) 0 []
    unfolding lines_of
    nth_here =
        by_test
        (ltb at (length text))
        (λ q. rw (lines_at text at line (ltb-true at (length text) q) k))
        (λ q. k.is ∙ rw (drop_of_length-le text {i = at} (ltb-false at (length text) q)))

-- the line at a place is passed, if there is one
pub nth_on : (text : List ℕ) (at : ℕ) (line : List ℕ) → LineAt text at line → (to m n : ℕ) → to ≡ at + length line + 1 → m ≡ n + 1
    → get_or (lines_of (drop to text)) n [] ≡ get_or (lines_of (drop at text)) m []
nth_on text at line k to m n e f =
    by_test
    (ltb at (length text))
    (λ q. rw e (nth_next text at line k m n (ltb-true at (length text) q) f))
    (λ q. let past : length text ≤ at = ltb-false at (length text) q in nth_past text to n (omega arith) ∙ sym (nth_past text at m past))

-- line m of the reasons, where m is n or else the last
pub reason_is : (r : List ℕ) (m n : ℕ) → m ≡ min n 25 → r ≡ get_or (map bytes reasons) m [] → r ≡ bytes (get_or reasons (min n 25) "")
unfolding bytes
reason_is r m n e h = rw e at h ∙ get_d_map_in bytes reasons (min n 25) [] "" (omega arith)
