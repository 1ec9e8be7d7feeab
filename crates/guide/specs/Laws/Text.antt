-- A text line by line.
-- Assumes nothing.
use Rattle.std.specs.Prelude.{◌≡◌, refl, Bool, true, false, not, List, [], ◌∷◌, ℕ, suc, ◌+◌, ◌<◌, ◌≤◌, eqb, length, drop}
use Rattle.std.proofs.Common.{sym, ap, ◌∙◌, arith, drop_of_length-le, length-drop, drop-drop}
use Rattle.lists.specs.Lists.{pick}
use Rattle.script.specs.Script.{front, of_class, grown}
use Rattle.script.specs.Found.{LineAt}
use Rattle.guide.specs.Text.{lines_of}

abbrev first_line : List ℕ → List ℕ
first_line l = front (of_class 2) l

-- one line, and more than one
one_line : (b : ℕ) (x : Bool) → pick x ([] ∷ []) (grown b []) ≡ pick (not x) (b ∷ []) [] ∷ lines_of (drop (length (pick (not x) (b ∷ []) []) + 1) (b ∷ []))
unfolding lines_of
one_line b true = refl
one_line b false = refl

more_lines : (b : ℕ) (l : List ℕ) (x : Bool) → lines_of l ≡ first_line l ∷ lines_of (drop (length (first_line l) + 1) l)
    → pick x ([] ∷ lines_of l) (grown b (lines_of l)) ≡ pick (not x) (b ∷ first_line l) [] ∷ lines_of (drop (length (pick (not x) (b ∷ first_line l) []) + 1) (b ∷ l))
more_lines b l true e = refl
more_lines b l false e =
    let n = length (first_line l) in
    let m : suc n + 1 ≡ suc (n + 1) = omega arith in
    ap (grown b) e ∙ ap (λ k. (b ∷ first_line l) ∷ lines_of (drop k (b ∷ l))) (sym m)

-- the first line of a text, and the rest
pub lines_next : (l : List ℕ) → 0 < length l → lines_of l ≡ front (of_class 2) l ∷ lines_of (drop (length (front (of_class 2) l) + 1) l)
unfolding lines_of of_class
lines_next [] h = absurd (omega arith)
lines_next (b ∷ []) h = one_line b (eqb b 10)
lines_next (b ∷ d ∷ l) h = more_lines b (d ∷ l) (eqb b 10) (lines_next (d ∷ l) (omega arith))

-- a text from `at` on: the line there, and the rest
pub lines_at : (text : List ℕ) (at : ℕ) (line : List ℕ) → at < length text → LineAt text at line
    → lines_of (drop at text) ≡ line ∷ lines_of (drop (at + length line + 1) text)
lines_at text at line h k =
    let l = drop at text in
    let e : at + (length line + 1) ≡ at + length line + 1 = omega arith in
    lines_next l (omega (arith, length-drop at text))
    ∙ ap (λ t. t ∷ lines_of (drop (length t + 1) l)) (sym k.is)
    ∙ ap (λ r. line ∷ lines_of r) (drop-drop (length line + 1) at text ∙ ap (λ n. drop n text) e)

pub lines_end : (text : List ℕ) (at : ℕ) → length text ≤ at → lines_of (drop at text) ≡ []
unfolding lines_of
lines_end text at h = rw (drop_of_length-le text {i = at} h)
