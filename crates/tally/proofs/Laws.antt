-- From what the functions gave to what is kept of a line and what is printed for it.
-- Assumes nothing.
use Rattle.std.proofs.Common.{◌≡◌, refl, ℕ, ◌+◌, ◌-◌, ◌≤◌, min, List, [], ◌++◌, length, take, sym, ap, ◌∙◌, append-nil, arith, length-take, length-take-le}
use lib.Seq.{take-append-add}
use Rattle.lines.specs.declared.Buffer.{Buffer}
use Rattle.lines.specs.Lines.{Added, Appends}
use Rattle.lists.specs.Laws.Parts.{front_same}
use Rattle.tally.specs.Answers.{kept}

-- ---- answers

pub appends_none : (b : Buffer) → Appends b [] b
appends_none b = record { added = record { end = λ h. omega arith; text = λ h. sym (append-nil (take b.used b.bytes.now)) }; as_long = refl; same_reference = refl }

-- ---- what is kept of a line

kept_more : (n : ℕ) (x y : List ℕ) → length x ≤ n → take n (x ++ y) ≡ x ++ take (n - length x) y
kept_more n x y h = let e : n ≡ length x + (n - length x) = omega arith in ap (λ k. take k (x ++ y)) e ∙ take-append-add x y (n - length x)

-- from, n and r are what functions gave: how many bytes are kept, how many of s find room, and how many are kept then
pub keeps : (line m s : List ℕ) (held from n r : ℕ) → length line ≡ 4100 → from ≡ min held 4100 → n ≡ min (length s) (4100 - from) → Added line from (take n s) m r
    → (r ≤ 4100) × (take r m ≡ kept (take held line ++ s))
keeps line m s held from n r h ef en a =
    let ls : length (take n s) ≡ n = length-take-le n s (omega (arith, en)) in
    let lk : length (take held line) ≡ from = length-take held line ∙ ap (min held) h ∙ sym ef in
    let fits : from + length (take n s) ≤ length line = omega (arith, ls, h, ef, en) in
    let cut : take from line ≡ take held line = front_same held line from (ef ∙ ap (min held) (sym h)) in
    let cut_s : take n s ≡ take (4100 - from) s = front_same (4100 - from) s n (omega (arith, en)) in (
      omega (arith, a.end fits, ls, ef, en),
      a.text fits ∙ rw (cut, cut_s) (sym (kept_more 4100 (take held line) s (omega (arith, lk, ef)) ∙ ap (λ k. take held line ++ take (4100 - k) s) lk)),
    )
