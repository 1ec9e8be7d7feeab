-- No answer is longer than 1,024 bytes, and no line says less by what is kept of it.
-- Assumes nothing.
use Rattle.std.specs.Prelude.{◌≡◌, ℕ, ◌+◌, ◌≤◌, Bool, true, false, List, [], length, take, drop, ◌==◌, nat_eq, nat_le}
use Rattle.std.proofs.Common.{sym, ap, ◌∙◌, arith, length-take, length-drop, take_all, leb-true, leb-false}
use Rattle.std.proofs.lemmas.Bool.{lt-leb}
use Rattle.lists.specs.Lists.{pick, equal}
use Rattle.lists.specs.Laws.Tests.{by_test}
use Rattle.state.specs.declared.Reply.{Reply}
use Rattle.script.specs.Script.{summary_word, help_word, why_word, no_call, bad, mark, unmarked, longest_line, fitting, heard}
use Rattle.lines.specs.Lines.{line_of, bad_of, summary_of}
use Rattle.lines.specs.Laws.Lengths.{line_length, bad_length_lem, summary_length}
use Rattle.guide.specs.Guide.{help, why_of}
use Rattle.guide.specs.Laws.Lengths.{help_length, why_length}
use Rattle.tally.specs.declared.Tally.{Tally}
use Rattle.tally.specs.Answers.{kept, more, call_count, answer}

either_short : (t : Bool) (x y : List ℕ) → length x ≤ 1024 → length y ≤ 1024 → length (pick t x y) ≤ 1024
either_short true x y h k = h
either_short false x y h k = k

pub answer_length : (c : Tally) (n a : ℕ) (r : Reply) → length (answer c n a r) ≤ 1024
unfolding answer
answer_length c n a r =
    let p = more (call_count c) true in
    let k = more c.lines true in
    either_short (n == 0) [] _ (omega arith)
    (either_short (n == no_call) (bad_of k) _ (omega (arith, bad_length_lem k))
    (either_short (n == summary_word) (summary_of (call_count c) c.accepted c.refused c.bad) _ (omega (arith, summary_length (call_count c) c.accepted c.refused c.bad))
    (either_short (n == help_word) help _ help_length
    (either_short (n == why_word) (why_of a) (line_of p r) (omega (arith, why_length a)) (omega (arith, line_length p r))))))

-- ---- long lines

unmarked_length : (l : List ℕ) → length l ≤ length (unmarked l) + 3
unfolding unmarked
unmarked_length l = go (equal nat_eq (take 3 l) mark)
  where
    go : (t : Bool) → length l ≤ length (pick t (drop 3 l) l) + 3
    go true = omega (arith, length-drop 3 l)
    go false = omega arith

heard_long : (stage : ℕ) (first : Bool) (l : List ℕ) → 4100 ≤ length l → heard stage first l ≡ bad
unfolding heard fitting
heard_long stage true l h = rw (lt-leb (length (unmarked l)) longest_line (omega (arith, h, unmarked_length l)))
heard_long stage false l h = rw (lt-leb (length l) longest_line (omega (arith, h)))

pub heard_kept : (stage : ℕ) (first : Bool) (l : List ℕ) → heard stage first (kept l) ≡ heard stage first l
heard_kept stage first l =
    by_test (nat_le (length l) 4100)
    (λ q. ap (heard stage first) (take_all 4100 l (leb-true (length l) 4100 q)))
    (λ q.
    let h = leb-false (length l) 4100 q in
    heard_long stage first (kept l) (omega (arith, h, length-take 4100 l)) ∙ sym (heard_long stage first l (omega (arith, h))))
