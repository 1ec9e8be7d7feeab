-- What is kept of a line of a script, what is counted after it, and what is printed for it.
-- Assumes nothing.
use Rattle.std.specs.Prelude.{ℕ, ◌+◌, ◌%◌, Bool, true, false, not, ◌&&◌, List, [], take, ◌==◌, nat_le}
use Rattle.lists.specs.Lists.{pick}
use Rattle.state.specs.declared.Reply.{Reply}
use Rattle.script.specs.Script.{last_call, summary_word, help_word, why_word, no_call}
use Rattle.lines.specs.Lines.{line_of, bad_of, summary_of}
use Rattle.guide.specs.Guide.{help, why_of}
use Rattle.tally.specs.declared.Tally.{Tally}

-- ---- lines

-- the bytes that are kept of a line that has not ended: 4,096, a byte order mark of 3 and one more, enough to see that it is too long (`heard_kept`: no line says less by it)
abbrev pub kept : List ℕ → List ℕ
kept l = take 4100 l

-- ---- counting, with 64 bits

abbrev pub wrapped : ℕ → ℕ
wrapped n = n % 18446744073709551616

-- one more where t
abbrev pub more : ℕ → Bool → ℕ
more n t = pick t (wrapped (n + 1)) n

-- the calls so far, make among them
abbrev pub call_count : Tally → ℕ
call_count c = wrapped (c.accepted + c.refused)

-- the line is a call, `pages` among them
unfoldable pub is_called : ℕ → Bool
is_called n = nat_le 1 n && nat_le n last_call

-- what is counted after a line that says n, where a call was answered by the refusal f
unfoldable pub tallied : Tally → ℕ → ℕ → Tally
tallied c n f = record {
  first = false;
  stage = pick (n == 1) (pick (f == 0) 2 1) c.stage;
  lines = more c.lines true;
  accepted = more c.accepted (is_called n && f == 0);
  refused = more c.refused (is_called n && not (f == 0));
  bad = more c.bad (n == no_call);
}

-- ---- answers

-- what is printed for a line that says n, its first argument a: nothing for an empty line, `? K` for a bad one, what the words that are no calls ask for, and a call's line with its place
unfoldable pub answer : Tally → ℕ → ℕ → Reply → List ℕ
answer c n a r =
    pick (n == 0) []
    (pick (n == no_call) (bad_of (more c.lines true))
    (pick (n == summary_word) (summary_of (call_count c) c.accepted c.refused c.bad) (pick (n == help_word) help (pick (n == why_word) (why_of a) (line_of (more (call_count c) true) r)))))
