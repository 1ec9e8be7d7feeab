-- The lines, the calls and the answers of small scripts, computed.
-- Assumes nothing.
use Rattle.std.specs.Prelude.{◌≡◌, refl, true, false, List, [], ◌∷◌, ◌++◌, ℕ, replicate}
use Prim.Native.String.{String}
use Rattle.lists.specs.Lists.{joined}
use Rattle.model.specs.Model.{declare, push, drop_frame, hand_back, set_pointer, delete, delete_all, totals, gives, refused_by}
use Rattle.pages.specs.Pages.{wrong_length, wrong_length_in, pages_of, pages_in}
use Rattle.regions.specs.Regions.{live_count, live_in}
use Rattle.state.specs.declared.Reply.{Reply}
use Rattle.frames.specs.Frames.{pushed}
use Rattle.outcomes.specs.Store.{Store, frames}
use Rattle.outcomes.specs.Outcome.{with_frames, Outcome, Accepted, MakeOutcome, bad_length, checks, refusal, store, blank}
use Rattle.dispatch.specs.Dispatch.{last_call as last_number, decoded}
use Rattle.script.specs.Script.{bytes, blank as is_blank, in_word, tokens, value, last_call, names, word_names, least, most, fillers, placed, named, call_of, takes, allowed, zeros, line, bad, given, called, acting, said, scanned, mark, unmarked, fitting, heard}
use Rattle.lines.specs.Lines.{numeral, decimal, column, line_of, bad_of, summary_of}
use Rattle.guide.specs.Guide.{help, why_of}
use Rattle.numbers.specs.Numbers.{filler_place}
use Rattle.actions.specs.Acts.{calls_of, printed, Replied, Called, Makes, Acts}
use Rattle.tally.specs.Answers.{more, is_called, tallied, answer}
use Rattle.feed.specs.Scripted.{ended, left, Scripted, start, scripted, Prints}

-- ---- lines

-- a newline ends a line, and what follows the last one is kept
newlines : (ended [] [] ≡ []) × (ended [] (10 ∷ []) ≡ [] ∷ []) × (ended [] (97 ∷ 10 ∷ 10 ∷ 98 ∷ []) ≡ (97 ∷ []) ∷ [] ∷ []) × (left [] (97 ∷ 10 ∷ 10 ∷ 98 ∷ []) ≡ 98 ∷ [])
unfolding ended left
newlines = (refl, refl, refl, refl)

-- what was kept is the front of the first line
goes_on : (ended (bytes "pu") (bytes "sh 1" ++ (10 ∷ bytes "dr")) ≡ bytes "push 1" ∷ []) × (left (bytes "pu") (bytes "sh 1" ++ (10 ∷ bytes "dr")) ≡ bytes "dr")
unfolding ended left bytes
goes_on = (refl, refl)

-- of a long line 4,100 bytes are kept, and the rest is skipped up to its newline
long : (left (replicate 4099 65) (bytes "AAA") ≡ replicate 4100 65) × (ended (replicate 4099 65) (bytes "AAA" ++ (10 ∷ bytes "drop") ++ (10 ∷ [])) ≡ replicate 4100 65 ∷ bytes "drop" ∷ [])
unfolding ended left bytes
long = (refl, refl)

-- ---- calls

lines : List String → List (List ℕ)
lines ts = joined (λ t. bytes t ∷ []) ts

-- a call by name, a line that is no call, a comment, `pages` again, a call by number, a word that is no call
calls : scripted (lines ("push 1" ∷ "pull 1" ∷ "# push 1" ∷ "pages 1" ∷ "14 0 0 1" ∷ "summary" ∷ [])) ≡ push 1 ∷ set_pointer 0 0 1 0 ∷ []
unfolding lines scripted calls_of decoded bytes is_blank in_word tokens value names word_names least most fillers placed named call_of takes allowed zeros line bad given called acting said scanned unmarked fitting heard filler_place
calls = refl

-- a call that takes a list has all the arguments of its line, and may have none
lists : scripted (lines ("declare 1 0" ∷ "delete_all 3 4 5" ∷ "delete_all" ∷ [])) ≡ declare (1 ∷ 0 ∷ []) ∷ delete_all (3 ∷ 4 ∷ 5 ∷ []) 0 ∷ delete_all [] 0 ∷ []
unfolding lines scripted calls_of decoded bytes is_blank in_word tokens value names word_names least most fillers placed named call_of takes allowed zeros line bad given called acting said scanned unmarked fitting heard filler_place
lists = refl

-- a filler named in front goes where its call has it, also beside a list; without one it is 0, and a line with `as` in front of another call is none
acted : scripted (lines ("as 3 drop" ∷ "as 1 hand_back 4 5" ∷ "as 2 set_pointer 6 7 8" ∷ "as 4 23 9" ∷ "as 1 delete_all 3 2" ∷ "as 1 push 1" ∷ "drop" ∷ []))
    ≡ drop_frame 3 ∷ hand_back 4 5 1 ∷ set_pointer 6 7 8 2 ∷ delete 9 4 ∷ delete_all (3 ∷ 2 ∷ []) 1 ∷ drop_frame 0 ∷ []
unfolding lines scripted calls_of decoded bytes is_blank in_word tokens value names word_names least most fillers placed named call_of takes allowed zeros line bad given called acting said scanned unmarked fitting heard filler_place
acted = refl

-- the scanner's table ends at the last number that is dispatched
same_last : last_call ≡ last_number
same_last = refl

-- ---- a whole script

text : List String → List ℕ
text ts = joined (λ t. bytes t ++ (10 ∷ [])) ts

unmade : Store
unmade = store (blank 0 0) []

-- a store of one page, and with a frame of one slot
made : Store
made = store (blank 1 1) (replicate 64 0)

framed : Store
framed = with_frames made (pushed (frames made) 1)

reply : ℕ → ℕ → ℕ → Reply
reply n a b = record { refusal = n; a = a; b = b; c = 0; d = 0 }

-- A byte order mark, a call before `pages`, a `pages` that make refuses, a call after it, a word, an empty line, `pages` again, a frame, what is free, `pages` once more, a summary, and a line that has not ended.
session : Scripted start (mark ++ text ("push 1" ∷ "pages 0" ∷ "push 1" ∷ "why 0" ∷ "" ∷ "pages 1" ∷ "push 1" ∷ "totals" ∷ "pages 1" ∷ "summary" ∷ []) ++ bytes "dr")
    (text ("? 1" ∷ "1 1 0 0 0 0" ∷ "2 21 0 0 0 0" ∷ "# 0 accepted" ∷ "3 0 0 0 0 0" ∷ "4 0 1 0 0 0" ∷ "5 0 1 1 1 0" ∷ "? 9" ∷ "= 5 3 2 2" ∷ []))
    (record { begun = bytes "dr"; tally = record { first = false; stage = 2; lines = 10; accepted = 3; refused = 2; bad = 2 }; store = framed })
unfolding text unmade made framed reply start ended left Acts Called is_called tallied answer bytes is_blank in_word tokens value names word_names least most fillers placed named call_of takes allowed zeros line bad given called acting said scanned unmarked fitting heard filler_place numeral decimal column line_of bad_of summary_of why_of decoded Outcome Accepted MakeOutcome checks refusal bad_length wrong_length wrong_length_in blank pushed pages_of pages_in live_count live_in
session =
    let none : (S : Store) → (reply 24 0 0 ≡ printed 0 (refused_by 24)) × (S ≡ S) = λ S. (refl, refl) in
    let refuses : Makes 0 (reply 1 0 0) unmade = ([], refused_by 1, unmade, refl, (refl, refl), refl, refl) in
    let makes : Makes 1 (reply 0 0 0) made = (replicate 64 0, gives [], made, refl, (refl, refl), refl, refl) in
    let early : Replied 5 (push 1) unmade (reply 21 0 0) unmade = (refused_by 21, (refl, refl), refl) in
    let pushes : Replied 5 (push 1) made (reply 0 1 0) framed = (gives (1 ∷ []), (refl, refl), refl) in
    let sums : Replied 21 totals framed (record { refusal = 0; a = 1; b = 1; c = 1; d = 0 }) framed = (gives (1 ∷ 1 ∷ 1 ∷ 0 ∷ []), (refl, refl), refl) in
    record {
      turns = (_, _, _, _, (reply 24 0 0, none unmade, refl, refl), (_, _, _, _, (reply 1 0 0, refuses, refl, refl), (_, _, _, _, (reply 21 0 0, early, refl, refl), (_, _, _, _, (reply 24 0 0, none unmade, refl, refl), (_, _, _, _, (reply 24 0 0, none unmade, refl, refl), (_, _, _, _, (reply 0 0 0, makes, refl, refl), (_, _, _, _, (reply 0 1 0, pushes, refl, refl), (_, _, _, _, (_, sums, refl, refl), (_, _, _, _, (reply 24 0 0, none framed, refl, refl), (_, _, _, _, (reply 24 0 0, none framed, refl, refl), (refl, refl, refl), refl), refl), refl), refl), refl), refl), refl), refl), refl), refl);
      begun = refl;
    }

-- a whole script whose last line lacks its newline: after a mark, help, for which no call is counted
asks : Prints (mark ++ text ("help" ∷ []) ++ bytes "summary") (help ++ text ("= 0 0 0 0" ∷ []))
unfolding text unmade reply start ended left Acts Called is_called tallied answer bytes is_blank in_word tokens value names word_names least most fillers placed named call_of takes allowed zeros line bad given called acting said scanned unmarked fitting heard filler_place numeral decimal column summary_of decoded blank
asks =
    let none : (reply 24 0 0 ≡ printed 0 (refused_by 24)) × (unmade ≡ unmade) = (refl, refl) in
    (_, record { turns = (_, _, _, _, (reply 24 0 0, none, refl, refl), (_, _, _, _, (reply 24 0 0, none, refl, refl), (refl, refl, refl), refl), refl); begun = refl })

-- view's first value is the length of its part, another call's is its own; and counting goes on from 0 after 2^64 - 1
views : (printed 17 (record { refusal = 0; values = 0 ∷ 0 ∷ 0 ∷ 0 ∷ []; part = 7 ∷ 8 ∷ [] }) ≡ reply 0 2 0) × (printed 16 (gives (7 ∷ [])) ≡ reply 0 7 0) × (more 18446744073709551615 true ≡ 0)
unfolding reply
views = (refl, refl, refl)
