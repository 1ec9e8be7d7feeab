-- Lines and what they say, by computation: one test over the table, every name with the least arguments that it takes, with the most, and with one too many,
-- and every name with a filler in front.
-- Assumes nothing.
use Rattle.std.specs.Prelude.{◌≡◌, refl, Bool, true, false, ◌&&◌, List, [], ◌∷◌, ◌++◌, ℕ, ◌+◌, ◌-◌, ◌/◌, ◌%◌, eqb, get_or, replicate}
use Prim.Native.String.{String}
use Rattle.lists.specs.Lists.{pick, any_of, every, joined, from, up_to, equal}
use Rattle.script.specs.declared.Line.{Line}
use Rattle.script.specs.Script.{bytes, blank, in_word, tokens, value, last_call, names, word_names, least, most, fillers, placed, named, call_of, takes, allowed, zeros, line, bad, given, called, acting, said, scanned, mark, unmarked, fitting, heard}

-- a line, its stage, and the call, the filler and the arguments that it says
record Row : Type 0 where
  text : List ℕ
  stage : ℕ
  call : ℕ
  filler : ℕ
  args : List ℕ

alike : Line → Line → Bool
alike a b = eqb a.call b.call && eqb a.filler b.filler && eqb a.count b.count && equal eqb a.args b.args

right : Row → Bool
right r = alike (scanned r.stage r.text) (line r.call r.filler r.args)

says : String → ℕ → List ℕ → Row
says t n vs = record { text = bytes t; stage = 2; call = n; filler = 0; args = vs }

-- a line before the store is made
opens : String → ℕ → List ℕ → Row
opens t n vs = record { text = bytes t; stage = 0; call = n; filler = 0; args = vs }

-- a line after a `pages` that make refused
retries : String → ℕ → List ℕ → Row
retries t n vs = record { text = bytes t; stage = 1; call = n; filler = 0; args = vs }

-- a line that names the filler f
acts : String → ℕ → ℕ → List ℕ → Row
acts t f n vs = record { text = bytes t; stage = 2; call = n; filler = f; args = vs }

-- call n by its name, with k arguments, each of them 7
sevens : ℕ → ℕ → List ℕ
sevens n k = get_or ([] ∷ names) n [] ++ joined (λ i. bytes " 7") (up_to k)

table : List Row
table =
    says "" 0 [] ∷ says " \t# push 2" 0 [] ∷ opens "# pages 2" 0 []
    ∷ opens "pages 2" 1 (2 ∷ []) ∷ opens "pages 257" 1 (257 ∷ []) ∷ opens "pages 258" 255 [] ∷ opens "pages" 255 [] ∷ says "pages 2" 255 []
    ∷ opens "push 2" 255 [] ∷ says "push 2" 5 (2 ∷ []) ∷ says "push" 255 [] ∷ says "push 2 2" 255 [] ∷ says "pushed 2" 255 [] ∷ says "push 2x" 255 []
    ∷ says "set_pointer 0 0 1" 14 (0 ∷ 0 ∷ 1 ∷ []) ∷ says "14 0 0 1" 14 (0 ∷ 0 ∷ 1 ∷ []) ∷ says "\tset_pointer  0\t0 01#back\r" 14 (0 ∷ 0 ∷ 1 ∷ [])
    ∷ says "put 0 1 4294967295" 15 (0 ∷ 1 ∷ 4294967295 ∷ []) ∷ says "put 0 1 4294967296" 255 [] ∷ says "put 0 1 42949672950" 255 []
    ∷ says "1 2" 255 [] ∷ says "23 2" 23 (2 ∷ []) ∷ says "declare" 2 [] ∷ says "declare 1 0" 2 (1 ∷ 0 ∷ [])
    ∷ says "delete_all 3 4 5" 24 (3 ∷ 4 ∷ 5 ∷ []) ∷ says "24 2" 24 (2 ∷ []) ∷ says "delete_all" 24 [] ∷ says "delete_all 3 x" 255 []
    ∷ says "locate 0" 25 (0 ∷ []) ∷ says "25 3" 25 (3 ∷ []) ∷ says "locate" 255 [] ∷ says "locate 0 1" 255 []
    ∷ record { text = sevens 2 64; stage = 2; call = 2; filler = 0; args = replicate 64 7 } ∷ record { text = sevens 2 65; stage = 2; call = 255; filler = 0; args = [] }
    ∷ acts "as 2 set_pointer 0 0 1" 2 14 (0 ∷ 0 ∷ 1 ∷ []) ∷ acts "as 2 14 0 0 1" 2 14 (0 ∷ 0 ∷ 1 ∷ []) ∷ acts "as 3 drop" 3 6 [] ∷ says "drop" 6 []
    ∷ acts "as 4294967295 drop" 4294967295 6 [] ∷ says "as 4294967296 drop" 255 [] ∷ says "as x drop" 255 [] ∷ says "as 1x drop" 255 []
    ∷ says "as 1 push 1" 255 [] ∷ says "as drop" 255 [] ∷ says "as" 255 [] ∷ says "as 1" 255 [] ∷ says "as 1 # drop" 255 [] ∷ says "as 1 as 2 drop" 255 []
    ∷ acts "as 1 delete_all 3 4" 1 24 (3 ∷ 4 ∷ []) ∷ acts "as 3 24" 3 24 [] ∷ acts "\tas 003  hand_back 1 2\r" 3 7 (1 ∷ 2 ∷ []) ∷ acts "as 0 delete 5 # x" 0 23 (5 ∷ [])
    ∷ says "as 1 drop 1" 255 [] ∷ says "as 1 delete" 255 [] ∷ opens "as 1 drop" 255 [] ∷ says "as 1 pages 3" 255 [] ∷ opens "as 1 pages 3" 255 []
    ∷ retries "pages 3" 1 (3 ∷ []) ∷ retries "pages 258" 255 [] ∷ retries "push 2" 5 (2 ∷ []) ∷ retries "as 1 drop 1" 255 []
    ∷ opens "summary" 252 [] ∷ retries "summary # so far" 252 [] ∷ says "summary" 252 [] ∷ says "summary 1" 255 [] ∷ opens "help" 253 [] ∷ says "help" 253 [] ∷ says "help push" 255 []
    ∷ opens "why 19" 254 (19 ∷ []) ∷ says "why 4294967295" 254 (4294967295 ∷ []) ∷ says "why 4294967296" 255 [] ∷ says "why" 255 [] ∷ says "why not" 255 [] ∷ says "why 1 2" 255 []
    ∷ says "as 1 summary" 255 [] ∷ says "as 1 why 2" 255 [] ∷ says "252" 255 [] ∷ says "254 1" 255 [] ∷ says "255" 255 [] ∷ says "Summary" 255 []
    ∷ says "1 drop" 255 [] ∷ says "drop as 1" 255 [] ∷ says "asdrop" 255 [] ∷ says "As 1 drop" 255 [] ∷ []

all_right : every right table ≡ true
unfolding right table alike says opens retries acts sevens bytes blank in_word tokens value names word_names least most fillers placed named call_of takes allowed zeros line bad given called acting said scanned
all_right = refl

-- call n by its name with k arguments
by_name : ℕ → ℕ → Row
by_name n k = record { text = sevens n k; stage = 2; call = n; filler = 0; args = replicate k 7 }

too_many : ℕ → Row
too_many n = record { text = sevens n (most n + 1); stage = 2; call = 255; filler = 0; args = [] }

-- each call with the least and the most number of arguments that it takes, and with one more
names_right : every (λ n. right (by_name n (least n)) && right (by_name n (most n)) && right (too_many n)) (from 2 (last_call - 1)) ≡ true
unfolding right by_name too_many sevens alike bytes blank in_word tokens value names word_names least most fillers placed named call_of takes allowed zeros line bad given called acting said scanned
names_right = refl

-- a number of two digits
digits : ℕ → List ℕ
digits n = (48 + n / 10) ∷ (48 + n % 10) ∷ []

-- the last call by its number, and the number after it, which is no call's
last_right :
    let k = least last_call in
    right record { text = digits last_call ++ joined (λ i. bytes " 7") (up_to k); stage = 2; call = last_call; filler = 0; args = replicate k 7 }
    && right record { text = digits (last_call + 1); stage = 2; call = 255; filler = 0; args = [] } ≡ true
unfolding right digits alike bytes blank in_word tokens value names word_names least most fillers placed named call_of takes allowed zeros line bad given called acting said scanned
last_right = refl

-- the calls that name a filler
of_fillers : List ℕ
of_fillers = 6 ∷ 7 ∷ 14 ∷ 23 ∷ 24 ∷ []

-- call n by its name with the least number of arguments, and a filler named in front
as_seven : ℕ → Row
as_seven n =
    let text = bytes "as 7 " ++ sevens n (least n) in
    pick (any_of (eqb n) of_fillers)
    record { text = text; stage = 2; call = n; filler = 7; args = replicate (least n) 7 }
    record { text = text; stage = 2; call = 255; filler = 0; args = [] }

fillers_right : every (λ n. right (as_seven n)) (from 1 last_call) ≡ true
unfolding right as_seven of_fillers sevens alike bytes blank in_word tokens value names word_names least most fillers placed named call_of takes allowed zeros line bad given called acting said scanned
fillers_right = refl

-- ---- a byte order mark, and lines that are too long

-- a line as a script has it, the first or another one
hears : Bool → List ℕ → ℕ → List ℕ → Bool
hears first l n vs = alike (heard 2 first l) (line n 0 vs)

-- `drop`, a comment and so many bytes more
padded : ℕ → List ℕ
padded n = bytes "drop#" ++ replicate n 65

heard_right :
    every (λ t. t)
    (
    hears true (mark ++ bytes "push 2") 5 (2 ∷ [])
    ∷ hears false (mark ++ bytes "push 2") 255 []
    ∷ hears true (mark ++ mark ++ bytes "push 2") 255 []
    ∷ hears true mark 0 []
    ∷ hears true (239 ∷ 187 ∷ []) 255 []
    ∷ hears true (239 ∷ 187 ∷ 32 ∷ []) 255 []
    ∷ hears false (padded 4091) 6 []
    ∷ hears false (padded 4092) 255 []
    ∷ hears true (mark ++ padded 4091) 6 []
    ∷ hears true (mark ++ padded 4092) 255 []
    ∷ hears false (replicate 4096 32) 0 []
    ∷ hears false (replicate 4097 32) 255 []
    ∷ []
    ) ≡ true
unfolding hears padded alike bytes blank in_word tokens value names word_names least most fillers placed named call_of takes allowed zeros line bad given called acting said scanned unmarked fitting heard
heard_right = refl
