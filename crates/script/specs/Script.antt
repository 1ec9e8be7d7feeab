-- What a line of a script says. A line is a list of bytes, 4,096 at most; the first one may have a byte order mark in front. Its words are a call's name, or its number (document 01, The calls; from 24 on those of
-- document 02's cards), and the arguments in the documents' order, written in decimal. In front may stand `as F`, which names the filler F (document 02, card 5). Three words are no calls: summary, help and why.
-- Assumes nothing.
use Rattle.std.specs.Prelude.{Bool, not, ◌&&◌, ◌||◌, List, [], ◌∷◌, ◌++◌, map, ℕ, suc, ◌+◌, ◌-◌, ◌*◌, min, eqb, ltb, leb, length, get_or, take, drop, replicate}
use Prim.Native.Char.{code}
use Prim.Native.String.{String, [] as []ᵗ, ◌∷◌ as ◌∷ᵗ◌}
use Rattle.std.proofs.lemmas.List.Edits.{sets}
use Rattle.lists.specs.Lists.{pick, every, equal}
use Rattle.script.specs.declared.Line.{Line}

-- the bytes of a text
unfoldable pub bytes : String → List ℕ
bytes []ᵗ = []
bytes (c ∷ᵗ s) = code c ∷ bytes s

-- ---- words

-- a space, a tab or a carriage return separates words; `#` starts a comment
unfoldable pub blank : ℕ → Bool
blank b = eqb b 32 || eqb b 9 || eqb b 13

unfoldable pub in_word : ℕ → Bool
in_word b = not (eqb b 35 || blank b)

-- a byte put in front of the first word
abbrev pub grown : ℕ → List (List ℕ) → List (List ℕ)
grown b [] = (b ∷ []) ∷ []
grown b (w ∷ ws) = (b ∷ w) ∷ ws

-- the words of a line, up to a comment: a byte that is no blank joins the word that the next byte begins, or is a word by itself
unfoldable pub tokens : List ℕ → List (List ℕ)
tokens [] = []
tokens (b ∷ l) =
    let ws = tokens l in
    pick (eqb b 35) [] (pick (blank b) ws (pick (in_word (get_or l 0 32)) (grown b ws) ((b ∷ []) ∷ ws)))

-- the bytes in front that pass a test, up to the first that does not
abbrev pub front : (ℕ → Bool) → List ℕ → List ℕ
front f [] = []
front f (b ∷ l) = let k = front f l in pick (f b) (b ∷ k) []

-- the classes of bytes that the scanner tells apart: blanks, bytes of a word, bytes of a line
unfoldable pub of_class : ℕ → ℕ → Bool
of_class c b = pick (eqb c 2) (not (eqb b 10)) (pick (eqb c 0) (blank b) (in_word b))

-- ---- numbers

abbrev pub digit : ℕ → Bool
digit b = leb 48 b && leb b 57

-- the number v with more digits after it
abbrev pub decimal : ℕ → List ℕ → ℕ
decimal v [] = v
decimal v (b ∷ l) = decimal (v * 10 + (b - 48)) l

-- what a word counts for: the number that it writes, or 2^32 where it writes none below that
abbrev pub no_number : ℕ
no_number = 4294967296

unfoldable pub value : List ℕ → ℕ
value w = pick (ltb 0 (length w) && every digit w) (min (decimal 0 w) no_number) no_number

abbrev pub known : ℕ → Bool
known v = ltb v no_number

-- ---- calls

-- The calls in the order of document 01's numbers, with `pages` in the place of make, and then those of document 02's cards: the name, the least and the
-- most number of arguments (declare's are its marks and delete_all's its names, 64 at most on a line), 1 where a filler may be named in front, 0 elsewhere
-- (document 02, card 5), and what help calls the arguments. A call added later is a row at the end.
abbrev pub calls : List (String × ℕ × ℕ × ℕ × String)
calls =
    ("pages", 1, 1, 0, "PAGES") ∷ ("declare", 0, 64, 0, "MARK ..") ∷ ("new_region", 0, 0, 0, "") ∷ ("subregion", 1, 1, 0, "REGION") ∷ ("push", 1, 1, 0, "SLOTS")
    ∷ ("drop", 0, 0, 1, "") ∷ ("hand_back", 2, 2, 1, "SLOT BENEATH") ∷ ("allocate", 3, 3, 0, "SLOT REGION KIND") ∷ ("first", 2, 2, 0, "SLOT REGION") ∷ ("copy", 2, 2, 0, "FROM TO")
    ∷ ("fetch", 2, 2, 0, "BENEATH SLOT") ∷ ("clear", 1, 1, 0, "SLOT") ∷ ("load", 3, 3, 0, "OBJECT WORD TO") ∷ ("set_pointer", 3, 3, 1, "OBJECT WORD VALUE")
    ∷ ("put", 3, 3, 0, "OBJECT WORD NUMBER") ∷ ("get", 2, 2, 0, "OBJECT WORD") ∷ ("view", 1, 1, 0, "OBJECT") ∷ ("same", 2, 2, 0, "SLOT SLOT") ∷ ("about", 1, 1, 0, "SLOT")
    ∷ ("report", 1, 1, 0, "REGION") ∷ ("totals", 0, 0, 0, "") ∷ ("audit", 0, 0, 0, "") ∷ ("delete", 1, 1, 1, "REGION") ∷ ("delete_all", 0, 64, 1, "REGION ..")
    ∷ ("locate", 1, 1, 0, "SLOT") ∷ []

-- the words that are no calls, with the same columns
abbrev pub words : List (String × ℕ × ℕ × ℕ × String)
words = ("summary", 0, 0, 0, "") ∷ ("help", 0, 0, 0, "") ∷ ("why", 1, 1, 0, "REFUSAL") ∷ []

-- calls and words together, as help has them
abbrev pub rows : List (String × ℕ × ℕ × ℕ × String)
rows = calls ++ words

-- the number of the last call; the first after `pages` is 2
abbrev pub last_call : ℕ
last_call = length calls

-- The numbers of the words, in their order, and the mark of a line that is none of all these: the last four of a byte, which no call will have.
abbrev pub first_word : ℕ
first_word = 252

abbrev pub summary_word : ℕ
summary_word = first_word

abbrev pub help_word : ℕ
help_word = first_word + 1

abbrev pub why_word : ℕ
why_word = first_word + 2

abbrev pub no_call : ℕ
no_call = 255

unfoldable pub names : List (List ℕ)
names = map (λ c. bytes c.0) calls

unfoldable pub word_names : List (List ℕ)
word_names = map (λ c. bytes c.0) words

-- a column of both tables, by number: the calls count from 1, the words from 252, and every other number has 0
abbrev pub column : (String × ℕ × ℕ × ℕ × String → ℕ) → ℕ → ℕ
column f n = pick (ltb n first_word) (get_or (0 ∷ map f calls) n 0) (get_or (map f words) (n - first_word) 0)

unfoldable pub least : ℕ → ℕ
least n = column (λ c. c.1) n

unfoldable pub most : ℕ → ℕ
most n = column (λ c. c.2) n

-- by a call's number, 0 for none; no filler may be named in front of a word
unfoldable pub fillers : List ℕ
fillers = 0 ∷ map (λ c. c.3) calls

-- the place of a word in a list, counted from n on, or 0
unfoldable pub placed : ℕ → List ℕ → List (List ℕ) → ℕ
placed n w [] = 0
placed n w (v ∷ vs) = pick (equal eqb w v) n (placed (suc n) w vs)

-- the number of the call, or of the word that is no call, with that name; 1 for `pages`, 0 for none
unfoldable pub named : List ℕ → ℕ
named w = let n = placed 1 w names in pick (eqb n 0) (placed first_word w word_names) n

-- the number of the call that a word names or numbers, or of a word that is no call
unfoldable pub call_of : List ℕ → ℕ
call_of w = pick (leb 2 (value w) && leb (value w) last_call) (value w) (named w)

-- call n takes k arguments
unfoldable pub takes : ℕ → ℕ → Bool
takes n k = leb (least n) k && leb k (most n)

-- Call n may stand here with k arguments, a the first of them. The stage is 0 where no `pages` line came, 1 where make refused the last one, and 2 where a
-- store is made: `pages` with 257 at most while none is made, any other call after a `pages` line; a word that is no call anywhere.
unfoldable pub allowed : ℕ → ℕ → ℕ → ℕ → Bool
allowed stage n k a = not (eqb n 0) && takes n k && pick (eqb n 1) (ltb stage 2 && leb a 257) (leb first_word n || ltb 0 stage)

-- ---- lines

unfoldable pub zeros : List ℕ
zeros = replicate 64 0

-- call n for filler f with the arguments vs, as a Line holds them
unfoldable pub line : ℕ → ℕ → List ℕ → Line
line n f vs = record { call = n; filler = f; count = length vs; args = sets zeros 0 vs }

-- a bad line
unfoldable pub bad : Line
bad = line no_call 0 []

-- the arguments have to be numbers, and no more than 64
unfoldable pub given : ℕ → ℕ → List ℕ → Line
given n f vs = pick (every known vs && leb (length vs) 64) (line n f vs) bad

-- the call that the word w names, for filler f, with the words ws as its arguments
unfoldable pub called : ℕ → ℕ → List ℕ → List (List ℕ) → Line
called stage f w ws =
    let vs = map value ws in
    pick (allowed stage (call_of w) (length vs) (get_or vs 0 0)) (given (call_of w) f vs) bad

-- What the words after `as` say: a filler, which is any number below 2^32, and then a call that names one (document 02, card 5). A word that is not there names no call.
unfoldable pub acting : ℕ → List (List ℕ) → Line
acting stage [] = bad
acting stage (w ∷ ws) =
    let c = get_or ws 0 [] in
    pick (known (value w) && eqb (get_or fillers (call_of c) 0) 1) (called stage (value w) c (drop 1 ws)) bad

-- what the words of a line say: the filler is 0 where none is named (document 02, card 5)
unfoldable pub said : ℕ → List (List ℕ) → Line
said stage [] = line 0 0 []
said stage (w ∷ ws) = pick (equal eqb w (bytes "as")) (acting stage ws) (called stage 0 w ws)

unfoldable pub scanned : ℕ → List ℕ → Line
scanned stage l = said stage (tokens l)

-- the byte order mark that some editors put in front of a text, and a line without it
abbrev pub mark : List ℕ
mark = 239 ∷ 187 ∷ 191 ∷ []

unfoldable pub unmarked : List ℕ → List ℕ
unmarked l = pick (equal eqb (take 3 l) mark) (drop 3 l) l

-- how many bytes a line may have, its comment among them, its newline not
abbrev pub longest_line : ℕ
longest_line = 4096

-- a line, the mark skipped: a bad one where it is too long
unfoldable pub fitting : ℕ → List ℕ → Line
fitting stage l = pick (leb (length l) longest_line) (scanned stage l) bad

-- what a line of a script says, the first one or another
unfoldable pub heard : ℕ → Bool → List ℕ → Line
heard stage first l = fitting stage (pick first (unmarked l) l)
