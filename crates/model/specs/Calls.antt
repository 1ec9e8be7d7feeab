-- The calls on the reference model: why each is refused, what it answers and what it leaves. It computes.
-- Assumes nothing.
use Rattle.std.specs.Prelude.{Bool, not, ◌&&◌, ◌||◌, List, [], ◌∷◌, ◌++◌, map, ℕ, zero, suc, ◌+◌, ◌-◌, ◌%◌, eqb, ltb, leb, length, get_or, set, take, replicate}
use Rattle.lists.specs.Lists.{bit, pick, any_of, every, keep, sum_of, joined, among, repeats}
use Rattle.model.specs.Model.{Call, declare, new_region, subregion, push, drop_frame, hand_back, allocate, first, copy, fetch, clear, load, set_pointer, put, get, view, same, about, report, totals, audit, delete, delete_all, Query, locate, ask}
use Rattle.model.specs.Model.{Region, Object, Model, Answer, four, gives, refused_by, called, region, marks, lives_in, home_in, parent_in, held_by, lowest_free, top_place, top, beneath, slot, in_slot, slot_marks, mark_at, in_frames, from_object, in_words, outside, stored, subregions, closed, outside_but, climb, allowed}

-- ---- Refusals (document 01, The calls). 21 is not among them: each call of a session gets the store's own heap

-- tests in order, each with the number that refuses; the first that holds decides, and 0 accepts
infix 68 ◌yields◌
abbrev pub ◌yields◌ : Bool → ℕ → Bool × ℕ
b yields n = (b, n)

abbrev pub reason : List (Bool × ℕ) → ℕ
reason [] = 0
reason (t ∷ ts) = pick t.0 t.1 (reason ts)

-- frame f has no slot s
abbrev pub lacks : List ℕ → ℕ → Bool
lacks f s = leb (length f) s

-- no frame stands; fewer than two stand
abbrev pub no_frame : Model → Bool
no_frame L = eqb (length L.frames) 0

abbrev pub one_frame : Model → Bool
one_frame L = ltb (length L.frames) 2

-- slot s is null; the object in it has no word w
abbrev pub null : Model → ℕ → Bool
null L s = eqb (slot L s) 0

abbrev pub no_word : Model → ℕ → ℕ → Bool
no_word L s w = leb (length (in_slot L s).words) w

-- no live region has the name r
abbrev pub dead : Model → ℕ → Bool
dead L r = not (lives_in L r)

-- the words that an object of kind k takes, its header too, and whether n words fit the newest page of g
abbrev pub size : Model → ℕ → ℕ
size L k = length (marks L.kinds k) + 1

abbrev pub fits : Region → ℕ → Bool
fits g n = leb n g.room

-- there are four fillers, 0 to 3, and f is none of them (document 02, card 5, on 23). The ledger keeps no share of a count: which filler acts changes nothing else here
abbrev pub no_filler : ℕ → Bool
no_filler f = ltb 3 f

-- a list of names to delete together that is empty, longer than 16 or has a name twice, whether they live or not (document 02, card 2, on 22)
unfoldable pub wrong_names : List ℕ → Bool
wrong_names rs = eqb (length rs) 0 || ltb 16 (length rs) || repeats rs

-- each name in turn, as the list has them: dead, then permanent (document 02, card 2, on 2 and 3)
unfoldable pub name_tests : (ℕ → Bool) → List ℕ → List (Bool × ℕ)
name_tests gone rs = joined (λ r. gone r yields 2 ∷ eqb r 1 yields 3 ∷ []) rs

-- the tests of calls that only ask (document 02, card 4, on locate)
unfoldable pub query_checks : Model → Query → List (Bool × ℕ)
query_checks L (locate s) = no_frame L yields 6 ∷ lacks (top L) s yields 9 ∷ []

-- the tests of each call, in document 01's order, and in document 02's for its cards' calls
unfoldable pub checks : Model → Call → List (Bool × ℕ)
checks L (declare ms) = (eqb (length ms) 0 || ltb 16 (length ms) || any_of (ltb 4) ms) yields 11 ∷ leb 16 (length L.kinds) yields 10 ∷ []
checks L new_region = leb 64 (length L.regions) yields 4 ∷ leb 1000000 L.given yields 5 ∷ []
checks L (subregion r) = dead L r yields 2 ∷ leb 16 (region L.regions r).level yields 20 ∷ leb 64 (length L.regions) yields 4 ∷ leb 1000000 L.given yields 5 ∷ []
checks L (push n) = (eqb n 0 || ltb 8 n) yields 8 ∷ leb 32 (length L.frames) yields 7 ∷ []
checks L (drop_frame f) = no_filler f yields 23 ∷ no_frame L yields 6 ∷ []
checks L (hand_back s b f) = no_filler f yields 23 ∷ one_frame L yields 6 ∷ (lacks (top L) s || lacks (beneath L) b) yields 9 ∷ []
checks L (allocate s r k) =
    no_frame L yields 6 ∷ lacks (top L) s yields 9 ∷ dead L r yields 2 ∷ (eqb k 0 || ltb (length L.kinds) k) yields 12
    ∷ (not (fits (region L.regions r) (size L k)) && eqb (held_by L 0) 0) yields 13 ∷ []
checks L (first s r) = no_frame L yields 6 ∷ lacks (top L) s yields 9 ∷ dead L r yields 2 ∷ []
checks L (copy s t) = no_frame L yields 6 ∷ (lacks (top L) s || lacks (top L) t) yields 9 ∷ []
checks L (fetch b s) = one_frame L yields 6 ∷ (lacks (beneath L) b || lacks (top L) s) yields 9 ∷ []
checks L (clear s) = no_frame L yields 6 ∷ lacks (top L) s yields 9 ∷ []
checks L (load s w t) = no_frame L yields 6 ∷ (lacks (top L) s || lacks (top L) t) yields 9 ∷ null L s yields 14 ∷ no_word L s w yields 15 ∷ eqb (mark_at L s w) 0 yields 16 ∷ []
checks L (set_pointer s w v f) =
    no_filler f yields 23 ∷ no_frame L yields 6 ∷ (lacks (top L) s || lacks (top L) v) yields 9 ∷ null L s yields 14 ∷ no_word L s w yields 15 ∷ eqb (mark_at L s w) 0 yields 16
    ∷ not (allowed (parent_in L) (home_in L) (in_slot L s).home (mark_at L s w) (slot L v)) yields 17 ∷ []
checks L (put s w x) = no_frame L yields 6 ∷ lacks (top L) s yields 9 ∷ null L s yields 14 ∷ no_word L s w yields 15 ∷ not (eqb (mark_at L s w) 0) yields 16 ∷ []
checks L (get s w) = no_frame L yields 6 ∷ lacks (top L) s yields 9 ∷ null L s yields 14 ∷ no_word L s w yields 15 ∷ not (eqb (mark_at L s w) 0) yields 16 ∷ []
checks L (view s) = no_frame L yields 6 ∷ lacks (top L) s yields 9 ∷ null L s yields 14 ∷ not (every (eqb 0) (slot_marks L s)) yields 16 ∷ []
checks L (same s t) = no_frame L yields 6 ∷ (lacks (top L) s || lacks (top L) t) yields 9 ∷ []
checks L (about s) = no_frame L yields 6 ∷ lacks (top L) s yields 9 ∷ []
checks L (report r) = dead L r yields 2 ∷ []
checks L totals = []
checks L audit = []
checks L (delete r f) = no_filler f yields 23 ∷ dead L r yields 2 ∷ eqb r 1 yields 3 ∷ not (eqb (subregions L r) 0) yields 18 ∷ not (eqb (outside L r) 0) yields 19 ∷ []
checks L (delete_all rs f) =
    no_filler f yields 23 ∷ wrong_names rs yields 22 ∷ name_tests (dead L) rs ++ (not (closed L.regions rs) yields 18 ∷ any_of (λ r. not (eqb (outside_but L rs r) 0)) rs yields 19 ∷ [])
checks L (ask q) = query_checks L q

unfoldable pub refusal : Model → Call → ℕ
refusal L c = reason (checks L c)

-- ---- What an accepted call answers

-- locate: the object's page and its header's word there; of null, 256 and 0 (document 02, card 4)
unfoldable pub query_reply : Model → Query → Answer
query_reply L (locate s) = gives ((in_slot L s).page ∷ (in_slot L s).word ∷ [])

unfoldable pub reply : Model → Call → Answer
reply L (declare ms) = gives ((length L.kinds + 1) ∷ [])
reply L new_region = gives ((L.given + 1) ∷ [])
reply L (subregion r) = gives ((L.given + 1) ∷ [])
reply L (push n) = gives ((length L.frames + 1) ∷ [])
reply L (drop_frame f) = gives (top_place L.frames ∷ [])
reply L (hand_back s b f) = gives (top_place L.frames ∷ [])
reply L (allocate s r k) = gives []
reply L (first s r) = gives []
reply L (copy s t) = gives []
reply L (fetch b s) = gives []
reply L (clear s) = gives []
reply L (load s w t) = gives []
reply L (set_pointer s w v f) = gives []
reply L (put s w x) = gives []
reply L (get s w) = gives (get_or (in_slot L s).words w 0 ∷ [])
reply L (view s) = record { refusal = 0; values = four []; part = (in_slot L s).words }
reply L (same s t) = gives (bit (eqb (slot L s) (slot L t)) ∷ [])
reply L (about s) = gives ((in_slot L s).home ∷ (in_slot L s).kind ∷ [])
reply L (report r) = gives (stored L r ∷ outside L r ∷ held_by L r ∷ subregions L r ∷ [])
reply L totals = gives (held_by L 0 ∷ length L.regions ∷ length L.frames ∷ L.counted ∷ [])
reply L audit = gives (1 ∷ [])
reply L (delete r f) = gives (held_by L r ∷ [])
reply L (delete_all rs f) = gives (sum_of (held_by L) rs ∷ [])
reply L (ask q) = query_reply L q

-- ---- What an accepted call leaves

abbrev pub with_kinds : Model → List (List ℕ) → Model
with_kinds L ks = record { holders = L.holders; kinds = ks; regions = L.regions; frames = L.frames; counted = L.counted; given = L.given; objects = L.objects }

abbrev pub with_frames : Model → List (List ℕ) → ℕ → Model
with_frames L fs m = record { holders = L.holders; kinds = L.kinds; regions = L.regions; frames = fs; counted = m; given = L.given; objects = L.objects }

abbrev pub with_objects : Model → List Object → Model
with_objects L os = record { holders = L.holders; kinds = L.kinds; regions = L.regions; frames = L.frames; counted = L.counted; given = L.given; objects = os }

-- slot s of the top frame gets p
unfoldable pub fill_slot : Model → ℕ → ℕ → Model
fill_slot L s p = with_frames L (set L.frames (top_place L.frames) (set (top L) s p)) L.counted

-- the top frame goes and n stay: the new top is frame n - 1, counted if n is at most m, and m then falls by one; with no frame left m was 0 (document 01, The store)
unfoldable pub pop_frame : Model → Model
pop_frame L =
    let n = top_place L.frames in
    with_frames L (take n L.frames) (pick (leb n L.counted) (L.counted - 1) L.counted)

-- object p becomes o; null stays
abbrev pub replaced : List Object → ℕ → Object → List Object
replaced os zero o = os
replaced os (suc i) o = set os i o

abbrev pub with_word : Object → ℕ → ℕ → Object
with_word o w x = record { home = o.home; kind = o.kind; page = o.page; word = o.word; words = set o.words w x }

-- word w of the object in slot s gets x
unfoldable pub write_word : Model → ℕ → ℕ → ℕ → Model
write_word L s w x = with_objects L (replaced L.objects (slot L s) (with_word (in_slot L s) w x))

-- a region below region r, or below none, with the next name
unfoldable pub add_region : Model → ℕ → ℕ → Model
add_region L r l = record {
  holders = L.holders;
  kinds = L.kinds;
  regions = L.regions ++ (record { name = L.given + 1; parent = r; level = l; newest = 0; room = 0; oldest = 0 } ∷ []);
  frames = L.frames;
  counted = L.counted;
  given = L.given + 1;
  objects = L.objects;
}

-- where an object of n words, its header too, goes in region r: after those of the newest page, if it fits there, else at the start of the lowest free page (document 01, The store, on objects; document 02, card 4)
unfoldable pub page_for : Model → ℕ → ℕ → ℕ
page_for L r n = let g = region L.regions r in pick (fits g n) g.newest (lowest_free L.holders)

unfoldable pub word_for : Model → ℕ → ℕ → ℕ
word_for L r n = let g = region L.regions r in pick (fits g n) (64 - g.room) 0

-- the holders of the pages, once that object is made: a page that was free is the region's now
unfoldable pub holders_for : Model → ℕ → ℕ → List ℕ
holders_for L r n = pick (fits (region L.regions r) n) L.holders (set L.holders (lowest_free L.holders) r)

-- region g with one more object, of n words, its header too, and with the id i, on page j, which is its newest now
unfoldable pub grown : ℕ → ℕ → ℕ → Region → Region
grown n i j g = record {
  name = g.name;
  parent = g.parent;
  level = g.level;
  newest = j;
  room = pick (fits g n) (g.room - n) (64 - n);
  oldest = pick (eqb g.oldest 0) i g.oldest;
}

-- an object of kind k in region r, all of its words 0
unfoldable pub add_object : Model → ℕ → ℕ → Model
add_object L r k =
    let n = size L k in
    let i = length L.objects + 1 in
    let j = page_for L r n in
    record {
      holders = holders_for L r n;
      kinds = L.kinds;
      regions = map (λ g. pick (called r g) (grown n i j g) g) L.regions;
      frames = L.frames;
      counted = L.counted;
      given = L.given;
      objects = L.objects ++ (record { home = r; kind = k; page = j; word = word_for L r n; words = replicate (length (marks L.kinds k)) 0 } ∷ []);
    }

-- the regions but those that rs names
abbrev pub others : List Region → List ℕ → List Region
others gs rs = keep (λ g. not (among g.name rs)) gs

-- who holds a page of region r once those that rs names are gone: none, if r is one of them
abbrev pub held_after : List ℕ → ℕ → ℕ
held_after rs r = pick (among r rs) 0 r

-- the regions that rs names go, their pages are free again, and all frames but the top one are counted (document 01, Delete; document 02, card 2)
unfoldable pub remove_regions : Model → List ℕ → Model
remove_regions L rs = record {
  holders = map (held_after rs) L.holders;
  kinds = L.kinds;
  regions = others L.regions rs;
  frames = L.frames;
  counted = top_place L.frames;
  given = L.given;
  objects = L.objects;
}

unfoldable pub accepted : Model → Call → Model
accepted L (declare ms) = with_kinds L (L.kinds ++ (ms ∷ []))
accepted L new_region = add_region L 0 1
accepted L (subregion r) = add_region L r ((region L.regions r).level + 1)
accepted L (push n) = with_frames L (L.frames ++ (replicate n 0 ∷ [])) L.counted
accepted L (drop_frame f) = pop_frame L
accepted L (hand_back s b f) = fill_slot (pop_frame L) b (slot L s)
accepted L (allocate s r k) = fill_slot (add_object L r k) s (length L.objects + 1)
accepted L (first s r) = fill_slot L s (region L.regions r).oldest
accepted L (copy s t) = fill_slot L t (slot L s)
accepted L (fetch b s) = fill_slot L s (get_or (beneath L) b 0)
accepted L (clear s) = fill_slot L s 0
accepted L (load s w t) = fill_slot L t (get_or (in_slot L s).words w 0)
accepted L (set_pointer s w v f) = write_word L s w (slot L v)
accepted L (put s w x) = write_word L s w x
accepted L (get s w) = L
accepted L (view s) = L
accepted L (same s t) = L
accepted L (about s) = L
accepted L (report r) = L
accepted L totals = L
accepted L audit = L
accepted L (delete r f) = remove_regions L (r ∷ [])
accepted L (delete_all rs f) = remove_regions L rs
accepted L (ask q) = L

-- ---- Each call, and lists of calls. A refused call answers its number and changes nothing

abbrev pub answer_by : ℕ → Model → Call → Answer
answer_by zero L c = reply L c
answer_by (suc n) L c = refused_by (suc n)

unfoldable pub answer : Model → Call → Answer
answer L c = answer_by (refusal L c) L c

abbrev pub next_by : ℕ → Model → Call → Model
next_by zero L c = accepted L c
next_by (suc n) L c = L

unfoldable pub next : Model → Call → Model
next L c = next_by (refusal L c) L c

-- what a list of calls answers, and the model that it leaves
unfoldable pub run : Model → List Call → List Answer
unfolding answer next refusal checks query_checks wrong_names name_tests reply query_reply accepted fill_slot pop_frame write_word add_region add_object page_for word_for holders_for lowest_free grown remove_regions closed outside outside_but stored in_words in_frames from_object climb allowed
run L [] = []
run L (c ∷ cs) = answer L c ∷ run (next L c) cs

abbrev pub after : Model → List Call → Model
after L [] = L
after L (c ∷ cs) = after (next L c) cs

-- ---- Make (document 01, The calls): it accepts 64 times 1 to 256 words, and leaves n free pages and region 1

abbrev pub makes : ℕ → Bool
makes w = eqb (w % 64) 0 && leb 64 w && leb w 16384

abbrev pub fresh : ℕ → Model
fresh n = record {
  holders = replicate n 0;
  kinds = [];
  regions = record { name = 1; parent = 0; level = 1; newest = 0; room = 0; oldest = 0 } ∷ [];
  frames = [];
  counted = 0;
  given = 1;
  objects = [];
}
