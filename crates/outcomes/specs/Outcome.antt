-- Each call's outcome: answer, state and heap. `checks` has a call's refusals in the documents' order, `Accepted` what an accepted call gives and leaves.
-- The equations hold of any memory. What they say of memory that the audit rejects is more than document 01 fixes: callers may rely there on demand 1 alone.
-- Assumes nothing.
use Rattle.std.specs.Prelude.{◌≡◌, Bool, true, false, not, ◌&&◌, ◌||◌, List, [], ◌∷◌, ◌++◌, map, ℕ, zero, suc, ◌+◌, ◌-◌, ◌*◌, ◌/◌, eqb, ltb, leb, length, set, take, drop, replicate}
use Rattle.std.proofs.lemmas.List.Edits.{sets}
use Rattle.lists.specs.Lists.{bit, pick, any_of, sum_of, joined, from, times, among}
use Rattle.model.specs.Model.{Answer, Call, declare, new_region, subregion, push, drop_frame, hand_back, allocate, first, copy, fetch, clear, load, set_pointer, put, get, view, same, about, report, totals, audit, delete, delete_all, Query, locate, ask, four, gives, refused_by}
use Rattle.model.specs.Calls.{reason, ◌yields◌, no_filler, wrong_names, name_tests, makes}
use Rattle.frames.specs.declared.Frames.{Frames}
use Rattle.frames.specs.Frames.{frame_count_in, top_frame, width_at, slot_at, put_slot, pushed, uncounts, popped, raised}
use Rattle.kinds.specs.declared.Kinds.{Kinds}
use Rattle.kinds.specs.Kinds.{kind_count, size_of, with_kind, wrong_marks, all_data as only_data}
use Rattle.regions.specs.declared.Regions.{Regions}
use Rattle.regions.specs.Regions.{name_of, entry_of, tag_of, is_live, live_count, subregions_of, closed_in, level_at, newest_at, oldest_at, count_at, unused, with_region, without_regions, with_page, rolled, recount}
use Rattle.pages.specs.declared.Pages.{Pages}
use Rattle.pages.specs.Pages.{wrong_length, taken_at, owner_of, page_of, word_of, first_free, pages_of, with_taken, freed}
use Rattle.objects.specs.Objects.{kind_of, word_count, mark_of, word_at, free_words_of, out_of}
use Rattle.state.specs.declared.State.{State}
use Rattle.state.specs.declared.Reply.{Reply}
use Rattle.outcomes.specs.Store.{Store, frames, kinds, regions, pages, slot, outside_of, led_into, led_among, targets_in, slot_targets, breaks, size, roomy}
use Rattle.outcomes.specs.Sound.{sound}

-- what a call gives back, and the part that view hands back ([] for every other call), as an answer of the reference model
abbrev pub answer_of : Reply → List ℕ → Answer
answer_of r p = record { refusal = r.refusal; values = r.a ∷ r.b ∷ r.c ∷ r.d ∷ []; part = p }

abbrev pub store : State → List ℕ → Store
store s heap = record { state = s; heap = heap }

-- ---- the tests that a call runs, in order, each with its number

unfoldable pub bad_length : Store → Bool
bad_length S = wrong_length (pages S) (length S.heap)

unfoldable pub no_frame : Store → Bool
no_frame S = eqb (frames S).standing 0

-- fewer than two
unfoldable pub one_frame : Store → Bool
one_frame S = ltb (frames S).standing 2

-- the top frame, and the frame beneath it, has no slot s
unfoldable pub lacks : Store → ℕ → Bool
lacks S s = leb (width_at (frames S) (top_frame (frames S))) s

unfoldable pub lacks_beneath : Store → ℕ → Bool
lacks_beneath S s = leb (width_at (frames S) (top_frame (frames S) - 1)) s

unfoldable pub dead : Store → ℕ → Bool
dead S r = not (is_live (regions S) r)

-- 64 regions live; the last name was given
unfoldable pub full : Store → Bool
full S = leb 64 (live_count (regions S))

unfoldable pub names_out : Store → Bool
names_out S = leb 1000000 (regions S).given

-- the object in slot s has no word w; the word is data; all its words are
unfoldable pub no_word : Store → ℕ → ℕ → Bool
no_word S s w = leb (word_count (kinds S) S.heap (slot S s)) w

unfoldable pub is_data : Store → ℕ → ℕ → Bool
is_data S s w = eqb (mark_of (kinds S) S.heap (slot S s) w) 0

unfoldable pub all_data : Store → ℕ → Bool
all_data S s = only_data (kinds S) (kind_of S.heap (slot S s))

-- the regions that the words marked 1 on the pages of the regions with the tags ts lead into, but for each region itself
unfoldable pub outgoing : Store → List ℕ → List ℕ
outgoing S ts = joined (λ t. out_of (pages S).owners t (free_words_of (kinds S) S.heap (pages S) t)) ts

-- the stored count of the region at entry i, once those words are counted no more. On audited memory what is left are slots of counted frames, and words of regions that are
-- none of them (document 02, card 2, on 19)
unfoldable pub count_but : Store → List ℕ → ℕ → ℕ
count_but S ts i = rolled (count_at (regions S) i) 0 (times (suc i) (outgoing S ts))

-- the tests of calls that only ask, after the one of the heap's length (document 02, card 4, on locate)
unfoldable pub query_checks : Store → Query → List (Bool × ℕ)
query_checks S (locate s) = no_frame S yields 6 ∷ lacks S s yields 9 ∷ []

unfoldable pub checks : Store → Call → List (Bool × ℕ)
checks S (declare ms) = bad_length S yields 21 ∷ wrong_marks ms yields 11 ∷ leb 16 (kinds S).declared yields 10 ∷ []
checks S new_region = bad_length S yields 21 ∷ full S yields 4 ∷ names_out S yields 5 ∷ []
checks S (subregion r) = bad_length S yields 21 ∷ dead S r yields 2 ∷ leb 16 (level_at (regions S) (entry_of (regions S) r)) yields 20 ∷ full S yields 4 ∷ names_out S yields 5 ∷ []
checks S (push n) = bad_length S yields 21 ∷ (eqb n 0 || ltb 8 n) yields 8 ∷ leb 32 (frames S).standing yields 7 ∷ []
checks S (drop_frame f) = bad_length S yields 21 ∷ no_filler f yields 23 ∷ no_frame S yields 6 ∷ []
checks S (hand_back s b f) = bad_length S yields 21 ∷ no_filler f yields 23 ∷ one_frame S yields 6 ∷ (lacks S s || lacks_beneath S b) yields 9 ∷ []
checks S (allocate s r k) =
    bad_length S yields 21 ∷ no_frame S yields 6 ∷ lacks S s yields 9 ∷ dead S r yields 2 ∷ (eqb k 0 || ltb (kind_count (kinds S)) k) yields 12
    ∷ (not (roomy S (entry_of (regions S) r) (size S k)) && eqb (pages_of (pages S) 0) 0) yields 13 ∷ []
checks S (first s r) = bad_length S yields 21 ∷ no_frame S yields 6 ∷ lacks S s yields 9 ∷ dead S r yields 2 ∷ []
checks S (copy s t) = bad_length S yields 21 ∷ no_frame S yields 6 ∷ (lacks S s || lacks S t) yields 9 ∷ []
checks S (fetch b s) = bad_length S yields 21 ∷ one_frame S yields 6 ∷ (lacks_beneath S b || lacks S s) yields 9 ∷ []
checks S (clear s) = bad_length S yields 21 ∷ no_frame S yields 6 ∷ lacks S s yields 9 ∷ []
checks S (load s w t) = bad_length S yields 21 ∷ no_frame S yields 6 ∷ (lacks S s || lacks S t) yields 9 ∷ eqb (slot S s) 0 yields 14 ∷ no_word S s w yields 15 ∷ is_data S s w yields 16 ∷ []
checks S (set_pointer s w v f) =
    bad_length S yields 21 ∷ no_filler f yields 23 ∷ no_frame S yields 6 ∷ (lacks S s || lacks S v) yields 9 ∷ eqb (slot S s) 0 yields 14 ∷ no_word S s w yields 15 ∷ is_data S s w yields 16
    ∷ breaks S (slot S s) w (slot S v) yields 17 ∷ []
checks S (put s w x) = bad_length S yields 21 ∷ no_frame S yields 6 ∷ lacks S s yields 9 ∷ eqb (slot S s) 0 yields 14 ∷ no_word S s w yields 15 ∷ not (is_data S s w) yields 16 ∷ []
checks S (get s w) = bad_length S yields 21 ∷ no_frame S yields 6 ∷ lacks S s yields 9 ∷ eqb (slot S s) 0 yields 14 ∷ no_word S s w yields 15 ∷ not (is_data S s w) yields 16 ∷ []
checks S (view s) = bad_length S yields 21 ∷ no_frame S yields 6 ∷ lacks S s yields 9 ∷ eqb (slot S s) 0 yields 14 ∷ not (all_data S s) yields 16 ∷ []
checks S (same s t) = bad_length S yields 21 ∷ no_frame S yields 6 ∷ (lacks S s || lacks S t) yields 9 ∷ []
checks S (about s) = bad_length S yields 21 ∷ no_frame S yields 6 ∷ lacks S s yields 9 ∷ []
checks S (report r) = bad_length S yields 21 ∷ dead S r yields 2 ∷ []
checks S totals = []
checks S audit = []
-- 19: the stored count has the outside pointers in words and counted frames, and the look finds the rest. On audited memory the two are just those that there are
checks S (delete r f) =
    bad_length S yields 21 ∷ no_filler f yields 23 ∷ dead S r yields 2 ∷ eqb r 1 yields 3 ∷ not (eqb (subregions_of (regions S) (tag_of (regions S) r)) 0) yields 18
    ∷ (not (eqb (count_at (regions S) (entry_of (regions S) r)) 0) || led_into S (tag_of (regions S) r)) yields 19 ∷ []
-- 18 and 19 by the tags of those named (document 02, card 2). 19: some member's count has a pointer left, or the look over the uncounted frames, once for all of them, finds a slot
checks S (delete_all rs f) =
    let g = regions S in
    let ts = map (tag_of g) rs in
    bad_length S yields 21 ∷ no_filler f yields 23 ∷ wrong_names rs yields 22 ∷ name_tests (dead S) rs
    ++ (not (closed_in g.names g.parents (λ t. among t ts)) yields 18 ∷ (any_of (λ r. not (eqb (count_but S ts (entry_of g r)) 0)) rs || led_among S ts) yields 19 ∷ [])
checks S (ask q) = bad_length S yields 21 ∷ query_checks S q

unfoldable pub refusal : Store → Call → ℕ
refusal S c = reason (checks S c)

-- ---- what an accepted call leaves

abbrev pub with_frames : Store → Frames → Store
with_frames S f = store (record { frames = f; kinds = kinds S; regions = regions S; pages = pages S }) S.heap

abbrev pub with_kinds : Store → Kinds → Store
with_kinds S k = store (record { frames = frames S; kinds = k; regions = regions S; pages = pages S }) S.heap

abbrev pub with_regions : Store → Regions → Store
with_regions S r = store (record { frames = frames S; kinds = kinds S; regions = r; pages = pages S }) S.heap

abbrev pub with_pages : Store → Pages → Store
with_pages S p = store (record { frames = frames S; kinds = kinds S; regions = regions S; pages = p }) S.heap

abbrev pub with_heap : Store → List ℕ → Store
with_heap S l = store S.state l

-- slot s of the top frame gets v
unfoldable pub fill_slot : Store → ℕ → ℕ → Store
fill_slot S s v = with_frames S (put_slot (frames S) (top_frame (frames S)) s v)

-- word w of the object that v leads to gets x; no other heap word changes
unfoldable pub write_word : Store → ℕ → ℕ → ℕ → Store
write_word S v w x = with_heap S (set S.heap (v + w) x)

-- pointers into the regions `come` are counted too, pointers into the regions `gone` no more, in the shares of filler f (document 02, card 5)
unfoldable pub recounted : Store → ℕ → List ℕ → List ℕ → Store
recounted S f come gone = with_regions S (recount (regions S) f come gone)

-- the regions that a pointer v is counted in, held by a word marked k of an object of the region with tag h: none for its own, and none unless k is 1
unfoldable pub counted_in : Store → ℕ → ℕ → ℕ → List ℕ
counted_in S k h v = pick (eqb k 1 && not (eqb (owner_of (pages S) v) h)) (owner_of (pages S) v ∷ []) []

-- the top frame goes; if the frame then on top was counted, its pointers leave the counts, in filler f's shares (document 01, The store, on m)
unfoldable pub pop_frame : Store → ℕ → Store
pop_frame S f = with_frames (recounted S f [] (pick (uncounts (frames S)) (slot_targets S (top_frame (frames S) - 1)) [])) (popped (frames S))

-- the word of a set pointer moves from the old pointer to the new one, and filler f's shares with it (document 01, Set pointer)
unfoldable pub pointed : Store → ℕ → ℕ → ℕ → ℕ → Store
pointed S v w x f =
    let k = mark_of (kinds S) S.heap v w in
    let h = owner_of (pages S) v in
    write_word (recounted S f (counted_in S k h x) (counted_in S k h (word_at S.heap v w))) v w x

-- the page of an object of n words, its header too, made for the region at entry i: the region's newest, if they fit there, else the lowest free one (document 01, The store, on objects; document 02, card 4)
unfoldable pub page_for : Store → ℕ → ℕ → ℕ
page_for S i n = pick (roomy S i n) (newest_at (regions S) i - 1) (first_free (pages S))

-- how many words of page j stand in front of an object of kind k made there: those taken of the newest page, none of a page that was free
abbrev pub start_on : Store → ℕ → ℕ → ℕ → ℕ
start_on S i k j = pick (roomy S i (size S k)) (taken_at (pages S) j) 0

-- an object of kind k made on page j for the region at entry i and put in slot s: header, words 0, no other heap word (document 01, Allocate)
unfoldable pub allocated : Store → ℕ → ℕ → ℕ → ℕ → Store
allocated S s i k j =
    let start = start_on S i k j in
    let v = 64 * j + start + 1 in
    let o = oldest_at (regions S) i in
    let T = with_heap S (sets S.heap (64 * j + start) (k ∷ replicate (size_of (kinds S) k) 0)) in
    let U = with_pages T (with_taken (pages S) j (i + 1) (start + size S k)) in
    fill_slot (with_regions U (with_page (regions S) i (j + 1) (pick (eqb o 0) v o))) s v

-- the regions that the slots of the frames lead into that are counted once m is raised: those below the top that were not; by the lists alone, and in a store
unfoldable pub newly_in : ℕ → ℕ → List ℕ → List ℕ → List ℕ → List ℕ
newly_in standing counted widths slots owners = joined (targets_in widths slots owners) (from counted (frame_count_in standing - 1 - counted))

unfoldable pub newly_counted : Store → List ℕ
newly_counted S = let f = frames S in newly_in f.standing f.counted f.widths f.slots (pages S).owners

-- the regions named rs go: their outgoing pointers leave the counts, those newly counted enter them, both in filler f's shares, the pages are free, the entries are given up, m is raised; the heap stays
-- (document 01, Delete, where it is one region; document 02, card 2)
unfoldable pub deleted : Store → List ℕ → ℕ → Store
deleted S rs f =
    let ts = map (tag_of (regions S)) rs in
    let T = recounted S f (newly_counted S) (outgoing S ts) in
    let U = with_regions T (without_regions (regions T) (map (entry_of (regions S)) rs)) in
    with_frames (with_pages U (freed (pages S) ts)) (raised (frames S))

-- ---- what a call gives and leaves

-- the answer a is b, and the store left, T, is U
abbrev pub Leaves : Answer → Answer → Store → Store → Type 0
Leaves a b T U = (a ≡ b) × (T ≡ U)

-- view's answer: the number of the check beside it, and the part that it hands back; accepted, the part of the heap that holds the object's words (document 01, View)
abbrev pub view_answer : Store → ℕ → List ℕ → Answer
view_answer S s p = record { refusal = refusal S (view s); values = four []; part = p }

abbrev pub viewed : Store → ℕ → Answer
viewed S v = record { refusal = 0; values = four []; part = take (word_count (kinds S) S.heap v) (drop v S.heap) }

-- locate: the page of the object that the slot leads to, and its header's word there; of null, 256 and 0 (document 02, card 4)
unfoldable pub query_reply : Store → Query → Answer
query_reply S (locate s) = gives (page_of (slot S s) ∷ word_of (slot S s) ∷ [])

unfoldable pub Accepted : Call → Store → Answer → Store → Type 0
Accepted (declare ms) S a T = Leaves a (gives (((kinds S).declared + 1) ∷ [])) T (with_kinds S (with_kind (kinds S) ms))
Accepted new_region S a T = Leaves a (gives (((regions S).given + 1) ∷ [])) T (with_regions S (with_region (regions S) (unused (regions S)) 0 1))
Accepted (subregion r) S a T =
    let g = regions S in
    Leaves a (gives ((g.given + 1) ∷ [])) T (with_regions S (with_region g (unused g) (tag_of g r) (level_at g (entry_of g r) + 1)))
Accepted (push n) S a T = Leaves a (gives (((frames S).standing + 1) ∷ [])) T (with_frames S (pushed (frames S) n))
Accepted (drop_frame f) S a T = Leaves a (gives (top_frame (frames S) ∷ [])) T (pop_frame S f)
Accepted (hand_back s b f) S a T = Leaves a (gives (top_frame (frames S) ∷ [])) T (fill_slot (pop_frame S f) b (slot S s))
Accepted (allocate s r k) S a T =
    let i = entry_of (regions S) r in
    Leaves a (gives []) T (allocated S s i k (page_for S i (size S k)))
Accepted (first s r) S a T = Leaves a (gives []) T (fill_slot S s (oldest_at (regions S) (entry_of (regions S) r)))
Accepted (copy s t) S a T = Leaves a (gives []) T (fill_slot S t (slot S s))
Accepted (fetch b s) S a T = Leaves a (gives []) T (fill_slot S s (slot_at (frames S) (top_frame (frames S) - 1) b))
Accepted (clear s) S a T = Leaves a (gives []) T (fill_slot S s 0)
Accepted (load s w t) S a T = Leaves a (gives []) T (fill_slot S t (word_at S.heap (slot S s) w))
Accepted (set_pointer s w v f) S a T = Leaves a (gives []) T (pointed S (slot S s) w (slot S v) f)
Accepted (put s w x) S a T = Leaves a (gives []) T (write_word S (slot S s) w x)
Accepted (get s w) S a T = Leaves a (gives (word_at S.heap (slot S s) w ∷ [])) T S
Accepted (view s) S a T = Leaves a (viewed S (slot S s)) T S
Accepted (same s t) S a T = Leaves a (gives (bit (eqb (slot S s) (slot S t)) ∷ [])) T S
Accepted (about s) S a T = Leaves a (gives (name_of (regions S) (owner_of (pages S) (slot S s)) ∷ kind_of S.heap (slot S s) ∷ [])) T S
Accepted (report r) S a T =
    let i = entry_of (regions S) r in
    let t = tag_of (regions S) r in
    Leaves a (gives (count_at (regions S) i ∷ outside_of S i ∷ pages_of (pages S) t ∷ subregions_of (regions S) t ∷ [])) T S
Accepted totals S a T = Leaves a (gives (pages_of (pages S) 0 ∷ live_count (regions S) ∷ (frames S).standing ∷ (frames S).counted ∷ [])) T S
-- 1 if the audit's condition holds, else 0
Accepted audit S a T = Leaves a (gives (bit (sound S) ∷ [])) T S
Accepted (delete r f) S a T = Leaves a (gives (pages_of (pages S) (tag_of (regions S) r) ∷ [])) T (deleted S (r ∷ []) f)
Accepted (delete_all rs f) S a T = Leaves a (gives (sum_of (λ r. pages_of (pages S) (tag_of (regions S) r)) rs ∷ [])) T (deleted S rs f)
Accepted (ask q) S a T = Leaves a (query_reply S q) T S

-- a refused call answers its number and zeros, and leaves every word as it was
abbrev pub Answered : ℕ → Call → Store → Answer → Store → Type 0
Answered zero c S a T = Accepted c S a T
Answered (suc n) c S a T = Leaves a (refused_by (suc n)) T S

unfoldable pub Outcome : Call → Store → Answer → Store → Type 0
Outcome c S a T = Answered (refusal S c) c S a T

-- ---- make

-- a state with n pages made, all free, and region 1 if r is 1; with none if r is 0
unfoldable pub blank : ℕ → ℕ → State
blank n r = record {
  frames = record { standing = 0; counted = 0; widths = replicate 32 0; slots = replicate 256 0 };
  kinds = record { declared = 0; sizes = replicate 16 0; marks = replicate 256 0 };
  regions = record {
    given = r;
    names = set (replicate 64 0) 0 r;
    parents = replicate 64 0;
    levels = set (replicate 64 0) 0 r;
    shares = replicate 256 0;
    newest = replicate 64 0;
    oldest = replicate 64 0;
  };
  pages = record { made = n; owners = replicate 256 0; taken = replicate 256 0 };
}

abbrev pub MakeBy : Bool → List ℕ → Answer → Store → Type 0
MakeBy true heap a T = Leaves a (gives []) T (store (blank (length heap / 64) 1) (replicate (length heap) 0))
MakeBy false heap a T = Leaves a (refused_by 1) T (store (blank 0 0) heap)

-- accepted, all words are 0; refused, no word is written and the state has no page, region, kind or frame (document 01, Make)
unfoldable pub MakeOutcome : List ℕ → Answer → Store → Type 0
MakeOutcome heap a T = MakeBy (makes (length heap)) heap a T
