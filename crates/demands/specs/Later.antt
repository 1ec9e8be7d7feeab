-- What document 02's cards promise beside the demands, of every memory or after every list of calls from every start. Each is a type; the theorems are in Laws: Later for card 1, Together, JointOfOne and Names for card 2, Apart for card 3, Alike and Layout for card 4, Fillers and Totals for card 5.
-- Assumes nothing.
use Rattle.std.specs.Prelude.{◌≡◌, ◌↔◌, ◌≢◌, ◌⊎◌, Bool, true, false, not, ◌&&◌, ◌||◌, List, [], ◌∷◌, ◌++◌, map, ℕ, zero, suc, ◌+◌, ◌-◌, ◌*◌, ◌/◌, ◌%◌, ◌≤◌, ◌<◌, eqb, length, get_or}
use Rattle.lists.specs.Lists.{bit, every, keep, find_or, count_of, All, All₂, up_to, times, among}
use Rattle.model.specs.Model.{Model, Object as Entry, Answer, Call, drop_frame, hand_back, allocate, set_pointer, audit, delete, delete_all, locate, ask, gives, lives_in, marks, rule}
use Rattle.model.specs.Calls.{makes, fresh, run, after}
use Rattle.model.specs.Valid.{Valid}
use Rattle.regions.specs.declared.Regions.{Regions}
use Rattle.regions.specs.Regions.{name_at, parent_at, share_at, added, count_at, entry_of, tag_of, subregions_of, with_shares}
use Rattle.pages.specs.Pages.{pages_with}
use Rattle.outcomes.specs.Store.{Store, frames, kinds, regions, pages, slot}
use Rattle.outcomes.specs.History.{History, Object, begin, is_live, parent_of, above_of, pointers_of, at, home_of, holders, leads}
use Rattle.outcomes.specs.Sound.{sound_levels, sound_distinct, sound_parents}
use Rattle.outcomes.specs.Shape.{Sized}
use Rattle.outcomes.specs.Outcome.{Outcome, MakeOutcome, bad_length, refusal, count_but, with_regions}
use Rattle.outcomes.specs.Apart.{Way, scanned, given_back, scan_then_give, page_by_page, named, DeletesBy}
use Rattle.outcomes.specs.Runs.{Event, calls, answers, Run}
use Rattle.demands.specs.Told.{slot_after, history}
use Rattle.demands.specs.Demands.{Start}

-- ---- Card 1: up to any height

-- where n steps lead from region r, each to the region above; 0 once none is above
unfoldable pub steps : (ℕ → ℕ) → ℕ → ℕ → ℕ
steps parent zero r = r
steps parent (suc n) r = steps parent n (parent r)

-- region u lives, and is region r or is met on the way up from it, at whatever height
abbrev pub Reached : History → ℕ → ℕ → Type 0
Reached h r u = (is_live h u ≡ true) × ((n : ℕ) × (steps (parent_of h) n r ≡ u))

-- in a live region mark 3 allows just the live regions that are reached from it: what the marks' rule, which demand 3 and the audit have, comes to
abbrev pub Reaches : History → Type 0
Reaches h = (r u : ℕ) → is_live h r ≡ true → is_live h u ≡ true → (rule 3 u r (above_of h r) ≡ true) ↔ Reached h r u

-- the mark of word w of the live object that v leads to: 0 for data, and where there is no such object or word
abbrev pub mark_told : History → ℕ → ℕ → ℕ
mark_told h v w = get_or (marks h.kinds (find_or (at v) (record { place = 0; kind = 0; home = 0 }) h.objects).kind) w 0

-- the number of slots of the top frame, 0 where no frame stands
abbrev pub top_width : History → ℕ
top_width h = get_or h.frames (length h.frames - 1) 0

-- what holds of words marked 3 in a store and what its calls told
pub record Climbs (h : History) (S : Store) : Type 0 where
  -- level 16 bounds every way up: no region has 16 above it
  pub ends : (r : ℕ) → is_live h r ≡ true → steps (parent_of h) 16 r ≡ 0
  pub reaches : Reaches h
  -- a word marked 3 is null, or leads into a region that is reached from its own
  pub words : All (λ o. All (λ w. w.mark ≡ 3 → w.value ≢ 0 → Reached h o.home (home_of h w.value)) (pointers_of h S o)) h.objects
  -- if the next call sets a word marked 3, by slots that the top frame has, for a filler 0 to 3, it answers 0 where the pointer is null or leads into such a region, and 17 where it does not
  pub sets : (s w p f : ℕ) → f ≤ 3 → (a : Answer) (T : Store) → Outcome (set_pointer s w p f) S a T → s < top_width h → p < top_width h → mark_told h (slot S s) w ≡ 3
      → let Allowed = (slot S p ≡ 0) ⊎ Reached h (home_of h (slot S s)) (home_of h (slot S p)) in ((a.refusal ≡ 0) × Allowed) ⊎ ((a.refusal ≡ 17) × (Allowed → ⊥))

-- so after every list of calls from every start
unfoldable pub AnyHeight : Type 0
AnyHeight = (S : Store) (h : History) → Start S h → (es : List Event) (T : Store) → Run S es T → Climbs (history h es) T

-- The audit's clause on words, on every memory, also one that it rejects for something else: where the clauses on names, levels and regions above hold, mark 3 has just that reach in what the memory lists
unfoldable pub AuditsHeight : Type 0
AuditsHeight = (S : Store) → Sized S → sound_distinct S ≡ true → sound_levels S ≡ true → sound_parents S ≡ true → Reaches (begin S)

-- ---- Card 2: regions deleted together

-- every word marked 1 of a live object of region r is null
unfoldable pub free_words_null : History → Store → ℕ → Bool
free_words_null h S r = every (λ o. not (eqb o.home r) || every (λ w. not (eqb w.mark 1) || eqb w.value 0) (pointers_of h S o)) h.objects

-- After every list of calls from every start: with no frame standing, and all free words of region 1 null, all other live regions, where they are 1 to 16, go together, for each filler 0 to 3.
-- The list has each of them once, in any order, and no other name
unfoldable pub AllTogether : Type 0
AllTogether =
    (S : Store) (h : History) → Start S h → (es : List Event) (T : Store) → Run S es T
    → (history h es).frames ≡ [] → free_words_null (history h es) T 1 ≡ true
    → (l : List ℕ) → 1 ≤ length l → length l ≤ 16 → ((r : ℕ) → times r l ≡ bit (is_live (history h es) r && not (eqb r 1)))
    → (f : ℕ) → f ≤ 3 → (a : Answer) (U : Store) → Outcome (delete_all l f) T a U → a.refusal ≡ 0

-- a list of one name has just the outcomes of delete, for one filler
abbrev pub SameAsDelete : Store → ℕ → ℕ → Type 0
SameAsDelete S r f = (a : Answer) (T : Store) → Outcome (delete_all (r ∷ []) f) S a T ↔ Outcome (delete r f) S a T

-- delete refuses region r by 18, and only since it is entered as its own region above: a list of one finds a member there, and no subregion left out
abbrev pub OnlyItself : Store → ℕ → ℕ → Type 0
OnlyItself S r f = let g = regions S in (refusal S (delete r f) ≡ 18) × (parent_at g (entry_of g r) ≡ tag_of g r) × (subregions_of g (tag_of g r) ≡ 1)

-- so on every memory, for every filler (also one above 3, which both refuse), but just there; and after every list of calls from every start, of every name
unfoldable pub JointOfOne : Type 0
JointOfOne =
    ((S : Store) (r f : ℕ) → SameAsDelete S r f ↔ (OnlyItself S r f → ⊥))
    × ((S : Store) (h : History) → Start S h → (es : List Event) (T : Store) → Run S es T → (r f : ℕ) → SameAsDelete T r f)

-- a live region of S has the name r: an entry in use has it
abbrev pub Lives : Store → ℕ → Type 0
Lives S r = (r ≢ 0) × ((i : ℕ) × (i < 64) × (name_at (regions S) i ≡ r))

-- a list that no joint delete takes: no name, more than 16, or some name twice, whether it lives or not
abbrev pub WrongList : List ℕ → Type 0
WrongList l = (length l ≡ 0) ⊎ (16 < length l) ⊎ ((r : ℕ) × (2 ≤ times r l))

-- r is the first name of the list that no live region has, or that is 1
pub record FirstWrong (S : Store) (l : List ℕ) (r : ℕ) : Type 0 where
  pub before : List ℕ
  pub behind : List ℕ
  pub parts : l ≡ before ++ (r ∷ behind)
  pub passed : All (λ q. Lives S q × (q ≢ 1)) before
  pub wrong : (Lives S r → ⊥) ⊎ (r ≡ 1)

-- On every memory, where the heap's length is right, a joint delete for a filler 0 to 3 answers 22 exactly if its list is such a one; of any other list 2 or 3 exactly as that first name decides, 2 where no
-- live region has it, 3 where it is 1 and region 1 lives. (Said by the list and the entries: the tests `wrong_names`, which demand 3 has too, and `name_tests`, both shared by ledger and outcomes, are no part of it)
unfoldable pub NamesNext : Type 0
NamesNext =
    (l : List ℕ) (f : ℕ) (S : Store) (a : Answer) (T : Store) → Outcome (delete_all l f) S a T → bad_length S ≡ false → f ≤ 3
    → ((a.refusal ≡ 22) ↔ WrongList l)
    × ((WrongList l → ⊥) → ((a.refusal ≡ 2) ↔ ((r : ℕ) × FirstWrong S l r × (Lives S r → ⊥))) × ((a.refusal ≡ 3) ↔ (FirstWrong S l 1 × Lives S 1)))

-- ---- Card 3: a region taken apart

-- The scan moves no page, on every memory, whichever regions are scanned and by whichever filler: nothing but shares of stored counts is other than it was, and of these only that filler's. (That the function `scan` has no page to change, its types say.)
unfoldable pub ScanMovesNoPage : Type 0
ScanMovesNoPage =
    (f : ℕ) (S : Store) (member : ℕ → Bool) → let T = scanned f S member in
    (pages T ≡ pages S) × (frames T ≡ frames S) × (kinds T ≡ kinds S) × (T.heap ≡ S.heap) × (regions T ≡ with_shares (regions S) (regions T).shares)
    × ((h i : ℕ) → h ≤ 3 → i < 64 → h ≢ f → share_at (regions T) h i ≡ share_at (regions S) h i)

-- the giving back moves no count: nothing but owners of pages is other than it was
unfoldable pub GivingMovesNoCount : Type 0
GivingMovesNoCount =
    (S : Store) (member : ℕ → Bool) → let T = given_back S member in
    (regions T ≡ regions S) × (frames T ≡ frames S) × (kinds T ≡ kinds S) × (T.heap ≡ S.heap) × (pages T ≡ pages_with (pages S).made (pages T).owners (pages S).taken)

-- after the call's own checks, delete, or delete_all, has just the outcomes that a way of taking apart has for its filler
abbrev pub DeleteIs : Way → Store → ℕ → ℕ → Type 0
DeleteIs way S r f = (a : Answer) (T : Store) → Outcome (delete r f) S a T ↔ DeletesBy way f (refusal S (delete r f)) (r ∷ []) S a T

abbrev pub DeleteAllIs : Way → Store → List ℕ → ℕ → Type 0
DeleteAllIs way S rs f = (a : Answer) (T : Store) → Outcome (delete_all rs f) S a T ↔ DeletesBy way f (refusal S (delete_all rs f)) rs S a T

-- Both calls have just the outcomes of a scan with a giving back after it, on every memory, audited or not, whose arrays have the lengths that their types say. And where no two of those named are one
-- region, what 19 of a joint delete asks of a count is what the scan leaves of it, for each filler 0 to 3
unfoldable pub ScansThenGives : Type 0
ScansThenGives =
    (S : Store) → Sized S
    → ((r f : ℕ) → DeleteIs scan_then_give S r f)
    × ((rs : List ℕ) (f : ℕ) → DeleteAllIs scan_then_give S rs f)
    × ((rs : List ℕ) → let ts = map (tag_of (regions S)) rs in ((t : ℕ) → times t ts ≤ 1)
    → (f : ℕ) → f ≤ 3 → (i : ℕ) → i < 64 → count_but S ts i ≡ count_at (regions (scanned f S (named S rs))) i)

-- T and U, which two ways leave of S, are equal but for the shares of stored counts, and all four of these are equal at every entry that is in use afterwards, or was not before: they may differ only at an
-- entry given up (named in S and not in T)
abbrev pub OneButGone : Store → Store → Store → Type 0
OneButGone S T U =
    (T ≡ with_regions U (with_shares (regions U) (regions T).shares))
    × ((f i : ℕ) → f ≤ 3 → (name_at (regions T) i ≢ 0) ⊎ (name_at (regions S) i ≡ 0) → share_at (regions T) f i ≡ share_at (regions U) f i)

-- Page by page, as delete went before, comes to the same on every memory, audited or not, whose arrays have those lengths: for one region in the answer and in every word of state and heap; for several,
-- where no code went so, in the answer, and in every word but the shares at the entries given up, where words between members may have stayed counted. (That each of the two calls has one outcome on each
-- memory, so that code with the same contract gives and leaves what it gave and left before, is `Determined`, below)
unfoldable pub SameDelete : Type 0
SameDelete =
    (S : Store) → Sized S
    → ((r f : ℕ) → DeleteIs page_by_page S r f)
    × ((rs : List ℕ) (f : ℕ) (a b : Answer) (T U : Store) → Outcome (delete_all rs f) S a T → DeletesBy page_by_page f (refusal S (delete_all rs f)) rs S b U → (a ≡ b) × OneButGone S T U)

-- ---- Card 4: the lowest free page

-- The outcomes leave nothing open: one call on one memory has one outcome (and it has one: `Total`), on rejected memory too, where they say more than the documents fix
unfoldable pub Determined : Type 0
Determined = (c : Call) (S : Store) (a b : Answer) (T U : Store) → Outcome c S a T → Outcome c S b U → (a ≡ b) × (T ≡ U)

-- two runs are alike: they give the same answers and leave the same heap, word by word, and the same state
abbrev pub Alike : List Event → Store → List Event → Store → Type 0
Alike es T fs U = (answers es ≡ answers fs) × (T.heap ≡ U.heap) × (T.state ≡ U.state)

-- Two runs of the same calls from any one store, audited or not, are alike
unfoldable pub SameFrom : Type 0
SameFrom = (S : Store) (es fs : List Event) (T U : Store) → Run S es T → Run S fs U → calls es ≡ calls fs → Alike es T fs U

-- So are two runs of the same calls on two stores that accepted makes of one size have left, whatever their heaps held before
unfoldable pub SameHeaps : Type 0
SameHeaps =
    (g h : List ℕ) → length g ≡ length h → makes (length g) ≡ true
    → (a b : Answer) (S S₂ : Store) → MakeOutcome g a S → MakeOutcome h b S₂
    → (es fs : List Event) (T U : Store) → Run S es T → Run S₂ fs U → calls es ≡ calls fs → (a ≡ b) × Alike es T fs U

-- an object of the ledger as a history lists it, its header at its word of its page; and those that live
abbrev pub stood : Entry → Object
stood o = record { place = 64 * o.page + o.word; kind = o.kind; home = o.home }

abbrev pub standing : Model → List Object
standing L = map stood (keep (λ o. lives_in L o.home) L.objects)

-- ledger and memory have the same live objects, each in one place, of one kind and of one region, in any order: as many pass any test
abbrev pub SamePlaces : Model → Store → Type 0
SamePlaces L S = (f : Object → Bool) → count_of f (standing L) ≡ count_of f (begin S).objects

-- So after every list of calls: from a fresh store, of the ledger that demand 2 names; from audited memory, of one that answers as the store does
unfoldable pub LedgerPlaces : Type 0
LedgerPlaces =
    ((heap : List ℕ) (a : Answer) (S : Store) → makes (length heap) ≡ true → MakeOutcome heap a S
    → (es : List Event) (T : Store) → Run S es T → SamePlaces (after (fresh (length heap / 64)) (calls es)) T)
    × ((S : Store) → Sized S → Outcome audit S (gives (1 ∷ [])) S
    → (L : Model) × Valid L × ((es : List Event) (T : Store) → Run S es T → (answers es ≡ run L (calls es)) × SamePlaces (after L (calls es)) T))

-- j is the lowest number in the list
abbrev pub Lowest : List ℕ → ℕ → Type 0
Lowest l j = (among j l ≡ true) × ((i : ℕ) → i < j → among i l ≡ false)

-- where objects lie, in a store and by what its calls told
pub record Layout (h : History) (S : Store) : Type 0 where
  -- if the next call makes an object and is accepted, its header stands on a page that its region held, or at the start of the lowest of the free ones. (By itself this would admit a store that fills an older page of the region, and one that takes a free page while the newest has room; that allocate does neither, its outcome says by `page_for`)
  pub takes : (s r k : ℕ) (a : Answer) (T : Store) → Outcome (allocate s r k) S a T → a.refusal ≡ 0
      → (p : ℕ) × (slot_after h T s ≡ p + 1) × ((among r (holders h (p / 64)) ≡ true) ⊎ (Lowest h.free (p / 64) × (p % 64 ≡ 0)))
  -- if the next call locates a slot that the top frame has, it answers 256 and 0 where the slot is null, else the page and the word of the place where the live object's header stands
  pub locates : (s : ℕ) (a : Answer) (T : Store) → Outcome (ask (locate s)) S a T → s < top_width h
      → ((slot S s ≡ 0) × (a ≡ gives (256 ∷ 0 ∷ []))) ⊎ ((p : ℕ) × (slot S s ≡ p + 1) × (leads h (p + 1) ≡ true) × (a ≡ gives (p / 64 ∷ p % 64 ∷ [])))

-- so after every list of calls from every start
unfoldable pub LaidOut : Type 0
LaidOut = (S : Store) (h : History) → Start S h → (es : List Event) (T : Store) → Run S es T → Layout (history h es) T

-- ---- Card 5: fillers and their shares

-- c acts for filler f
pub data ActsFor (f : ℕ) : Call → Type 0 where
  drops : ActsFor f (drop_frame f)
  hands_back : {s b : ℕ} → ActsFor f (hand_back s b f)
  sets : {s w v : ℕ} → ActsFor f (set_pointer s w v f)
  deletes : {r : ℕ} → ActsFor f (delete r f)
  deletes_all : {rs : List ℕ} → ActsFor f (delete_all rs f)

-- A call answers 23 just where it acts for a filler above 3 and the heap's length is right, whatever else may be wrong; no other call ever does. (Where the length is wrong it answers 21, and by either
-- it changes nothing: `LengthFirst` and `Refusals` of demand 1)
unfoldable pub FillerNext : Type 0
FillerNext =
    (c : Call) (S : Store) (a : Answer) (T : Store) → Outcome c S a T
    → (a.refusal ≡ 23) ↔ ((f : ℕ) × ActsFor f c × (4 ≤ f) × (bad_length S ≡ false))

-- what a call leaves, T, of filler f's share at entry i in S
pub record Share (f : ℕ) (c : Call) (S T : Store) (i : ℕ) : Type 0 where
  -- it stays, unless the call acts for that filler, or makes a region there
  pub stays : (ActsFor f c → ⊥) → (name_at (regions S) i ≢ 0) ⊎ (name_at (regions T) i ≡ 0) → share_at (regions T) f i ≡ share_at (regions S) f i
  -- of a region made there it is 0
  pub begins : name_at (regions S) i ≡ 0 → name_at (regions T) i ≢ 0 → share_at (regions T) f i ≡ 0
  -- and no region changes its entry: it keeps it or is gone, and one that is made has the next name
  pub named : (name_at (regions T) i ≡ name_at (regions S) i) ⊎ (name_at (regions T) i ≡ 0) ⊎ ((name_at (regions S) i ≡ 0) × (name_at (regions T) i ≡ (regions S).given + 1))

-- So of every call, and of all shares, on every memory whose arrays have the lengths that their types say: the shares of the three other fillers stay as they were, all four where a call names no filler, and
-- those of a new region are 0, region 1's too, which make brings. (What a call leaves of its own filler's shares, `Outcome` says)
unfoldable pub OwnShare : Type 0
OwnShare =
    ((c : Call) (S : Store) → Sized S → (a : Answer) (T : Store) → Outcome c S a T → (f i : ℕ) → f ≤ 3 → i < 64 → Share f c S T i)
    × ((heap : List ℕ) (a : Answer) (T : Store) → MakeOutcome heap a T → (f i : ℕ) → share_at (regions T) f i ≡ 0)

-- numbers added one after the other, modulo 2^32 each time
unfoldable pub added_singly : List ℕ → ℕ
added_singly [] = 0
added_singly (x ∷ l) = (x + added_singly l) % 4294967296

-- Two lists that have each number equally often, so that one is a rearrangement of the other, have one total, added at once or one after the other; so have the shares of a region, in whichever order the
-- fillers come, each once, and that is its stored count
unfoldable pub AnyOrder : Type 0
AnyOrder =
    ((k l : List ℕ) → ((n : ℕ) → times n k ≡ times n l) → (added k ≡ added l) × (added_singly k ≡ added l))
    × ((g : Regions) (i : ℕ) (fs : List ℕ) → ((f : ℕ) → times f fs ≡ times f (up_to 4)) → added (map (λ f. share_at g f i) fs) ≡ count_at g i)

-- U is S with other shares of one total at each entry
pub record SameTotals (S U : Store) : Type 0 where
  pub rest : U ≡ with_regions S (with_shares (regions S) (regions U).shares)
  pub totals : (i : ℕ) → count_at (regions U) i ≡ count_at (regions S) i

-- c and d are one call, but for which of the fillers 0 to 3 it acts for
pub data OneBut : Call → Call → Type 0 where
  same : {c : Call} → OneBut c c
  drops : {f g : ℕ} → f ≤ 3 → g ≤ 3 → OneBut (drop_frame f) (drop_frame g)
  hands_back : {s b f g : ℕ} → f ≤ 3 → g ≤ 3 → OneBut (hand_back s b f) (hand_back s b g)
  sets : {s w v f g : ℕ} → f ≤ 3 → g ≤ 3 → OneBut (set_pointer s w v f) (set_pointer s w v g)
  deletes : {r f g : ℕ} → f ≤ 3 → g ≤ 3 → OneBut (delete r f) (delete r g)
  deletes_all : {rs : List ℕ} {f g : ℕ} → f ≤ 3 → g ≤ 3 → OneBut (delete_all rs f) (delete_all rs g)

-- No call looks at one share, audit, report and both deletes included: on every memory totals alone decide what it answers, and what it leaves but for shares; and so it is whichever of the four fillers it
-- acts for. So two lists of calls that differ in that alone, from two stores that differ only in shares of the same totals, give the same answers and end in two such stores
unfoldable pub TotalsDecide : Type 0
TotalsDecide =
    ((S U : Store) → SameTotals S U → (c d : Call) → OneBut c d → (a b : Answer) (T W : Store) → Outcome c S a T → Outcome d U b W → (a ≡ b) × SameTotals T W)
    × ((S U : Store) → SameTotals S U → (es fs : List Event) (T W : Store) → Run S es T → Run U fs W → length es ≡ length fs → All₂ OneBut (calls es) (calls fs)
    → (answers es ≡ answers fs) × SameTotals T W)
