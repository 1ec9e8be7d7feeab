-- The three demands, and more. They speak of `Outcome`, which is what every public call's contract says, of lists of calls (`Run`) and of what these tell (`history`).
-- Each is a type. The theorems are in Laws: demand1, demand2 and audited_answers, demand3, stays_sound, counts_fit_lem, stays_shown, starts_agree and runs_exist, table_holds and further_holds.
-- Assumes nothing.
use Rattle.std.specs.Prelude.{◌≡◌, ◌↔◌, ◌≢◌, Bool, true, not, ◌&&◌, List, [], ◌∷◌, ℕ, ◌+◌, ◌/◌, ◌≤◌, eqb, length, get_or, drop}
use Rattle.lists.specs.Lists.{every, count_of, All, times}
use Rattle.model.specs.Model.{Model, Answer, Call, report, delete, delete_all, audit, gives}
use Rattle.model.specs.Calls.{wrong_names, makes, fresh, run}
use Rattle.model.specs.Valid.{Valid}
use Rattle.model.specs.Sessions.{Row, lines, table}
use Rattle.model.specs.Further.{further}
use Rattle.outcomes.specs.Store.{Store}
use Rattle.outcomes.specs.History.{History, Region, Object, begin, is_live, stored_count, uncounted_into, outside, subregions, closed, outside_but, slots_lead, words_lead, holders, pages_held}
use Rattle.outcomes.specs.Shape.{Sized}
use Rattle.outcomes.specs.Outcome.{Outcome, MakeOutcome}
use Rattle.promises.specs.Promises.{Total, Refusals, LengthFirst, SameLength, OnlyNamed, KeepsShape, AuditExact, Makes}
use Rattle.outcomes.specs.Runs.{Event, calls, answers, Run}
use Rattle.demands.specs.Told.{opening, history}

-- Demand 1. That each call is safe, ends and touches only what it is given is the gate's verdict on functions without a `requires`.
-- Here, of every memory: a call has an outcome; it refuses by the first test that holds, and then changes no word; 21 comes first where the length is wrong, and is never given on audited memory;
-- the heap's length stays, and no word of it is written that the rules don't name; memory of the language's types stays so; audit; make.
unfoldable pub Demand1 : Type 0
Demand1 = Total × Refusals × LengthFirst × SameLength × OnlyNamed × KeepsShape × AuditExact × Makes

-- What is said of every run is said of every list of calls, with any numbers as arguments: each has a run, from any store.
unfoldable pub RunsExist : Type 0
RunsExist = (cs : List Call) (S : Store) → (es : List Event) × (T : Store) × Run S es T × (calls es ≡ cs)

-- Demand 2. From a fresh store, whatever the calls, the answers are the reference model's, refusals included.
unfoldable pub Demand2 : Type 0
Demand2 =
    (heap : List ℕ) (a : Answer) (S : Store) → makes (length heap) ≡ true → MakeOutcome heap a S
    → (es : List Event) (T : Store) → Run S es T
    → (a ≡ gives []) × (answers es ≡ run (fresh (length heap / 64)) (calls es))

-- More than demand 2: from any memory for which audit gives 1 the answers are those of some valid model, whatever the calls. (That it has the objects where the memory does is `LedgerPlaces`', in Later.)
unfoldable pub AuditedAnswers : Type 0
AuditedAnswers =
    (S : Store) → Sized S → Outcome audit S (gives (1 ∷ [])) S
    → (L : Model) × Valid L × ((es : List Event) (T : Store) → Run S es T → answers es ≡ run L (calls es))

-- a fresh store, or one that the audit accepts, and the history that it begins. `Sized` has the lengths of the state's arrays, no more: their types fix them, and the contract of audit says it of every memory
pub data Start : Store → History → Type 0 where
  after_make : {S : Store} {h : History} (heap : List ℕ) → makes (length heap) ≡ true → MakeOutcome heap (gives []) S → h ≡ opening (length heap / 64) → Start S h
  after_audit : {S : Store} {h : History} → Sized S → Outcome audit S (gives (1 ∷ [])) S → h ≡ begin S → Start S h

-- a list that passes 22, 2 and 3: 1 to 16 names, none twice, each of a live region and none of region 1 (document 02, card 2)
abbrev pub names_pass : History → List ℕ → Bool
names_pass h l = not (wrong_names l) && every (λ r. is_live h r && not (eqb r 1)) l

-- what holds of a store and what its calls told
pub record Holds (h : History) (S : Store) : Type 0 where
  -- each live region's stored count and the pointers to it in uncounted frames are all its outside pointers
  pub counts : (r : ℕ) → is_live h r ≡ true → stored_count S r + uncounted_into h S r ≡ outside h S r
  -- every pointer is null, or leads to a live object and keeps its mark's rule
  pub slots : slots_lead h S ≡ true
  pub words : words_lead h S ≡ true
  -- every page made is either free or some one live region's
  pub pages : pages_held h ≡ true
  -- if the next call is a report of a live region, it answers the stored count and how many outside pointers there are
  pub reports : (r : ℕ) → is_live h r ≡ true → (a : Answer) (T : Store) → Outcome (report r) S a T
      → (a.refusal ≡ 0) × (get_or a.values 0 0 ≡ stored_count S r) × (get_or a.values 1 0 ≡ outside h S r)
  -- if the next call deletes a live region, not region 1, for a filler 0 to 3, it is accepted just where the region has no live subregion and no outside pointer
  pub deletes : (r f : ℕ) → is_live h r ≡ true → r ≢ 1 → f ≤ 3 → (a : Answer) (T : Store) → Outcome (delete r f) S a T
      → (a.refusal ≡ 0) ↔ ((subregions h r ≡ 0) × (outside h S r ≡ 0))
  -- if the next call is a joint delete, of whatever list, for a filler 0 to 3, it is accepted just where the list passes, no live region right below a member is left out, and every outside pointer
  -- of a member is a word of a member's object (document 02, card 2)
  pub together : (l : List ℕ) (f : ℕ) → f ≤ 3 → (a : Answer) (T : Store) → Outcome (delete_all l f) S a T
      → (a.refusal ≡ 0) ↔ ((names_pass h l ≡ true) × (closed h l ≡ true) × All (λ r. outside_but h S l r ≡ 0) l)

-- Demand 3. All of it, after any run from a start; the run may be empty.
unfoldable pub Demand3 : Type 0
Demand3 = (S : Store) (h : History) → Start S h → (es : List Event) (T : Store) → Run S es T → Holds (history h es) T

-- More than the demands: the audit, asked after any such list of calls, gives 1.
unfoldable pub StaysSound : Type 0
StaysSound = (S : Store) (h : History) → Start S h → (es : List Event) (T U : Store) (a : Answer) → Run S es T → Outcome audit T a U → a ≡ gives (1 ∷ [])

-- More than the demands: after any such list of calls no live region has more than 16,640 outside pointers, so no stored count passes that, and none needs a clamp (document 01, The store).
unfoldable pub CountsFit : Type 0
CountsFit =
    (S : Store) (h : History) → Start S h → (es : List Event) (T : Store) → Run S es T
    → (r : ℕ) → is_live (history h es) r ≡ true → (outside (history h es) T r ≤ 16640) × (stored_count T r ≤ 16640)

-- the memory S lists what the calls told (h). `begin` reads memory entry by entry and page by page, h is in the order of the calls
pub record Shows (h : History) (S : Store) : Type 0 where
  pub kinds : h.kinds ≡ (begin S).kinds
  pub frames : h.frames ≡ (begin S).frames
  pub counted : h.counted ≡ (begin S).counted
  pub pages : h.pages ≡ (begin S).pages
  -- the same regions and objects in any order: as many pass any test
  pub regions : (f : Region → Bool) → count_of f h.regions ≡ count_of f (begin S).regions
  pub objects : (f : Object → Bool) → count_of f h.objects ≡ count_of f (begin S).objects
  pub free : (j : ℕ) → times j h.free ≡ times j (begin S).free
  pub held : (j : ℕ) → holders h j ≡ holders (begin S) j

-- More than the demands: after any such list of calls the memory lists what they told.
unfoldable pub StaysShown : Type 0
StaysShown = (S : Store) (h : History) → Start S h → (es : List Event) (T : Store) → Run S es T → Shows (history h es) T

-- The two starts agree: the audit accepts what make leaves (`Makes`), and that memory lists what make begins.
unfoldable pub StartsAgree : Type 0
StartsAgree = (heap : List ℕ) (a : Answer) (S : Store) → makes (length heap) ≡ true → MakeOutcome heap a S → begin S ≡ opening (length heap / 64)

-- A row of sessions on the store: make, given as many words as the row says, and then a run with the row's calls print the row's lines. (A row whose make is refused has no calls.)
unfoldable pub RowHolds : Row → Type 0
RowHolds row =
    (heap : List ℕ) (a : Answer) (S : Store) → length heap ≡ row.lent → MakeOutcome heap a S
    → (es : List Event) (T : Store) → Run S es T → calls es ≡ row.calls
    → drop row.skip (lines 1 (a ∷ answers es)) ≡ row.prints

-- Document 01's session and its starred cases
unfoldable pub TableHolds : Type 0
TableHolds = All RowHolds table

-- More than document 01 asks: its other cases, rules that its cases leave out, and the cases of document 02's cards
unfoldable pub FurtherHolds : Type 0
FurtherHolds = All RowHolds further
