-- What every call promises, whatever it is asked: demand 1's part on answers and words, of every memory but where `Sound` or `Shaped` is asked. Each is a type; Laws has the proofs.
-- Assumes nothing.
use Rattle.std.specs.Prelude.{◌≡◌, ◌⊎◌, ◌↔◌, ◌≢◌, true, false, List, [], ◌∷◌, ℕ, ◌+◌, ◌*◌, ◌≤◌, ◌<◌, length, get_or}
use Rattle.lists.specs.Lists.{bit, All}
use Rattle.model.specs.Model.{Answer, Call, declare, new_region, subregion, push, drop_frame, hand_back, allocate, first, copy, fetch, clear, load, set_pointer, put, get, view, same, about, report, totals, audit, delete, delete_all, ask, gives, refused_by}
use Rattle.model.specs.Calls.{makes}
use Rattle.regions.specs.Regions.{entry_of}
use Rattle.outcomes.specs.Store.{Store, regions, slot, size}
use Rattle.outcomes.specs.History.{History, begin}
use Rattle.outcomes.specs.Sound.{sound, Sound}
use Rattle.outcomes.specs.Shape.{Bits32, Shaped}
use Rattle.outcomes.specs.Outcome.{Outcome, MakeOutcome, refusal, bad_length, store, page_for, start_on}

-- every call has an outcome on every memory
unfoldable pub Total : Type 0
Total = (c : Call) (S : Store) → (a : Answer) × (T : Store) × Outcome c S a T

-- the number answered is the first test that holds; a refused call answers it with zeros and leaves every word
unfoldable pub Refusals : Type 0
Refusals =
    (c : Call) (S : Store) (a : Answer) (T : Store) → Outcome c S a T
    → (a.refusal ≡ refusal S c) × (a.refusal ≢ 0 → (a ≡ refused_by (refusal S c)) × (T ≡ S))

-- every call but totals and audit answers 21 first where the heap's length is not the one made; and never 21 on a store that the audit accepts
unfoldable pub LengthFirst : Type 0
LengthFirst =
    (c : Call) (S : Store) (a : Answer) (T : Store) → c ≢ totals → c ≢ audit → Outcome c S a T
    → (bad_length S ≡ true → (a ≡ refused_by 21) × (T ≡ S)) × (Sound S → a.refusal ≢ 21)

-- no call changes the heap's length
unfoldable pub SameLength : Type 0
SameLength = (c : Call) (S : Store) (a : Answer) (T : Store) → Outcome c S a T → length T.heap ≡ length S.heap

-- the heap words that a call may write on S: header and words of the object that allocate makes, and the word that set pointer or put names
abbrev pub Named : Call → Store → ℕ → Type 0
Named (declare ms) S p = ⊥
Named new_region S p = ⊥
Named (subregion r) S p = ⊥
Named (push n) S p = ⊥
Named (drop_frame f) S p = ⊥
Named (hand_back s b f) S p = ⊥
Named (allocate s r k) S p =
    let i = entry_of (regions S) r in
    let j = page_for S i (size S k) in
    (64 * j + start_on S i k j ≤ p) × (p < 64 * j + start_on S i k j + size S k)
Named (first s r) S p = ⊥
Named (copy s t) S p = ⊥
Named (fetch b s) S p = ⊥
Named (clear s) S p = ⊥
Named (load s w t) S p = ⊥
Named (set_pointer s w v f) S p = p ≡ slot S s + w
Named (put s w x) S p = p ≡ slot S s + w
Named (get s w) S p = ⊥
Named (view s) S p = ⊥
Named (same s t) S p = ⊥
Named (about s) S p = ⊥
Named (report r) S p = ⊥
Named totals S p = ⊥
Named audit S p = ⊥
Named (delete r f) S p = ⊥
Named (delete_all rs f) S p = ⊥
Named (ask q) S p = ⊥

unfoldable pub OnlyNamed : Type 0
OnlyNamed =
    (c : Call) (S : Store) (a : Answer) (T : Store) → Outcome c S a T
    → (p : ℕ) → (get_or T.heap p 0 ≡ get_or S.heap p 0) ⊎ Named c S p

-- a call's arguments are u32 numbers. Of them only put's value goes in unchecked, so only of it must that be said
abbrev pub Sent : Call → Type 0
Sent c = (s w x : ℕ) → c ≡ put s w x → x < 4294967296

-- an outcome is a value of the language's types: arrays keep their lengths, and numbers stay below their width
unfoldable pub KeepsShape : Type 0
KeepsShape =
    (c : Call) (S : Store) (a : Answer) (T : Store) → Sent c → Shaped S → Outcome c S a T
    → Shaped T × All (λ x. x < 4294967296) a.values

-- audit answers 1 where its condition holds, else 0, by an equation; 1 exactly where every clause does; and it changes nothing
unfoldable pub AuditExact : Type 0
AuditExact =
    (S : Store) (a : Answer) (T : Store) → Outcome audit S a T
    → (a ≡ gives (bit (sound S) ∷ [])) × ((a ≡ gives (1 ∷ [])) ↔ Sound S) × (T ≡ S)

-- no page, region, kind or frame
abbrev pub nothing : History
nothing = record { kinds = []; frames = []; counted = 0; regions = []; objects = []; held = []; free = []; pages = 0 }

-- make: what it leaves is of the language's types where the heap that it is lent is; accepted, every word is 0 and the audit accepts; refused, no word is written, the state lists
-- nothing, and the audit rejects it whatever heap it is asked of
unfoldable pub Makes : Type 0
Makes =
    (heap : List ℕ) (a : Answer) (T : Store) → MakeOutcome heap a T
    → (Bits32 heap → Shaped T)
    × (makes (length heap) ≡ true → (a ≡ gives []) × (length T.heap ≡ length heap) × All (λ w. w ≡ 0) T.heap × Sound T)
    × (makes (length heap) ≡ false → (a ≡ refused_by 1) × (T.heap ≡ heap) × (begin T ≡ nothing) × ((other : List ℕ) → Sound (store T.state other) → ⊥))
