-- Calls by their numbers: document 01's, and from 24 on those of document 02's cards.
-- Assumes nothing.
use Rattle.std.specs.Prelude.{◌≡◌, Bool, true, false, ◌&&◌, List, [], ◌∷◌, ℕ, ◌+◌, ◌-◌, leb, length, get_or}
use Rattle.model.specs.Model.{Call, declare, new_region, subregion, push, drop_frame, hand_back, allocate, first, copy, fetch, clear, load, set_pointer, put, get, view, same, about, report, totals, audit, delete, delete_all, locate, ask, refused_by}
use Rattle.state.specs.declared.Reply.{Reply}
use Rattle.outcomes.specs.Store.{Store}
use Rattle.outcomes.specs.Outcome.{Outcome, answer_of}

-- the calls from number 2 on, in order, with their arguments from the left: four numbers, and a list, declare's marks or delete_all's names. A filler is the number after document 01's arguments, and the
-- first beside delete_all's list (document 02, card 5)
abbrev pub numbered : ℕ → ℕ → ℕ → ℕ → List ℕ → List Call
numbered a b c d list =
    declare list ∷ new_region ∷ subregion a ∷ push a ∷ drop_frame a ∷ hand_back a b c ∷ allocate a b c ∷ first a b ∷ copy a b ∷ fetch a b ∷ clear a ∷ load a b c ∷ set_pointer a b c d ∷ put a b c ∷ get a b ∷ view a ∷ same a b ∷ about a ∷ report a ∷ totals ∷ audit ∷ delete a b ∷ delete_all list a ∷ ask (locate a) ∷ []

-- the number of the last of them
abbrev pub last_call : ℕ
last_call = length (numbered 0 0 0 0 []) + 1

-- n is the number of one of them
abbrev pub is_call : ℕ → Bool
is_call n = leb 2 n && leb n last_call

-- the call numbered n
unfoldable pub decoded : ℕ → ℕ → ℕ → ℕ → ℕ → List ℕ → Call
decoded n a b c d list = get_or (numbered a b c d list) (n - 2) totals

-- the outcome of that call; its reply has no place for view's part, which is some list here and [] for every other call
abbrev pub OutcomeOf : Call → Store → Reply → Store → Type 0
OutcomeOf c S r T = (part : List ℕ) × Outcome c S (answer_of r part) T

-- a number that is no call's is answered 24 and zeros, and nothing changes
abbrev pub DispatchedBy : Bool → Call → Store → Reply → Store → Type 0
DispatchedBy true c S r T = OutcomeOf c S r T
DispatchedBy false c S r T = (answer_of r [] ≡ refused_by 24) × (T ≡ S)

unfoldable pub Dispatched : ℕ → ℕ → ℕ → ℕ → ℕ → List ℕ → Store → Reply → Store → Type 0
Dispatched n a b c d list S r T = DispatchedBy (is_call n) (decoded n a b c d list) S r T
