-- Direct calls, each the request with its number; and one as a host makes it.
-- Assumes nothing.
use Rattle.std.specs.Prelude.{◌≡◌, refl, List, [], ◌∷◌, ℕ}
use Rattle.model.specs.Model.{declare, new_region, subregion, push, drop_frame, hand_back, allocate, first, copy, fetch, clear, load, set_pointer, put, get, same, about, report, totals, delete, locate, ask}
use Rattle.state.specs.declared.State.{State}
use Rattle.dispatch.specs.Dispatch.{decoded}
use Rattle.lent.specs.Lent.{InPlace, with_made, with_standing, with_widths, with_slots}
use Rattle.abi.specs.Memory.{HoldsState, arrays_of}
use Rattle.abi.specs.Hosts.{Request}
use Rattle.direct.specs.Direct.{reply_with, call_of, Directly}

abbrev request : ℕ → ℕ → ℕ → ℕ → ℕ → List ℕ → Request
request n a b c d list = record { number = n; a = a; b = b; c = c; d = d; list = list }

pub numbers : (a b c d : ℕ) (list : List ℕ)
    → (call_of (request 2 a b c d list) ≡ declare list) × (call_of (request 3 a b c d list) ≡ new_region) × (call_of (request 4 a b c d list) ≡ subregion a) × (call_of (request 5 a b c d list) ≡ push a)
    × (call_of (request 6 a b c d list) ≡ drop_frame a) × (call_of (request 7 a b c d list) ≡ hand_back a b c) × (call_of (request 8 a b c d list) ≡ allocate a b c) × (call_of (request 9 a b c d list) ≡ first a b)
    × (call_of (request 10 a b c d list) ≡ copy a b) × (call_of (request 11 a b c d list) ≡ fetch a b) × (call_of (request 12 a b c d list) ≡ clear a) × (call_of (request 13 a b c d list) ≡ load a b c)
    × (call_of (request 14 a b c d list) ≡ set_pointer a b c d) × (call_of (request 15 a b c d list) ≡ put a b c) × (call_of (request 16 a b c d list) ≡ get a b) × (call_of (request 18 a b c d list) ≡ same a b)
    × (call_of (request 19 a b c d list) ≡ about a) × (call_of (request 20 a b c d list) ≡ report a) × (call_of (request 21 a b c d list) ≡ totals) × (call_of (request 23 a b c d list) ≡ delete a b)
    × (call_of (request 25 a b c d list) ≡ ask (locate a))
unfolding decoded
numbers a b c d list = (refl, refl, refl, refl, refl, refl, refl, refl, refl, refl, refl, refl, refl, refl, refl, refl, refl, refl, refl, refl, refl)

-- the contract of region_store_clear, lent what the state s has, which the memory holds: `before s ≡ s`, as of every other, by refl
pub clear_directly : (s : State) (memory : List (List ℕ)) (heap slots : List ℕ) (slot g : ℕ) → HoldsState s memory
    → InPlace (clear slot) (λ t. with_made s.pages.made (with_standing s.frames.standing (with_widths s.frames.widths (with_slots s.frames.slots t)))) heap (reply_with g []) (with_slots slots) heap
    → Directly (request 12 slot 0 0 0 []) memory heap (arrays_of (with_slots slots s)) heap (g ∷ 0 ∷ 0 ∷ 0 ∷ 0 ∷ [])
unfolding decoded
clear_directly s memory heap slots slot g h o = (s, _, with_slots slots, reply_with g [], h, refl, refl, o, refl, refl)
