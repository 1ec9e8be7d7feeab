-- The memory that a host lends, and what the functions do with it.
-- Assumes nothing.
use Rattle.std.specs.Prelude.{◌≡◌, List, [], ◌∷◌, ℕ, zero, suc, ◌+◌, ◌*◌, ◌≤◌, ◌<◌, eqb, length, take, drop}
use Rattle.lists.specs.Lists.{pick, joined, All}
use Rattle.model.specs.Model.{view, four}
use Rattle.state.specs.declared.State.{State}
use Rattle.state.specs.declared.Reply.{Reply}
use Rattle.outcomes.specs.Store.{slot}
use Rattle.outcomes.specs.Outcome.{Outcome, MakeOutcome, answer_of, store}
use Rattle.dispatch.specs.Dispatch.{Dispatched}

-- the arrays of a state in the order of its parts, and before them its numbers, as one array
abbrev pub arrays_of : State → List (List ℕ)
arrays_of s =
    let f = s.frames in
    let k = s.kinds in
    let r = s.regions in
    let p = s.pages in
    (f.standing ∷ f.counted ∷ k.declared ∷ r.given ∷ p.made ∷ [])
    ∷ f.widths ∷ f.slots ∷ k.sizes ∷ k.marks ∷ r.names ∷ r.parents ∷ r.levels ∷ r.shares ∷ r.newest ∷ r.oldest ∷ p.owners ∷ p.taken ∷ []

-- of each array the bytes of an element, and how many elements there are
abbrev pub sizes : List (ℕ × ℕ)
sizes = (4, 5) ∷ (1, 32) ∷ (4, 256) ∷ (1, 16) ∷ (1, 256) ∷ (4, 64) ∷ (1, 64) ∷ (1, 64) ∷ (4, 256) ∷ (2, 64) ∷ (4, 64) ∷ (1, 256) ∷ (1, 256) ∷ []

-- the layout as hosts ask for it: its version, raised where the arrays or what they mean change, and these numbers
abbrev pub layout : List ℕ
layout = 1 ∷ joined (λ p. p.0 ∷ p.1 ∷ []) sizes

-- the number that so many bytes stay below
abbrev pub limit : ℕ → ℕ
limit zero = 1
limit (suc n) = 256 * limit n

-- each array has as many elements as its size says, each of no more bytes (that they are no narrower, and come in this order, a reader sees in the functions' arguments)
abbrev pub OfSizes : List (ℕ × ℕ) → List (List ℕ) → Type 0
OfSizes [] [] = Unit {0}
OfSizes [] (l ∷ ls) = ⊥
OfSizes (p ∷ ps) [] = ⊥
OfSizes (p ∷ ps) (l ∷ ls) = (length l ≡ p.1) × All (λ x. x < limit p.0) l × OfSizes ps ls

-- the memory holds the state s, in arrays of these sizes
unfoldable pub HoldsState : State → List (List ℕ) → Type 0
HoldsState s memory = (memory ≡ arrays_of s) × OfSizes sizes memory

-- the numbers that a host reads as the reply
abbrev pub reply_of : Reply → List ℕ
reply_of r = r.refusal ∷ r.a ∷ r.b ∷ r.c ∷ r.d ∷ []

-- make, with that heap, leaves the state that the memory then holds (document 01, Make)
abbrev pub Made : List ℕ → List (List ℕ) → List ℕ → List ℕ → Type 0
Made heap after heap' reply = (t : State) × (r : Reply) × HoldsState t after × (reply ≡ reply_of r) × MakeOutcome heap (answer_of r []) (store t heap')

-- the call with that number, on the state that the memory held, leaves the one that it then holds
abbrev pub Called : ℕ → ℕ → ℕ → ℕ → ℕ → List ℕ → List (List ℕ) → List ℕ → List (List ℕ) → List ℕ → List ℕ → Type 0
Called number a b c d list before heap after heap' reply =
    (s : State) × (t : State) × (r : Reply) × HoldsState s before × HoldsState t after × (reply ≡ reply_of r) × Dispatched number a b c d list (store s heap) r (store t heap')

-- view, on the state that the memory holds: the refusal, and the part as its place and length in the heap; the place is that of the object's word 0, which is the pointer in the slot, and 0 with an empty part (document 01, View)
abbrev pub Viewed : ℕ → List (List ℕ) → List ℕ → List ℕ → Type 0
Viewed n memory heap out =
    (s : State) × (refusal : ℕ) × (place : ℕ) × (count : ℕ) × HoldsState s memory × (out ≡ refusal ∷ place ∷ count ∷ [])
    × (place ≡ pick (eqb count 0) 0 (slot (store s heap) n)) × (place + count ≤ length heap)
    × Outcome (view n) (store s heap) (record { refusal = refusal; values = four []; part = take count (drop place heap) }) (store s heap)
