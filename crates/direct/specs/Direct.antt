-- Calls made directly: each by a function of its own, on what it reads and writes of the state alone. What makes them calls that `Called` speaks of. The theorems are types; their proofs are in Laws: direct_called, mixed_driven.
-- Assumes nothing.
use Rattle.std.specs.Prelude.{◌≡◌, ◌⊎◌, true, List, [], ◌∷◌, ℕ, get_or}
use Rattle.lists.specs.Lists.{All}
use Rattle.model.specs.Model.{Call}
use Rattle.state.specs.declared.State.{State}
use Rattle.state.specs.declared.Reply.{Reply}
use Rattle.outcomes.specs.Shape.{Bits32}
use Rattle.lent.specs.Lent.{InPlace}
use Rattle.promises.specs.Promises.{Sent}
use Rattle.dispatch.specs.Dispatch.{is_call, decoded}
use Rattle.abi.specs.Memory.{HoldsState, Called, arrays_of, reply_of}
use Rattle.abi.specs.Hosts.{Request, Driven}

-- the reply of a function that gives the refusal g and writes these values: those that it has not are 0
abbrev pub reply_with : ℕ → List ℕ → Reply
reply_with g v = record { refusal = g; a = get_or v 0 0; b = get_or v 1 0; c = get_or v 2 0; d = get_or v 3 0 }

-- the call that a request asks for, where its number is a call's
abbrev pub call_of : Request → Call
call_of q = decoded q.number q.a q.b q.c q.d q.list

-- the request was made by its number
abbrev pub ByNumber : Request → List (List ℕ) → List ℕ → List (List ℕ) → List ℕ → List ℕ → Type 0
ByNumber q memory heap memory' heap' reply = Called q.number q.a q.b q.c q.d q.list memory heap memory' heap' reply

-- the request was made directly, on memory that holds s: by a function with the contract of its call in place, which was lent what s has in those places (so that `before` changes nothing), and the memory then holds what it left there
abbrev pub Directly : Request → List (List ℕ) → List ℕ → List (List ℕ) → List ℕ → List ℕ → Type 0
Directly q memory heap memory' heap' reply =
    (s : State) × (before : State → State) × (after : State → State) × (r : Reply) × HoldsState s memory × (before s ≡ s) × (is_call q.number ≡ true) × InPlace (call_of q) before heap r after heap'
    × (memory' ≡ arrays_of (after s)) × (reply ≡ reply_of r)

-- what was made directly is as if made by its number; asked is what the types say, that the heap's words and the number that put takes are below 2^32
unfoldable pub DirectCalled : Type 0
DirectCalled =
    (q : Request) (memory memory' : List (List ℕ)) (heap heap' reply : List ℕ) → Bits32 heap → Sent (call_of q) → Directly q memory heap memory' heap' reply
    → ByNumber q memory heap memory' heap' reply

-- requests on that memory and heap, one after another, each made either way
pub data Mixed : List (List ℕ) → List ℕ → List Request → List (List ℕ) → List (List ℕ) → List ℕ → Type 0 where
  nothing : {memory : List (List ℕ)} {heap : List ℕ} → Mixed memory heap [] [] memory heap
  more : {before after last : List (List ℕ)} {heap heap' end : List ℕ} {q : Request} {qs : List Request} {reply : List ℕ} {replies : List (List ℕ)}
      → ByNumber q before heap after heap' reply ⊎ Directly q before heap after heap' reply → Mixed after heap' qs replies last end → Mixed before heap (q ∷ qs) (reply ∷ replies) last end

-- they are as if made by their numbers, all of them: so `HostRuns`, and with it the three demands, speaks of hosts that call either way
unfoldable pub MixedDriven : Type 0
MixedDriven =
    (before after : List (List ℕ)) (heap heap' : List ℕ) (qs : List Request) (replies : List (List ℕ)) → Bits32 heap → All (λ q. Sent (call_of q)) qs
    → Mixed before heap qs replies after heap' → Driven before heap qs replies after heap'
