-- What a host has that makes calls by their numbers, one after another, on memory that nothing else writes in between. Each is a type; the theorems are in Laws: one_state, all_sized, host_runs.
-- Assumes nothing.
use Rattle.std.specs.Prelude.{◌≡◌, List, [], ◌∷◌, ℕ}
use Rattle.lists.specs.Lists.{pick, joined}
use Rattle.model.specs.Model.{Answer, Call, refused_by}
use Rattle.state.specs.declared.State.{State}
use Rattle.outcomes.specs.Outcome.{store}
use Rattle.outcomes.specs.Runs.{Event, Run, calls, answers}
use Rattle.outcomes.specs.Shape.{Sized}
use Rattle.dispatch.specs.Dispatch.{is_call, decoded}
use Rattle.abi.specs.Memory.{HoldsState, Called}

-- a call's number, its four numbers, and its list
pub record Request : Type 0 where
  pub number : ℕ
  pub a : ℕ
  pub b : ℕ
  pub c : ℕ
  pub d : ℕ
  pub list : List ℕ

-- requests on that memory and heap, one after another, with their replies, and the memory and heap that they leave
pub data Driven : List (List ℕ) → List ℕ → List Request → List (List ℕ) → List (List ℕ) → List ℕ → Type 0 where
  ended : {memory : List (List ℕ)} {heap : List ℕ} → Driven memory heap [] [] memory heap
  asked : {before after last : List (List ℕ)} {heap heap' end : List ℕ} {q : Request} {qs : List Request} {reply : List ℕ} {replies : List (List ℕ)}
      → Called q.number q.a q.b q.c q.d q.list before heap after heap' reply → Driven after heap' qs replies last end → Driven before heap (q ∷ qs) (reply ∷ replies) last end

-- the calls among them: those whose number is a call's
abbrev pub requested : List Request → List Call
requested qs = joined (λ q. pick (is_call q.number) (decoded q.number q.a q.b q.c q.d q.list ∷ []) []) qs

-- an answer, as a host reads it
abbrev pub numbers_of : Answer → List ℕ
numbers_of a = a.refusal ∷ a.values

-- the replies to requests whose calls have these answers; a number that is no call's is refused by 24
abbrev pub replied : List Request → List Answer → List (List ℕ)
replied [] given = []
replied (q ∷ qs) [] = numbers_of (refused_by 24) ∷ replied qs []
replied (q ∷ qs) (a ∷ given) = pick (is_call q.number) (numbers_of a ∷ replied qs given) (numbers_of (refused_by 24) ∷ replied qs (a ∷ given))

-- memory holds one state
unfoldable pub OneState : Type 0
OneState = (s t : State) (memory : List (List ℕ)) → HoldsState s memory → HoldsState t memory → s ≡ t

-- every state that memory holds has arrays of the lengths that demand 3 and AuditedAnswers ask of audited memory
unfoldable pub AllSized : Type 0
AllSized = (s : State) (memory : List (List ℕ)) (heap : List ℕ) → HoldsState s memory → Sized (store s heap)

-- a host's requests are a run of just the calls among them, and the replies have that run's answers: so the three demands speak of hosts too
unfoldable pub HostRuns : Type 0
HostRuns =
    (s : State) (before after : List (List ℕ)) (heap heap' : List ℕ) (qs : List Request) (replies : List (List ℕ)) → HoldsState s before → Driven before heap qs replies after heap'
    → (t : State) × (es : List Event) × HoldsState t after × Run (store s heap) es (store t heap') × (calls es ≡ requested qs) × (replies ≡ replied qs (answers es))
