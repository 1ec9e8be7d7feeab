-- Memory holds one state, and a host's requests are a run.
-- Assumes nothing.
use Rattle.std.specs.Prelude.{◌≡◌, refl, Bool, true, false, List, [], ◌∷◌, ℕ, get_or}
use Rattle.std.proofs.Common.{sym, ap, subst, ◌∙◌}
use Rattle.std.proofs.Math.Path.{subst⁻¹}
use Rattle.model.specs.Model.{Answer, Call, refused_by}
use Rattle.state.specs.declared.State.{State}
use Rattle.state.specs.declared.Reply.{Reply}
use Rattle.outcomes.specs.Store.{Store}
use Rattle.outcomes.specs.Outcome.{store, answer_of}
use Rattle.outcomes.specs.Runs.{Event, Run, done, step, calls, answers}
use Rattle.dispatch.specs.Dispatch.{is_call, decoded, DispatchedBy, Dispatched}
use Rattle.abi.specs.Memory.{OfSizes, sizes, HoldsState, reply_of}
use Rattle.abi.specs.Hosts.{Request, Driven, ended, asked, requested, numbers_of, replied, OneState, AllSized, HostRuns}

-- the state that arrays are
state_of : List (List ℕ) → State
state_of m =
    let n : ℕ → ℕ = λ i. get_or (get_or m 0 []) i 0 in
    let l : ℕ → List ℕ = λ i. get_or m i [] in
    record {
      frames = record { standing = n 0; counted = n 1; widths = l 1; slots = l 2 };
      kinds = record { declared = n 2; sizes = l 3; marks = l 4 };
      regions = record { given = n 3; names = l 5; parents = l 6; levels = l 7; shares = l 8; newest = l 9; oldest = l 10 };
      pages = record { made = n 4; owners = l 11; taken = l 12 };
    }

pub one_state : OneState
unfolding OneState HoldsState state_of
one_state s t m h k = sym (ap state_of h.0) ∙ ap state_of k.0

pub all_sized : AllSized
unfolding AllSized HoldsState
all_sized s m heap (e, h) =
    let (_, _, (w, _, (l, _, (z, _, (m, _, (n, _, (p, _, (v, _, (h, _, (e, _, (o, _, (r, _, (t, _, _))))))))))))) = subst (OfSizes sizes) e h in
    record {
      in_frames = record { widths = w; slots = l };
      in_kinds = record { sizes = z; marks = m };
      in_regions = record { names = n; parents = p; levels = v; shares = h; newest = e; oldest = o };
      in_pages = record { owners = r; taken = t };
    }

-- what a host has after requests that began with S and end with the state t
abbrev Ran : Store → List Request → List (List ℕ) → State → List ℕ → Type 0
Ran S qs replies t heap = (es : List Event) × Run S es (store t heap) × (calls es ≡ requested qs) × (replies ≡ replied qs (answers es))

call_of : Request → Call
call_of q = decoded q.number q.a q.b q.c q.d q.list

replied_no : (q : Request) (qs : List Request) (given : List Answer) → is_call q.number ≡ false → replied (q ∷ qs) given ≡ numbers_of (refused_by 24) ∷ replied qs given
replied_no q qs [] e = refl
replied_no q qs (a ∷ given) e = rw e

-- one request more in front, which has left T
one_more : (q : Request) (qs : List Request) (S T : Store) (r : Reply) (replies : List (List ℕ)) (u : State) (heap : List ℕ) (x : Bool) → is_call q.number ≡ x → DispatchedBy x (call_of q) S r T
    → Ran T qs replies u heap → Ran S (q ∷ qs) (reply_of r ∷ replies) u heap
unfolding call_of
one_more q qs S T r replies u heap true e (part, o) (es, run, ec, er) =
    let event : Event = record { call = call_of q; answer = answer_of r part; left = T } in
    (event ∷ es, step o run, rw (e, ec), rw (e, er))
one_more q qs S T r replies u heap false e (a, k) (es, run, ec, er) = (es, subst (λ U. Run U es (store u heap)) k run, rw (e, ec), ap (λ z. (z.refusal ∷ z.values) ∷ replies) a ∙ ap (λ z. numbers_of (refused_by 24) ∷ z) er ∙ sym (replied_no q qs (answers es) e))

-- the request's outcome, of the state that the memory is known to hold
known : (q : Request) (s s' t : State) (memory : List (List ℕ)) (heap heap' : List ℕ) (r : Reply) → HoldsState s memory → HoldsState s' memory
    → Dispatched q.number q.a q.b q.c q.d q.list (store s' heap) r (store t heap') → DispatchedBy (is_call q.number) (call_of q) (store s heap) r (store t heap')
unfolding OneState Dispatched call_of
known q s s' t memory heap heap' r h k o = subst (λ x. DispatchedBy (is_call q.number) (call_of q) (store x heap) r (store t heap')) (one_state s' s memory k h) o

ran : {before after : List (List ℕ)} {heap heap' : List ℕ} {qs : List Request} {replies : List (List ℕ)} (s : State) → HoldsState s before → Driven before heap qs replies after heap'
    → (t : State) × HoldsState t after × Ran (store s heap) qs replies t heap'
ran s h ended = (s, h, ([], done, refl, refl))
ran {before = m} {heap = heap} {heap' = end} {qs = q ∷ qs} {replies = y ∷ replies} s h (asked {heap' = left} (s', t, r, hs, ht, er, o) rest) =
    let (u, hu, more) = ran t ht rest in
    (u, hu, subst⁻¹ (λ z. Ran (store s heap) (q ∷ qs) (z ∷ replies) u end) er (one_more q qs (store s heap) (store t left) r replies u end (is_call q.number) refl (known q s s' t m heap left r h hs o) more))

pub host_runs : HostRuns
unfolding HostRuns
host_runs s before after heap heap' qs replies h d = let (t, ht, (es, run, ec, er)) = ran s h d in (t, es, ht, run, ec, er)
