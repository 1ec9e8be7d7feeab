-- What view gives in place of the part itself: the refusal's number, and where the part lies in the heap.
-- Assumes nothing.
use Rattle.std.specs.Prelude.{◌≡◌, List, ℕ, ◌+◌, ◌≤◌, eqb, length, take, drop}
use Rattle.lists.specs.Lists.{pick}
use Rattle.model.specs.Model.{view}
use Rattle.state.specs.declared.State.{State}
use Rattle.outcomes.specs.Store.{Store, slot}
use Rattle.outcomes.specs.Outcome.{Outcome, refusal, view_answer, store}
use Rattle.lent.specs.declared.View.{View}

-- v says what view of slot n is answered on S: the place is that of the object's word 0, which is the pointer in the slot, and 0 with an empty part (document 01, View)
abbrev pub ViewedAs : ℕ → Store → View → Type 0
ViewedAs n S v =
    (v.refusal ≡ refusal S (view n)) × (v.place ≡ pick (eqb v.count 0) 0 (slot S n)) × (v.place + v.count ≤ length S.heap)
    × Outcome (view n) S (view_answer S n (take v.count (drop v.place S.heap))) S

-- view works on what is lent: whatever else the state has, it is `before` of it
abbrev pub ViewedIn : ℕ → (State → State) → List ℕ → View → Type 0
ViewedIn n before heap v = (s : State) → ViewedAs n (store (before s) heap) v
