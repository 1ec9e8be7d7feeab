-- Lists of calls on one store, with their outcomes: a call starts from what the last one left, also where that was refused (document 01, The calls).
-- Assumes nothing.
use Rattle.std.specs.Prelude.{List, [], ◌∷◌, map}
use Rattle.model.specs.Model.{Answer, Call}
use Rattle.outcomes.specs.Store.{Store}
use Rattle.outcomes.specs.Outcome.{Outcome}

-- a call, what it answered, and the store that it left
pub record Event : Type 0 where
  pub call : Call
  pub answer : Answer
  pub left : Store

abbrev pub calls : List Event → List Call
calls es = map (λ e. e.call) es

abbrev pub answers : List Event → List Answer
answers es = map (λ e. e.answer) es

-- a list of calls on S, with their outcomes, that ends in T
pub data Run : Store → List Event → Store → Type 0 where
  done : {S : Store} → Run S [] S
  step : {S U : Store} {e : Event} {es : List Event} → Outcome e.call S e.answer e.left → Run e.left es U → Run S (e ∷ es) U
