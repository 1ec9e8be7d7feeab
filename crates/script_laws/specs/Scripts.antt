-- What holds of every script (feed, Scripted): where it is cut does not matter, it prints one thing, and the store that it made is what a run of its calls left.
-- Assumes nothing.
use Rattle.std.specs.Prelude.{◌≡◌, Bool, true, false, List, [], ◌∷◌, ◌++◌, ◌↔◌, ℕ, ◌*◌, length, get_or, drop}
use Rattle.model.specs.Model.{Answer, refused_by, gives}
use Rattle.model.specs.Calls.{makes}
use Rattle.state.specs.declared.Reply.{Reply}
use Rattle.outcomes.specs.Store.{Store}
use Rattle.outcomes.specs.Outcome.{MakeOutcome}
use Rattle.outcomes.specs.Runs.{Event, calls, answers, Run}
use Rattle.dispatch.specs.Dispatch.{is_call}
use Rattle.script.specs.Script.{heard}
use Rattle.actions.specs.Acts.{printed}
use Rattle.tally.specs.declared.Tally.{Tally}
use Rattle.tally.specs.Answers.{tallied, answer}
use Rattle.feed.specs.Scripted.{ended, Turns, Talk, Scripted, start, scripted}

-- Feeding x and then y is feeding x followed by y, wherever the cut.
unfoldable pub CutAnywhere : Type 0
CutAnywhere =
    (t v : Talk) (x y q : List ℕ) → Scripted t (x ++ y) q v ↔ ((u : Talk) × (o : List ℕ) × (p : List ℕ) × Scripted t x o u × Scripted u y p v × (q ≡ o ++ p))

-- Whatever bytes are fed to whatever session, one thing is printed and one session left.
unfoldable pub OneAnswer : Type 0
OneAnswer =
    (t : Talk) (x : List ℕ)
    → ((o : List ℕ) × (u : Talk) × Scripted t x o u) × ((o p : List ℕ) (u w : Talk) → Scripted t x o u → Scripted t x p w → (o ≡ p) × (u ≡ w))

-- ---- runs

-- the reply that a line prints, and the answers that are left after it: a call takes the next of the answers
abbrev pub next_reply : Bool → ℕ → List Answer → Reply
next_reply true n given = printed n (get_or given 0 (refused_by 24))
next_reply false n given = printed 0 (refused_by 24)

abbrev pub next_answers : Bool → List Answer → List Answer
next_answers true given = drop 1 given
next_answers false given = given

-- what lines print once a store is made, where c is counted and their calls have these answers, in order: a call's line for each answer, and between them what the lines print that are no calls
unfoldable pub told : Tally → List (List ℕ) → List Answer → List ℕ
told c [] given = []
told c (l ∷ ls) given =
    let x = heard c.stage c.first l in
    let r = next_reply (is_call x.call) x.call given in
    answer c x.call (get_or x.args 0 0) r ++ told (tallied c x.call r.refusal) ls (next_answers (is_call x.call) given)

-- A session that has a store: state and heap move by a run of just the calls that the lines are, and what is printed has the lines of their answers, with what the other lines print between them.
unfoldable pub MadeRuns : Type 0
MadeRuns =
    (t u : Talk) (x o : List ℕ) → Scripted t x o u → t.tally.stage ≡ 2 → t.tally.first ≡ false
    → (es : List Event) × Run t.store es u.store × (calls es ≡ scripted (ended t.begun x)) × (o ≡ told t.tally (ended t.begun x) (answers es))

-- Where c is counted and S is the store, the lines `all` make the store T, and print o: one of them is a `pages` line, its make was accepted, and T is what a run of just the calls of the lines after it left. What these print is `told`, of the run's answers.
pub record Begun (c : Tally) (S : Store) (all : List (List ℕ)) (o : List ℕ) (T : Store) : Type 0 where
  pub before : List (List ℕ)
  pub pages : List ℕ
  pub after : List (List ℕ)
  pub are : all ≡ before ++ (pages ∷ after)
  -- what the lines before it print, and what is counted and the store after them
  pub early : List ℕ
  pub tally : Tally
  pub store : Store
  pub opens : Turns c S before early tally store
  -- the line asks for pages: a heap of so many words, of which make makes a store
  pub asks : (heard tally.stage tally.first pages).call ≡ 1
  pub heap : List ℕ
  pub lent : length heap ≡ 64 * get_or (heard tally.stage tally.first pages).args 0 0
  pub accepted : makes (length heap) ≡ true
  pub made : Store
  pub make : MakeOutcome heap (gives []) made
  pub events : List Event
  pub run : Run made events T
  pub calls : calls events ≡ scripted after
  pub prints : o ≡ early ++ answer tally 1 0 (printed 1 (gives [])) ++ told (tallied tally 1 0) after (answers events)

-- So it is with every script that has made a store: what demands 2 and 3 say of lists of calls they say of the script.
unfoldable pub ScriptRuns : Type 0
ScriptRuns = (x o : List ℕ) (u : Talk) → Scripted start x o u → u.tally.stage ≡ 2 → Begun start.tally start.store (ended start.begun x) o u.store
