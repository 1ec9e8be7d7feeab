-- What a script does and what it prints, over its bytes: its lines, what each does to the one store, and its answer.
-- Assumes nothing.
use Rattle.std.specs.Prelude.{◌≡◌, true, false, List, [], ◌∷◌, ◌++◌, ℕ, ◌+◌, ◌≤◌, ◌<◌, eqb, length, get_or, take}
use Rattle.lists.specs.Lists.{pick, joined}
use Rattle.model.specs.Model.{Call}
use Rattle.state.specs.declared.Reply.{Reply}
use Rattle.outcomes.specs.Store.{Store}
use Rattle.outcomes.specs.Outcome.{store, blank}
use Rattle.script.specs.Script.{heard}
use Rattle.tally.specs.declared.Tally.{Tally}
use Rattle.tally.specs.Answers.{kept, tallied, answer}
use Rattle.actions.specs.Acts.{calls_of, Acts}
use Rattle.feed.specs.declared.Session.{Session}

-- ---- lines

-- the lines that end in a text, where k is what is kept of the first one so far
unfoldable pub ended : List ℕ → List ℕ → List (List ℕ)
ended k [] = []
ended k (b ∷ l) = pick (eqb b 10) (k ∷ ended [] l) (ended (kept (k ++ (b ∷ []))) l)

-- what is kept of the line that has not ended after it
unfoldable pub left : List ℕ → List ℕ → List ℕ
left k [] = k
left k (b ∷ l) = left (pick (eqb b 10) [] (kept (k ++ (b ∷ [])))) l

-- ---- answers

-- Line l of a script, where c is counted and S is the store: it prints o, and then d is counted and T is the store.
abbrev pub Turn : Tally → Store → List ℕ → List ℕ → Tally → Store → Type 0
Turn c S l o d T =
    let x = heard c.stage c.first l in
    (r : Reply) × Acts x S r T × (o ≡ answer c x.call (get_or x.args 0 0) r) × (d ≡ tallied c x.call r.refusal)

-- lines one after the other, each on what the one before left
abbrev pub Turns : Tally → Store → List (List ℕ) → List ℕ → Tally → Store → Type 0
Turns c S [] o d T = (o ≡ []) × (d ≡ c) × (T ≡ S)
Turns c S (l ∷ ls) o d T = (p : List ℕ) × (q : List ℕ) × (e : Tally) × (U : Store) × Turn c S l p e U × Turns e U ls q d T × (o ≡ p ++ q)

-- ---- scripts

-- a session: what is kept of a line that has not ended, what is counted, and the store
pub record Talk : Type 0 where
  pub begun : List ℕ
  pub tally : Tally
  pub store : Store

-- the bytes x take the session t to u, and o is printed
pub record Scripted (t : Talk) (x : List ℕ) (o : List ℕ) (u : Talk) : Type 0 where
  pub turns : Turns t.tally t.store (ended t.begun x) o u.tally u.store
  pub begun : u.begun ≡ left t.begun x

-- the session that the code has: the first bytes of a buffer, and as heap the first words of a memory
abbrev pub talk_of : Session → List ℕ → List ℕ → Talk
talk_of s line memory = record { begun = take s.held line; tally = s.tally; store = store s.state (take s.words memory) }

-- How far a chunk was fed, with an output buffer: to its end, or until the buffer had less than 1,024 bytes of room, in which every answer fits; and at least one byte, where there is one and so much room at first.
pub record Fed (chunk : List ℕ) (out : List ℕ) (at used : ℕ) : Type 0 where
  pub within : at ≤ length chunk
  pub fits : used ≤ length out
  pub stops : at < length chunk → length out < used + 1024
  pub onward : 0 < length chunk → 1024 ≤ length out → 0 < at

-- the session with which a script begins: no byte has come, and no store is made
unfoldable pub start : Talk
start = record {
  begun = [];
  tally = record { first = true; stage = 0; lines = 0; accepted = 0; refused = 0; bad = 0 };
  store = store (blank 0 0) [];
}

-- the calls of lines that follow the one by which a store was made
unfoldable pub scripted : List (List ℕ) → List Call
scripted ls = joined (λ l. calls_of (heard 2 false l)) ls

-- the whole script x prints o: a newline comes at its end, since the last line may lack its own; where it does not, an empty line more prints nothing
abbrev pub Prints : List ℕ → List ℕ → Type 0
Prints x o = (u : Talk) × Scripted start (x ++ (10 ∷ [])) o u
