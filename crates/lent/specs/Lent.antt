-- A state some of whose numbers and arrays are lent, and what a call on them promises.
-- Assumes nothing.
use Rattle.std.specs.Prelude.{List, [], ℕ}
use Rattle.model.specs.Model.{Call}
use Rattle.state.specs.declared.State.{State}
use Rattle.state.specs.declared.Reply.{Reply}
use Rattle.outcomes.specs.Outcome.{Outcome, answer_of, store}

-- ---- a state lent whole, by its five numbers and its twelve arrays

abbrev pub state_of : ℕ → ℕ → ℕ → ℕ → ℕ → List ℕ → List ℕ → List ℕ → List ℕ → List ℕ → List ℕ → List ℕ → List ℕ → List ℕ → List ℕ → List ℕ → List ℕ → State
state_of standing counted declared given made widths slots sizes marks names parents levels shares newest oldest owners taken =
    record { frames = record { standing = standing; counted = counted; widths = widths; slots = slots }; kinds = record { declared = declared; sizes = sizes; marks = marks }; regions = record { given = given; names = names; parents = parents; levels = levels; shares = shares; newest = newest; oldest = oldest }; pages = record { made = made; owners = owners; taken = taken } }

-- ---- the state with another number or array in that place

abbrev pub with_standing : ℕ → State → State
with_standing x s = record { frames = record { standing = x; counted = s.frames.counted; widths = s.frames.widths; slots = s.frames.slots }; kinds = s.kinds; regions = s.regions; pages = s.pages }

abbrev pub with_counted : ℕ → State → State
with_counted x s = record { frames = record { standing = s.frames.standing; counted = x; widths = s.frames.widths; slots = s.frames.slots }; kinds = s.kinds; regions = s.regions; pages = s.pages }

abbrev pub with_widths : List ℕ → State → State
with_widths x s = record { frames = record { standing = s.frames.standing; counted = s.frames.counted; widths = x; slots = s.frames.slots }; kinds = s.kinds; regions = s.regions; pages = s.pages }

abbrev pub with_slots : List ℕ → State → State
with_slots x s = record { frames = record { standing = s.frames.standing; counted = s.frames.counted; widths = s.frames.widths; slots = x }; kinds = s.kinds; regions = s.regions; pages = s.pages }

abbrev pub with_declared : ℕ → State → State
with_declared x s = record { frames = s.frames; kinds = record { declared = x; sizes = s.kinds.sizes; marks = s.kinds.marks }; regions = s.regions; pages = s.pages }

abbrev pub with_sizes : List ℕ → State → State
with_sizes x s = record { frames = s.frames; kinds = record { declared = s.kinds.declared; sizes = x; marks = s.kinds.marks }; regions = s.regions; pages = s.pages }

abbrev pub with_marks : List ℕ → State → State
with_marks x s = record { frames = s.frames; kinds = record { declared = s.kinds.declared; sizes = s.kinds.sizes; marks = x }; regions = s.regions; pages = s.pages }

abbrev pub with_given : ℕ → State → State
with_given x s = record { frames = s.frames; kinds = s.kinds; regions = record { given = x; names = s.regions.names; parents = s.regions.parents; levels = s.regions.levels; shares = s.regions.shares; newest = s.regions.newest; oldest = s.regions.oldest }; pages = s.pages }

abbrev pub with_names : List ℕ → State → State
with_names x s = record { frames = s.frames; kinds = s.kinds; regions = record { given = s.regions.given; names = x; parents = s.regions.parents; levels = s.regions.levels; shares = s.regions.shares; newest = s.regions.newest; oldest = s.regions.oldest }; pages = s.pages }

abbrev pub with_parents : List ℕ → State → State
with_parents x s = record { frames = s.frames; kinds = s.kinds; regions = record { given = s.regions.given; names = s.regions.names; parents = x; levels = s.regions.levels; shares = s.regions.shares; newest = s.regions.newest; oldest = s.regions.oldest }; pages = s.pages }

abbrev pub with_levels : List ℕ → State → State
with_levels x s = record { frames = s.frames; kinds = s.kinds; regions = record { given = s.regions.given; names = s.regions.names; parents = s.regions.parents; levels = x; shares = s.regions.shares; newest = s.regions.newest; oldest = s.regions.oldest }; pages = s.pages }

abbrev pub with_shares : List ℕ → State → State
with_shares x s = record { frames = s.frames; kinds = s.kinds; regions = record { given = s.regions.given; names = s.regions.names; parents = s.regions.parents; levels = s.regions.levels; shares = x; newest = s.regions.newest; oldest = s.regions.oldest }; pages = s.pages }

abbrev pub with_newest : List ℕ → State → State
with_newest x s = record { frames = s.frames; kinds = s.kinds; regions = record { given = s.regions.given; names = s.regions.names; parents = s.regions.parents; levels = s.regions.levels; shares = s.regions.shares; newest = x; oldest = s.regions.oldest }; pages = s.pages }

abbrev pub with_oldest : List ℕ → State → State
with_oldest x s = record { frames = s.frames; kinds = s.kinds; regions = record { given = s.regions.given; names = s.regions.names; parents = s.regions.parents; levels = s.regions.levels; shares = s.regions.shares; newest = s.regions.newest; oldest = x }; pages = s.pages }

abbrev pub with_made : ℕ → State → State
with_made x s = record { frames = s.frames; kinds = s.kinds; regions = s.regions; pages = record { made = x; owners = s.pages.owners; taken = s.pages.taken } }

abbrev pub with_owners : List ℕ → State → State
with_owners x s = record { frames = s.frames; kinds = s.kinds; regions = s.regions; pages = record { made = s.pages.made; owners = x; taken = s.pages.taken } }

abbrev pub with_taken : List ℕ → State → State
with_taken x s = record { frames = s.frames; kinds = s.kinds; regions = s.regions; pages = record { made = s.pages.made; owners = s.pages.owners; taken = x } }

-- the call works on what is lent: whatever else the state has, it was `before` of it, and `after` of that is what the call leaves; `r` is the reply
abbrev pub InPlace : Call → (State → State) → List ℕ → Reply → (State → State) → List ℕ → Type 0
InPlace c before heap r after heap' = (s : State) → Outcome c (store (before s) heap) (answer_of r []) (store (after (before s)) heap')
