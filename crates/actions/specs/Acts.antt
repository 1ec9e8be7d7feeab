-- What a scanned line does to the store: the call that it is, with its arguments and its filler, or make for `pages`; and the reply that is printed.
-- Assumes nothing.
use Rattle.std.specs.Prelude.{◌≡◌, Bool, true, false, List, [], ◌∷◌, ℕ, ◌*◌, eqb, length, get_or, take}
use Rattle.lists.specs.Lists.{pick}
use Rattle.model.specs.Model.{Answer, Call, refused_by}
use Rattle.state.specs.declared.Reply.{Reply}
use Rattle.outcomes.specs.Store.{Store}
use Rattle.outcomes.specs.Outcome.{Outcome, MakeOutcome, store}
use Rattle.dispatch.specs.Dispatch.{is_call, decoded}
use Rattle.script.specs.declared.Line.{Line}
use Rattle.numbers.specs.Numbers.{filler_place}

-- number k that goes with a scanned line's call: the line's argument there, or its filler
abbrev pub number_at : Line → ℕ → ℕ
number_at l k = pick (eqb k (filler_place l.call l.count)) l.filler (get_or l.args k 0)

-- the call that a scanned line's number names, with these four numbers, and all arguments as its list
abbrev pub line_call : Line → Call
line_call l = decoded l.call (number_at l 0) (number_at l 1) (number_at l 2) (number_at l 3) (take l.count l.args)

-- that call, or none where the number is no call's
unfoldable pub calls_of : Line → List Call
calls_of l = pick (is_call l.call) (line_call l ∷ []) []

-- the reply that is printed for an answer to call n: the first value of view, call 17, is the length of its part
abbrev pub printed : ℕ → Answer → Reply
printed n a = record {
  refusal = a.refusal;
  a = pick (eqb n 17) (length a.part) (get_or a.values 0 0);
  b = get_or a.values 1 0;
  c = get_or a.values 2 0;
  d = get_or a.values 3 0;
}

-- call c, number n, on S leaves T, and r is printed for its answer
abbrev pub Replied : ℕ → Call → Store → Reply → Store → Type 0
Replied n c S r T = (a : Answer) × Outcome c S a T × (r ≡ printed n a)

-- a line that is no call does nothing; the reply, 24, is not printed
abbrev pub CalledBy : Bool → Line → Store → Reply → Store → Type 0
CalledBy true l S r T = Replied l.call (line_call l) S r T
CalledBy false l S r T = (r ≡ printed 0 (refused_by 24)) × (T ≡ S)

unfoldable pub Called : Line → Store → Reply → Store → Type 0
Called l S r T = CalledBy (is_call l.call) l S r T

-- `pages n`: make with a heap of 64 times n words. Refused, there is no store, and no heap is kept.
abbrev pub Makes : ℕ → Reply → Store → Type 0
Makes n r T = (heap : List ℕ) × (a : Answer) × (U : Store) × (length heap ≡ 64 * n) × MakeOutcome heap a U × (r ≡ printed 1 a) × (T ≡ store U.state (pick (eqb a.refusal 0) U.heap []))

abbrev pub ActsBy : Bool → Line → Store → Reply → Store → Type 0
ActsBy true l S r T = Makes (get_or l.args 0 0) r T
ActsBy false l S r T = Called l S r T

-- what a line does to the store S: it leaves T, and r is the reply, which is printed where the line is a call
unfoldable pub Acts : Line → Store → Reply → Store → Type 0
Acts l S r T = ActsBy (eqb l.call 1) l S r T
