-- A line's call, from what the functions gave: its numbers, view's part, and the reply that is printed.
-- Assumes nothing.
use mathlib.Core.Path.{◌≡◌, refl, sym, ap, ◌∙◌}
use mathlib.Core.Bool.{Bool, true, false}
use mathlib.Core.List.{List, [], ◌∷◌, ◌++◌, append-nil}
use Prim.Native.Nat.{ℕ, ◌+◌, ◌*◌, ◌<◌, ◌≤◌, min}
use native.Mathlib.Omega.{arith}
use lib.Dec.{eqb}
use lib.ListN.{length, get_or, take, drop, length-take, length-drop, length-append}
use lib.Seq.{take_at, take_all, length-take-le}
use borrow.Author.Tests.{ne_eqb}
use Rattle.lists.specs.Lists.{pick}
use Rattle.model.specs.Model.{view}
use Rattle.state.specs.declared.State.{State}
use Rattle.state.specs.declared.Reply.{Reply}
use Rattle.outcomes.specs.Store.{Store}
use Rattle.outcomes.specs.Outcome.{Outcome, MakeOutcome, answer_of, store, refusal, view_answer}
use Rattle.dispatch.specs.Dispatch.{is_call, decoded, DispatchedBy, Dispatched}
use Rattle.script.specs.declared.Line.{Line}
use Rattle.script.specs.Script.{fillers}
use Rattle.std.specs.Prelude.{Option, None, Some}
use Rattle.numbers.specs.Numbers.{place_number, is_place, filler_place, words_after}
use Rattle.lists.specs.Laws.Parts.{front_same}
use Rattle.actions.specs.Acts.{line_call, printed, Replied, CalledBy, Called, Acts}

-- g, p and n are what view in place gave: the refusal, and the part's place and length
pub view_replied : (S : Store) (s g p n : ℕ) → g ≡ refusal S (view s) → p + n ≤ length S.heap → Outcome (view s) S (view_answer S s (take n (drop p S.heap))) S
    → Replied 17 (view s) S (record { refusal = g; a = n; b = 0; c = 0; d = 0 }) S
view_replied S s g p n e within o =
    let f : n ≡ length (take n (drop p S.heap)) = omega (arith, within, length-take n (drop p S.heap), length-drop p S.heap) in
    (view_answer S s (take n (drop p S.heap)), o, rw (e, ← f))

pub view_called : (l : Line) (S : Store) (r : Reply) (T : Store) → l.call ≡ 17 → Replied 17 (view (get_or l.args 0 0)) S r T → Called l S r T
unfolding Called decoded filler_place fillers
view_called l S r T e q = rw e q

-- the filler's place, none among them, for the four numbers
pub at_place : (k : ℕ) (p : Option ℕ) (f a : ℕ) → k < 4 → pick (is_place k p) f a ≡ pick (eqb k (place_number p)) f a
at_place k None f a h = rw (ne_eqb k 4 (λ e. absurd (omega arith)))
at_place k (Some p) f a h = refl

-- p, a to d and vs are what functions gave: where the filler goes, the four numbers, and the list
pub called_by : (l : Line) (S : Store) (r : Reply) (T : Store) (p a b c d : ℕ) (vs : List ℕ) → let number : ℕ → ℕ = λ k. pick (eqb k p) l.filler (get_or l.args k 0) in
    (l.call ≡ 17 → ⊥) → p ≡ filler_place l.call l.count → a ≡ number 0 → b ≡ number 1 → c ≡ number 2 → d ≡ number 3 → vs ≡ take l.count l.args
    → Dispatched l.call a b c d vs S r T → Called l S r T
unfolding Dispatched Called
called_by l S r T p a b c d vs n ep ea eb ec ed ev h = go (is_call l.call) (rw (ea, eb, ec, ed, ev, ep) at h)
  where
    go : (x : Bool) → DispatchedBy x (line_call l) S r T → CalledBy x l S r T
    go true (part, o) = (answer_of r part, o, rw (ne_eqb l.call 17 n))
    go false q = (ap (printed 0) q.0, q.1)

-- ---- a heap that is the front of a memory

-- n of the words, as many as are wanted and there are, come back as h, and q after them
front_again : (words : ℕ) (h q : List ℕ) (n : ℕ) → length h ≡ min words n → length (h ++ q) ≡ n → take words (h ++ q) ≡ h
front_again words h [] n e f = rw (append-nil h) (take_all words h (omega (arith, length-append {A = ℕ} h [])))
front_again words h (x ∷ q) n e f = take_at h (x ∷ q) words (omega (arith, length-append h (x ∷ q)))

pub acts_call : (l : Line) (s t : State) (memory h q : List ℕ) (r : Reply) (words w : ℕ) → (l.call ≡ 1 → ⊥) → w ≡ min words (length memory) → length h ≡ w → length (h ++ q) ≡ length memory
    → Called l (store s (take w memory)) r (store t h) → Acts l (store s (take words memory)) r (store t (take (words_after l.call (get_or l.args 0 0) r.refusal words) (h ++ q)))
unfolding Acts words_after
acts_call l s t memory h q r words w n e f g o =
    rw (ne_eqb l.call 1 n, front_again words h q (length memory) (f ∙ e) g, sym (front_same words memory w e)) o

pub acts_make : (l : Line) (S : Store) (t : State) (memory h q : List ℕ) (r : Reply) (words w : ℕ) → l.call ≡ 1 → w ≡ min (64 * get_or l.args 0 0) (length memory) → 64 * get_or l.args 0 0 ≤ length memory
    → length h ≡ w → MakeOutcome (take w memory) (answer_of r []) (store t h) → Acts l S r (store t (take (words_after l.call (get_or l.args 0 0) r.refusal words) (h ++ q)))
unfolding Acts words_after
acts_make l S t memory h q r words w n e k f o =
    let m : w ≡ 64 * get_or l.args 0 0 = omega (arith, e, k) in
    rw n
    (take w memory, answer_of r [], store t h, length-take-le w memory (omega (arith, e)) ∙ m, o, refl, ap (store t) (go (eqb r.refusal 0) (f ∙ m)))
  where
    go : (b : Bool) → length h ≡ 64 * get_or l.args 0 0 → take (pick b (64 * get_or l.args 0 0) 0) (h ++ q) ≡ pick b h []
    go true e = take_at h q _ e
    go false e = refl
