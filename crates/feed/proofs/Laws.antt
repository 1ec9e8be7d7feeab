-- From what the functions gave to what scripts do.
-- Assumes nothing.
use mathlib.Core.Path.{◌≡◌, refl, sym, ap, subst, ◌∙◌}
use mathlib.Core.List.{List, [], ◌∷◌, ◌++◌}
use Prim.Native.Nat.{ℕ, zero, suc, ◌+◌, ◌-◌, ◌≤◌, ◌<◌}
use native.Mathlib.Omega.{arith}
use lib.ListN.{length, get_or, take, drop, length-take}
use Rattle.model.specs.Model.{Answer}
use Rattle.state.specs.declared.State.{State}
use Rattle.state.specs.declared.Reply.{Reply}
use Rattle.outcomes.specs.Store.{Store}
use Rattle.outcomes.specs.Outcome.{MakeOutcome, store, blank}
use Rattle.script.specs.declared.Line.{Line}
use Rattle.script.specs.Script.{heard}
use Rattle.lines.specs.Lines.{Added}
use Rattle.numbers.specs.Numbers.{words_after}
use Rattle.actions.specs.Acts.{Acts}
use Rattle.tally.specs.declared.Tally.{Tally}
use Rattle.tally.specs.Answers.{kept, tallied, answer}
use Rattle.tally.specs.Laws.Lengths.{answer_length}
use Rattle.feed.specs.Scripted.{Talk, Scripted}
use Rattle.feed.specs.Laws.Steps.{piece, step_piece, step_line, answered}

-- ---- room

-- the first line always finds room
pub onward : (at used n : ℕ) → (at ≡ 0 → used ≡ 0) → n < used + 1024 → 1024 ≤ n → 0 < at
onward zero used n e h k = absurd (omega (arith, e refl))
onward (suc at) used n e h k = omega arith

-- an answer finds it
pub used_fits : (c : Tally) (n a : ℕ) (r : Reply) (out out' : List ℕ) (used e : ℕ) → Added out used (answer c n a r) out' e → used + 1024 ≤ length out → e ≤ length out
used_fits c n a r out out' used e add fits = let l = answer_length c n a r in omega (arith, add.end (omega (arith, l, fits)), l, fits)

-- ---- the session that begins

pub unmade : (a : Answer) (s : State) (h : List ℕ) → MakeOutcome (0 ∷ []) a (store s h) → s ≡ blank 0 0
unfolding MakeOutcome
unmade a s h q = ap (λ S. S.state) q.1

-- ---- one line more

-- the same of a piece that ends with the chunk: k bytes of m are kept then
pub begun_more : (t : Talk) (chunk line m o : List ℕ) (at end held k : ℕ) (c : Tally) (S : Store) → end ≡ at + length (piece (drop at chunk)) → length line ≡ 4100
    → Scripted t (take at chunk) o (record { begun = take held line; tally = c; store = S }) → take k m ≡ kept (take held line ++ take (end - at) (drop at chunk))
    → Scripted t (take end chunk) o (record { begun = take k m; tally = c; store = S })
begun_more t chunk line m o at end held k c S ee ll g ek =
    subst (λ b. Scripted t (take end chunk) o (record { begun = b; tally = c; store = S })) (sym ek)
    (step_piece chunk at end ee t o (take held line) c S (omega (arith, ll, length-take held line)) g)

-- From a session that the bytes up to `at` led to: what the functions gave for the line that ends at `end`. k bytes of m are what is kept of it, x is what it says, r the reply, u the state, e how much of the output is used then.
pub turned : (t : Talk) (chunk line m out out' memory memory' : List ℕ) (at end used e held k words w : ℕ) (c d : Tally) (s u : State) (x : Line) (r : Reply)
    → end ≡ at + length (piece (drop at chunk)) → end < length chunk → length line ≡ 4100
    → Scripted t (take at chunk) (take used out) (record { begun = take held line; tally = c; store = store s (take words memory) })
    → take k m ≡ kept (take held line ++ take (end - at) (drop at chunk)) → x ≡ heard c.stage c.first (take k m)
    → Acts x (store s (take words memory)) r (store u (take (words_after x.call (get_or x.args 0 0) r.refusal words) memory'))
    → Added out used (answer c x.call (get_or x.args 0 0) r) out' e → used + 1024 ≤ length out → d ≡ tallied c x.call r.refusal
    → w ≡ words_after x.call (get_or x.args 0 0) r.refusal words
    → Scripted t (take (end + 1) chunk) (take e out') (record { begun = []; tally = d; store = store u (take w memory') })
turned t chunk line m out out' memory memory' at end used e held k words w c d s u x r ee le ll g ek ex a add fits ed ew =
    let q = answer c x.call (get_or x.args 0 0) r in
    let lq = answer_length c x.call (get_or x.args 0 0) r in
    let n = words_after x.call (get_or x.args 0 0) r.refusal words in
    let l = kept (take held line ++ take (end - at) (drop at chunk)) in
    let lk : length (take held line) ≤ 4100 = omega (arith, ll, length-take held line) in
    let z = answered c (store s (take words memory)) (store u (take n memory')) l x r d (ex ∙ ap (heard c.stage c.first) ek) a ed in
    let y = step_line chunk at end ee t (take used out) (take held line) c (store s (take words memory)) lk g le q d (store u (take n memory')) z in
    subst (λ o. Scripted t (take (end + 1) chunk) o (record { begun = []; tally = d; store = store u (take w memory') })) (sym (add.text (omega (arith, lq, fits))))
    (subst (λ n. Scripted t (take (end + 1) chunk) (take used out ++ q) (record { begun = []; tally = d; store = store u (take n memory') })) (sym ew) y)
