-- One script prints one thing: what a line does is fixed, and always something.
-- Assumes nothing.
use Rattle.std.specs.Prelude.{◌≡◌, refl, Bool, true, false, List, [], ◌∷◌, ◌++◌, ℕ, ◌*◌, ◌/◌, eqb, length, get_or, replicate}
use Rattle.std.proofs.Common.{sym, ap, subst, ◌∙◌}
use Rattle.std.proofs.lemmas.List.{length-replicate}
use Rattle.lists.specs.Lists.{pick}
use Rattle.model.specs.Model.{Answer, refused_by, gives}
use Rattle.model.specs.Calls.{makes}
use Rattle.state.specs.declared.Reply.{Reply}
use Rattle.outcomes.specs.Store.{Store}
use Rattle.outcomes.specs.Outcome.{MakeBy, MakeOutcome, store, blank}
use Rattle.dispatch.specs.Dispatch.{is_call}
use Rattle.script.specs.declared.Line.{Line}
use Rattle.script.specs.Script.{heard}
use Rattle.actions.specs.Acts.{line_call, printed, CalledBy, Called, Makes, ActsBy, Acts}
use Rattle.tally.specs.declared.Tally.{Tally}
use Rattle.tally.specs.Answers.{tallied, answer}
use Rattle.feed.specs.Scripted.{ended, left, Turn, Turns, Talk}
use Rattle.promises.specs.Promises.{Total}
use Rattle.promises.specs.Laws.Refused.{total, one_outcome}
use Rattle.script_laws.specs.Scripts.{OneAnswer}

-- ---- one outcome at most

-- make's answer, and what is kept of the store, by the length of the heap
made_one : (h : List ℕ) (a : Answer) (U : Store) → MakeOutcome h a U
    → let n = length h in
    (a ≡ pick (makes n) (gives []) (refused_by 1)) × (store U.state (pick (eqb a.refusal 0) U.heap []) ≡ pick (makes n) (store (blank (n / 64) 1) (replicate n 0)) (store (blank 0 0) []))
unfolding MakeOutcome
made_one h a U o = go (makes (length h)) o
  where
    go : (b : Bool) → MakeBy b h a U
        → (a ≡ pick b (gives []) (refused_by 1)) × (store U.state (pick (eqb a.refusal 0) U.heap []) ≡ pick b (store (blank (length h / 64) 1) (replicate (length h) 0)) (store (blank 0 0) []))
    go true (e, f) = (e, rw (e, f))
    go false (e, f) = (e, rw (e, f))

makes_one : (n : ℕ) (r s : Reply) (T U : Store) → Makes n r T → Makes n s U → (r ≡ s) × (T ≡ U)
makes_one n r s T U (h, a, P, e, o, f, g) (k, b, Q, i, p, q, j) =
    let x = rw e at (made_one h a P o) in
    let y = rw i at (made_one k b Q p) in
    (f ∙ ap (printed 1) (x.0 ∙ sym y.0) ∙ sym q, g ∙ x.1 ∙ sym y.1 ∙ sym j)

called_one : (l : Line) (S : Store) (r s : Reply) (T U : Store) → Called l S r T → Called l S s U → (r ≡ s) × (T ≡ U)
unfolding Called
called_one l S r s T U = go (is_call l.call)
  where
    go : (b : Bool) → CalledBy b l S r T → CalledBy b l S s U → (r ≡ s) × (T ≡ U)
    go true (a, o, e) (b, p, f) = let q = one_outcome (line_call l) S a b T U o p in (e ∙ ap (printed l.call) q.0 ∙ sym f, q.1)
    go false (e, f) (g, h) = (e ∙ sym g, f ∙ sym h)

acts_one : (l : Line) (S : Store) (r s : Reply) (T U : Store) → Acts l S r T → Acts l S s U → (r ≡ s) × (T ≡ U)
unfolding Acts
acts_one l S r s T U = go (eqb l.call 1)
  where
    go : (b : Bool) → ActsBy b l S r T → ActsBy b l S s U → (r ≡ s) × (T ≡ U)
    go true p q = makes_one (get_or l.args 0 0) r s T U p q
    go false p q = called_one l S r s T U p q

turn_one : (c d e : Tally) (S T U : Store) (l o p : List ℕ) → Turn c S l o d T → Turn c S l p e U → (o ≡ p) × (d ≡ e) × (T ≡ U)
turn_one c d e S T U l o p (r, a, f, g) (s, b, h, i) =
    let x = heard c.stage c.first l in
    let q = acts_one x S r s T U a b in
    (f ∙ ap (answer c x.call (get_or x.args 0 0)) q.0 ∙ sym h, g ∙ ap (λ r. tallied c x.call r.refusal) q.0 ∙ sym i, q.1)

turns_one : (c d e : Tally) (S T U : Store) (ls : List (List ℕ)) (o p : List ℕ) → Turns c S ls o d T → Turns c S ls p e U → (o ≡ p) × (d ≡ e) × (T ≡ U)
turns_one c d e S T U [] o p (f, g, h) (i, j, k) = (f ∙ sym i, g ∙ sym j, h ∙ sym k)
turns_one c d e S T U (l ∷ ls) o p (m, n, f, P, a, as', eo) (m', n', f', P', b, bs, ep) =
    let q = turn_one c f f' S P P' l m m' a b in
    let z = turns_one f d e P T U ls n n' as' (subst (λ W. Turns f W ls n' e U) (sym q.2) (subst (λ g. Turns g P' ls n' e U) (sym q.1) bs)) in
    (eo ∙ ap (λ k. k ++ n) q.0 ∙ ap (λ k. m' ++ k) z.0 ∙ sym ep, z.1, z.2)

-- ---- and always one

made_some : (h : List ℕ) → (a : Answer) × (U : Store) × MakeOutcome h a U
unfolding MakeOutcome
made_some h = go (makes (length h))
  where
    go : (b : Bool) → (a : Answer) × (U : Store) × MakeBy b h a U
    go true = (gives [], store (blank (length h / 64) 1) (replicate (length h) 0), (refl, refl))
    go false = (refused_by 1, store (blank 0 0) h, (refl, refl))

called_some : (l : Line) (S : Store) → (r : Reply) × (T : Store) × Called l S r T
unfolding Called Total
called_some l S = go (is_call l.call)
  where
    go : (b : Bool) → (r : Reply) × (T : Store) × CalledBy b l S r T
    go true = let (a, T, o) = total (line_call l) S in (printed l.call a, T, (a, o, refl))
    go false = (printed 0 (refused_by 24), S, (refl, refl))

acts_some : (l : Line) (S : Store) → (r : Reply) × (T : Store) × Acts l S r T
unfolding Acts
acts_some l S = go (eqb l.call 1)
  where
    go : (b : Bool) → (r : Reply) × (T : Store) × ActsBy b l S r T
    go true =
        let h : List ℕ = replicate (64 * get_or l.args 0 0) 0 in
        let (a, U, o) = made_some h in
        (printed 1 a, store U.state (pick (eqb a.refusal 0) U.heap []), (h, a, U, length-replicate {A = ℕ} (64 * get_or l.args 0 0) 0, o, refl, refl))
    go false = called_some l S

turns_some : (c : Tally) (S : Store) (ls : List (List ℕ)) → (o : List ℕ) × (d : Tally) × (T : Store) × Turns c S ls o d T
turns_some c S [] = ([], c, S, (refl, refl, refl))
turns_some c S (l ∷ ls) =
    let x = heard c.stage c.first l in
    let (r, U, a) = acts_some x S in
    let p = answer c x.call (get_or x.args 0 0) r in
    let e = tallied c x.call r.refusal in
    let (q, d, T, rest) = turns_some e U ls in
    (p ++ q, d, T, (p, q, e, U, (r, a, refl, refl), rest, refl))

-- ---- sessions

talk_same : (u w : Talk) → u.begun ≡ w.begun → u.tally ≡ w.tally → u.store ≡ w.store → u ≡ w
talk_same u w e f g =
    ap (λ k. record { begun = k; tally = u.tally; store = u.store }) e
    ∙ ap (λ k. record { begun = w.begun; tally = k; store = u.store }) f
    ∙ ap (λ k. record { begun = w.begun; tally = w.tally; store = k }) g

pub one_answer : OneAnswer
unfolding OneAnswer
one_answer t x =
    let (o, d, T, a) = turns_some t.tally t.store (ended t.begun x) in (
      (o, record { begun = left t.begun x; tally = d; store = T }, record { turns = a; begun = refl }),
      λ o p u w a b.
          let q = turns_one t.tally u.tally w.tally t.store u.store w.store (ended t.begun x) o p a.turns b.turns in
          (q.0, talk_same u w (a.begun ∙ sym b.begun) q.1 q.2),
    )
