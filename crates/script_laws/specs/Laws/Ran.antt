-- The store that a script has made is what a run of its calls left, and what is printed are the lines of their answers.
-- Assumes nothing.
use Rattle.std.specs.Prelude.{◌≡◌, refl, Bool, true, false, List, [], ◌∷◌, ◌++◌, ℕ, ◌*◌, ◌<◌, eqb, length, get_or}
use Rattle.std.proofs.Common.{sym, ap, subst, ◌∙◌, append_assoc, arith, ne_eqb, eqb-true}
use Rattle.std.proofs.lemmas.Bool.{eqb-false}
use Rattle.lists.specs.Lists.{pick}
use Rattle.lists.specs.Laws.Tests.{by_test}
use Rattle.model.specs.Model.{gives}
use Rattle.model.specs.Calls.{makes}
use Rattle.state.specs.declared.Reply.{Reply}
use Rattle.outcomes.specs.Store.{Store}
use Rattle.outcomes.specs.Outcome.{MakeBy, MakeOutcome, store}
use Rattle.outcomes.specs.Runs.{Event, calls, answers, Run, done, step}
use Rattle.dispatch.specs.Dispatch.{is_call}
use Rattle.script.specs.declared.Line.{Line}
use Rattle.script.specs.Script.{heard}
use Rattle.script.specs.Laws.Lines.{few_heard}
use Rattle.actions.specs.Acts.{line_call, calls_of, printed, CalledBy, Called, Makes, ActsBy, Acts}
use Rattle.tally.specs.declared.Tally.{Tally}
use Rattle.tally.specs.Answers.{tallied, answer}
use Rattle.feed.specs.Scripted.{ended, Turns, start, scripted}
use Rattle.script_laws.specs.Scripts.{next_reply, next_answers, told, MadeRuns, Begun, ScriptRuns}

-- ---- after the store is made

abbrev Runs : Tally → Store → List (List ℕ) → List ℕ → Store → Type 0
Runs c S ls o T = (es : List Event) × Run S es T × (calls es ≡ scripted ls) × (o ≡ told c ls (answers es))

-- no line asks for pages
no_pages : (c : Tally) (l : List ℕ) → c.stage ≡ 2 → (heard c.stage c.first l).call ≡ 1 → ⊥
no_pages c l two h = absurd (omega (arith, two, (few_heard c.stage c.first l h).0))

-- the stage after a line that asks for none
stage_stays : (c : Tally) (n f : ℕ) → (n ≡ 1 → ⊥) → (tallied c n f).stage ≡ c.stage
unfolding tallied
stage_stays c n f h = rw (ne_eqb n 1 h)

acts_call : (l : Line) (S : Store) (r : Reply) (T : Store) → (l.call ≡ 1 → ⊥) → Acts l S r T → Called l S r T
unfolding Acts
acts_call l S r T h a = rw (ne_eqb l.call 1 h) at a

first_after : (c : Tally) (n f : ℕ) → (tallied c n f).first ≡ false
unfolding tallied
first_after c n f = refl

-- one line more in front: one call more, or none
one_more : (c e : Tally) (S U T : Store) (l : List ℕ) (ls : List (List ℕ)) (p q o : List ℕ) (r : Reply) → let x = heard c.stage c.first l in
    x ≡ heard 2 false l → Called x S r U → p ≡ answer c x.call (get_or x.args 0 0) r → e ≡ tallied c x.call r.refusal → o ≡ p ++ q → Runs e U ls q T → Runs c S (l ∷ ls) o T
unfolding Called calls_of scripted told
one_more c e S U T l ls p q o r same k ep ee eo (es, run, ec, eq) = let (fs, runs, fc, fq) = go (is_call n) k in (fs, runs, fc ∙ ap (λ y. calls_of y ++ scripted ls) same, fq)
  where
    x : Line
    x = heard c.stage c.first l

    n : ℕ
    n = x.call

    -- what is printed, with the reply r
    with : Reply → List ℕ
    with r = answer c n (get_or x.args 0 0) r ++ told (tallied c n r.refusal) ls (answers es)

    prints : o ≡ with r
    prints = eo ∙ ap (λ k. k ++ q) ep ∙ ap (λ k. answer c n (get_or x.args 0 0) r ++ k) (eq ∙ ap (λ t. told t ls (answers es)) ee)

    go : (b : Bool) → CalledBy b x S r U
        → (es : List Event) × Run S es T × (calls es ≡ pick b (line_call x ∷ []) [] ++ scripted ls) × (o ≡ answer c n (get_or x.args 0 0) (next_reply b n (answers es)) ++ told (tallied c n (next_reply b n (answers es)).refusal) ls (next_answers b (answers es)))
    go true (a, out, er) = ((record { call = line_call x; answer = a; left = U }) ∷ es, step out run, ap (λ k. line_call x ∷ k) ec, prints ∙ ap with er)
    go false (er, e_u) = (es, subst (λ W. Run W es T) e_u run, ec, prints ∙ ap with er)

turns_run : (c d : Tally) (S T : Store) (ls : List (List ℕ)) (o : List ℕ) → c.stage ≡ 2 → c.first ≡ false → Turns c S ls o d T → Runs c S ls o T
unfolding scripted told
turns_run c d S T [] o two off (eo, _, e_t) = ([], subst (Run S []) (sym e_t) done, refl, eo)
turns_run c d S T (l ∷ ls) o two off (p, q, e, U, (r, a, ep, ee), rest, eo) =
    let x = heard c.stage c.first l in
    one_more c e S U T l ls p q o r (ap (λ n. heard n c.first l) two ∙ ap (λ b. heard 2 b l) off) (acts_call x S r U (no_pages c l two) a) ep ee eo
    (turns_run e d U T ls q
    (ap (λ t. t.stage) ee ∙ stage_stays c x.call r.refusal (no_pages c l two) ∙ two)
    (ap (λ t. t.first) ee ∙ first_after c x.call r.refusal)
    rest)

pub made_runs : MadeRuns
unfolding MadeRuns
made_runs t u x o s two off = turns_run t.tally u.tally t.store u.store (ended t.begun x) o two off s.turns

-- ---- the line by which it is made

-- the stage after a `pages` that is answered by the refusal f
abbrev stage_by : ℕ → ℕ
stage_by f = pick (eqb f 0) 2 1

-- an accepted make: its answer, and the store, of which the heap is kept
made_by : (n : ℕ) (r : Reply) (T : Store) → Makes n r T → stage_by r.refusal ≡ 2 → (heap : List ℕ) × (length heap ≡ 64 * n) × (makes (length heap) ≡ true) × MakeOutcome heap (gives []) T × (r ≡ printed 1 (gives []))
unfolding MakeOutcome
made_by n r T (heap, a, U, e, o, f, g) h = go (makes (length heap)) refl o
  where
    go : (b : Bool) → makes (length heap) ≡ b → MakeBy b heap a U → (heap : List ℕ) × (length heap ≡ 64 * n) × (makes (length heap) ≡ true) × MakeBy (makes (length heap)) heap (gives []) T × (r ≡ printed 1 (gives []))
    go true m (ea, e_u) =
        let same : T ≡ U = g ∙ ap (λ z. store U.state (pick (eqb z.refusal 0) U.heap [])) ea in
        (heap, e, m, subst (λ b. MakeBy b heap (gives []) T) (sym m) (refl, same ∙ e_u), f ∙ ap (printed 1) ea)
    go false m (ea, e_u) = absurd (omega (arith, sym h ∙ ap (λ z. stage_by z.refusal) f ∙ ap (λ z. stage_by z.refusal) ea))

stage_by_lem : (c : Tally) (n f : ℕ) → n ≡ 1 → (tallied c n f).stage ≡ stage_by f
unfolding tallied
stage_by_lem c n f h = rw h

acts_make : (l : Line) (S : Store) (r : Reply) (T : Store) → l.call ≡ 1 → Acts l S r T → Makes (get_or l.args 0 0) r T
unfolding Acts
acts_make l S r T h a = rw h at a

-- what is printed for the `pages` line, and counted after it, where make accepts: its first argument does not matter
pages_turn : (c : Tally) (n a : ℕ) (r : Reply) → n ≡ 1 → r ≡ printed 1 (gives []) → (answer c n a r ≡ answer c 1 0 (printed 1 (gives []))) × (tallied c n r.refusal ≡ tallied c 1 0)
unfolding answer
pages_turn c n a r e f = (rw (e, f), rw (e, f))

turns_begin : (c d : Tally) (S T : Store) (ls : List (List ℕ)) (o : List ℕ) → (c.stage ≡ 2 → ⊥) → d.stage ≡ 2 → Turns c S ls o d T → Begun c S ls o T
turns_begin c d S T [] o un two (_, ed, _) = absurd (un (ap (λ t. t.stage) (sym ed) ∙ two))
turns_begin c d S T (l ∷ ls) o un two (p, q, e, U, (r, a, ep, ee), rest, eo) =
    by_test (eqb e.stage 2)
    (λ t. here (eqb-true e.stage 2 t))
    (λ t. later (turns_begin e d U T ls q (eqb-false e.stage 2 t) two rest))
  where
    x : Line
    x = heard c.stage c.first l

    later : Begun e U ls q T → Begun c S (l ∷ ls) o T
    later b = record {
      before = l ∷ b.before;
      pages = b.pages;
      after = b.after;
      are = ap (λ k. l ∷ k) b.are;
      early = p ++ b.early;
      tally = b.tally;
      store = b.store;
      opens = (p, b.early, e, U, (r, a, ep, ee), b.opens, refl);
      asks = b.asks;
      heap = b.heap;
      lent = b.lent;
      accepted = b.accepted;
      made = b.made;
      make = b.make;
      events = b.events;
      run = b.run;
      calls = b.calls;
      prints =
          let line = answer b.tally 1 0 (printed 1 (gives [])) in
          let rest = told (tallied b.tally 1 0) b.after (answers b.events) in
          eo ∙ ap (λ k. p ++ k) b.prints ∙ sym (append_assoc p (b.early ++ line) rest) ∙ ap (λ k. k ++ rest) (sym (append_assoc p b.early line));
    }

    asked : e.stage ≡ 2 → x.call ≡ 1 → Begun c S (l ∷ ls) o T
    asked h k =
        let (heap, lent, accepted, make, er) = made_by (get_or x.args 0 0) r U (acts_make x S r U k a) (sym (stage_by_lem c x.call r.refusal k) ∙ ap (λ t. t.stage) (sym ee) ∙ h) in
        let (es, run, ec, eq) = turns_run e d U T ls q h (ap (λ t. t.first) ee ∙ first_after c x.call r.refusal) rest in
        let z = pages_turn c x.call (get_or x.args 0 0) r k er in
        record {
          before = [];
          pages = l;
          after = ls;
          are = refl;
          early = [];
          tally = c;
          store = S;
          opens = (refl, refl, refl);
          asks = k;
          heap = heap;
          lent = lent;
          accepted = accepted;
          made = U;
          make = make;
          events = es;
          run = run;
          calls = ec;
          prints = eo ∙ ap (λ k. k ++ q) (ep ∙ z.0) ∙ ap (λ k. answer c 1 0 (printed 1 (gives [])) ++ k) (eq ∙ ap (λ t. told t ls (answers es)) (ee ∙ z.1));
        }

    here : e.stage ≡ 2 → Begun c S (l ∷ ls) o T
    here h =
        by_test (eqb x.call 1)
        (λ t. asked h (eqb-true x.call 1 t))
        (λ t. absurd (un (sym (stage_stays c x.call r.refusal (eqb-false x.call 1 t)) ∙ ap (λ t. t.stage) (sym ee) ∙ h)))

pub script_runs : ScriptRuns
unfolding ScriptRuns start
script_runs x o u s two = turns_begin start.tally u.tally start.store u.store (ended start.begun x) o (λ h. absurd (omega (arith, h))) two s.turns
