-- A script line by line: a piece of a line, the newline that ends it, and the answer.
-- Assumes nothing.
use Rattle.std.specs.Prelude.{◌≡◌, Bool, true, false, not, ℕ, suc, ◌+◌, ◌-◌, ◌≤◌, ◌<◌, eqb, leb, length, get_or, take, drop}
use Rattle.std.proofs.Math.Path.{refl, sym}
use Rattle.std.proofs.Common.{ap, subst, ◌∙◌, arith, length-take, length-drop, take_all, take_at, take-add, eqb-true, leb-true, leb-false}
use mathlib.Core.List.{List, [], ◌∷◌, ◌++◌, append-nil, append_assoc}
use Rattle.std.proofs.lemmas.List.{take-append-le}
use Rattle.lists.specs.Lists.{pick}
use Rattle.lists.specs.Laws.Tests.{by_test}
use Rattle.state.specs.declared.Reply.{Reply}
use Rattle.outcomes.specs.Store.{Store}
use Rattle.script.specs.declared.Line.{Line}
use Rattle.script.specs.Script.{front, of_class, heard}
use Rattle.script.specs.Laws.Words.{front_take, front_length}
use Rattle.actions.specs.Acts.{Acts}
use Rattle.tally.specs.declared.Tally.{Tally}
use Rattle.tally.specs.Answers.{kept, tallied, answer}
use Rattle.feed.specs.Scripted.{ended, left, Turn, Turns, Talk, Scripted}
use Rattle.feed.specs.Laws.Cuts.{scripted_both}

-- ---- a piece of a line: bytes in front up to a newline

abbrev pub piece : List ℕ → List ℕ
piece l = front (of_class 2) l

kept_again : (n : ℕ) (x y : List ℕ) → take n (take n x ++ y) ≡ take n (x ++ y)
kept_again n x y =
    by_test (leb (length x) n)
    (λ q. ap (λ z. take n (z ++ y)) (take_all n x (leb-true (length x) n q)))
    (λ q.
    let h = leb-false (length x) n q in
    take_at (take n x) y n (omega (arith, h, length-take n x)) ∙ sym (take-append-le n x y (omega (arith, h))))

piece_ended : (k l : List ℕ) → ended k (piece l) ≡ []
unfolding ended of_class
piece_ended k [] = refl
piece_ended k (b ∷ l) = go (eqb b 10) refl (piece_ended (kept (k ++ (b ∷ []))) l)
  where
    go : (t : Bool) → eqb b 10 ≡ t → ended (kept (k ++ (b ∷ []))) (piece l) ≡ [] → ended k (pick (not t) (b ∷ piece l) []) ≡ []
    go true e f = refl
    go false e f = rw e f

piece_left : (k l : List ℕ) → length k ≤ 4100 → left k (piece l) ≡ kept (k ++ piece l)
unfolding left of_class
piece_left k [] h = sym (ap (take 4100) (append-nil k) ∙ take_all 4100 k h)
piece_left k (b ∷ l) h = go (eqb b 10) refl (piece_left (kept (k ++ (b ∷ []))) l (omega (arith, length-take 4100 (k ++ (b ∷ [])))))
  where
    m : List ℕ
    m = kept (k ++ (b ∷ []))

    go : (t : Bool) → eqb b 10 ≡ t → left m (piece l) ≡ kept (m ++ piece l) → left k (pick (not t) (b ∷ piece l) []) ≡ kept (k ++ pick (not t) (b ∷ piece l) [])
    go true e f = sym (ap (take 4100) (append-nil k) ∙ take_all 4100 k h)
    go false e f = ap (λ t. left (pick t [] m) (piece l)) e ∙ f ∙ kept_again 4100 (k ++ (b ∷ [])) (piece l) ∙ ap (take 4100) (append_assoc k (b ∷ []) (piece l))

-- what stands behind a piece is a newline
piece_next : (l : List ℕ) → length (piece l) < length l → take (length (piece l) + 1) l ≡ piece l ++ (10 ∷ [])
unfolding of_class
piece_next [] h = absurd (omega arith)
piece_next (b ∷ l) h = go (eqb b 10) refl h (piece_next l)
  where
    go : (t : Bool) → eqb b 10 ≡ t → length (pick (not t) (b ∷ piece l) []) < suc (length l) → (length (piece l) < length l → take (length (piece l) + 1) l ≡ piece l ++ (10 ∷ []))
        → take (length (pick (not t) (b ∷ piece l) []) + 1) (b ∷ l) ≡ pick (not t) (b ∷ piece l) [] ++ (10 ∷ [])
    go true e h f = rw (eqb-true b 10 e)
    go false e h f =
        let s : suc (length (piece l)) + 1 ≡ suc (length (piece l) + 1) = omega arith in
        rw s (ap (λ r. b ∷ r) (f (omega arith)))

module _ (chunk : List ℕ) (at end : ℕ) (e : end ≡ at + length (piece (drop at chunk))) where
  pub piece_within : at ≤ length chunk → end ≤ length chunk
  piece_within h = omega (arith, e, front_length (of_class 2) (drop at chunk), length-drop at chunk)

  pub piece_is : take (end - at) (drop at chunk) ≡ piece (drop at chunk)
  piece_is = let n : end - at ≡ length (piece (drop at chunk)) = omega (arith, e) in rw n (front_take (of_class 2) (drop at chunk))

  to_end : take end chunk ≡ take at chunk ++ piece (drop at chunk)
  to_end = ap (λ n. take n chunk) e ∙ take-add at (length (piece (drop at chunk))) chunk ∙ ap (λ p. take at chunk ++ p) (front_take (of_class 2) (drop at chunk))

  past_end : end < length chunk → take (end + 1) chunk ≡ take at chunk ++ (piece (drop at chunk) ++ (10 ∷ []))
  past_end h =
      let n : end + 1 ≡ at + (length (piece (drop at chunk)) + 1) = omega (arith, e) in
      rw n (take-add at (length (piece (drop at chunk)) + 1) chunk ∙ ap (λ p. take at chunk ++ p) (piece_next (drop at chunk) (omega (arith, e, h, length-drop at chunk))))

  -- ---- from a session that the bytes up to `at` led to

  module _ (t : Talk) (o k : List ℕ) (c : Tally) (S : Store) (lk : length k ≤ 4100) (s : Scripted t (take at chunk) o (record { begun = k; tally = c; store = S })) where
    begins : Scripted (record { begun = k; tally = c; store = S }) (piece (drop at chunk)) [] (record { begun = kept (k ++ piece (drop at chunk)); tally = c; store = S })
    begins = record { turns = subst (λ ls. Turns c S ls [] c S) (sym (piece_ended k (drop at chunk))) (refl, refl, refl); begun = sym (piece_left k (drop at chunk) lk) }

    -- a piece of a line
    pub step_piece : Scripted t (take end chunk) o (record { begun = kept (k ++ take (end - at) (drop at chunk)); tally = c; store = S })
    step_piece =
        subst (λ x. Scripted t x o (record { begun = kept (k ++ take (end - at) (drop at chunk)); tally = c; store = S })) (sym to_end)
        (subst (λ y. Scripted t (take at chunk ++ piece (drop at chunk)) y (record { begun = kept (k ++ take (end - at) (drop at chunk)); tally = c; store = S })) (append-nil o)
        (subst (λ z. Scripted t (take at chunk ++ piece (drop at chunk)) (o ++ []) (record { begun = kept (k ++ z); tally = c; store = S })) (sym piece_is) (scripted_both s begins)))

    ends : (q : List ℕ) (d : Tally) (T : Store) → Turn c S (kept (k ++ piece (drop at chunk))) q d T
        → Scripted (record { begun = kept (k ++ piece (drop at chunk)); tally = c; store = S }) (10 ∷ []) q (record { begun = []; tally = d; store = T })
    unfolding ended left
    ends q d T a = record { turns = (q, [], d, T, a, (refl, refl, refl), sym (append-nil q)); begun = refl }

    -- a line that ends, and its answer q
    pub step_line : end < length chunk → (q : List ℕ) (d : Tally) (T : Store) → Turn c S (kept (k ++ take (end - at) (drop at chunk))) q d T
        → Scripted t (take (end + 1) chunk) (o ++ q) (record { begun = []; tally = d; store = T })
    step_line h q d T a =
        subst (λ x. Scripted t x (o ++ q) (record { begun = []; tally = d; store = T })) (sym (past_end h))
        (scripted_both s (scripted_both begins (ends q d T (subst (λ z. Turn c S (kept (k ++ z)) q d T) piece_is a))))

-- a line's answer, from what functions gave: x what it says, r the reply
pub answered : (c : Tally) (S T : Store) (l : List ℕ) (x : Line) (r : Reply) (d : Tally) → x ≡ heard c.stage c.first l → Acts x S r T → d ≡ tallied c x.call r.refusal
    → Turn c S l (answer c x.call (get_or x.args 0 0) r) d T
answered c S T l x r d e a f = (r, subst (λ y. Acts y S r T) e a, ap (λ y. answer c y.call (get_or y.args 0 0) r) e, f ∙ ap (λ y. tallied c y.call r.refusal) e)
