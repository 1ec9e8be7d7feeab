-- A script in two parts, wherever it is cut: feeding the one and then the other is feeding both.
-- Assumes nothing.
use Rattle.std.specs.Prelude.{◌≡◌, refl, Bool, true, false, List, [], ◌∷◌, ◌++◌, ℕ, eqb}
use Rattle.std.proofs.Common.{sym, ap, subst, ◌∙◌, append_assoc}
use Rattle.lists.specs.Lists.{pick}
use Rattle.outcomes.specs.Store.{Store}
use Rattle.tally.specs.declared.Tally.{Tally}
use Rattle.tally.specs.Answers.{kept}
use Rattle.feed.specs.Scripted.{ended, left, Turns, Talk, Scripted}

pub ended_cut : (k x y : List ℕ) → ended k (x ++ y) ≡ ended k x ++ ended (left k x) y
unfolding ended left
ended_cut k [] y = refl
ended_cut k (b ∷ x) y = go (eqb b 10) (ended_cut [] x y) (ended_cut (kept (k ++ (b ∷ []))) x y)
  where
    m : List ℕ
    m = kept (k ++ (b ∷ []))

    go : (t : Bool) → ended [] (x ++ y) ≡ ended [] x ++ ended (left [] x) y → ended m (x ++ y) ≡ ended m x ++ ended (left m x) y
        → pick t (k ∷ ended [] (x ++ y)) (ended m (x ++ y)) ≡ pick t (k ∷ ended [] x) (ended m x) ++ ended (left (pick t [] m) x) y
    go true e f = ap (λ ls. k ∷ ls) e
    go false e f = f

pub left_cut : (k x y : List ℕ) → left k (x ++ y) ≡ left (left k x) y
unfolding left
left_cut k [] y = refl
left_cut k (b ∷ x) y = left_cut (pick (eqb b 10) [] (kept (k ++ (b ∷ [])))) x y

pub turns_both : (c d e : Tally) (S T U : Store) (ls ms : List (List ℕ)) (o p : List ℕ) → Turns c S ls o d T → Turns d T ms p e U → Turns c S (ls ++ ms) (o ++ p) e U
turns_both c d e S T U [] ms o p (eo, ed, e_t) b = rw eo (subst (λ W. Turns c W ms p e U) e_t (subst (λ x. Turns x T ms p e U) ed b))
turns_both c d e S T U (l ∷ ls) ms o p (m, n, f, W, a, rest, eo) b = (m, n ++ p, f, W, a, turns_both f d e W T U ls ms n p rest b, rw eo (append_assoc m n p))

pub turns_cut : (c e : Tally) (S U : Store) (ls ms : List (List ℕ)) (q : List ℕ) → Turns c S (ls ++ ms) q e U
    → (d : Tally) × (T : Store) × (o : List ℕ) × (p : List ℕ) × Turns c S ls o d T × Turns d T ms p e U × (q ≡ o ++ p)
turns_cut c e S U [] ms q a = (c, S, [], q, (refl, refl, refl), a, refl)
turns_cut c e S U (l ∷ ls) ms q (m, n, f, W, a, rest, eq) =
    let (d, T, o, p, x, y, z) = turns_cut f e W U ls ms n rest in
    (d, T, m ++ o, p, (m, o, f, W, a, x, refl), y, eq ∙ ap (λ k. m ++ k) z ∙ sym (append_assoc m o p))

-- x and then y, fed one after the other
pub scripted_both : {t u v : Talk} {x y o p : List ℕ} → Scripted t x o u → Scripted u y p v → Scripted t (x ++ y) (o ++ p) v
scripted_both {t} {u} {v} {x} {y} {o} {p} a b =
    record {
      turns =
          subst (λ ls. Turns t.tally t.store ls (o ++ p) v.tally v.store) (sym (ended_cut t.begun x y))
          (turns_both t.tally u.tally v.tally t.store u.store v.store (ended t.begun x) (ended (left t.begun x) y) o p a.turns (subst (λ k. Turns u.tally u.store (ended k y) p v.tally v.store) a.begun b.turns));
      begun = b.begun ∙ ap (λ k. left k y) a.begun ∙ sym (left_cut t.begun x y);
    }

-- what both do together, x does by itself, and then y
pub scripted_cut : (t v : Talk) (x y q : List ℕ) → Scripted t (x ++ y) q v → (u : Talk) × (o : List ℕ) × (p : List ℕ) × Scripted t x o u × Scripted u y p v × (q ≡ o ++ p)
scripted_cut t v x y q a =
    let (d, T, o, p, b, e, f) = turns_cut t.tally v.tally t.store v.store (ended t.begun x) (ended (left t.begun x) y) q
    (subst (λ ls. Turns t.tally t.store ls q v.tally v.store) (ended_cut t.begun x y) a.turns) in (
      record { begun = left t.begun x; tally = d; store = T },
      o,
      p,
      record { turns = b; begun = refl },
      record { turns = e; begun = a.begun ∙ left_cut t.begun x y },
      f,
    )

-- no byte leads nowhere
pub scripted_none : (t : Talk) → Scripted t [] [] t
unfolding ended left
scripted_none t = record { turns = (refl, refl, refl); begun = refl }
