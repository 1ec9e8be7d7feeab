-- Ways to what the dispatcher promises.
-- Assumes nothing.
use mathlib.Core.Path.{◌≡◌, refl, sym, ap, subst, subst⁻¹}
use mathlib.Core.Bool.{true, false}
use mathlib.Core.List.{List, []}
use Prim.Native.Nat.{ℕ, zero, suc, ◌+◌, ◌-◌, ◌≤◌, ◌<◌}
use native.Mathlib.Omega.{arith}
use lib.Dec.{leb}
use lib.ListN.{get_or}
use borrow.Author.Tests.{leb-true}
use Rattle.lists.specs.Laws.Tests.{by_test, both}
use Rattle.model.specs.Model.{view, totals, refused_by}
use Rattle.state.specs.declared.State.{State}
use Rattle.state.specs.declared.Reply.{Reply}
use Rattle.outcomes.specs.Store.{Store, slot}
use Rattle.outcomes.specs.Outcome.{Outcome, Accepted, answer_of, refusal, store, viewed}
use Rattle.outcomes.proofs.Laws.Steps.{by_refusal, by_effect}
use Rattle.dispatch.specs.Dispatch.{numbered, last_call, is_call, decoded, OutcomeOf, DispatchedBy, Dispatched}

-- n is none of the m numbers from 2 on, as the last arm of a match on it says
abbrev pub NoneOf : ℕ → ℕ → Type 0
NoneOf zero n = Unit {0}
NoneOf (suc m) n = NoneOf m n × (n ≡ 2 + m → ⊥)

apart : (m n : ℕ) → NoneOf m n → 2 ≤ n → n < 2 + m → ⊥
apart zero n h l u = omega arith
apart (suc m) n h l u = apart m n h.0 l (omega (arith, h.1))

outside : (n : ℕ) → NoneOf (last_call - 1) n → is_call n ≡ false
outside n h = by_test (is_call n) (λ e. let q = both (leb 2 n) (leb n last_call) e in absurd (apart (last_call - 1) n h (leb-true 2 n q.0) (omega (arith, leb-true n last_call q.1)))) (λ e. e)

module _ (n a b c d : ℕ) (list : List ℕ) (S : Store) (r : Reply) (T : Store) where
  pub by_number : (k : ℕ) → n ≡ k → DispatchedBy (is_call k) (decoded k a b c d list) S r T → Dispatched n a b c d list S r T
  unfolding Dispatched
  by_number k e h = subst⁻¹ (λ m. DispatchedBy (is_call m) (decoded m a b c d list) S r T) e h

-- the call numbered k, where n is that
by_call : {n : ℕ} (a b c d : ℕ) (list : List ℕ) (S : Store) (r : Reply) (T : Store) (k : ℕ) → n ≡ k → is_call k ≡ true → OutcomeOf (get_or (numbered a b c d list) (k - 2) totals) S r T → Dispatched n a b c d list S r T
unfolding decoded
by_call a b c d list S r T k e h o = by_number _ a b c d list S r T k e (subst⁻¹ (λ y. DispatchedBy y (decoded k a b c d list) S r T) h o)

-- a call in place, where all of the state is lent: so `before` gives that state, whatever it is given
pub answered : {n : ℕ} {s t : State} (a b c d : ℕ) (list heap heap' : List ℕ) (r : Reply) (before after : State → State) (k : ℕ) → n ≡ k → ((u : State) → Outcome (get_or (numbered a b c d list) (k - 2) totals) (store (before u) heap) (answer_of r []) (store (after u) heap')) → is_call k ≡ true
    → before s ≡ s → after s ≡ t → Dispatched n a b c d list (store s heap) r (store t heap')
answered {s = s} {t = t} a b c d list heap heap' r before after k e f h p q =
    let o : State → State → Type 0 = λ x y. Outcome (get_or (numbered a b c d list) (k - 2) totals) (store x heap) (answer_of r []) (store y heap') in
    by_call a b c d list _ r _ k e h ([], subst (λ x. o x t) p (subst (o (before s)) q (f s)))

pub by_none : {n : ℕ} {S T : Store} {r : Reply} (a b c d : ℕ) (list : List ℕ) → NoneOf (last_call - 1) n → answer_of r [] ≡ refused_by 24 → T ≡ S → Dispatched n a b c d list S r T
unfolding Dispatched
by_none {n} {S} {T} {r} a b c d list h p q = subst⁻¹ (λ x. DispatchedBy x (decoded n a b c d list) S r T) (outside n h) (p, q)

-- view's number beside the part that it would hand back
pub view_outcome : (S : Store) (a : ℕ) (r : Reply) (n : ℕ) → n ≡ refusal S (view a) → answer_of r [] ≡ refused_by n → OutcomeOf (view a) S r S
unfolding Accepted
view_outcome S a r zero e q =
    let p = (viewed S (slot S a)).part in
    (p, by_effect (view a) S (answer_of r p) S (sym e) (ap (λ x. record { refusal = x.refusal; values = x.values; part = p }) q, refl))
view_outcome S a r (suc n) e q = ([], by_refusal (view a) S (answer_of r []) S (suc n) (sym e) (λ z. omega arith) q refl)

pub shown : {n m : ℕ} {s : State} (a b c d : ℕ) (list heap : List ℕ) (r : Reply) (before : State → State) → n ≡ 17 → ((u : State) → m ≡ refusal (store (before u) heap) (view a)) → before s ≡ s → answer_of r [] ≡ refused_by m → Dispatched n a b c d list (store s heap) r (store s heap)
shown {m = m} {s = s} a b c d list heap r before e f p q = by_call a b c d list _ r _ 17 e refl (view_outcome (store s heap) a r m (subst (λ x. m ≡ refusal (store x heap) (view a)) p (f s)) q)
