-- Every call has one outcome; a refused one answers its number and leaves every word; the audit is exact.
-- Assumes nothing.
use Rattle.std.specs.Prelude.{◌≡◌, refl, ◌≢◌, Bool, true, false, [], ◌∷◌, ℕ, zero, suc, get_or}
use Rattle.std.proofs.Common.{sym, ap, ◌∙◌, arith}
use Rattle.lists.specs.Lists.{bit}
use Rattle.model.specs.Model.{Answer, Call, declare, new_region, subregion, push, drop_frame, hand_back, allocate, first, copy, fetch, clear, load, set_pointer, put, get, view, same, about, report, totals, audit, delete, delete_all, Query, locate, ask, gives, refused_by}
use Rattle.outcomes.specs.Store.{Store}
use Rattle.outcomes.specs.Sound.{sound}
use Rattle.outcomes.specs.Outcome.{Outcome, Accepted, Answered, query_reply, checks, refusal}
use Rattle.promises.specs.Promises.{Total, Refusals, AuditExact}
use Rattle.outcomes.proofs.Laws.Decided.{sound_is, is_sound}

-- ---- the audit

differ : gives (0 ∷ []) ≢ gives (1 ∷ [])
differ e = let d : ◌≡◌ {A = ℕ} 0 1 = ap (λ a. get_or a.values 0 0) e in absurd (omega (arith, d))

one_true : (b : Bool) → gives (bit b ∷ []) ≡ gives (1 ∷ []) → b ≡ true
one_true true e = refl
one_true false e = absurd (differ e)

pub audit_exact : AuditExact
unfolding AuditExact Outcome Accepted refusal checks
audit_exact S a T h = (h.0, ((λ e. sound_is S (one_true (sound S) (sym h.0 ∙ e))), (λ s. h.0 ∙ ap (λ b. gives (bit b ∷ [])) (is_sound S s))), h.1)

-- ---- refusals

-- a call that only asks answers 0
query_zero : (S : Store) (q : Query) → (query_reply S q).refusal ≡ 0
unfolding query_reply
query_zero S (locate s) = refl

-- an accepted call gives one answer, whose refusal is 0, and leaves one store
settled : (c : Call) (S : Store) → (b : Answer) × (U : Store) × (b.refusal ≡ 0) × ((a : Answer) (T : Store) → Accepted c S a T → (a ≡ b) × (T ≡ U)) × Accepted c S b U
unfolding Accepted
settled (declare ms) S = (_, _, refl, (λ a T h. h), (refl, refl))
settled new_region S = (_, _, refl, (λ a T h. h), (refl, refl))
settled (subregion r) S = (_, _, refl, (λ a T h. h), (refl, refl))
settled (push n) S = (_, _, refl, (λ a T h. h), (refl, refl))
settled (drop_frame f) S = (_, _, refl, (λ a T h. h), (refl, refl))
settled (hand_back s b f) S = (_, _, refl, (λ a T h. h), (refl, refl))
settled (allocate s r k) S = (_, _, refl, (λ a T h. h), (refl, refl))
settled (first s r) S = (_, _, refl, (λ a T h. h), (refl, refl))
settled (copy s t) S = (_, _, refl, (λ a T h. h), (refl, refl))
settled (fetch b s) S = (_, _, refl, (λ a T h. h), (refl, refl))
settled (clear s) S = (_, _, refl, (λ a T h. h), (refl, refl))
settled (load s w t) S = (_, _, refl, (λ a T h. h), (refl, refl))
settled (set_pointer s w v f) S = (_, _, refl, (λ a T h. h), (refl, refl))
settled (put s w x) S = (_, _, refl, (λ a T h. h), (refl, refl))
settled (get s w) S = (_, _, refl, (λ a T h. h), (refl, refl))
settled (view s) S = (_, _, refl, (λ a T h. h), (refl, refl))
settled (same s t) S = (_, _, refl, (λ a T h. h), (refl, refl))
settled (about s) S = (_, _, refl, (λ a T h. h), (refl, refl))
settled (report r) S = (_, _, refl, (λ a T h. h), (refl, refl))
settled totals S = (_, _, refl, (λ a T h. h), (refl, refl))
settled audit S = (_, _, refl, (λ a T h. h), (refl, refl))
settled (delete r f) S = (_, _, refl, (λ a T h. h), (refl, refl))
settled (delete_all rs f) S = (_, _, refl, (λ a T h. h), (refl, refl))
settled (ask q) S = (_, _, query_zero S q, (λ a T h. h), (refl, refl))

pub refusals : Refusals
unfolding Refusals Outcome
refusals c S a T h = go (refusal S c) refl h
  where
    go : (n : ℕ) → refusal S c ≡ n → Answered n c S a T → (a.refusal ≡ n) × (a.refusal ≢ 0 → (a ≡ refused_by n) × (T ≡ S))
    go zero e k = let t = settled c S in let z : a.refusal ≡ 0 = ap (λ x. x.refusal) (t.3 a T k).0 ∙ t.2 in (z, (λ n. absurd (n z)))
    go (suc n) e k = (ap (λ x. x.refusal) k.0, (λ z. k))

-- ---- every call has an outcome, and no other

pub total : Total
unfolding Total Outcome
total c S = go (refusal S c)
  where
    go : (n : ℕ) → (a : Answer) × (T : Store) × Answered n c S a T
    go zero = let t = settled c S in (t.0, t.1, t.4)
    go (suc n) = (refused_by (suc n), S, (refl, refl))

pub one_outcome : (c : Call) (S : Store) (a b : Answer) (T U : Store) → Outcome c S a T → Outcome c S b U → (a ≡ b) × (T ≡ U)
unfolding Outcome
one_outcome c S a b T U h k = go (refusal S c) h k
  where
    go : (n : ℕ) → Answered n c S a T → Answered n c S b U → (a ≡ b) × (T ≡ U)
    go zero h k =
        let t = settled c S in
        let p = t.3 a T h in
        let q = t.3 b U k in
        (p.0 ∙ sym q.0, p.1 ∙ sym q.1)
    go (suc n) h k = (h.0 ∙ sym k.0, h.1 ∙ sym k.1)
