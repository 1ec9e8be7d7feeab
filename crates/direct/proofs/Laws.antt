-- A call's reply by its refusal and as many values as the call gives.
-- Assumes nothing.
use mathlib.Core.Path.{◌≡◌, sym, ap, subst, ◌∙◌}
use mathlib.Core.List.{[], ◌∷◌}
use Prim.Native.Nat.{ℕ, zero, suc}
use lib.ListN.{take}
use Rattle.model.specs.Model.{Answer, Call, four, refused_by}
use Rattle.state.specs.declared.Reply.{Reply}
use Rattle.outcomes.specs.Store.{Store}
use Rattle.outcomes.specs.Outcome.{Outcome, Answered, Accepted, refusal, answer_of}
use Rattle.direct.specs.Direct.{reply_with}

-- the first n values are all that there are: the others are 0
abbrev Within : ℕ → Answer → Type 0
Within n a = a.values ≡ four (take n a.values)

-- the reply with no more than its first n values
abbrev shortened : ℕ → Reply → Reply
shortened n r = reply_with r.refusal (take n (r.a ∷ r.b ∷ r.c ∷ r.d ∷ []))

as_written : (n : ℕ) (r : Reply) (b : Answer) → answer_of r [] ≡ b → Within n b → answer_of r [] ≡ answer_of (shortened n r) []
as_written n r b e k =
    let v : (r.a ∷ r.b ∷ r.c ∷ r.d ∷ []) ≡ b.values = ap (λ (a : Answer). a.values) e in
    ap (λ l. record { refusal = r.refusal; values = l; part = [] }) (v ∙ k ∙ ap (λ l. four (take n l)) (sym v))

-- a call that gives n values when it is accepted, and zeros when it is refused
pub by_numbers : (n : ℕ) (c : Call) → ((g : ℕ) → Within n (refused_by g)) → ((S T : Store) (a : Answer) → Accepted c S a T → (b : Answer) × (a ≡ b) × Within n b) → (S T : Store) (r : Reply) → Outcome c S (answer_of r []) T
    → Outcome c S (answer_of (shortened n r) []) T
unfolding Outcome
by_numbers n c zeros k S T r o = subst (λ a. Outcome c S a T) (go (refusal S c) o) o
  where
    go : (g : ℕ) → Answered g c S (answer_of r []) T → answer_of r [] ≡ answer_of (shortened n r) []
    go zero q = let (b, e, f) = k S T (answer_of r []) q in as_written n r b e f
    go (suc g) q = as_written n r (refused_by (suc g)) q.0 (zeros (suc g))
