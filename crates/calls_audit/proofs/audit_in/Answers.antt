use mathlib.Core.Path.{◌≡◌, refl, ap, ◌∙◌}
use mathlib.Core.Bool.{Bool, true, false}
use mathlib.Core.List.{List, [], ◌∷◌}
use Prim.Native.Nat.{ℕ}
use lib.ListN.{length}
use mir.Val.{bool_byte}
use Rattle.lists.specs.Lists.{bit}
use Rattle.model.specs.Model.{Answer, audit, gives}
use Rattle.regions.specs.Regions.{count_at}
use Rattle.regions.specs.Laws.Counts.{Shares}
use Rattle.state.specs.declared.State.{State}
use Rattle.outcomes.specs.Store.{Store}
use Rattle.outcomes.specs.Outcome.{Outcome, refusal, checks, Accepted, store}
use Rattle.outcomes.proofs.Laws.Steps.{by_effect}
use Rattle.calls_audit.specs.Passes.{passes}
use Rattle.calls_audit.specs.Laws.Exact.{passes_same}
use Rattle.calls_audit.proofs.audit_in.Goals as goal

never-refused : (S : Store) → refusal S audit ≡ 0
unfolding refusal checks
never-refused S = refl

number : (b : Bool) → bool_byte b ≡ bit b
number true = refl
number false = refl

-- what the tests come to is the answer: they have a copy of the shares
answers : (s : State) (heap : List ℕ) (r : Answer) (p : Bool) (n : ℕ) → length s.regions.names ≡ 64 → Shares s.regions.shares → p ≡ passes s.regions.shares s heap → n ≡ bit p → r ≡ gives (n ∷ 0 ∷ 0 ∷ 0 ∷ []) → Outcome audit (store s heap) r (store s heap)
unfolding Accepted count_at
answers s heap r p n names shares q e g =
    let S = store s heap in
    by_effect audit S r S (never-refused S) (g ∙ ap (λ n. gives (n ∷ [])) (e ∙ ap bit (q ∙ passes_same S names s.regions.shares shares (λ i b. refl))), refl)

pub returns : goal.returns
unfolding passes
returns c s =
    answers _ _ _ _ _ c.names_shaped.ensures c.shares_shaped.ensures c.passes-sound.ensures (c.from.ensures ∙ number c.passes-sound.result) c.gives.ensures
