use mathlib.Core.Path.{◌≡◌, refl, sym, ap, ap₂, subst⁻¹, ◌∙◌}
use mathlib.Core.Bool.{Bool, true, false}
use mathlib.Core.List.{List}
use Prim.Native.Nat.{ℕ}
use lib.ListN.{length, set}
use Rattle.model.specs.Model.{Answer}
use Rattle.model.specs.Calls.{makes}
use Rattle.state.specs.declared.State.{State}
use Rattle.outcomes.specs.Store.{Store}
use Rattle.outcomes.specs.Outcome.{MakeBy, MakeOutcome, store, blank}
use Rattle.lent.specs.Lent.{with_made, with_given, with_names, with_levels}
use Rattle.calls_make.proofs.make_in.Goals as goal

by-make : (heap : List ℕ) (a : Answer) (T : Store) (b : Bool) → makes (length heap) ≡ b → MakeBy b heap a T → MakeOutcome heap a T
unfolding MakeOutcome
by-make heap a T b e h = subst⁻¹ (λ m. MakeBy m heap a T) e h

-- a state with n pages and region 1, made of what it was
abbrev opened : ℕ → State → State
opened n s = with_given 1 (with_made n (with_names (set s.regions.names 0 1) (with_levels (set s.regions.levels 0 1) s)))

opens : (n : ℕ) → opened n (blank 0 0) ≡ blank n 1
unfolding blank
opens n = refl

pub returns-then-not-makes : goal.returns-then-not-makes
returns-then-not-makes c = by-make _ _ _ false (sym c.makes.ensures ∙ c.if-not-makes.true) (c.refuses.ensures, rw c.blank_in.ensures)

pub returns : goal.returns
returns c =
    by-make _ _ _ true (sym c.makes.ensures ∙ c.if-not-makes.false)
    (c.gives.ensures, ap₂ store (rw (c.put-2.ensures, c.put.ensures) (ap (opened _) c.blank_in.ensures ∙ opens _)) c.clear.ensures)
