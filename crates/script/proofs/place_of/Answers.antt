use Prim.Native.Nat.{◌-◌}
use mathlib.Core.Path.{◌≡◌, sym, ◌∙◌}
use mathlib.Core.Bool.{false≢true}
use mathlib.Core.List.{◌∷◌}
use native.Mathlib.Omega.{arith}
use lib.ListN.{take, drop}
use Rattle.std.proofs.lemmas.Slice.Eq.{bytes_eq-Decides}
use Rattle.script.specs.Script.{tokens, placed}
use Rattle.script.specs.Laws.Lines.{placed_here, placed_next}
use Rattle.script.proofs.place_of.Goals as goal

pub returns-then-eq : goal.returns-then-eq
returns-then-eq c =
    let next : placed c.loop-p.n c.args.w.now (take (c.in-Some.p.to - c.in-Some.p.from) (drop c.in-Some.p.from c.args.s.now) ∷ tokens (drop c.in-Some.p.to c.args.s.now)) ≡ placed c.args.first c.args.w.now (tokens c.args.s.now) = rw (c.in-Some.ensures.1.follows c.in-Some.ensures.0) at c.loop-p.invariant.3 in
    record { place = placed_here _ _ _ _ ((bytes_eq-Decides _ _).0 (sym c.if-eq.ensures)) ∙ next; counted = omega arith }

pub loop-p-preserved : goal.loop-p-preserved
loop-p-preserved c =
    let next : placed c.loop-p.n c.args.w.now (take (c.in-Some.p.to - c.in-Some.p.from) (drop c.in-Some.p.from c.args.s.now) ∷ tokens (drop c.in-Some.p.to c.args.s.now)) ≡ placed c.args.first c.args.w.now (tokens c.args.s.now) = rw (c.in-Some.ensures.1.follows c.in-Some.ensures.0) at c.loop-p.invariant.3 in (
      omega arith,
      omega (arith, c.in-Some.ensures.0, c.in-Some.ensures.1.onward),
      omega (arith, c.in-Some.ensures.0, c.in-Some.ensures.1.within),
      sym (placed_next _ _ _ _ (λ q. false≢true (c.if-eq.ensures ∙ (bytes_eq-Decides _ _).1 q))) ∙ next,
    )

pub returns : goal.returns
unfolding placed
returns c = record { place = rw c.in_default.ensures at c.loop-p.invariant.3; counted = tt }
