-- Chains of iterators over the numbers below n.
-- Assumes nothing.
use Rattle.std.specs.Prelude.{◌≡◌, Bool, true, false, List, [], ◌∷◌, ℕ, zero, suc, ◌+◌, ◌<◌, Option, None, Some, MatchOption}
use Rattle.std.specs.Fn.{Called}
use Rattle.std.specs.Iterator.{YieldsThen}
use Rattle.std.specs.List.{FoldsTo}
use Rattle.std.specs.declared.ops.Range.{Range}
use Rattle.std.proofs.Common.{sym, ap, ◌∙◌, add-one, arith}
use Rattle.std.proofs.iter.Yields.{nat_range_steps}
use denote.Param.Members.{Mut}
use Rattle.lists.specs.Lists.{every, from, up_to}

module _ {F : Type 0} {g : Mut F (ℕ × Unit {0}) Bool} {r : Bool} (f : ℕ → Bool) (u : Range ℕ) where
  -- what a run of `all` over the m numbers from where s starts says of its answer
  run : (m : ℕ) (s : Range ℕ) (p : F) (xs : List ℕ) (o : Option ℕ) (j : F) → s.end ≡ s.start + m → YieldsThen nat_range_steps s xs o u → FoldsTo (λ p x q. Called g p (x, tt) true q) p xs j → MatchOption o (r ≡ true) (λ x. (r ≡ false) × ((h : F) × Called g j (x, tt) false h))
      → ((x : ℕ) (b : Bool) (q : F) → x < s.end → Called g p (x, tt) b q → (q ≡ p) × (b ≡ f x))
      → r ≡ every f (from s.start m)
  run zero s p [] None j e y t z gives = z
  run zero s p [] (Some x) j e y t z gives = absurd (omega (arith, e, y.2.1.0, ap (λ (v : Range ℕ). v.start) y.1, ap (λ (v : Range ℕ). v.end) y.1))
  run zero s p (x ∷ xs) o j e y t z gives = absurd (omega (arith, e, y.1.1.1.0))
  run (suc m) s p [] None j e y t z gives = absurd (omega (arith, e, y.2.1.0, ap (λ (v : Range ℕ). v.start) y.1, ap (λ (v : Range ℕ). v.end) y.1))
  run (suc m) s p [] (Some x) j e y t z gives =
      let here : x ≡ s.start = y.2.1.1 ∙ sym (ap (λ (v : Range ℕ). v.start) y.1) in
      let k : Called g p (s.start, tt) false z.1.0 = rw (t, ← here) z.1.1 in
      rw (z.0, ← (gives s.start false z.1.0 (omega (arith, e)) k).1)
  run (suc m) s p (x ∷ xs) o j e y t z gives =
      let k : Called g p (s.start, tt) true t.0 = rw (← y.1.1.1.1) t.1 in
      let one = gives s.start true t.0 (omega (arith, e)) k in
      let folds : FoldsTo (λ p x q. Called g p (x, tt) true q) p xs j = rw (← one.0) t.2 in
      let rest = run m y.1.0 p xs o j (omega (arith, e, y.1.1.0, y.1.1.1.2)) (y.0, y.1.2, y.2) folds z (λ i b q h c. gives i b q (rw (← y.1.1.0) h) c) in
      rw (← one.1) (rw (y.1.1.1.2, add-one s.start) at rest)

-- `(0..n).all(p)` is whether every number below n passes f, if p gives of each what f does: `every_from_all f n c.all.ensures.ran (λ x b q h k. search rules)`
pub every_from_all : {F : Type 0} {g : Mut F (ℕ × Unit {0}) Bool} {u : Range ℕ} {p : F} {r : Bool} (f : ℕ → Bool) (n : ℕ)
    → (xs : List ℕ) × (o : Option ℕ) × (j : F) × YieldsThen nat_range_steps record { start = 0; end = n } xs o u × FoldsTo (λ p x q. Called g p (x, tt) true q) p xs j × MatchOption o (r ≡ true) (λ x. (r ≡ false) × ((h : F) × Called g j (x, tt) false h))
    → ((x : ℕ) (b : Bool) (q : F) → x < n → Called g p (x, tt) b q → (q ≡ p) × (b ≡ f x))
    → r ≡ every f (up_to n)
every_from_all {u = u} {p = p} f n ran gives = run f u n (record { start = 0; end = n }) p ran.0 ran.1 ran.2 (omega arith) ran.3 ran.4 ran.5 gives
