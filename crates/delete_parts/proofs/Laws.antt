-- A look over the numbers of a range.
-- Assumes nothing.
use Rattle.std.specs.Prelude.{◌≡◌, refl, Bool, true, false, ◌||◌, List, ℕ, zero, suc, ◌-◌, Option, MatchOption}
use Rattle.std.specs.Fn.{Called}
use Rattle.std.specs.Iterator.{YieldsThen}
use Rattle.std.specs.List.{list_any, range_with_len, FoldsTo}
use Rattle.std.specs.declared.ops.Range.{Range}
use Rattle.std.proofs.Common.{ap, ◌∙◌, add-one}
use Rattle.std.proofs.iter.Yields.{nat_range_steps}
use Rattle.std.proofs.lemmas.Iterator.{YieldsList-from_range}
use Rattle.std.proofs.lemmas.Iterator.Search.{any_from_yields_List}
use denote.Param.Members.{Mut}
use Rattle.lists.specs.Lists.{any_of, from}

any_any : (f : ℕ → Bool) (k n : ℕ) → list_any f (range_with_len k n) ≡ any_of f (from k n)
any_any f k zero = refl
any_any f k (suc n) = rw (add-one k) (ap (λ b. f k || b) (any_any f (suc k) n))

-- `(k..n).any(p)`, over m numbers, is whether one of them passes f, if p gives of each what f does
pub any_from_any : {F : Type 0} {g : Mut F (ℕ × Unit {0}) Bool} {s u : Range ℕ} {p : F} {r : Bool} (f : ℕ → Bool) (k n m : ℕ)
    → (xs : List ℕ) × (o : Option ℕ) × (j : F) × YieldsThen nat_range_steps s xs o u × FoldsTo (λ p x q. Called g p (x, tt) false q) p xs j × MatchOption o (r ≡ false) (λ x. (r ≡ true) × ((h : F) × Called g j (x, tt) true h))
    → s ≡ record { start = k; end = n } → n - k ≡ m
    → ((x : ℕ) (b : Bool) (q : F) → Called g p (x, tt) b q → (q ≡ p) × (b ≡ f x))
    → r ≡ any_of f (from k m)
any_from_any {u = u} {p = p} {r = r} f k n m ran e d gives = any_from_yields_List f u p r ran (YieldsList-from_range k n m e d) gives ∙ any_any f k m
