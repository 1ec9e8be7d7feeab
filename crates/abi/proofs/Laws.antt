-- Ways to what the functions promise of the memory lent.
-- Assumes nothing.
use mathlib.Core.Path.{◌≡◌, refl, sym, ◌∙◌, ap, subst⁻¹}
use mathlib.Core.List.{List, [], ◌∷◌, ◌++◌}
use Prim.Native.Nat.{ℕ, zero, suc, min}
use native.Mathlib.Omega.{arith}
use lib.ListN.{length, get_or, set, take, drop}
use lib.Seq.{sets}
use Rattle.state.specs.declared.State.{State}
use Rattle.outcomes.specs.Outcome.{store}
use Rattle.outcomes.specs.Shape.{Sized, Shaped}
use Rattle.abi.specs.Memory.{arrays_of, sizes, OfSizes, HoldsState}
use Rattle.abi.specs.Hosts.{AllSized}
use Rattle.abi.specs.Laws.Hosts.{all_sized}

-- a list of five, element by element
pub five : (l : List ℕ) → length l ≡ 5 → l ≡ get_or l 0 0 ∷ get_or l 1 0 ∷ get_or l 2 0 ∷ get_or l 3 0 ∷ get_or l 4 0 ∷ []
five [] h = absurd (omega arith)
five (a ∷ []) h = absurd (omega arith)
five (a ∷ b ∷ []) h = absurd (omega arith)
five (a ∷ b ∷ c ∷ []) h = absurd (omega arith)
five (a ∷ b ∷ c ∷ d ∷ []) h = absurd (omega arith)
five (a ∷ b ∷ c ∷ d ∷ e ∷ []) h = refl
five (a ∷ b ∷ c ∷ d ∷ e ∷ f ∷ l) h = absurd (omega arith)

pub numbered : (l : List ℕ) (ls : List (List ℕ)) → length l ≡ 5 → l ∷ ls ≡ (get_or l 0 0 ∷ get_or l 1 0 ∷ get_or l 2 0 ∷ get_or l 3 0 ∷ get_or l 4 0 ∷ []) ∷ ls
numbered l ls h = ap (λ n. n ∷ ls) (five l h)

pub of_sizes : (s : State) → Shaped (store s []) → OfSizes sizes (arrays_of s)
of_sizes s h =
    let z = h.sized in
    let b = h.bounded in
    let f = b.in_frames in
    let k = b.in_kinds in
    let r = b.in_regions in
    let p = b.in_pages in
    (refl, (f.standing, (f.counted, (k.declared, (r.given, (p.made, tt))))), (z.in_frames.widths, f.widths, (z.in_frames.slots, f.slots, (z.in_kinds.sizes, k.sizes, (z.in_kinds.marks, k.marks, (z.in_regions.names, r.names, (z.in_regions.parents, r.parents, (z.in_regions.levels, r.levels, (z.in_regions.shares, r.shares, (z.in_regions.newest, r.newest, (z.in_regions.oldest, r.oldest, (z.in_pages.owners, p.owners, (z.in_pages.taken, p.taken, tt)))))))))))))

pub holds : (s : State) (memory : List (List ℕ)) → memory ≡ arrays_of s → Shaped (store s []) → HoldsState s memory
unfolding HoldsState
holds s memory e h = (e, subst⁻¹ (λ m. OfSizes sizes m) e (of_sizes s h))

-- what is written after the first number leaves that as it is
sets_rest : (l out : List ℕ) (i x : ℕ) → sets (x ∷ out) (suc i) l ≡ x ∷ sets out i l
sets_rest [] out i x = refl
sets_rest (v ∷ l) out i x = sets_rest l (set out i v) (suc i) x

sets_none : (l : List ℕ) (i : ℕ) → sets [] i l ≡ []
sets_none [] i = refl
sets_none (v ∷ l) i = sets_none l (suc i)

-- numbers written as far as there is room
pub sets_front : (l out : List ℕ) (n : ℕ) → n ≡ min (length l) (length out) → take n l ++ drop n out ≡ sets out 0 l
sets_front l [] zero e = sym (sets_none l 0)
sets_front l [] (suc n) e = absurd (omega arith)
sets_front [] (x ∷ out) zero e = refl
sets_front [] (x ∷ out) (suc n) e = absurd (omega arith)
sets_front (v ∷ l) (x ∷ out) zero e = absurd (omega arith)
sets_front (v ∷ l) (x ∷ out) (suc n) e = ap (λ t. v ∷ t) (sets_front l out n (omega arith)) ∙ sym (sets_rest l out 0 v)

-- arrays as long as the layout says are a state's whose arrays have their lengths
pub sized : (s : State) (heap : List ℕ) → OfSizes sizes (arrays_of s) → Sized (store s heap)
unfolding AllSized HoldsState
sized s heap h = all_sized s (arrays_of s) heap (refl, h)
