-- The objects met in a memory stand one behind the other, on any memory.
-- Assumes nothing.
use Rattle.std.specs.Prelude.{◌≡◌, Bool, ◌&&◌, List, [], ◌∷◌, ◌++◌, ltb, length, get_or}
use Rattle.std.proofs.Math.Path.{refl}
use Rattle.std.proofs.Math.Bool.{true, false}
use Prim.Native.Nat.{ℕ, zero, suc, ◌+◌, ◌*◌, ◌≤◌, ◌<◌}
use Rattle.std.proofs.Common.{not-suc-le-zero, le_of_suc-le-suc}
use native.Mathlib.Omega.{arith}
use Rattle.std.proofs.Math.Dec.{leb}
use borrow.Author.Tests.{ltb-true, leb-true}
use Rattle.lists.specs.Lists.{pick, sum_of, All, joined, from, up_to}
use Rattle.lists.specs.Laws.Tests.{both}
use Rattle.lists.specs.Laws.All.{all_map, all_in}
use Rattle.kinds.specs.declared.Kinds.{Kinds}
use Rattle.kinds.specs.Kinds.{size_of}
use Rattle.objects.specs.Objects.{walk}

-- the places qs stand in order from a to e, and behind each there is room for its n words
abbrev pub Stacked : (ℕ → ℕ) → ℕ → ℕ → List ℕ → Type 0
Stacked n a e [] = a ≤ e
Stacked n a e (q ∷ qs) = (a ≤ q) × (0 < n q) × Stacked n (q + 1 + n q) e qs

module _ (n : ℕ → ℕ) where
  stacked_le : (a e : ℕ) (qs : List ℕ) → Stacked n a e qs → a ≤ e
  stacked_le a e [] h = h
  stacked_le a e (q ∷ qs) h = omega (arith, h.0, stacked_le (q + 1 + n q) e qs h.2)

  pub stacked_wider : (a b c e : ℕ) (qs : List ℕ) → a ≤ b → c ≤ e → Stacked n b c qs → Stacked n a e qs
  stacked_wider a b c e [] l m h = omega arith
  stacked_wider a b c e (q ∷ qs) l m h = (omega (arith, h.0), h.1, stacked_wider (q + 1 + n q) (q + 1 + n q) c e qs (omega arith) m h.2)

  stacked_append : (a b c : ℕ) (qs rs : List ℕ) → Stacked n a b qs → Stacked n b c rs → Stacked n a c (qs ++ rs)
  stacked_append a b c [] rs h k = stacked_wider a b c c rs h (omega arith) k
  stacked_append a b c (q ∷ qs) rs h k = (h.0, h.1, stacked_append (q + 1 + n q) b c qs rs h.2 k)

  -- page by page
  stacked_joined : (f : ℕ → List ℕ) → ((j : ℕ) → Stacked n (64 * j) (64 * suc j) (f j)) → (k m : ℕ) → Stacked n (64 * k) (64 * (k + m)) (joined f (from k m))
  stacked_joined f h k zero = omega arith
  stacked_joined f h k (suc m) =
      let e : suc k + m ≡ k + suc m = omega arith in
      stacked_append (64 * k) (64 * suc k) (64 * (k + suc m)) (f k) (joined f (from (suc k) m)) (h k) (rw e at (stacked_joined f h (suc k) m))

  pub stacked_pages : (f : ℕ → List ℕ) (m : ℕ) → ((j : ℕ) → Stacked n (64 * j) (64 * suc j) (f j)) → Stacked n 0 (64 * m) (joined f (up_to m))
  stacked_pages f m h = stacked_wider 0 (64 * 0) (64 * (0 + m)) (64 * m) (joined f (up_to m)) (omega arith) (omega arith) (stacked_joined f h 0 m)

  pub stacked_all : (a e : ℕ) (qs : List ℕ) → Stacked n a e qs → All (λ q. (a ≤ q) × (0 < n q) × (q + 1 + n q ≤ e)) qs
  stacked_all a e [] h = tt
  stacked_all a e (q ∷ qs) h =
      ((h.0, h.1, stacked_le (q + 1 + n q) e qs h.2), all_map (λ r k. (omega (arith, h.0, k.0), k.1, k.2)) qs (stacked_all (q + 1 + n q) e qs h.2))

  -- with their headers they take at most the words from a to e
  pub stacked_sum : (a e : ℕ) (qs : List ℕ) → Stacked n a e qs → a + sum_of (λ q. 1 + n q) qs ≤ e
  stacked_sum a e [] h = omega (arith, h)
  stacked_sum a e (q ∷ qs) h = omega (arith, h.0, stacked_sum (q + 1 + n q) e qs h.2)

  pub stacked_apart : (a e : ℕ) (qs : List ℕ) (i j : ℕ) → Stacked n a e qs → i < j → j < length qs → get_or qs i 0 + 1 + n (get_or qs i 0) ≤ get_or qs j 0
  stacked_apart a e [] i j h k l = absurd (not-suc-le-zero l)
  stacked_apart a e (q ∷ qs) i zero h k l = absurd (not-suc-le-zero k)
  stacked_apart a e (q ∷ qs) zero (suc j) h k l = (all_in (λ r. (q + 1 + n q ≤ r) × (0 < n r) × (r + 1 + n r ≤ e)) qs j 0 (stacked_all (q + 1 + n q) e qs h.2) (le_of_suc-le-suc l)).0
  stacked_apart a e (q ∷ qs) (suc i) (suc j) h k l = stacked_apart (q + 1 + n q) e qs i j h.2 (le_of_suc-le-suc k) (le_of_suc-le-suc l)

module _ (k : Kinds) (heap : List ℕ) where
  abbrev pub size_at : ℕ → ℕ
  size_at q = size_of k (get_or heap q 0)

  pub walk_stacked : (n p e : ℕ) → p ≤ e → Stacked size_at p e (walk k heap n p e)
  unfolding walk
  walk_stacked zero p e h = h
  walk_stacked (suc n) p e h = go (ltb 0 (size_at p) && leb (p + 1 + size_at p) e) refl (walk_stacked n (p + 1 + size_at p) e)
    where
      go : (b : Bool) → (ltb 0 (size_at p) && leb (p + 1 + size_at p) e) ≡ b → (p + 1 + size_at p ≤ e → Stacked size_at (p + 1 + size_at p) e (walk k heap n (p + 1 + size_at p) e))
          → Stacked size_at p e (pick b (p ∷ walk k heap n (p + 1 + size_at p) e) [])
      go true q ih = let t = both (ltb 0 (size_at p)) (leb (p + 1 + size_at p) e) q in (omega arith, ltb-true 0 (size_at p) t.0, ih (leb-true (p + 1 + size_at p) e t.1))
      go false q ih = h
