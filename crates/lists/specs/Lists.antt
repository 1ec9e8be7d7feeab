-- Small computing functions on lists: tests, sums, lookups. Nothing of the store.
-- Assumes nothing.
use Rattle.std.specs.Prelude.{Bool, true, false, ◌&&◌, ◌||◌, List, [], ◌∷◌, ◌++◌, map, ℕ, zero, suc, ◌+◌, eqb, length, get_or}

abbrev pub bit : Bool → ℕ
bit true = 1
bit false = 0

abbrev pub pick : {A : Type 0} → Bool → A → A → A
pick true a b = a
pick false a b = b

module _ {A : Type 0} where
  -- some element passes; all elements pass
  abbrev pub any_of : (A → Bool) → List A → Bool
  any_of f [] = false
  any_of f (x ∷ xs) = f x || any_of f xs

  abbrev pub every : (A → Bool) → List A → Bool
  every f [] = true
  every f (x ∷ xs) = f x && every f xs

  -- the elements that pass
  abbrev pub keep : (A → Bool) → List A → List A
  keep f [] = []
  keep f (x ∷ xs) = let ys = keep f xs in pick (f x) (x ∷ ys) ys

  -- the first element that passes, or d
  abbrev pub find_or : (A → Bool) → A → List A → A
  find_or f d [] = d
  find_or f d (x ∷ xs) = pick (f x) x (find_or f d xs)

  -- f of each element, added up
  abbrev pub sum_of : (A → ℕ) → List A → ℕ
  sum_of f [] = 0
  sum_of f (x ∷ xs) = f x + sum_of f xs

  -- two lists are one, element by element
  abbrev pub equal : (A → A → Bool) → List A → List A → Bool
  equal f [] [] = true
  equal f [] (y ∷ ys) = false
  equal f (x ∷ xs) [] = false
  equal f (x ∷ xs) (y ∷ ys) = f x y && equal f xs ys

  -- P of each element
  abbrev pub All : (A → Type 0) → List A → Type 0
  All P [] = Unit {0}
  All P (x ∷ xs) = P x × All P xs

-- how many elements pass
abbrev pub count_of : {A : Type 0} → (A → Bool) → List A → ℕ
count_of f l = sum_of (λ x. bit (f x)) l

module _ {A B : Type 0} where
  -- f of the elements at each place of two lists, as far as both reach, added up
  abbrev pub sum_of₂ : (A → B → ℕ) → List A → List B → ℕ
  sum_of₂ f [] ys = 0
  sum_of₂ f (x ∷ xs) [] = 0
  sum_of₂ f (x ∷ xs) (y ∷ ys) = f x y + sum_of₂ f xs ys

  -- P of the elements at each place, as far as both lists reach
  abbrev pub All₂ : (A → B → Type 0) → List A → List B → Type 0
  All₂ P [] ys = Unit {0}
  All₂ P (x ∷ xs) [] = Unit {0}
  All₂ P (x ∷ xs) (y ∷ ys) = P x y × All₂ P xs ys

  -- the lists that f gives of each element, one after the other
  abbrev pub joined : (A → List B) → List A → List B
  joined f [] = []
  joined f (x ∷ xs) = f x ++ joined f xs

-- k, k + 1, .. : n numbers
abbrev pub from : ℕ → ℕ → List ℕ
from k zero = []
from k (suc n) = k ∷ from (suc k) n

-- 0, 1, .. n - 1
abbrev pub up_to : ℕ → List ℕ
up_to n = from 0 n

-- a list in which the elements at places that pass are 0
unfoldable pub zeroed : (ℕ → Bool) → List ℕ → List ℕ
zeroed passes l = map (λ j. pick (passes j) 0 (get_or l j 0)) (up_to (length l))

-- how often n stands in a list, and whether it does
abbrev pub times : ℕ → List ℕ → ℕ
times n l = count_of (λ x. eqb x n) l

abbrev pub among : ℕ → List ℕ → Bool
among n l = any_of (λ x. eqb x n) l

-- some number stands twice
abbrev pub repeats : List ℕ → Bool
repeats [] = false
repeats (n ∷ l) = among n l || repeats l
