-- Laws of `every` over lists that are mapped, kept and joined, and of loops that decide it.
-- Assumes nothing.
use Rattle.std.specs.Prelude.{◌≡◌, refl, Bool, true, false, not, ◌&&◌, ◌||◌, List, [], ◌∷◌, map, ℕ, ◌+◌, ◌≤◌, ◌<◌}
use Rattle.std.proofs.Common.{sym, ap, ap₂, ◌∙◌, true≢false, arith, below_none, below_more}
use Rattle.std.proofs.lemmas.Bool.{false≢true}
use Rattle.lists.specs.Lists.{pick, every, keep, equal, joined, up_to}
use Rattle.lists.specs.Laws.Tests.{both, by_test}
use Rattle.lists.specs.Laws.Finds.{every_append, every_same}
use Rattle.lists.specs.Laws.UpTo.{all_up_to, every_each, each_every}

module _ {A B : Type 0} where
  pub every_map : (f : B → Bool) (g : A → B) (l : List A) → every f (map g l) ≡ every (λ x. f (g x)) l
  every_map f g [] = refl
  every_map f g (x ∷ xs) = ap (λ b. f (g x) && b) (every_map f g xs)

  pub every_joined : (f : B → Bool) (g : A → List B) (l : List A) → every f (joined g l) ≡ every (λ x. every f (g x)) l
  every_joined f g [] = refl
  every_joined f g (x ∷ xs) = every_append f (g x) (joined g xs) ∙ ap (λ b. every f (g x) && b) (every_joined f g xs)

module _ {A : Type 0} where
  -- lists that are one by a test are one, if elements are; and a list is one with itself, if its elements are
  pub equal_is : (f : A → A → Bool) → ((x y : A) → f x y ≡ true → x ≡ y) → (xs ys : List A) → equal f xs ys ≡ true → xs ≡ ys
  equal_is f h [] [] e = refl
  equal_is f h [] (y ∷ ys) e = absurd (false≢true e)
  equal_is f h (x ∷ xs) [] e = absurd (false≢true e)
  equal_is f h (x ∷ xs) (y ∷ ys) e = let q = both (f x y) (equal f xs ys) e in ap₂ ◌∷◌ (h x y q.0) (equal_is f h xs ys q.1)

  pub equal_self : (f : A → A → Bool) → ((x : A) → f x x ≡ true) → (xs : List A) → equal f xs xs ≡ true
  equal_self f h [] = refl
  equal_self f h (x ∷ xs) = rw (h x, equal_self f h xs)

  -- those that fail g are kept
  pub every_keep : (f g : A → Bool) (l : List A) → every f (keep (λ x. not (g x)) l) ≡ every (λ x. g x || f x) l
  every_keep f g [] = refl
  every_keep f g (x ∷ xs) = go (g x) (every_keep f g xs)
    where
      go : (b : Bool) → every f (keep (λ x. not (g x)) xs) ≡ every (λ x. g x || f x) xs
          → every f (pick (not b) (x ∷ keep (λ x. not (g x)) xs) (keep (λ x. not (g x)) xs)) ≡ ((b || f x) && every (λ x. g x || f x) xs)
      go true e = e
      go false e = ap (λ b. f x && b) e

pub every_below : (f g : ℕ → Bool) (n : ℕ) → ((i : ℕ) → i < n → f i ≡ g i) → every f (up_to n) ≡ every g (up_to n)
every_below f g n h = every_same f g (up_to n) (all_up_to (λ i. f i ≡ g i) n h)

-- one that fails below n
pub every_not : (f : ℕ → Bool) (n i : ℕ) → i < n → f i ≡ false → every f (up_to n) ≡ false
every_not f n i h e = by_test (every f (up_to n)) (λ t. absurd (true≢false (sym (every_each f n t i h) ∙ e))) (λ t. t)

-- ---- a loop that tests f at 0, 1, .. below n, and has come to i

abbrev pub Passed : (ℕ → Bool) → ℕ → ℕ → Type 0
Passed f n i = (i ≤ n) × ((j : ℕ) → j < i → f j ≡ true)

pub passed_none : (f : ℕ → Bool) (n : ℕ) → Passed f n 0
passed_none f n = (omega arith, below_none (λ j. f j ≡ true))

module _ (f : ℕ → Bool) (n i : ℕ) where
  pub passed_more : Passed f n i → i < n → f i ≡ true → Passed f n (i + 1)
  passed_more p h e = (omega arith, below_more (λ j. f j ≡ true) i p.1 e)

  pub passed_not : i < n → f i ≡ false → false ≡ every f (up_to n)
  passed_not h e = sym (every_not f n i h e)

  pub passed_all : Passed f n i → n ≤ i → true ≡ every f (up_to n)
  passed_all p h = sym (each_every f n (λ j k. p.1 j (omega arith)))
