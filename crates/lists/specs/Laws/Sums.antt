-- Laws of sums, and so of `count_of` and `times`, which are sums of bits.
-- Assumes nothing.
use Rattle.std.specs.Prelude.{◌≡◌, refl, Bool, true, false, ◌||◌, List, [], ◌∷◌, ◌++◌, map, ℕ, zero, suc, ◌+◌, ◌*◌, ◌≤◌, ◌<◌, length, get_or, set, take, drop, replicate}
use Rattle.std.proofs.Common.{sym, ap, ap₂, ◌∙◌, le_of_suc-le-suc, not-suc-le-zero, mul-suc, arith}
use Rattle.lists.specs.Lists.{bit, pick, any_of, keep, sum_of, sum_of₂, count_of, All, All₂, joined}

module _ {A : Type 0} where
  -- one element replaced: the new one comes in, the old one goes out
  pub sum_set : (f : A → ℕ) (l : List A) (i : ℕ) (y d : A) → i < length l → sum_of f (set l i y) + f (get_or l i d) ≡ sum_of f l + f y
  sum_set f [] i y d h = absurd (not-suc-le-zero h)
  sum_set f (x ∷ xs) zero y d h = omega arith
  sum_set f (x ∷ xs) (suc i) y d h = omega (arith, sum_set f xs i y d (le_of_suc-le-suc h))

  pub sum_append : (f : A → ℕ) (l r : List A) → sum_of f (l ++ r) ≡ sum_of f l + sum_of f r
  sum_append f [] r = omega arith
  sum_append f (x ∷ xs) r = omega (arith, sum_append f xs r)

  pub sum_split : (f : A → ℕ) (n : ℕ) (l : List A) → sum_of f l ≡ sum_of f (take n l) + sum_of f (drop n l)
  sum_split f zero l = omega arith
  sum_split f (suc n) [] = refl
  sum_split f (suc n) (x ∷ xs) = omega (arith, sum_split f n xs)

  pub sum_plus : (f g : A → ℕ) (l : List A) → sum_of (λ x. f x + g x) l ≡ sum_of f l + sum_of g l
  sum_plus f g [] = refl
  sum_plus f g (x ∷ xs) = omega (arith, sum_plus f g xs)

  pub sum_zero : (f : A → ℕ) (l : List A) → sum_of f l ≡ 0 → All (λ x. f x ≡ 0) l
  sum_zero f [] e = tt
  sum_zero f (x ∷ xs) e = (omega arith, sum_zero f xs (omega arith))

  -- nothing of each element comes to nothing
  pub sum_nothing : (f : A → ℕ) → ((x : A) → f x ≡ 0) → (l : List A) → sum_of f l ≡ 0
  sum_nothing f h [] = refl
  sum_nothing f h (x ∷ xs) = omega (arith, h x, sum_nothing f h xs)

  -- functions that agree on the list's elements
  pub sum_same : (f g : A → ℕ) (l : List A) → All (λ x. f x ≡ g x) l → sum_of f l ≡ sum_of g l
  sum_same f g [] h = refl
  sum_same f g (x ∷ xs) h = ap₂ ◌+◌ h.0 (sum_same f g xs h.1)

  -- no element adds more
  pub sum_le : (f g : A → ℕ) → ((x : A) → f x ≤ g x) → (l : List A) → sum_of f l ≤ sum_of g l
  sum_le f g h [] = omega arith
  sum_le f g h (x ∷ xs) = omega (arith, h x, sum_le f g h xs)

  -- each element adds n at most
  pub sum_most : (f : A → ℕ) (n : ℕ) (l : List A) → All (λ x. f x ≤ n) l → sum_of f l ≤ n * length l
  sum_most f n [] h = omega arith
  sum_most f n (x ∷ xs) h = rw (mul-suc n (length xs)) (omega (arith, h.0, sum_most f n xs h.1))

  -- a test that does not look at the elements
  pub sum_pick : (b : Bool) (f : A → ℕ) (l : List A) → sum_of (λ x. pick b (f x) 0) l ≡ pick b (sum_of f l) 0
  sum_pick true f l = refl
  sum_pick false f [] = refl
  sum_pick false f (x ∷ xs) = omega (arith, sum_pick false f xs)

  pub sum_ones : (l : List A) → sum_of (λ x. 1) l ≡ length l
  sum_ones [] = refl
  sum_ones (x ∷ xs) = omega (arith, sum_ones xs)

  -- only those kept are added up
  pub sum_keep : (f : A → ℕ) (g : A → Bool) (l : List A) → sum_of f (keep g l) ≡ sum_of (λ x. pick (g x) (f x) 0) l
  sum_keep f g [] = refl
  sum_keep f g (x ∷ xs) = go (g x) (sum_keep f g xs)
    where
      go : (b : Bool) → sum_of f (keep g xs) ≡ sum_of (λ x. pick (g x) (f x) 0) xs → sum_of f (pick b (x ∷ keep g xs) (keep g xs)) ≡ pick b (f x) 0 + sum_of (λ x. pick (g x) (f x) 0) xs
      go true e = ap (λ n. f x + n) e
      go false e = omega arith

  pub length_keep : (f : A → Bool) (l : List A) → length (keep f l) ≡ count_of f l
  length_keep f [] = refl
  length_keep f (x ∷ xs) = go (f x) (length_keep f xs)
    where
      go : (b : Bool) → length (keep f xs) ≡ count_of f xs → length (pick b (x ∷ keep f xs) (keep f xs)) ≡ bit b + count_of f xs
      go true e = omega arith
      go false e = omega arith

  pub count_most : (f : A → Bool) (l : List A) → count_of f l ≤ length l
  count_most f [] = omega arith
  count_most f (x ∷ xs) = go (f x) (count_most f xs)
    where
      go : (b : Bool) → count_of f xs ≤ length xs → bit b + count_of f xs ≤ suc (length xs)
      go true h = omega arith
      go false h = omega arith

module _ {A B : Type 0} where
  pub sum_map : (f : B → ℕ) (g : A → B) (l : List A) → sum_of f (map g l) ≡ sum_of (λ x. f (g x)) l
  sum_map f g [] = refl
  sum_map f g (x ∷ xs) = ap (λ n. f (g x) + n) (sum_map f g xs)

  pub sum_joined : (f : B → ℕ) (g : A → List B) (l : List A) → sum_of f (joined g l) ≡ sum_of (λ x. sum_of f (g x)) l
  sum_joined f g [] = refl
  sum_joined f g (x ∷ xs) = omega (arith, sum_append f (g x) (joined g xs), sum_joined f g xs)

  -- a sum of sums, in either order
  pub sum_swap : (f : A → B → ℕ) (xs : List A) (ys : List B) → sum_of (λ x. sum_of (f x) ys) xs ≡ sum_of (λ y. sum_of (λ x. f x y) xs) ys
  sum_swap f [] ys = sym (sum_pick false (λ y. 0) ys)
  sum_swap f (x ∷ xs) ys = ap (λ n. sum_of (f x) ys + n) (sum_swap f xs ys) ∙ sym (sum_plus (f x) (λ y. sum_of (λ x. f x y) xs) ys)

  -- what passes some test is added up under one test at least
  pub sum_any : (t : B → A → Bool) (f : A → ℕ) (l : List A) (ys : List B) → sum_of (λ x. pick (any_of (λ y. t y x) ys) (f x) 0) l ≤ sum_of (λ y. sum_of (λ x. pick (t y x) (f x) 0) l) ys
  sum_any t f l [] = omega (arith, sum_pick false f l)
  sum_any t f l (y ∷ ys) = omega (arith, sum_any t f l ys, sum_plus (one y) (some ys) l, sum_le _ (λ x. one y x + some ys x) (λ x. go (t y x) (any_of (λ y. t y x) ys) (f x)) l)
    where
      one : B → A → ℕ
      one y x = pick (t y x) (f x) 0

      some : List B → A → ℕ
      some ys x = pick (any_of (λ y. t y x) ys) (f x) 0

      go : (a b : Bool) (n : ℕ) → pick (a || b) n 0 ≤ pick a n 0 + pick b n 0
      go true b n = omega arith
      go false b n = omega arith

  pub sum₂_zero : (f : A → B → ℕ) (xs : List A) (ys : List B) → sum_of₂ f xs ys ≡ 0 → All₂ (λ x y. f x y ≡ 0) xs ys
  sum₂_zero f [] ys e = tt
  sum₂_zero f (x ∷ xs) [] e = tt
  sum₂_zero f (x ∷ xs) (y ∷ ys) e = (omega arith, sum₂_zero f xs ys (omega arith))

  pub sum₂_most : (f : A → B → ℕ) → ((x : A) (y : B) → f x y ≤ 1) → (xs : List A) (ys : List B) → sum_of₂ f xs ys ≤ length ys
  sum₂_most f h [] ys = omega arith
  sum₂_most f h (x ∷ xs) [] = omega arith
  sum₂_most f h (x ∷ xs) (y ∷ ys) = omega (arith, h x y, sum₂_most f h xs ys)

  pub sum₂_set : (f : A → B → ℕ) (xs : List A) (ys : List B) (i : ℕ) (y : B) (d : A) (e : B) → i < length xs → i < length ys
      → sum_of₂ f xs (set ys i y) + f (get_or xs i d) (get_or ys i e) ≡ sum_of₂ f xs ys + f (get_or xs i d) y
  sum₂_set f [] ys i y d e h k = absurd (not-suc-le-zero h)
  sum₂_set f (x ∷ xs) [] i y d e h k = absurd (not-suc-le-zero k)
  sum₂_set f (x ∷ xs) (z ∷ ys) zero y d e h k = omega arith
  sum₂_set f (x ∷ xs) (z ∷ ys) (suc i) y d e h k = omega (arith, sum₂_set f xs ys i y d e (le_of_suc-le-suc h) (le_of_suc-le-suc k))

  pub sum₂_same : (f g : A → B → ℕ) (xs : List A) (ys : List B) → All₂ (λ x y. f x y ≡ g x y) xs ys → sum_of₂ f xs ys ≡ sum_of₂ g xs ys
  sum₂_same f g [] ys h = refl
  sum₂_same f g (x ∷ xs) [] h = refl
  sum₂_same f g (x ∷ xs) (y ∷ ys) h = ap₂ ◌+◌ h.0 (sum₂_same f g xs ys h.1)

  pub sum₂_nothing : (f : A → B → ℕ) → ((x : A) (y : B) → f x y ≡ 0) → (xs : List A) (ys : List B) → sum_of₂ f xs ys ≡ 0
  sum₂_nothing f h [] ys = refl
  sum₂_nothing f h (x ∷ xs) [] = refl
  sum₂_nothing f h (x ∷ xs) (y ∷ ys) = omega (arith, h x y, sum₂_nothing f h xs ys)

  pub sum₂_none : (f : A → B → ℕ) (xs : List A) (n : ℕ) (y : B) → ((x : A) → f x y ≡ 0) → sum_of₂ f xs (replicate n y) ≡ 0
  sum₂_none f [] n y h = refl
  sum₂_none f (x ∷ xs) zero y h = refl
  sum₂_none f (x ∷ xs) (suc n) y h = omega (arith, h x, sum₂_none f xs n y h)
