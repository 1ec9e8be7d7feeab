-- Laws of `any_of`, `every`, `find_or` and `keep`, and so of `among`, which is an `any_of`.
-- Assumes nothing.
use Rattle.std.specs.Prelude.{◌≡◌, refl, Bool, true, false, ◌&&◌, ◌||◌, not, List, [], ◌∷◌, ◌++◌, map, ℕ, zero, suc, ◌+◌, ◌<◌, eqb, ltb, length, get_or}
use Rattle.std.proofs.Common.{sym, ap, ap₂, ◌∙◌, true≢false, append_assoc, le_of_suc-le-suc, not-suc-le-zero, arith, eqb-true, ne_eqb, ltb-true, ltb-false, lt-ltb}
use Rattle.std.proofs.Math.Path.{fun_ext}
use Rattle.std.proofs.Math.Bool.{and_assoc}
use Rattle.std.proofs.lemmas.Bool.{false≢true}
use Rattle.lists.specs.Lists.{bit, pick, any_of, every, keep, find_or, sum_of, count_of, times, All, joined}
use Rattle.lists.specs.Laws.Tests.{neither, both, by_test, bit_zero, pick_same}
use Rattle.lists.specs.Laws.All.{all_map, all_in}
use Rattle.lists.specs.Laws.Sums.{sum_keep, sum_pick, sum_swap, sum_zero}

module _ {A : Type 0} where
  pub any_append : (f : A → Bool) (l r : List A) → any_of f (l ++ r) ≡ (any_of f l || any_of f r)
  any_append f [] r = refl
  any_append f (x ∷ xs) r = go (f x) (any_append f xs r)
    where
      go : (b : Bool) → any_of f (xs ++ r) ≡ (any_of f xs || any_of f r) → (b || any_of f (xs ++ r)) ≡ (b || any_of f xs || any_of f r)
      go true e = refl
      go false e = e

  pub find_append : (f : A → Bool) (d : A) (l r : List A) → find_or f d (l ++ r) ≡ pick (any_of f l) (find_or f d l) (find_or f d r)
  find_append f d [] r = refl
  find_append f d (x ∷ xs) r = go (f x) (find_append f d xs r)
    where
      go : (b : Bool) → find_or f d (xs ++ r) ≡ pick (any_of f xs) (find_or f d xs) (find_or f d r) → pick b x (find_or f d (xs ++ r)) ≡ pick (b || any_of f xs) (pick b x (find_or f d xs)) (find_or f d r)
      go true e = refl
      go false e = e

  -- what is found passes
  pub find_passes : (f : A → Bool) (d : A) (l : List A) → any_of f l ≡ true → f (find_or f d l) ≡ true
  find_passes f d [] e = absurd (false≢true e)
  find_passes f d (x ∷ xs) e = go (f x) refl e (find_passes f d xs)
    where
      go : (b : Bool) → f x ≡ b → (b || any_of f xs) ≡ true → (any_of f xs ≡ true → f (find_or f d xs) ≡ true) → f (pick b x (find_or f d xs)) ≡ true
      go true q e h = q
      go false q e h = h e

  pub all_find : (P : A → Type 0) (f : A → Bool) (d : A) (l : List A) → All P l → P d → P (find_or f d l)
  all_find P f d [] h p = p
  all_find P f d (x ∷ xs) h p = go (f x) (all_find P f d xs h.1 p)
    where
      go : (b : Bool) → P (find_or f d xs) → P (pick b x (find_or f d xs))
      go true q = h.0
      go false q = q

  pub all_found : (P : A → Type 0) (f : A → Bool) (d : A) (l : List A) → All P l → any_of f l ≡ true → P (find_or f d l)
  all_found P f d [] h e = absurd (false≢true e)
  all_found P f d (x ∷ xs) h e = go (f x) e (all_found P f d xs h.1)
    where
      go : (b : Bool) → (b || any_of f xs) ≡ true → (any_of f xs ≡ true → P (find_or f d xs)) → P (pick b x (find_or f d xs))
      go true e k = h.0
      go false e k = k e

  -- an element that passes f is kept
  pub any_keep : (f g : A → Bool) → ((x : A) → f x ≡ true → g x ≡ true) → (l : List A) → any_of f (keep g l) ≡ any_of f l
  any_keep f g k [] = refl
  any_keep f g k (x ∷ xs) = go (g x) refl (f x) refl (any_keep f g k xs)
    where
      go : (b : Bool) → g x ≡ b → (c : Bool) → f x ≡ c → any_of f (keep g xs) ≡ any_of f xs → any_of f (pick b (x ∷ keep g xs) (keep g xs)) ≡ (c || any_of f xs)
      go true p c q e = rw (q, e)
      go false p true q e = absurd (false≢true (sym p ∙ k x q))
      go false p false q e = e

  pub find_keep : (f g : A → Bool) (d : A) → ((x : A) → f x ≡ true → g x ≡ true) → (l : List A) → find_or f d (keep g l) ≡ find_or f d l
  find_keep f g d k [] = refl
  find_keep f g d k (x ∷ xs) = go (g x) refl (f x) refl (find_keep f g d k xs)
    where
      go : (b : Bool) → g x ≡ b → (c : Bool) → f x ≡ c → find_or f d (keep g xs) ≡ find_or f d xs → find_or f d (pick b (x ∷ keep g xs) (keep g xs)) ≡ pick c x (find_or f d xs)
      go true p c q e = rw (q, e)
      go false p true q e = absurd (false≢true (sym p ∙ k x q))
      go false p false q e = e

  -- nothing that is thrown out is found
  pub any_thrown : (f g : A → Bool) → ((x : A) → f x ≡ true → g x ≡ false) → (l : List A) → any_of f (keep g l) ≡ false
  any_thrown f g k [] = refl
  any_thrown f g k (x ∷ xs) = go (g x) refl (f x) refl (any_thrown f g k xs)
    where
      go : (b : Bool) → g x ≡ b → (c : Bool) → f x ≡ c → any_of f (keep g xs) ≡ false → any_of f (pick b (x ∷ keep g xs) (keep g xs)) ≡ false
      go true p true q e = absurd (true≢false (sym p ∙ k x q))
      go true p false q e = rw (q, e)
      go false p c q e = e

  -- what holds of all holds of those kept, which passed
  pub all_keep : (P : A → Type 0) (g : A → Bool) (l : List A) → All P l → All (λ x. P x × (g x ≡ true)) (keep g l)
  all_keep P g [] h = tt
  all_keep P g (x ∷ xs) h = go (g x) refl (all_keep P g xs h.1)
    where
      go : (b : Bool) → g x ≡ b → All (λ x. P x × (g x ≡ true)) (keep g xs) → All (λ x. P x × (g x ≡ true)) (pick b (x ∷ keep g xs) (keep g xs))
      go true q t = ((h.0, q), t)
      go false q t = t

  pub every_append : (f : A → Bool) (l r : List A) → every f (l ++ r) ≡ (every f l && every f r)
  every_append f [] r = refl
  every_append f (x ∷ xs) r = rw (every_append f xs r) (sym (and_assoc (f x) (every f xs) (every f r)))

  pub keep_append : (f : A → Bool) (l r : List A) → keep f (l ++ r) ≡ keep f l ++ keep f r
  keep_append f [] r = refl
  keep_append f (x ∷ xs) r = go (f x) (keep_append f xs r)
    where
      go : (b : Bool) → keep f (xs ++ r) ≡ keep f xs ++ keep f r → pick b (x ∷ keep f (xs ++ r)) (keep f (xs ++ r)) ≡ pick b (x ∷ keep f xs) (keep f xs) ++ keep f r
      go true e = ap (λ l. x ∷ l) e
      go false e = e

  -- the tests over a list and what they say of its elements
  pub any_false : (f : A → Bool) (l : List A) → any_of f l ≡ false → All (λ x. f x ≡ false) l
  any_false f [] e = tt
  any_false f (x ∷ xs) e = let q = neither (f x) (any_of f xs) e in (q.0, any_false f xs q.1)

  pub false_any : (f : A → Bool) (l : List A) → All (λ x. f x ≡ false) l → any_of f l ≡ false
  false_any f [] h = refl
  false_any f (x ∷ xs) h = rw (h.0, false_any f xs h.1)

  pub every_true : (f : A → Bool) (l : List A) → every f l ≡ true → All (λ x. f x ≡ true) l
  every_true f [] e = tt
  every_true f (x ∷ xs) e = let q = both (f x) (every f xs) e in (q.0, every_true f xs q.1)

  pub true_every : (f : A → Bool) (l : List A) → All (λ x. f x ≡ true) l → every f l ≡ true
  true_every f [] h = refl
  true_every f (x ∷ xs) h = rw (h.0, true_every f xs h.1)

  -- none passes of fewer
  pub any_fewer : (f g : A → Bool) (l : List A) → any_of f l ≡ false → any_of f (keep g l) ≡ false
  any_fewer f g l e = false_any f (keep g l) (all_map (λ x h. h.0) (keep g l) (all_keep (λ x. f x ≡ false) g l (any_false f l e)))

  -- tests that agree on the list's elements
  pub every_same : (f g : A → Bool) (l : List A) → All (λ x. f x ≡ g x) l → every f l ≡ every g l
  every_same f g [] h = refl
  every_same f g (x ∷ xs) h = ap₂ ◌&&◌ h.0 (every_same f g xs h.1)

  pub any_same : (f g : A → Bool) (l : List A) → All (λ x. f x ≡ g x) l → any_of f l ≡ any_of g l
  any_same f g [] h = refl
  any_same f g (x ∷ xs) h = ap₂ ◌||◌ h.0 (any_same f g xs h.1)

  -- one of two tests
  pub any_either : (f g : A → Bool) (l : List A) → any_of (λ x. f x || g x) l ≡ (any_of f l || any_of g l)
  any_either f g [] = refl
  any_either f g (x ∷ xs) = rw (any_either f g xs) (go (f x) (g x) (any_of f xs))
    where
      go : (a b c : Bool) → ((a || b) || (c || any_of g xs)) ≡ ((a || c) || (b || any_of g xs))
      go true b c = refl
      go false true true = refl
      go false true false = refl
      go false false c = refl

  -- all are 0 exactly where their sum is; so all pass exactly where none fails
  pub every_zero : (f : A → ℕ) (l : List A) → every (λ x. eqb (f x) 0) l ≡ eqb (sum_of f l) 0
  every_zero f [] = refl
  every_zero f (x ∷ xs) = rw (every_zero f xs) (go (f x) (sum_of f xs))
    where
      go : (a b : ℕ) → (eqb a 0 && eqb b 0) ≡ eqb (a + b) 0
      go zero b = let e : b ≡ 0 + b = omega arith in ap (λ n. eqb n 0) e
      go (suc a) b = rw (ne_eqb (suc a) 0 (λ e. omega arith), ne_eqb (suc a + b) 0 (λ e. omega arith))

  pub every_count : (f : A → Bool) (l : List A) → every f l ≡ eqb (count_of (λ x. not (f x)) l) 0
  every_count f l = ap (λ g. every g l) (fun_ext (λ x. go (f x))) ∙ every_zero (λ x. bit (not (f x))) l
    where
      go : (b : Bool) → b ≡ eqb (bit (not b)) 0
      go true = refl
      go false = refl

  -- an element that passes
  pub any_in : (f : A → Bool) (l : List A) (i : ℕ) (d : A) → i < length l → f (get_or l i d) ≡ true → any_of f l ≡ true
  any_in f l i d h e = by_test (any_of f l) (λ t. t) (λ t. absurd (true≢false (sym e ∙ all_in (λ x. f x ≡ false) l i d (any_false f l t) h)))

  pub find_none : (f : A → Bool) (d : A) (l : List A) → any_of f l ≡ false → find_or f d l ≡ d
  find_none f d [] e = refl
  find_none f d (x ∷ xs) e = let q = neither (f x) (any_of f xs) e in rw (q.0, find_none f d xs q.1)

  -- two tests that agree find the same
  pub find_same : (f g : A → Bool) (d : A) (l : List A) → All (λ x. f x ≡ g x) l → find_or f d l ≡ find_or g d l
  find_same f g d [] h = refl
  find_same f g d (x ∷ xs) h = rw (h.0, find_same f g d xs h.1)

  -- some element has a value that is not 0 where their sum is not 0
  pub any_sum : (f : A → ℕ) (l : List A) → any_of (λ x. ltb 0 (f x)) l ≡ ltb 0 (sum_of f l)
  any_sum f [] = refl
  any_sum f (x ∷ xs) = rw (any_sum f xs) (by_test (ltb 0 (f x))
      (λ e. rw e (sym (lt-ltb 0 (f x + sum_of f xs) (omega (arith, ltb-true 0 (f x) e)))))
      (λ e. let z : f x + sum_of f xs ≡ sum_of f xs = omega (arith, ltb-false 0 (f x) e) in rw (z, e)))

  -- some element passes where their number is not 0
  pub any_count : (f : A → Bool) (l : List A) → any_of f l ≡ ltb 0 (count_of f l)
  any_count f l = ap (λ g. any_of g l) (fun_ext (λ x. go (f x))) ∙ any_sum (λ x. bit (f x)) l
    where
      go : (b : Bool) → b ≡ ltb 0 (bit b)
      go true = refl
      go false = refl

  -- none passes
  pub sum_none : (t : A → Bool) (f : A → ℕ) (l : List A) → All (λ x. t x ≡ false) l → sum_of (λ x. pick (t x) (f x) 0) l ≡ 0
  sum_none t f [] h = refl
  sum_none t f (x ∷ xs) h = rw h.0 (omega (arith, sum_none t f xs h.1))

  -- one passes: it is the one found
  pub sum_one : (t : A → Bool) (f : A → ℕ) (d : A) (l : List A) → count_of t l ≡ 1 → sum_of (λ x. pick (t x) (f x) 0) l ≡ f (find_or t d l)
  sum_one t f d [] e = absurd (omega arith)
  sum_one t f d (x ∷ xs) e = go (t x) e (sum_one t f d xs)
    where
      go : (b : Bool) → bit b + count_of t xs ≡ 1 → (count_of t xs ≡ 1 → sum_of (λ x. pick (t x) (f x) 0) xs ≡ f (find_or t d xs))
          → pick b (f x) 0 + sum_of (λ x. pick (t x) (f x) 0) xs ≡ f (pick b x (find_or t d xs))
      go true e h = omega (arith, sum_none t f xs (all_map (λ x z. bit_zero (t x) z) xs (sum_zero (λ x. bit (t x)) xs (omega arith))))
      go false e h = omega (arith, h (omega arith))

module _ {A B : Type 0} where
  pub any_map : (f : B → Bool) (g : A → B) (l : List A) → any_of f (map g l) ≡ any_of (λ x. f (g x)) l
  any_map f g [] = refl
  any_map f g (x ∷ xs) = ap (λ b. f (g x) || b) (any_map f g xs)

  pub any_swap : (f : A → B → Bool) (xs : List A) (ys : List B) → any_of (λ x. any_of (f x) ys) xs ≡ any_of (λ y. any_of (λ x. f x y) xs) ys
  any_swap f xs ys =
      ap (λ g. any_of g xs) (fun_ext (λ x. any_count (f x) ys)) ∙ any_sum (λ x. count_of (f x) ys) xs
      ∙ ap (ltb 0) (sum_swap (λ x y. bit (f x y)) xs ys)
      ∙ sym (ap (λ g. any_of g ys) (fun_ext (λ y. any_count (λ x. f x y) xs)) ∙ any_sum (λ y. count_of (λ x. f x y) xs) ys)

  pub any_joined : (f : B → Bool) (g : A → List B) (l : List A) → any_of f (joined g l) ≡ any_of (λ x. any_of f (g x)) l
  any_joined f g [] = refl
  any_joined f g (x ∷ xs) = any_append f (g x) (joined g xs) ∙ ap (λ b. any_of f (g x) || b) (any_joined f g xs)

  pub joined_append : (g : A → List B) (l r : List A) → joined g (l ++ r) ≡ joined g l ++ joined g r
  joined_append g [] r = refl
  joined_append g (x ∷ xs) r = rw (joined_append g xs r) (sym (append_assoc (g x) (joined g xs) (joined g r)))

  -- any default will do where the place is in the list
  pub get_d_map_in : (g : A → B) (l : List A) (i : ℕ) (d : B) (e : A) → i < length l → get_or (map g l) i d ≡ g (get_or l i e)
  get_d_map_in g [] i d e h = absurd (not-suc-le-zero h)
  get_d_map_in g (x ∷ xs) zero d e h = refl
  get_d_map_in g (x ∷ xs) (suc i) d e h = get_d_map_in g xs i d e (le_of_suc-le-suc h)

-- a number is kept if it passes
pub times_keep : (n : ℕ) (f : ℕ → Bool) (l : List ℕ) → times n (keep f l) ≡ pick (f n) (times n l) 0
times_keep n f l = sum_keep (λ x. bit (eqb x n)) f l ∙ ap (λ g. sum_of g l) (fun_ext (λ x. go x (eqb x n) refl)) ∙ sum_pick (f n) (λ x. bit (eqb x n)) l
  where
    go : (x : ℕ) (b : Bool) → eqb x n ≡ b → pick (f x) (bit (eqb x n)) 0 ≡ pick (f n) (bit (eqb x n)) 0
    go x true e = rw (eqb-true x n e)
    go x false e = rw (e, pick_same {A = ℕ} (f x) 0, pick_same {A = ℕ} (f n) 0)
