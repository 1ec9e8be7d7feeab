-- Laws of lists that are mapped, kept and joined one after the other, and of sums over them.
-- Assumes nothing.
use Rattle.std.specs.Prelude.{◌≡◌, refl, ◌≢◌, Bool, true, false, ◌&&◌, ◌||◌, List, [], ◌∷◌, ◌++◌, map, ℕ, zero, suc, ◌+◌, ◌≤◌, ◌<◌, min, eqb, leb, length, get_or}
use Rattle.std.proofs.Common.{sym, ap, ap₂, ◌∙◌, subst, arith, leb-true, leb-false, ltb-false, eqb-true, eq-eqb, ne_eqb}
use Rattle.std.proofs.Math.Path.{fun_ext}
use Rattle.std.proofs.Math.Bool.{or-false}
use Rattle.std.proofs.lemmas.Bool.{false≢true, eqb-false}
use Rattle.std.proofs.lemmas.List.{map-append}
use Rattle.lists.specs.Lists.{bit, pick, any_of, keep, find_or, sum_of, All, All₂, joined, from, up_to, times, among, repeats}
use Rattle.lists.specs.Laws.Tests.{by_test, neither, or_right, eqb_sym}
use Rattle.lists.specs.Laws.All.{all_map, all_in, all_append, all_change}
use Rattle.lists.specs.Laws.Finds.{all_keep, any_count, any_false}
use Rattle.lists.specs.Laws.Sums.{sum_pick, sum_map, sum_same, sum_swap, length_keep, count_most}
use Rattle.lists.specs.Laws.UpTo.{all_up_to, up_to_all, any_one, none_any, length_up_to, sum_suc, sum_change}

module _ {A B : Type 0} where
  pub map_same : (f g : A → B) (l : List A) → All (λ x. f x ≡ g x) l → map f l ≡ map g l
  map_same f g [] h = refl
  map_same f g (x ∷ xs) h = ap₂ ◌∷◌ h.0 (map_same f g xs h.1)

  pub joined_same : (f g : A → List B) (l : List A) → All (λ x. f x ≡ g x) l → joined f l ≡ joined g l
  joined_same f g [] h = refl
  joined_same f g (x ∷ xs) h = ap₂ ◌++◌ h.0 (joined_same f g xs h.1)

  pub all_joined : (P : B → Type 0) (f : A → List B) (l : List A) → All (λ x. All P (f x)) l → All P (joined f l)
  all_joined P f [] h = tt
  all_joined P f (x ∷ xs) h = all_append P (f x) (joined f xs) h.0 (all_joined P f xs h.1)

  pub map_all : (P : B → Type 0) (f : A → B) (l : List A) → All P (map f l) → All (λ x. P (f x)) l
  map_all P f [] h = tt
  map_all P f (x ∷ xs) h = (h.0, map_all P f xs h.1)

  pub find_map : (f : B → Bool) (g : A → B) (d : A) (l : List A) → find_or f (g d) (map g l) ≡ g (find_or (λ x. f (g x)) d l)
  find_map f g d [] = refl
  find_map f g d (x ∷ xs) = go (f (g x)) (find_map f g d xs)
    where
      go : (b : Bool) → find_or f (g d) (map g xs) ≡ g (find_or (λ x. f (g x)) d xs) → pick b (g x) (find_or f (g d) (map g xs)) ≡ g (pick b x (find_or (λ x. f (g x)) d xs))
      go true e = refl
      go false e = e

  pub all₂_each : (P : A → B → Type 0) (xs : List A) (ys : List B) (d : A) (e : B) → ((i : ℕ) → i < length xs → i < length ys → P (get_or xs i d) (get_or ys i e)) → All₂ P xs ys
  all₂_each P [] ys d e h = tt
  all₂_each P (x ∷ xs) [] d e h = tt
  all₂_each P (x ∷ xs) (y ∷ ys) d e h = (h 0 (omega arith) (omega arith), all₂_each P xs ys d e (λ i k l. h (suc i) (omega arith) (omega arith)))

  -- what is found among changed elements is the change of what is found; any default will do where one passes
  pub find_changed : (f : B → Bool) (g : A → B) (d : B) (e : A) (l : List A) → any_of (λ x. f (g x)) l ≡ true → find_or f d (map g l) ≡ g (find_or (λ x. f (g x)) e l)
  find_changed f g d e [] h = absurd (false≢true h)
  find_changed f g d e (x ∷ xs) h = go (f (g x)) h (find_changed f g d e xs)
    where
      go : (b : Bool) → (b || any_of (λ x. f (g x)) xs) ≡ true → (any_of (λ x. f (g x)) xs ≡ true → find_or f d (map g xs) ≡ g (find_or (λ x. f (g x)) e xs))
          → pick b (g x) (find_or f d (map g xs)) ≡ g (pick b x (find_or (λ x. f (g x)) e xs))
      go true h ih = refl
      go false h ih = ih h

module _ {A B : Type 0} where
  pub all₂_each_of : (C : ℕ → Type 0) (P : ℕ → A → B → Type 0) (xs : List A) (ys : List B) → ((q : ℕ) → C q → All₂ (P q) xs ys) → All₂ (λ x y. (q : ℕ) → C q → P q x y) xs ys
  all₂_each_of C P [] ys h = tt
  all₂_each_of C P (x ∷ xs) [] h = tt
  all₂_each_of C P (x ∷ xs) (y ∷ ys) h = ((λ q c. (h q c).0), all₂_each_of C P xs ys (λ q c. (h q c).1))

module _ {A B C : Type 0} where
  pub map_joined : (f : B → C) (g : A → List B) (l : List A) → map f (joined g l) ≡ joined (λ x. map f (g x)) l
  map_joined f g [] = refl
  map_joined f g (x ∷ xs) = map-append f (g x) (joined g xs) ∙ ap (λ r. map f (g x) ++ r) (map_joined f g xs)

  pub joined_kept : (f : B → List C) (g : B → Bool) (h : A → B) (l : List A) → joined f (keep g (map h l)) ≡ joined (λ x. pick (g (h x)) (f (h x)) []) l
  joined_kept f g h [] = refl
  joined_kept f g h (x ∷ xs) = go (g (h x)) (joined_kept f g h xs)
    where
      go : (b : Bool) → joined f (keep g (map h xs)) ≡ joined (λ x. pick (g (h x)) (f (h x)) []) xs
          → joined f (pick b (h x ∷ keep g (map h xs)) (keep g (map h xs))) ≡ pick b (f (h x)) [] ++ joined (λ x. pick (g (h x)) (f (h x)) []) xs
      go true e = ap (λ r. f (h x) ++ r) e
      go false e = e

pub sum_later : (f : ℕ → ℕ) (k n : ℕ) → sum_of f (from (suc k) n) ≡ sum_of (λ i. f (suc i)) (from k n)
sum_later f k zero = refl
sum_later f k (suc n) = ap (λ x. f (suc k) + x) (sum_later f (suc k) n)

-- each number of a list stands in it
pub among_self : (l : List ℕ) → All (λ n. among n l ≡ true) l
among_self [] = tt
among_self (x ∷ xs) = (rw (eq-eqb x x refl), all_map (λ n e. or_right (eqb x n) (among n xs) e) xs (among_self xs))

-- a list of one, read from either side
pub among_one : (n t : ℕ) → among n (t ∷ []) ≡ eqb t n
among_one n t = or-false (eqb t n)

pub among_alone : (n t : ℕ) → among n (t ∷ []) ≡ eqb n t
among_alone n t = among_one n t ∙ eqb_sym t n

-- what holds of each number of a list, by its members
pub among_all : (P : ℕ → Type 0) (l : List ℕ) → ((n : ℕ) → among n l ≡ true → P n) → All P l
among_all P l h = all_map h l (among_self l)

pub all_among : (P : ℕ → Type 0) (l : List ℕ) → All P l → (n : ℕ) → among n l ≡ true → P n
all_among P [] h n e = absurd (false≢true e)
all_among P (x ∷ xs) h n e = go (eqb x n) refl e (all_among P xs h.1 n)
  where
    go : (b : Bool) → eqb x n ≡ b → (b || among n xs) ≡ true → (among n xs ≡ true → P n) → P n
    go true q e ih = subst P (eqb-true x n q) h.0
    go false q e ih = ih e

-- a list in which no number stands twice
pub repeats_once : (l : List ℕ) → repeats l ≡ false → (q : ℕ) → times q l ≤ 1
repeats_once [] e q = omega arith
repeats_once (x ∷ xs) e q =
    let d = neither (among x xs) (repeats xs) e in
    by_test (eqb x q)
    (λ t.
    let none : times x xs ≤ 0 = omega (arith, ltb-false 0 (times x xs) (sym (any_count (λ y. eqb y x) xs) ∙ d.0)) in
    let h : times q xs ≤ 0 = subst (λ z. times z xs ≤ 0) (eqb-true x q t) none in
    rw t (omega arith))
    (λ t. rw t (omega (arith, repeats_once xs d.1 q)))

pub once_repeats : (l : List ℕ) → ((q : ℕ) → times q l ≤ 1) → repeats l ≡ false
once_repeats [] h = refl
once_repeats (x ∷ xs) h =
    let none : times x xs ≡ 0 = zero (eqb x x) (eq-eqb x x refl) (h x) in
    rw (any_count (λ y. eqb y x) xs, none) (once_repeats xs (λ q. less (eqb x q) (times q xs) (h q)))
  where
    zero : (b : Bool) → b ≡ true → bit b + times x xs ≤ 1 → times x xs ≡ 0
    zero true e k = omega arith
    zero false e k = absurd (false≢true e)

    less : (b : Bool) (n : ℕ) → bit b + n ≤ 1 → n ≤ 1
    less b n k = omega arith

-- f of each number of such a list, where `back` tells the number from it
pub map_once : (f back : ℕ → ℕ) (l : List ℕ) → All (λ n. back (f n) ≡ n) l → ((n : ℕ) → times n l ≤ 1) → (t : ℕ) → times t (map f l) ≤ 1
map_once f back l told once t = by_test (among t (map f l))
    (all_among (λ t. times t (map f l) ≤ 1) (map f l) (all_change (λ n. back (f n) ≡ n) (λ t. times t (map f l) ≤ 1) f own l told) t)
    (λ e. omega (arith, ltb-false 0 (times t (map f l)) (sym (any_count (λ x. eqb x t) (map f l)) ∙ e)))
  where
    apart : (m n : ℕ) → back (f m) ≡ m → back (f n) ≡ n → eqb (f m) (f n) ≡ eqb m n
    apart m n p q = by_test (eqb m n)
        (λ e. rw (eqb-true m n e, eq-eqb (f n) (f n) refl, eq-eqb n n refl))
        (λ e. rw e (ne_eqb (f m) (f n) (λ d. eqb-false m n e (sym p ∙ ap back d ∙ q))))

    own : (n : ℕ) → back (f n) ≡ n → times (f n) (map f l) ≤ 1
    own n p = rw (sum_map (λ t. bit (eqb t (f n))) f l ∙ sum_same _ (λ m. bit (eqb m n)) l (all_map (λ m q. ap bit (apart m n q p)) l told)) (once n)

module _ {A : Type 0} where
  -- what holds of all elements, for each number that passes, is what each element has for all of them
  pub all_each_of : (C : ℕ → Type 0) (P : ℕ → A → Type 0) (l : List A) → ((q : ℕ) → C q → All (P q) l) → All (λ x. (q : ℕ) → C q → P q x) l
  all_each_of C P [] h = tt
  all_each_of C P (x ∷ xs) h = ((λ q c. (h q c).0), all_each_of C P xs (λ q c. (h q c).1))

  pub all_each : (P : A → Type 0) → ((x : A) → P x) → (l : List A) → All P l
  all_each P h [] = tt
  all_each P h (x ∷ xs) = (h x, all_each P h xs)

  pub all_places : (P : A → Type 0) (l : List A) (d : A) → ((i : ℕ) → i < length l → P (get_or l i d)) → All P l
  all_places P [] d h = tt
  all_places P (x ∷ xs) d h = (h 0 (omega arith), all_places P xs d (λ i k. h (suc i) (omega arith)))

  -- an element that passes stands somewhere
  pub any_index : (f : A → Bool) (l : List A) (d : A) → any_of f l ≡ true → (i : ℕ) × (i < length l) × (f (get_or l i d) ≡ true)
  any_index f [] d e = absurd (false≢true e)
  any_index f (x ∷ xs) d e = go (f x) refl e (any_index f xs d)
    where
      go : (b : Bool) → f x ≡ b → (b || any_of f xs) ≡ true → (any_of f xs ≡ true → (i : ℕ) × (i < length xs) × (f (get_or xs i d) ≡ true)) → (i : ℕ) × (i < suc (length xs)) × (f (get_or (x ∷ xs) i d) ≡ true)
      go true q e ih = (0, omega arith, q)
      go false q e ih = let t = ih e in (suc t.0, omega (arith, t.1), t.2)

  keep_all : (P : A → Type 0) (g : A → Bool) (l : List A) → All P (keep g l) → All (λ x. g x ≡ true → P x) l
  keep_all P g [] h = tt
  keep_all P g (x ∷ xs) h = go (g x) refl h (keep_all P g xs)
    where
      go : (b : Bool) → g x ≡ b → All P (pick b (x ∷ keep g xs) (keep g xs)) → (All P (keep g xs) → All (λ x. g x ≡ true → P x) xs) → (g x ≡ true → P x) × All (λ x. g x ≡ true → P x) xs
      go true q h ih = (λ e. h.0, ih h.1)
      go false q h ih = (λ e. absurd (false≢true (sym q ∙ e)), ih h)

-- some number below n stands in the list and passes exactly where one of the list passes
pub any_members : (f : ℕ → Bool) (n : ℕ) (l : List ℕ) → All (λ i. i < n) l → any_of (λ i. among i l && f i) (up_to n) ≡ any_of f l
any_members f n l h = by_test (any_of f l)
    (λ e.
    let t = any_index f l 0 e in
    rw e (any_one (λ i. among i l && f i) n (get_or l t.0 0) (all_in (λ i. i < n) l t.0 0 h t.1) (rw (all_in (λ i. among i l ≡ true) l t.0 0 (among_self l) t.1) t.2)))
    (λ e. rw e (none_any (λ i. among i l && f i) n (λ i k. by_test (among i l) (λ t. rw (t, all_among (λ i. f i ≡ false) l (any_false f l e) i t)) (λ t. rw t))))

-- the numbers below n that pass
pub kept_most : (g : ℕ → Bool) (n : ℕ) → length (keep g (up_to n)) ≤ n
kept_most g n = omega (arith, length_keep g (up_to n), count_most g (up_to n), length_up_to n)

module _ (P : ℕ → Type 0) (g : ℕ → Bool) (n : ℕ) where
  pub kept_each : All P (keep g (up_to n)) → (i : ℕ) → i < n → g i ≡ true → P i
  kept_each h = up_to_all (λ i. g i ≡ true → P i) n (keep_all P g (up_to n) h)

  pub each_kept : ((i : ℕ) → i < n → g i ≡ true → P i) → All P (keep g (up_to n))
  each_kept h = all_map (λ i k. k.0 k.1) (keep g (up_to n)) (all_keep (λ i. g i ≡ true → P i) g (up_to n) (all_up_to (λ i. g i ≡ true → P i) n h))

-- ---- sums

-- only one number counts
pub sum_single : (f : ℕ → ℕ) (n k : ℕ) → k < n → ((i : ℕ) → i ≢ k → f i ≡ 0) → sum_of f (up_to n) ≡ f k
sum_single f n k h z = omega (arith, sum_change f (λ i. 0) n k h (λ i l d. z i d), sum_pick false (λ (i : ℕ). 0) (up_to n))

-- f of one number below n, and of two, is part of the sum
without : (ℕ → ℕ) → ℕ → ℕ → ℕ
without f k i = pick (eqb i k) 0 (f i)

sum_without : (f : ℕ → ℕ) (n k : ℕ) → k < n → sum_of f (up_to n) ≡ sum_of (without f k) (up_to n) + f k
unfolding without
sum_without f n k h =
    let e : without f k k ≡ 0 = rw (eq-eqb k k refl) in
    omega (arith, e, sum_change f (without f k) n k h (λ i l d. rw (ne_eqb i k d)))

pub sum_one : (f : ℕ → ℕ) (n i : ℕ) → i < n → f i ≤ sum_of f (up_to n)
sum_one f n i h = omega (arith, sum_without f n i h)

pub sum_two : (f : ℕ → ℕ) (n i k : ℕ) → i < n → k < n → i ≢ k → f i + f k ≤ sum_of f (up_to n)
unfolding without
sum_two f n i k h l d =
    let e : without f k i ≡ f i = rw (ne_eqb i k d) in
    omega (arith, e, sum_without f n k l, sum_one (without f k) n i h)

-- what counts for one member at most
sum_once : (x n : ℕ) (l : List ℕ) → times x l ≤ 1 → sum_of (λ t. pick (eqb x t) n 0) l ≡ pick (among x l) n 0
sum_once x n [] h = refl
sum_once x n (t ∷ ts) h = rw (eqb_sym x t) (go (eqb t x) h (sum_once x n ts))
  where
    go : (b : Bool) → bit b + times x ts ≤ 1 → (times x ts ≤ 1 → sum_of (λ t. pick (eqb x t) n 0) ts ≡ pick (among x ts) n 0)
        → pick b n 0 + sum_of (λ t. pick (eqb x t) n 0) ts ≡ pick (b || among x ts) n 0
    go true h ih = let e : times x ts ≡ 0 = omega arith in omega (arith, rw (any_count (λ t. eqb t x) ts, e) at (ih (omega arith)))
    go false h ih = omega (arith, ih (omega arith))

-- what is added up for each number of a list without repeats, over the elements that have it, is added up over the elements whose number is a member
pub sum_members : {A : Type 0} (number f : A → ℕ) (l : List A) (ts : List ℕ) → ((n : ℕ) → times n ts ≤ 1)
    → sum_of (λ t. sum_of (λ x. pick (eqb (number x) t) (f x) 0) l) ts ≡ sum_of (λ x. pick (among (number x) ts) (f x) 0) l
sum_members number f l ts d = sum_swap (λ t x. pick (eqb (number x) t) (f x) 0) ts l ∙ ap (λ g. sum_of g l) (fun_ext (λ x. sum_once (number x) (f x) ts (d (number x))))

-- the numbers below m, and those from m on
pub sum_above : (f : ℕ → ℕ) (m n : ℕ) → sum_of f (up_to n) ≡ sum_of f (up_to (min m n)) + sum_of (λ i. pick (leb m i) (f i) 0) (up_to n)
sum_above f m zero = let e : min m 0 ≡ 0 = omega arith in rw e
sum_above f m (suc n) = by_test (leb m n)
    (λ t. let e : min m (suc n) ≡ min m n = omega (arith, leb-true m n t) in rw (sum_suc f n, sum_suc (λ i. pick (leb m i) (f i) 0) n, t, e) (omega (arith, sum_above f m n)))
    (λ t.
    let e : min m (suc n) ≡ suc n = omega (arith, leb-false m n t) in
    let d : min m n ≡ n = omega (arith, leb-false m n t) in
    rw (e, sum_suc f n, sum_suc (λ i. pick (leb m i) (f i) 0) n, t) (omega (arith, rw d at (sum_above f m n))))

-- f is at most g below n, and at k there are c left over
sum_under : (f g : ℕ → ℕ) (n : ℕ) → ((i : ℕ) → i < n → f i ≤ g i) → sum_of f (up_to n) ≤ sum_of g (up_to n)
sum_under f g zero h = omega arith
sum_under f g (suc n) h = omega (arith, sum_suc f n, sum_suc g n, h n (omega arith), sum_under f g n (λ i l. h i (omega arith)))

pub sum_slack : (f g : ℕ → ℕ) (n k c : ℕ) → ((i : ℕ) → i < n → f i ≤ g i) → k < n → f k + c ≤ g k → sum_of f (up_to n) + c ≤ sum_of g (up_to n)
sum_slack f g n k c h l e =
    let more : ℕ → ℕ = λ i. pick (eqb i k) (f i + c) (f i) in
    let z : more k ≡ f k + c = rw (eq-eqb k k refl) in
    omega (arith, z, sum_change more f n k l (λ i a d. rw (ne_eqb i k d)), sum_under more g n (λ i a. by_test (eqb i k) (λ t. rw (t, eqb-true i k t) e) (λ t. rw t (h i a))))
