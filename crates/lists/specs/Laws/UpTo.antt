-- Laws of the numbers below n: with one number more, at `n + 1` as code has it and at `suc n`, and by what holds of each of them.
-- Assumes nothing.
use Rattle.std.specs.Prelude.{◌≡◌, refl, ◌≢◌, ◌⊎◌, Bool, true, false, ◌&&◌, List, [], ◌∷◌, ◌++◌, map, ℕ, zero, suc, ◌+◌, ◌-◌, ◌<◌, ◌≤◌, eqb, ltb, length, get_or, drop}
use Rattle.std.proofs.Common.{sym, ap, ◌∙◌, inl, inr, true≢false, append-nil, le_of_suc-le-suc, not-suc-le-zero, add-one, arith, drop_of_length-le, drop-cons, eqb-true, eq-eqb, ne_eqb, ltb-true, ltb-false}
use Rattle.std.proofs.lemmas.List.{map-append, length-map}
use Rattle.std.proofs.Math.Seq.{take-length, slice, slice_empty, slice-cons}
use Rattle.lists.specs.Lists.{bit, pick, any_of, every, keep, find_or, sum_of, sum_of₂, count_of, All, joined, from, up_to}
use Rattle.lists.specs.Laws.Tests.{by_test, by_same}
use Rattle.lists.specs.Laws.All.{all_in}
use Rattle.lists.specs.Laws.Sums.{sum_append, sum_same, sum_zero}
use Rattle.lists.specs.Laws.Finds.{false_any, any_in, every_true, true_every, keep_append, joined_append, get_d_map_in, find_none, find_passes, all_found}

from_last : (k n : ℕ) → from k (suc n) ≡ from k n ++ ((k + n) ∷ [])
from_last k zero = let e : k ≡ k + 0 = omega arith in ap (λ x. x ∷ []) e
from_last k (suc n) = let e : suc k + n ≡ k + suc n = omega arith in ap (λ l. k ∷ l) (from_last (suc k) n ∙ ap (λ x. from (suc k) n ++ (x ∷ [])) e)

pub up_to_suc : (n : ℕ) → up_to (suc n) ≡ up_to n ++ (n ∷ [])
up_to_suc n = let e : 0 + n ≡ n = omega arith in from_last 0 n ∙ ap (λ x. up_to n ++ (x ∷ [])) e

-- ---- one number more

pub sum_from_suc : (f : ℕ → ℕ) (k n : ℕ) → sum_of f (from k (suc n)) ≡ sum_of f (from k n) + f (k + n)
sum_from_suc f k n = ap (sum_of f) (from_last k n) ∙ omega (arith, sum_append f (from k n) ((k + n) ∷ []))

module _ (f : ℕ → ℕ) (n : ℕ) where
  pub sum_suc : sum_of f (up_to (suc n)) ≡ sum_of f (up_to n) + f n
  sum_suc = ap (sum_of f) (up_to_suc n) ∙ omega (arith, sum_append f (up_to n) (n ∷ []))

  pub sum_next : sum_of f (up_to (n + 1)) ≡ sum_of f (up_to n) + f n
  sum_next = ap (λ m. sum_of f (up_to m)) (add-one n) ∙ sum_suc

module _ (f : ℕ → Bool) (n : ℕ) where
  pub count_next : count_of f (up_to (n + 1)) ≡ count_of f (up_to n) + bit (f n)
  count_next = sum_next (λ x. bit (f x)) n

  pub keep_suc : keep f (up_to (suc n)) ≡ keep f (up_to n) ++ pick (f n) (n ∷ []) []
  keep_suc = ap (keep f) (up_to_suc n) ∙ keep_append f (up_to n) (n ∷ [])

  pub keep_next : keep f (up_to (n + 1)) ≡ keep f (up_to n) ++ pick (f n) (n ∷ []) []
  keep_next = ap (λ m. keep f (up_to m)) (add-one n) ∙ keep_suc

module _ {A : Type 0} where
  pub joined_suc : (f : ℕ → List A) (n : ℕ) → joined f (up_to (suc n)) ≡ joined f (up_to n) ++ f n
  joined_suc f n = ap (joined f) (up_to_suc n) ∙ joined_append f (up_to n) (n ∷ []) ∙ ap (λ l. joined f (up_to n) ++ l) (append-nil (f n))

  pub joined_next : (f : ℕ → List A) (n : ℕ) → joined f (up_to (n + 1)) ≡ joined f (up_to n) ++ f n
  joined_next f n = ap (λ m. joined f (up_to m)) (add-one n) ∙ joined_suc f n

  pub map_suc : (f : ℕ → A) (n : ℕ) → map f (up_to (suc n)) ≡ map f (up_to n) ++ (f n ∷ [])
  map_suc f n = ap (map f) (up_to_suc n) ∙ map-append f (up_to n) (n ∷ [])

  pub map_next : (f : ℕ → A) (n : ℕ) → map f (up_to (n + 1)) ≡ map f (up_to n) ++ (f n ∷ [])
  map_next f n = ap (λ m. map f (up_to m)) (add-one n) ∙ map_suc f n

-- ---- the numbers from i up to n

module _ (i n : ℕ) where
  pub from_next : i < n → from i (n - i) ≡ i ∷ from (i + 1) (n - (i + 1))
  from_next h = let e : n - i ≡ suc (n - (i + 1)) = omega arith in rw (e, add-one i)

  pub from_end : n ≤ i → from i (n - i) ≡ []
  from_end h = let e : n - i ≡ 0 = omega arith in rw e

-- ---- the number at each place

length_from : (k n : ℕ) → length (from k n) ≡ n
length_from k zero = refl
length_from k (suc n) = ap suc (length_from (suc k) n)

pub length_up_to : (n : ℕ) → length (up_to n) ≡ n
length_up_to n = length_from 0 n

get_d_from : (k n i : ℕ) → i < n → get_or (from k n) i 0 ≡ k + i
get_d_from k zero i h = absurd (not-suc-le-zero h)
get_d_from k (suc n) zero h = omega arith
get_d_from k (suc n) (suc i) h = omega (arith, get_d_from (suc k) n i (le_of_suc-le-suc h))

pub get_d_up_to : (n i : ℕ) → i < n → get_or (up_to n) i 0 ≡ i
get_d_up_to n i h = omega (arith, get_d_from 0 n i h)

pub get_d_map_up_to : {A : Type 0} (f : ℕ → A) (d : A) (n i : ℕ) → i < n → get_or (map f (up_to n)) i d ≡ f i
get_d_map_up_to f d n i h = get_d_map_in f (up_to n) i d 0 (rw (length_up_to n) h) ∙ ap f (get_d_up_to n i h)

pub length_map_up_to : {A : Type 0} (f : ℕ → A) (n : ℕ) → length (map f (up_to n)) ≡ n
length_map_up_to f n = length-map (up_to n) f ∙ length_up_to n

-- ---- the elements at the places of a list, added up or tested

-- at the places from k up to m
pub sum_part : {A : Type 0} (f : A → ℕ) (l : List A) (d : A) (k n m : ℕ) → k + n ≡ m → m ≤ length l → sum_of (λ i. f (get_or l i d)) (from k n) ≡ sum_of f (slice k m l)
sum_part f l d k zero m e h = let q : m ≡ k = omega arith in rw (q, slice_empty k l)
sum_part f l d k (suc n) m e h = rw (slice-cons k m l d (omega arith) h) (ap (λ x. f (get_or l k d) + x) (sum_part f l d (suc k) n m (omega arith) h))

pub sum_places : {A : Type 0} (f : A → ℕ) (l : List A) (d : A) → sum_of (λ i. f (get_or l i d)) (up_to (length l)) ≡ sum_of f l
sum_places f l d = sum_part f l d 0 (length l) (length l) (omega arith) (omega arith) ∙ ap (sum_of f) (take-length l)

every_part : {A : Type 0} (f : A → Bool) (l : List A) (d : A) (k n : ℕ) → k + n ≡ length l → every (λ i. f (get_or l i d)) (from k n) ≡ every f (drop k l)
every_part f l d k zero h = rw (drop_of_length-le l {i = k} (omega arith))
every_part f l d k (suc n) h = rw (drop-cons l k d (omega arith)) (ap (λ b. f (get_or l k d) && b) (every_part f l d (suc k) n (omega arith)))

pub every_places : {A : Type 0} (f : A → Bool) (l : List A) (d : A) → every (λ i. f (get_or l i d)) (up_to (length l)) ≡ every f l
every_places f l d = every_part f l d 0 (length l) (omega arith)

module _ {A B : Type 0} (f : A → B → ℕ) (xs : List A) (ys : List B) (d : A) (e : B) where
  sum₂_part : (k n : ℕ) → k + n ≡ length xs → k + n ≡ length ys → sum_of (λ i. f (get_or xs i d) (get_or ys i e)) (from k n) ≡ sum_of₂ f (drop k xs) (drop k ys)
  sum₂_part k zero a b = rw (drop_of_length-le xs {i = k} (omega arith))
  sum₂_part k (suc n) a b =
      rw (drop-cons xs k d (omega arith), drop-cons ys k e (omega arith))
      (ap (λ m. f (get_or xs k d) (get_or ys k e) + m) (sum₂_part (suc k) n (omega arith) (omega arith)))

  pub sum₂_places : length ys ≡ length xs → sum_of (λ i. f (get_or xs i d) (get_or ys i e)) (up_to (length xs)) ≡ sum_of₂ f xs ys
  sum₂_places h = sum₂_part 0 (length xs) (omega arith) (omega arith)

-- ---- what holds of each number below n

module _ (P : ℕ → Type 0) where
  pub all_from : (k n : ℕ) → ((i : ℕ) → k ≤ i → i < k + n → P i) → All P (from k n)
  all_from k zero h = tt
  all_from k (suc n) h = (h k (omega arith) (omega arith), all_from (suc k) n (λ i a b. h i (omega arith) (omega arith)))

  pub all_up_to : (n : ℕ) → ((i : ℕ) → i < n → P i) → All P (up_to n)
  all_up_to n h = all_from 0 n (λ i a b. h i (omega arith))

  pub up_to_all : (n : ℕ) → All P (up_to n) → (i : ℕ) → i < n → P i
  up_to_all n h i a = rw (get_d_up_to n i a) at (all_in P (up_to n) i 0 h (rw (length_up_to n) a))

module _ (f : ℕ → Bool) (n : ℕ) where
  pub every_each : every f (up_to n) ≡ true → (i : ℕ) → i < n → f i ≡ true
  every_each e = up_to_all (λ i. f i ≡ true) n (every_true f (up_to n) e)

  pub each_every : ((i : ℕ) → i < n → f i ≡ true) → every f (up_to n) ≡ true
  each_every h = true_every f (up_to n) (all_up_to (λ i. f i ≡ true) n h)

  pub none_any : ((i : ℕ) → i < n → f i ≡ false) → any_of f (up_to n) ≡ false
  none_any h = false_any f (up_to n) (all_up_to (λ i. f i ≡ false) n h)

  pub any_one : (i : ℕ) → i < n → f i ≡ true → any_of f (up_to n) ≡ true
  any_one i h e = any_in f (up_to n) i 0 (rw (length_up_to n) h) (rw (get_d_up_to n i h) e)

-- ---- sums of two functions

-- that are equal below n
pub sum_below : (f g : ℕ → ℕ) (n : ℕ) → ((i : ℕ) → i < n → f i ≡ g i) → sum_of f (up_to n) ≡ sum_of g (up_to n)
sum_below f g n h = sum_same f g (up_to n) (all_up_to (λ i. f i ≡ g i) n h)

-- that differ at k at most
pub sum_change : (f g : ℕ → ℕ) (n k : ℕ) → k < n → ((i : ℕ) → i < n → i ≢ k → f i ≡ g i) → sum_of f (up_to n) + g k ≡ sum_of g (up_to n) + f k
sum_change f g zero k h same = absurd (not-suc-le-zero h)
sum_change f g (suc n) k h same = go (by_same k n) (sum_change f g n k)
  where
    go : (k ≡ n) ⊎ (k ≢ n) → (k < n → ((i : ℕ) → i < n → i ≢ k → f i ≡ g i) → sum_of f (up_to n) + g k ≡ sum_of g (up_to n) + f k)
        → sum_of f (up_to (suc n)) + g k ≡ sum_of g (up_to (suc n)) + f k
    go (inl e) ih = rw (e, sum_suc f n, sum_suc g n, sum_below f g n (λ i a. same i (omega arith) (λ q. omega arith))) (omega arith)
    go (inr e) ih = rw (sum_suc f n, sum_suc g n, same n (omega arith) (λ q. e (sym q))) (omega (arith, ih (omega arith) (λ i a. same i (omega arith))))

-- where at most one number below n passes, two that pass are one
pub one_passes : (f : ℕ → Bool) (n i j : ℕ) → count_of f (up_to n) ≤ 1 → i < n → j < n → f i ≡ true → f j ≡ true → j ≡ i
one_passes f n i j h a b p q =
    by_test (eqb j i) (eqb-true j i) (λ e.
    let rest : ℕ → ℕ = λ k. pick (eqb k i) 0 (bit (f k)) in
    let c = sum_change (λ k. bit (f k)) rest n i a (λ k l o. rw (ne_eqb k i o)) in
    let z : rest i ≡ 0 = rw (eq-eqb i i refl) in
    let o : rest j ≡ 1 = rw (e, q) in
    absurd (omega (arith, c, z, o, ap bit p, up_to_all (λ k. rest k ≡ 0) n (sum_zero rest (up_to n) (omega (arith, c, z, ap bit p))) j b)))

-- ---- the first number below n that passes

module _ (f : ℕ → Bool) (d : ℕ) where
  -- if one passes, what is found does, and is below n
  pub find_found : (n : ℕ) → any_of f (up_to n) ≡ true → (find_or f d (up_to n) < n) × (f (find_or f d (up_to n)) ≡ true)
  find_found n e = (all_found (λ i. i < n) f d (up_to n) (all_up_to (λ i. i < n) n (λ i h. h)) e, find_passes f d (up_to n) e)

  find_from : (k n i : ℕ) → k ≤ i → i < k + n → f i ≡ true → find_or f d (from k n) ≤ i
  find_from k zero i a b e = absurd (omega arith)
  find_from k (suc n) i a b e = go (f k) refl (find_from (suc k) n i)
    where
      go : (t : Bool) → f k ≡ t → (suc k ≤ i → i < suc k + n → f i ≡ true → find_or f d (from (suc k) n) ≤ i) → pick t k (find_or f d (from (suc k) n)) ≤ i
      go true q ih = a
      go false q ih = ih (go₂ (by_same i k)) (omega arith) e
        where
          go₂ : (i ≡ k) ⊎ (i ≢ k) → suc k ≤ i
          go₂ (inl z) = absurd (true≢false (sym e ∙ ap f z ∙ q))
          go₂ (inr z) = omega arith

  -- none passes before what is found
  pub find_least : (n i : ℕ) → i < n → f i ≡ true → find_or f d (up_to n) ≤ i
  find_least n i h e = find_from 0 n i (omega arith) (omega arith) e

  -- the first that passes is found, and d where none does
  pub find_first : (n i : ℕ) → i < n → f i ≡ true → ((j : ℕ) → j < i → f j ≡ false) → find_or f d (up_to n) ≡ i
  find_first n i h e before = go (ltb (find_or f d (up_to n)) i) refl
    where
      go : (b : Bool) → ltb (find_or f d (up_to n)) i ≡ b → find_or f d (up_to n) ≡ i
      go true q = absurd (true≢false (sym (find_found n (any_one f n i h e)).1 ∙ before (find_or f d (up_to n)) (ltb-true (find_or f d (up_to n)) i q)))
      go false q = omega (arith, ltb-false (find_or f d (up_to n)) i q, find_least n i h e)

  pub find_default : (n : ℕ) → ((i : ℕ) → i < n → f i ≡ false) → find_or f d (up_to n) ≡ d
  find_default n h = find_none f d (up_to n) (none_any f n h)
