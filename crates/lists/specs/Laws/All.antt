-- Laws of `All` and `All₂`.
-- Assumes nothing.
use Rattle.std.specs.Prelude.{List, [], ◌∷◌, ◌++◌, map, ℕ, zero, suc, ◌<◌, length, get_or, set, take, replicate}
use Rattle.std.proofs.Common.{le_of_suc-le-suc, not-suc-le-zero}
use Rattle.lists.specs.Lists.{All, All₂}

module _ {A : Type 0} where
  pub all_map : {P Q : A → Type 0} → ((x : A) → P x → Q x) → (l : List A) → All P l → All Q l
  all_map f [] h = tt
  all_map f (x ∷ xs) h = (f x h.0, all_map f xs h.1)

  pub all_at : (P : A → Type 0) (l : List A) (i : ℕ) (d : A) → All P l → P d → P (get_or l i d)
  all_at P [] i d h p = p
  all_at P (x ∷ xs) zero d h p = h.0
  all_at P (x ∷ xs) (suc i) d h p = all_at P xs i d h.1 p

  pub all_in : (P : A → Type 0) (l : List A) (i : ℕ) (d : A) → All P l → i < length l → P (get_or l i d)
  all_in P [] i d h k = absurd (not-suc-le-zero k)
  all_in P (x ∷ xs) zero d h k = h.0
  all_in P (x ∷ xs) (suc i) d h k = all_in P xs i d h.1 (le_of_suc-le-suc k)

  -- one element replaced, where the new one has P if the old one has
  pub all_update : (P : A → Type 0) (l : List A) (i : ℕ) (d y : A) → All P l → (P (get_or l i d) → P y) → All P (set l i y)
  all_update P [] i d y h p = tt
  all_update P (x ∷ xs) zero d y h p = (p h.0, h.1)
  all_update P (x ∷ xs) (suc i) d y h p = (h.0, all_update P xs i d y h.1 p)

  pub all_set : (P : A → Type 0) (l : List A) (i : ℕ) (y : A) → All P l → P y → All P (set l i y)
  all_set P l i y h p = all_update P l i y y h (λ q. p)

  pub all_append : (P : A → Type 0) (l r : List A) → All P l → All P r → All P (l ++ r)
  all_append P [] r h k = k
  all_append P (x ∷ xs) r h k = (h.0, all_append P xs r h.1 k)

  pub all_take : (P : A → Type 0) (n : ℕ) (l : List A) → All P l → All P (take n l)
  all_take P zero l h = tt
  all_take P (suc n) [] h = tt
  all_take P (suc n) (x ∷ xs) h = (h.0, all_take P n xs h.1)

  pub all_replicate : (P : A → Type 0) (n : ℕ) (x : A) → P x → All P (replicate n x)
  all_replicate P zero x p = tt
  all_replicate P (suc n) x p = (p, all_replicate P n x p)

  pub all_both : (P Q : A → Type 0) (l : List A) → All P l → All Q l → All (λ x. P x × Q x) l
  all_both P Q [] h k = tt
  all_both P Q (x ∷ xs) h k = ((h.0, k.0), all_both P Q xs h.1 k.1)

module _ {A B : Type 0} where
  -- each element changed by f
  pub all_change : (P : A → Type 0) (Q : B → Type 0) (f : A → B) → ((x : A) → P x → Q (f x)) → (l : List A) → All P l → All Q (map f l)
  all_change P Q f k [] h = tt
  all_change P Q f k (x ∷ xs) h = (k x h.0, all_change P Q f k xs h.1)

  pub all₂_replicate : (P : A → B → Type 0) (xs : List A) (n : ℕ) (y : B) → ((x : A) → P x y) → All₂ P xs (replicate n y)
  all₂_replicate P [] n y h = tt
  all₂_replicate P (x ∷ xs) zero y h = tt
  all₂_replicate P (x ∷ xs) (suc n) y h = (h x, all₂_replicate P xs n y h)

  pub all₂_both : (P Q R : A → B → Type 0) → ((x : A) (y : B) → P x y → Q x y → R x y) → (xs : List A) (ys : List B) → All₂ P xs ys → All₂ Q xs ys → All₂ R xs ys
  all₂_both P Q R f [] ys h k = tt
  all₂_both P Q R f (x ∷ xs) [] h k = tt
  all₂_both P Q R f (x ∷ xs) (y ∷ ys) h k = (f x y h.0 k.0, all₂_both P Q R f xs ys h.1 k.1)

  pub all₂_map : {P Q : A → B → Type 0} → ((x : A) (y : B) → P x y → Q x y) → (xs : List A) (ys : List B) → All₂ P xs ys → All₂ Q xs ys
  all₂_map f [] ys h = tt
  all₂_map f (x ∷ xs) [] h = tt
  all₂_map f (x ∷ xs) (y ∷ ys) h = (f x y h.0, all₂_map f xs ys h.1)

  pub all₂_set : (P : A → B → Type 0) (xs : List A) (ys : List B) (i : ℕ) (d : A) (y : B) → All₂ P xs ys → P (get_or xs i d) y → All₂ P xs (set ys i y)
  all₂_set P [] ys i d y h p = tt
  all₂_set P (x ∷ xs) [] i d y h p = tt
  all₂_set P (x ∷ xs) (z ∷ ys) zero d y h p = (p, h.1)
  all₂_set P (x ∷ xs) (z ∷ ys) (suc i) d y h p = (h.0, all₂_set P xs ys i d y h.1 p)

  pub all₂_in : (P : A → B → Type 0) (xs : List A) (ys : List B) (i : ℕ) (d : A) (e : B) → All₂ P xs ys → i < length xs → i < length ys → P (get_or xs i d) (get_or ys i e)
  all₂_in P [] ys i d e h k l = absurd (not-suc-le-zero k)
  all₂_in P (x ∷ xs) [] i d e h k l = absurd (not-suc-le-zero l)
  all₂_in P (x ∷ xs) (y ∷ ys) zero d e h k l = h.0
  all₂_in P (x ∷ xs) (y ∷ ys) (suc i) d e h k l = all₂_in P xs ys i d e h.1 (le_of_suc-le-suc k) (le_of_suc-le-suc l)
