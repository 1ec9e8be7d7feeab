-- Laws of truth values.
-- Assumes nothing.
use Rattle.std.specs.Prelude.{◌≡◌, refl, Bool, true, false, ◌&&◌, ◌||◌, not, ◌⊎◌, ◌≢◌, ℕ, eqb}
use Rattle.std.proofs.Common.{true≢false, inl, inr, arith, eqb-true, eq-eqb, ne_eqb}
use Rattle.std.proofs.lemmas.Bool.{false≢true, eqb-false}
use Rattle.lists.specs.Lists.{bit, pick}

pub neither : (a b : Bool) → (a || b) ≡ false → (a ≡ false) × (b ≡ false)
neither true b e = absurd (true≢false e)
neither false b e = (refl, e)

pub both : (a b : Bool) → (a && b) ≡ true → (a ≡ true) × (b ≡ true)
both true b e = (refl, e)
both false b e = absurd (false≢true e)

pub or_right : (a b : Bool) → b ≡ true → (a || b) ≡ true
or_right true b e = refl
or_right false b e = e

-- one of two holds, and the first does not
pub or_other : (a b : Bool) → (a || b) ≡ true → a ≡ false → b ≡ true
or_other true b e f = absurd (true≢false f)
or_other false b e f = e

-- of two tests, one of them of two parts
pub or_known : (a b c : Bool) → (a || (b && c)) ≡ true → (a || b) ≡ true
or_known true b c e = refl
or_known false b c e = (both b c e).0

pub bit_zero : (b : Bool) → bit b ≡ 0 → b ≡ false
bit_zero true e = absurd (omega arith)
bit_zero false e = refl

pub bit_pick : (b : Bool) → bit b ≡ pick b 1 0
bit_pick true = refl
bit_pick false = refl

pub pick_not : (b : Bool) (n : ℕ) → pick (not b) n 0 ≡ pick b 0 n
pick_not true n = refl
pick_not false n = refl

pub pick_same : {A : Type 0} (b : Bool) (x : A) → pick b x x ≡ x
pick_same true x = refl
pick_same false x = refl

-- a test decides
pub by_test : {P : Type 0} (b : Bool) → (b ≡ true → P) → (b ≡ false → P) → P
by_test true p q = p refl
by_test false p q = q refl

pub by_same : (i j : ℕ) → (i ≡ j) ⊎ (i ≢ j)
by_same i j = by_test (eqb i j) (λ e. inl (eqb-true i j e)) (λ e. inr (eqb-false i j e))

pub eqb_sym : (i j : ℕ) → eqb i j ≡ eqb j i
eqb_sym i j = go (eqb i j) refl
  where
    go : (b : Bool) → eqb i j ≡ b → b ≡ eqb j i
    go true e = rw (eqb-true i j e, eq-eqb j j refl)
    go false e = rw (ne_eqb j i (λ q. eqb-false i j e (rw q)))
