use mathlib.Core.Path.{◌≡◌, refl}
use mathlib.Core.Bool.{Bool, true, false}
use mathlib.Core.List.{List}
use Prim.Native.Nat.{ℕ, zero, suc}
use lib.Dec.{eqb}
use borrow.Author.Tests.{eq-eqb, ne_eqb}
use Rattle.lists.specs.Lists.{among}
use Rattle.regions.specs.Regions.{name_in, above_in, allows_in}
use Rattle.climbs.proofs.allows.Goals as goal

-- no other mark allows anything
none : (names parents levels : List ℕ) (m h t : ℕ) → (m ≡ 1 → ⊥) → (m ≡ 2 → ⊥) → (m ≡ 3 → ⊥) → (m ≡ 4 → ⊥) → false ≡ allows_in names parents levels m h t
unfolding allows_in
none names parents levels zero h t a b c d = refl
none names parents levels (suc zero) h t a b c d = absurd (a refl)
none names parents levels (suc (suc zero)) h t a b c d = absurd (b refl)
none names parents levels (suc (suc (suc zero))) h t a b c d = absurd (c refl)
none names parents levels (suc (suc (suc (suc zero)))) h t a b c d = absurd (d refl)
none names parents levels (suc (suc (suc (suc (suc m))))) h t a b c d = refl

-- the rule of each mark, by the names read at the tags t and h
module _ (names parents levels : List ℕ) (m h t to own : ℕ) (read : to ≡ name_in names t) (read₂ : own ≡ name_in names h) where
  same : m ≡ 2 → eqb to own ≡ allows_in names parents levels m h t
  unfolding allows_in
  same e = rw (e, read, read₂)

  up-own : m ≡ 3 → eqb to own ≡ true → true ≡ allows_in names parents levels m h t
  unfolding allows_in
  up-own e p = rw (e, ← read, ← read₂, p)

  up-climb : m ≡ 3 → eqb to own ≡ false → (r : Bool) → r ≡ among to (above_in names parents levels h) → r ≡ allows_in names parents levels m h t
  unfolding allows_in
  up-climb e p r q = rw (e, ← read, ← read₂, p) q

  forever : m ≡ 4 → eqb to 1 ≡ allows_in names parents levels m h t
  unfolding allows_in
  forever e = rw (e, read)

pub returns-then-m-eq1 : goal.returns-then-m-eq1
unfolding allows_in
returns-then-m-eq1 c = rw c.if-m-eq1.true

pub returns-then-m-eq2 : goal.returns-then-m-eq2
returns-then-m-eq2 c = same _ _ _ _ _ _ _ _ c.name_of-to.ensures c.name_of-own.ensures c.if-m-eq2.true

pub returns-then-to-own : goal.returns-then-to-own
returns-then-to-own c =
    let own-region : eqb c.name_of-to.result c.name_of-own.result ≡ true = eq-eqb _ _ c.if-to-own.true in
    up-own _ _ _ _ _ _ _ _ c.name_of-to.ensures c.name_of-own.ensures c.if-m-eq3.true own-region

pub returns-then-m-eq3 : goal.returns-then-m-eq3
unfolding above_in
returns-then-m-eq3 c =
    let other-region : eqb c.name_of-to.result c.name_of-own.result ≡ false = ne_eqb _ _ c.if-to-own.false in
    let climbs : c.is_above.result ≡ among c.name_of-to.result (above_in c.args.regions.now.names.now c.args.regions.now.parents.now c.args.regions.now.levels.now c.args.h) = rw (← c.level_from.ensures) c.is_above.ensures in
    up-climb _ _ _ _ _ _ _ _ c.name_of-to.ensures c.name_of-own.ensures c.if-m-eq3.true other-region _ climbs

pub returns-then-m-eq4 : goal.returns-then-m-eq4
returns-then-m-eq4 c = forever _ _ _ _ _ _ _ _ c.name_of-to.ensures c.name_of-own.ensures c.if-m-eq4.true

pub returns : goal.returns
returns c = none _ _ _ _ _ _ c.if-m-eq1.false c.if-m-eq2.false c.if-m-eq3.false c.if-m-eq4.false
