-- Numbers that fit a width, one by one, are a list of numbers below it.
-- Assumes nothing.
use mathlib.Core.List.{List}
use Prim.Native.Nat.{ℕ, ◌<◌}
use lib.ListN.{get_or}
use mir.Syntax.{w8, w16, w32}
use mir.Val.{Fits}
use Rattle.lists.specs.Laws.Kept.{all_places}
use Rattle.outcomes.specs.Shape.{Bits8, Bits16, Bits32}

pub bits8 : (l : List ℕ) → ((i : ℕ) → Fits w8 (get_or l i 0)) → Bits8 l
bits8 l h = all_places (λ x. x < 256) l 0 (λ i b. (h i).fits)

pub bits16 : (l : List ℕ) → ((i : ℕ) → Fits w16 (get_or l i 0)) → Bits16 l
bits16 l h = all_places (λ x. x < 65536) l 0 (λ i b. (h i).fits)

pub bits32 : (l : List ℕ) → ((i : ℕ) → Fits w32 (get_or l i 0)) → Bits32 l
bits32 l h = all_places (λ x. x < 4294967296) l 0 (λ i b. (h i).fits)
