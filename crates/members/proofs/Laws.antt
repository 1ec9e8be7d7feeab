-- One turn of the loop over the names, over what is left of the list from a place on.
-- Assumes nothing.
use mathlib.Core.Path.{◌≡◌, refl}
use mathlib.Core.Bool.{Bool, true, false, not}
use mathlib.Core.List.{List, ◌∷◌, map}
use Prim.Native.Nat.{ℕ, ◌+◌, ◌<◌, ◌≤◌}
use native.Mathlib.Numerals.{add-one}
use native.Mathlib.Omega.{arith}
use lib.Dec.{eqb, ltb}
use lib.ListN.{length, get_or, set, drop, drop_of_length-le}
use lib.Seq.{drop-cons}
use Rattle.std.specs.Prelude.{Result, Ok, Err}
use Rattle.std.specs.Result.{result_and}
use Rattle.lists.specs.Lists.{pick}
use Rattle.lists.specs.Ticks.{ticked}
use Rattle.model.specs.Calls.{reason, name_tests}
use Rattle.refusals.specs.declared.Refusal.{Refusal}
use Rattle.refusals.specs.Refusals.{number, refused}
use Rattle.refusals.specs.Laws.{number_not_0}
use Rattle.regions.specs.Regions.{entry_in}
use Rattle.members.specs.Members.{tag_by, dead_by, name_refusal}

-- the number that a result refuses by, or k where it accepts
abbrev pub or_else : Result (Unit {0}) Refusal → ℕ → ℕ
or_else (Ok _) k = k
or_else (Err r) k = number r

-- the first refusal of the names left
abbrev pub refused_by : List ℕ → List ℕ → ℕ
refused_by names l = reason (name_tests (dead_by names) l)

-- of a name, and of those after it
refused_next : (names : List ℕ) (n : ℕ) (l : List ℕ) (b : Result (Unit {0}) Refusal) → refused b ≡ name_refusal (entry_in names n) n → or_else b (refused_by names l) ≡ refused_by names (n ∷ l)
unfolding name_tests dead_by name_refusal
refused_next names n l b e = go (not (ltb (entry_in names n) 64)) (eqb n 1) b (refused_by names l) e
  where
    go : (d p : Bool) (b : Result (Unit {0}) Refusal) (k : ℕ) → refused b ≡ pick d 2 (pick p 3 0) → or_else b k ≡ pick d 2 (pick p 3 k)
    go true p (Ok _) k e = absurd (omega arith)
    go true p (Err r) k e = e
    go false true (Ok _) k e = absurd (omega arith)
    go false true (Err r) k e = e
    go false false (Ok _) k e = refl
    go false false (Err r) k e = absurd (number_not_0 r e)

-- where no name is left
pub refused_end : (names l : List ℕ) (i : ℕ) (a : Result (Unit {0}) Refusal) → length l ≤ i → or_else a (refused_by names (drop i l)) ≡ refused a
unfolding name_tests
refused_end names l i (Ok _) h = rw (drop_of_length-le l {i = i} h)
refused_end names l i (Err r) h = refl

pub ticked_end : (ms l : List ℕ) (f : ℕ → ℕ) (i : ℕ) → length l ≤ i → ticked ms (map f (drop i l)) ≡ ms
unfolding ticked
ticked_end ms l f i h = rw (drop_of_length-le l {i = i} h)

module _ (l : List ℕ) (i : ℕ) (h : i < length l) where
  next : drop i l ≡ get_or l i 0 ∷ drop (i + 1) l
  next = rw (add-one i) (drop-cons l i 0 h)

  -- e is what a function gave: the entry of the name come to
  module _ (names : List ℕ) (e : ℕ) (entry : e ≡ entry_in names (get_or l i 0)) where
    -- b is what a function gave for that name
    pub refused_more : (a b : Result (Unit {0}) Refusal) → refused b ≡ name_refusal e (get_or l i 0) → or_else (result_and a b) (refused_by names (drop (i + 1) l)) ≡ or_else a (refused_by names (drop i l))
    refused_more (Ok _) b q = rw next (refused_next names (get_or l i 0) (drop (i + 1) l) b (rw (← entry) q))
    refused_more (Err r) b q = refl

    -- ms are the ticks that were left
    pub ticked_more : (m ms : List ℕ) → ms ≡ set m (e + 1) 1 → ticked ms (map (tag_by names) (drop (i + 1) l)) ≡ ticked m (map (tag_by names) (drop i l))
    unfolding ticked tag_by
    ticked_more m ms q = rw (q, entry, next)
