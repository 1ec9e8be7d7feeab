-- Laws of the table of names, of the arguments, one by one, and of a filler in front of a call.
-- Assumes nothing.
use Rattle.std.specs.Prelude.{◌≡◌, refl, Bool, true, false, not, ◌&&◌, List, [], ◌∷◌, map, ltb, leb, get_or, set, take, drop}
use Rattle.std.proofs.Common.{sym, ap, subst, ◌∙◌, inl, add-one, length-take}
use Rattle.std.proofs.Math.Bool.{and-false}
use Prim.Native.Nat.{ℕ, suc, ◌+◌, ◌-◌, ◌≤◌, ◌<◌}
use native.Mathlib.Omega.{arith}
use Rattle.std.proofs.Math.Dec.{eqb}
use Rattle.std.proofs.Math.ListN.{length, length-drop, get_or-eq_default}
use Rattle.std.proofs.lemmas.List.Edits.{sets}
use Rattle.std.proofs.Math.Seq.{take-length}
use borrow.Author.Tests.{eqb-true, ltb-true, ltb-false, leb-true, eq-eqb, ne_eqb, le-leb, lt-leb, lt-ltb, le-ltb}
use Rattle.std.specs.List.{list_any}
use Rattle.std.specs.Cmp.Lexicographic.{pointwise}
use Rattle.lists.specs.Lists.{pick, every, equal, up_to}
use Rattle.lists.specs.Laws.Every.{equal_is, equal_self}
use Rattle.lists.specs.Laws.Tests.{both, by_test, pick_same}
use Rattle.lists.specs.Laws.UpTo.{every_each}
use Rattle.lists.specs.Laws.Sets.{get_d_sets_out}
use Rattle.script.specs.declared.Line.{Line}
use Rattle.script.specs.Script.{bytes, tokens, value, no_number, known, last_call, names, word_names, fillers, placed, named, call_of, takes, allowed, line, zeros, bad, given, called, acting, said, scanned, mark, unmarked, longest_line, fitting, heard}

-- ---- names

pub placed_here : (n : ℕ) (w v : List ℕ) (vs : List (List ℕ)) → w ≡ v → n ≡ placed n w (v ∷ vs)
unfolding placed
placed_here n w v vs e = rw (e, equal_self eqb (λ x. eq-eqb x x refl) v)

pub placed_next : (n : ℕ) (w v : List ℕ) (vs : List (List ℕ)) → (w ≡ v → ⊥) → placed n w (v ∷ vs) ≡ placed (n + 1) w vs
unfolding placed
placed_next n w v vs e = by_test (equal eqb w v) (λ q. absurd (e (equal_is eqb eqb-true w v q))) (λ q. rw (add-one n, q))

pub placed_below : (n : ℕ) (w : List ℕ) (vs : List (List ℕ)) → placed n w vs ≤ n + length vs
unfolding placed
placed_below n w [] = omega arith
placed_below n w (v ∷ vs) = go (equal eqb w v) (placed_below (suc n) w vs)
  where
    go : (t : Bool) → placed (suc n) w vs ≤ suc n + length vs → pick t n (placed (suc n) w vs) ≤ n + suc (length vs)
    go true h = omega arith
    go false h = omega arith

-- ---- the calls that a filler may be named in front of

fills : ℕ → Bool
fills n = list_any (λ m. eqb m n) (6 ∷ 7 ∷ 14 ∷ 23 ∷ 24 ∷ [])

fills_as : ℕ → Bool
fills_as n = pick (fills n) (eqb (get_or fillers n 0) 1) (not (eqb (get_or fillers n 0) 1))

-- by computation, up to the last call
fills_all : every fills_as (up_to (last_call + 1)) ≡ true
unfolding fills fills_as fillers
fills_all = refl

fills_none : (n : ℕ) → last_call < n → fills n ≡ false
unfolding fills
fills_none n h =
    rw (ne_eqb 6 n (λ e. absurd (omega (arith, e))), ne_eqb 7 n (λ e. absurd (omega (arith, e))), ne_eqb 14 n (λ e. absurd (omega (arith, e))), ne_eqb 23 n (λ e. absurd (omega (arith, e))), ne_eqb 24 n (λ e. absurd (omega (arith, e))))

fillers_none : (n : ℕ) → last_call < n → get_or fillers n 0 ≡ 0
unfolding fillers
fillers_none n h = get_or-eq_default fillers 0 {n = n} (omega arith)

pub filler_calls : (n : ℕ) → list_any (λ m. eqb m n) (6 ∷ 7 ∷ 14 ∷ 23 ∷ 24 ∷ []) ≡ eqb (get_or fillers n 0) 1
unfolding fills fills_as
filler_calls n = by_test (ltb n (last_call + 1)) (λ q. same _ _ (every_each fills_as (last_call + 1) fills_all n (ltb-true n (last_call + 1) q))) (λ q. beyond (ltb-false n (last_call + 1) q))
  where
    same : (x y : Bool) → pick x y (not y) ≡ true → x ≡ y
    same true y e = sym e
    same false true e = e
    same false false e = refl

    beyond : last_call + 1 ≤ n → fills n ≡ eqb (get_or fillers n 0) 1
    beyond h = fills_none n (omega arith) ∙ ap (λ v. eqb v 1) (sym (fillers_none n (omega arith)))

-- ---- calls by name or number

-- a word is a call's number, or else at most its name: the number that it writes is too small, or too great
module _ (w : List ℕ) (v : ℕ) (e : v ≡ value w) where
  pub numbered : 2 ≤ v → v ≤ last_call → v ≡ call_of w
  unfolding call_of
  numbered h k = rw (← e, le-leb 2 v h, le-leb v last_call k)

  pub small_named : v < 2 → named w ≡ call_of w
  unfolding call_of
  small_named h = rw (← e, lt-leb 2 v h)

  pub great_named : last_call < v → named w ≡ call_of w
  unfolding call_of
  great_named h = rw (← e, lt-leb v last_call h, and-false (leb 2 v))

-- ---- arguments

-- the arguments vs after k that stand in their places
unfoldable pub given_from : ℕ → ℕ → ℕ → List ℕ → List ℕ → Line
given_from n f k args vs =
    pick (every known vs && leb (k + length vs) 64) (record { call = n; filler = f; count = k + length vs; args = sets args k vs }) bad

pub given_all : (n f : ℕ) (vs : List ℕ) → given_from n f 0 zeros vs ≡ given n f vs
unfolding given_from given line
given_all n f vs = let e : 0 + length vs ≡ length vs = omega arith in rw e

module _ (n f k : ℕ) (args : List ℕ) where
  pub given_next : (v : ℕ) (vs : List ℕ) → v < no_number → given_from n f k args (v ∷ vs) ≡ given_from n f (k + 1) (set args k v) vs
  unfolding given_from
  given_next v vs h =
      let e : k + suc (length vs) ≡ suc k + length vs = omega arith in
      rw (add-one k, lt-ltb v no_number h, e)

  pub given_none : k ≤ 64 → record { call = n; filler = f; count = k; args = args } ≡ given_from n f k args []
  unfolding given_from
  given_none h = let e : k + 0 ≡ k = omega arith in rw (e, le-leb k 64 h)

  pub given_odd : (v : ℕ) (vs : List ℕ) → no_number ≤ v → bad ≡ given_from n f k args (v ∷ vs)
  unfolding given_from
  given_odd v vs h = rw (le-ltb v no_number h)

  pub given_past : (v : ℕ) (vs : List ℕ) → 64 ≤ k → bad ≡ given_from n f k args (v ∷ vs)
  unfolding given_from
  given_past v vs h = rw (lt-leb (k + suc (length vs)) 64 (omega arith), and-false (every known (v ∷ vs)))

  pub given_full : (vs : List ℕ) → 64 < k → bad ≡ given_from n f k args vs
  unfolding given_from
  given_full vs h = rw (lt-leb (k + length vs) 64 (omega arith), and-false (every known vs))

-- ---- the whole line

first_is : (vs : List ℕ) → get_or (sets zeros 0 vs) 0 0 ≡ get_or vs 0 0
unfolding zeros
first_is [] = refl
first_is (v ∷ vs) = get_d_sets_out vs (set zeros 0 v) 1 0 0 (inl (omega arith))

-- l as the arguments gave it, and whether it may stand
pub called_is : (stage : ℕ) (f : ℕ) (w : List ℕ) (ws : List (List ℕ)) (l : Line) (t : Bool) → l ≡ given (call_of w) f (map value ws)
    → t ≡ allowed stage l.call l.count (get_or l.args 0 0) → pick t l bad ≡ called stage f w ws
unfolding line given called
called_is stage f w ws l t e a = go (every known vs && leb (length vs) 64) e
  where
    vs : List ℕ
    vs = map value ws

    may : Bool
    may = allowed stage (call_of w) (length vs) (get_or vs 0 0)

    go : (b : Bool) → l ≡ pick b (line (call_of w) f vs) bad → pick t l bad ≡ pick may (pick b (line (call_of w) f vs) bad) bad
    go true q =
        let h : t ≡ may = a ∙ ap (λ l. allowed stage l.call l.count (get_or l.args 0 0)) q ∙ ap (allowed stage (call_of w) (length vs)) (first_is vs) in
        rw (h, q)
    go false q = rw q (pick_same t bad ∙ sym (pick_same may bad))

-- a word that names no call
pub called_none : (stage f : ℕ) (w : List ℕ) (ws : List (List ℕ)) → 0 ≡ call_of w → bad ≡ called stage f w ws
unfolding called allowed
called_none stage f w ws e = rw (← e)

-- ---- after `as`

module _ (stage : ℕ) (w : List ℕ) where
  -- no number
  pub acting_odd : (ws : List (List ℕ)) → no_number ≤ value w → bad ≡ acting stage (w ∷ ws)
  unfolding acting
  acting_odd ws h = rw (le-ltb (value w) no_number h)

  -- no call
  pub acting_alone : bad ≡ acting stage (w ∷ [])
  unfolding acting bytes value names word_names placed named call_of fillers
  acting_alone = rw (and-false (known (value w)))

  -- a number, and a call
  module _ (c : List ℕ) (ws : List (List ℕ)) (h : value w < no_number) where
    pub acting_call : get_or fillers (call_of c) 0 ≡ 1 → called stage (value w) c ws ≡ acting stage (w ∷ c ∷ ws)
    unfolding acting
    acting_call e = rw (lt-ltb (value w) no_number h, eq-eqb (get_or fillers (call_of c) 0) 1 e)

    pub acting_other : (get_or fillers (call_of c) 0 ≡ 1 → ⊥) → bad ≡ acting stage (w ∷ c ∷ ws)
    unfolding acting
    acting_other e = rw (ne_eqb (get_or fillers (call_of c) 0) 1 e, and-false (known (value w)))

-- ---- the first word

module _ (stage : ℕ) (w : List ℕ) (ws : List (List ℕ)) where
  pub said_as : (l : Line) → w ≡ bytes "as" → l ≡ acting stage ws → l ≡ said stage (w ∷ ws)
  unfolding said
  said_as l e h = rw (e, equal_self eqb (λ x. eq-eqb x x refl) (bytes "as")) h

  pub said_call : (l : Line) → (w ≡ bytes "as" → ⊥) → l ≡ called stage 0 w ws → l ≡ said stage (w ∷ ws)
  unfolding said
  said_call l e h = by_test (equal eqb w (bytes "as")) (λ q. absurd (e (equal_is eqb eqb-true w (bytes "as") q))) (λ q. rw q h)

-- ---- the mark in front

-- std's test of two lists
pub equal_pointwise : (xs ys : List ℕ) → equal eqb xs ys ≡ pointwise eqb xs ys
equal_pointwise [] [] = refl
equal_pointwise [] (y ∷ ys) = refl
equal_pointwise (x ∷ xs) [] = refl
equal_pointwise (x ∷ xs) (y ∷ ys) = ap (λ t. eqb x y && t) (equal_pointwise xs ys)

module _ (l : List ℕ) where
  pub unmarked_mark : take 3 l ≡ mark → take (length l - 3) (drop 3 l) ≡ unmarked l
  unfolding unmarked
  unmarked_mark e = rw (e, ← length-drop 3 l) (take-length (drop 3 l))

  pub unmarked_other : (take 3 l ≡ mark → ⊥) → l ≡ unmarked l
  unfolding unmarked
  unmarked_other e = by_test (equal eqb (take 3 l) mark) (λ q. absurd (e (equal_is eqb eqb-true (take 3 l) mark q))) (λ q. rw q)

  -- as a search for the mark in front says it
  pub unmarked_rest : (r : List ℕ) → pointwise eqb (take 3 l) mark ≡ true → r ≡ drop 3 l → r ≡ unmarked l
  unfolding unmarked
  unmarked_rest r e h = h ∙ rw (equal_pointwise (take 3 l) mark ∙ e)

  pub unmarked_whole : pointwise eqb (take 3 l) mark ≡ false → l ≡ unmarked l
  unfolding unmarked
  unmarked_whole e = rw (equal_pointwise (take 3 l) mark ∙ e)

  pub unmarked_short : length l < 3 → l ≡ unmarked l
  unmarked_short h = unmarked_other (λ e. absurd (omega (arith, ap length e, length-take 3 l)))

-- ---- a line that asks for pages stands where no store is made, and asks for 257 at most

abbrev FewPages : ℕ → Line → Type 0
FewPages stage x = x.call ≡ 1 → (stage < 2) × (get_or x.args 0 0 ≤ 257)

few_pick : (stage : ℕ) (t : Bool) (x y : Line) → (t ≡ true → FewPages stage x) → FewPages stage y → FewPages stage (pick t x y)
few_pick stage true x y f g = f refl
few_pick stage false x y f g = g

few_bad : (stage : ℕ) → FewPages stage bad
unfolding line bad
few_bad stage e = absurd (omega (arith, e))

few_allowed : (stage n k a : ℕ) → allowed stage n k a ≡ true → n ≡ 1 → (stage < 2) × (a ≤ 257)
unfolding allowed
few_allowed stage n k a q e =
    let h = both (ltb stage 2) (leb a 257) (both (takes 1 k) (ltb stage 2 && leb a 257) (rw e at q)).1 in
    (ltb-true stage 2 h.0, leb-true a 257 h.1)

few_called : (stage f : ℕ) (w : List ℕ) (ws : List (List ℕ)) → FewPages stage (called stage f w ws)
unfolding line given called
few_called stage f w ws =
    let vs = map value ws in
    let may = allowed stage (call_of w) (length vs) (get_or vs 0 0) in
    let few : may ≡ true → FewPages stage (line (call_of w) f vs) = λ q e. subst (λ a. (stage < 2) × (a ≤ 257)) (sym (first_is vs)) (few_allowed stage (call_of w) (length vs) (get_or vs 0 0) q e) in
    few_pick stage may _ _ (λ q. few_pick stage (every known vs && leb (length vs) 64) _ _ (λ _. few q) (few_bad stage)) (few_bad stage)

few_acting : (stage : ℕ) (ws : List (List ℕ)) → FewPages stage (acting stage ws)
unfolding acting
few_acting stage [] = few_bad stage
few_acting stage (w ∷ ws) =
    let c = get_or ws 0 [] in
    few_pick stage (known (value w) && eqb (get_or fillers (call_of c) 0) 1) (called stage (value w) c (drop 1 ws)) bad (λ _. few_called stage (value w) c (drop 1 ws)) (few_bad stage)

few_said : (stage : ℕ) (ws : List (List ℕ)) → FewPages stage (said stage ws)
unfolding said line
few_said stage [] = λ e. absurd (omega (arith, e))
few_said stage (w ∷ ws) = few_pick stage (equal eqb w (bytes "as")) (acting stage ws) (called stage 0 w ws) (λ _. few_acting stage ws) (few_called stage 0 w ws)

pub few_heard : (stage : ℕ) (first : Bool) (l : List ℕ) → FewPages stage (heard stage first l)
unfolding heard fitting scanned
few_heard stage first l = let k = pick first (unmarked l) l in few_pick stage (leb (length k) longest_line) (said stage (tokens k)) bad (λ _. few_said stage (tokens k)) (few_bad stage)
