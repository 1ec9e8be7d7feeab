-- Laws of `front` and `tokens`: a line begins with blanks, then a word, and goes on with the words after it.
-- Assumes nothing.
use Rattle.std.specs.Prelude.{◌≡◌, refl, cond, min, Bool, true, false, not, ◌||◌, List, [], ◌∷◌, ℕ, suc, ◌+◌, ◌-◌, ◌≤◌, ◌<◌, eqb, length, get_or, take, drop}
use Rattle.std.specs.List.{take_while, prefix_len}
use Rattle.std.proofs.Math.Seq.{take-length}
use Rattle.std.proofs.lemmas.List.{drop_min}
use Rattle.std.proofs.Common.{sym, ap, ◌∙◌, add-one, one-add, arith, length-drop, drop_of_length-le, drop-cons, drop-drop, ne_eqb}
use Rattle.std.proofs.lemmas.Bool.{false≢true, not-true}
use Rattle.lists.specs.Lists.{pick}
use Rattle.lists.specs.Laws.Tests.{neither}
use Rattle.script.specs.Script.{blank, in_word, grown, tokens, front, of_class}
use Rattle.script.specs.Found.{NextWord, LineAt}

-- ---- the bytes in front that pass a test

module _ (f : ℕ → Bool) where
  pub front_take : (l : List ℕ) → take (length (front f l)) l ≡ front f l
  front_take [] = refl
  front_take (b ∷ l) = go (f b) (front_take l)
    where
      go : (t : Bool) → take (length (front f l)) l ≡ front f l → take (length (pick t (b ∷ front f l) [])) (b ∷ l) ≡ pick t (b ∷ front f l) []
      go true e = ap (λ k. b ∷ k) e
      go false e = refl

  pub front_length : (l : List ℕ) → length (front f l) ≤ length l
  front_length [] = omega arith
  front_length (b ∷ l) = go (f b) (front_length l)
    where
      go : (t : Bool) → length (front f l) ≤ length l → length (pick t (b ∷ front f l) []) ≤ suc (length l)
      go true e = omega arith
      go false e = omega arith

  -- what comes after them begins with none
  front_after : (l : List ℕ) → length (front f (drop (length (front f l)) l)) ≡ 0
  front_after [] = refl
  front_after (b ∷ l) = go (f b) refl (front_after l)
    where
      go : (t : Bool) → f b ≡ t → length (front f (drop (length (front f l)) l)) ≡ 0 → length (front f (drop (length (pick t (b ∷ front f l) [])) (b ∷ l))) ≡ 0
      go true e h = h
      go false e h = rw e

  -- at a place of a list
  pub front_more : (l : List ℕ) (i : ℕ) → i < length l → f (get_or l i 0) ≡ true → length (front f (drop i l)) ≡ 1 + length (front f (drop (i + 1) l))
  front_more l i h e = rw (add-one i, drop-cons l i 0 h, e) (omega arith)

  pub front_stop : (l : List ℕ) (i : ℕ) → i < length l → f (get_or l i 0) ≡ false → length (front f (drop i l)) ≡ 0
  front_stop l i h e = rw (drop-cons l i 0 h, e)

  pub front_end : (l : List ℕ) (i : ℕ) → length l ≤ i → length (front f (drop i l)) ≡ 0
  front_end l i h = rw (drop_of_length-le l {i = i} h)

  -- as std has it
  front_is : (l : List ℕ) → take_while f l ≡ front f l
  front_is [] = refl
  front_is (b ∷ l) = go (f b) (front_is l)
    where
      go : (t : Bool) → take_while f l ≡ front f l → take (cond t (1 + prefix_len f l) 0) (b ∷ l) ≡ pick t (b ∷ front f l) []
      go true e = rw (one-add (prefix_len f l)) (ap (λ k. b ∷ k) e)
      go false e = refl

  -- in the part of a list that begins at a place, or at the end
  pub front_part : (l : List ℕ) (at from r : ℕ) → from ≡ min at (length l) → r ≡ length (take_while f (take (length l - from) (drop from l))) → r ≡ length (front f (drop at l))
  front_part l at from r e h =
      h ∙ rw (← length-drop from l, take-length (drop from l), front_is (drop from l), e, drop_min at l)

-- ---- blanks, and then a word or none

tokens_skip : (b : ℕ) (l : List ℕ) → blank b ≡ true → tokens (b ∷ l) ≡ tokens l
unfolding tokens blank
tokens_skip b l e = let h : eqb b 35 ≡ false = ne_eqb b 35 (λ q. false≢true (sym (ap blank q) ∙ e)) in rw (h, e)

tokens_blanks : (l : List ℕ) → tokens (drop (length (front blank l)) l) ≡ tokens l
tokens_blanks [] = refl
tokens_blanks (b ∷ l) = go (blank b) refl (tokens_blanks l)
  where
    go : (t : Bool) → blank b ≡ t → tokens (drop (length (front blank l)) l) ≡ tokens l → tokens (drop (length (pick t (b ∷ front blank l) [])) (b ∷ l)) ≡ tokens (b ∷ l)
    go true e h = h ∙ sym (tokens_skip b l e)
    go false e h = refl

tokens_none : (l : List ℕ) → length (front blank l) ≡ 0 → length (front in_word l) ≡ 0 → tokens l ≡ []
unfolding tokens in_word
tokens_none [] h k = refl
tokens_none (b ∷ l) h k = go (eqb b 35) (blank b) h k
  where
    go : (p q : Bool) → length (pick q (b ∷ front blank l) []) ≡ 0 → length (pick (not (p || q)) (b ∷ front in_word l) []) ≡ 0
        → pick p [] (pick q (tokens l) (pick (in_word (get_or l 0 32)) (grown b (tokens l)) ((b ∷ []) ∷ tokens l))) ≡ []
    go true q h k = refl
    go false true h k = absurd (omega arith)
    go false false h k = absurd (omega arith)

tokens_begin : (b : ℕ) (l : List ℕ) → in_word b ≡ true → tokens (b ∷ l) ≡ pick (in_word (get_or l 0 32)) (grown b (tokens l)) ((b ∷ []) ∷ tokens l)
unfolding tokens in_word
tokens_begin b l e = let q = neither (eqb b 35) (blank b) (not-true _ e) in rw (q.0, q.1)

-- a list begins with a word if its first byte does
begins : (l : List ℕ) → in_word (get_or l 0 32) ≡ true → 0 < length (front in_word l)
unfolding in_word blank
begins [] e = absurd (false≢true e)
begins (b ∷ l) e = rw e (omega arith)

begins_not : (l : List ℕ) → in_word (get_or l 0 32) ≡ false → front in_word l ≡ []
begins_not [] e = refl
begins_not (b ∷ l) e = rw e

tokens_word : (l : List ℕ) → 0 < length (front in_word l) → tokens l ≡ front in_word l ∷ tokens (drop (length (front in_word l)) l)
tokens_word [] h = absurd (omega arith)
tokens_word (b ∷ l) h = go (in_word b) refl (in_word (get_or l 0 32)) refl h (tokens_word l)
  where
    go : (p : Bool) → in_word b ≡ p → (q : Bool) → in_word (get_or l 0 32) ≡ q → 0 < length (pick p (b ∷ front in_word l) [])
        → (0 < length (front in_word l) → tokens l ≡ front in_word l ∷ tokens (drop (length (front in_word l)) l))
        → tokens (b ∷ l) ≡ pick p (b ∷ front in_word l) [] ∷ tokens (drop (length (pick p (b ∷ front in_word l) [])) (b ∷ l))
    go true e true g h ih = tokens_begin b l e ∙ rw (g, ih (begins l g))
    go true e false g h ih = tokens_begin b l e ∙ rw (g, begins_not l g)
    go false e q g h ih = absurd (omega arith)

-- ---- at a place of a list

pub next_word : (l : List ℕ) (at from to : ℕ) → from ≡ at + length (front (of_class 0) (drop at l)) → to ≡ from + length (front (of_class 1) (drop from l)) → NextWord l at from to
unfolding of_class
next_word l at from to e f = record {
  ends = λ h. skipped ∙ tokens_none (drop from l) (rw (ap (λ n. drop n l) e ∙ sym (drop-drop _ at l)) (front_after blank (drop at l))) (omega arith);
  follows = λ h.
      let n : to - from ≡ length (front in_word (drop from l)) = omega arith in
      skipped ∙ rw (n, front_take in_word (drop from l), f, sym (drop-drop (length (front in_word (drop from l))) from l)) (tokens_word (drop from l) (omega arith));
  onward = omega arith;
  within = omega (arith, front_length in_word (drop from l), length-drop from l);
}
  where
    skipped : tokens (drop at l) ≡ tokens (drop from l)
    skipped = sym (tokens_blanks (drop at l)) ∙ ap tokens (drop-drop (length (front blank (drop at l))) at l ∙ ap (λ n. drop n l) (sym e))

pub line_none : (l : List ℕ) (at : ℕ) → length l ≤ at → LineAt l at []
line_none l at h = record { is = rw (drop_of_length-le l {i = at} h); within = omega arith }

pub line_at : (l : List ℕ) (at end : ℕ) → at ≤ length l → end ≡ at + length (front (of_class 2) (drop at l)) → LineAt l at (take (end - at) (drop at l))
line_at l at end h e =
    let n : end - at ≡ length (front (of_class 2) (drop at l)) = omega arith in
    rw (n, front_take (of_class 2) (drop at l)) record { is = refl; within = omega (arith, front_length (of_class 2) (drop at l), length-drop at l) }
