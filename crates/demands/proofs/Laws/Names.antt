-- Card 2: the lists of names that a joint delete refuses by 22, by 2 and by 3.
-- Assumes nothing.
use Rattle.std.specs.Prelude.{◌≡◌, ◌↔◌, ◌≢◌, ◌⊎◌, Bool, ◌||◌, ltb, length}
use Rattle.std.proofs.Math.Path.{refl}
use Rattle.std.proofs.Common.{sym, ap, ◌∙◌, true≢false, arith}
use Rattle.std.proofs.Math.Logic.{inl, inr}
use Rattle.std.proofs.Math.Bool.{true, false}
use Rattle.std.proofs.lemmas.Bool.{false≢true}
use mathlib.Core.List.{List, [], ◌∷◌, ◌++◌}
use Prim.Native.Nat.{ℕ, ◌≤◌, ◌<◌}
use Rattle.std.proofs.Math.Dec.{eqb}
use borrow.Author.Tests.{eqb-true, eqb-false, eq-eqb, ne_eqb, ltb-true, ltb-false, lt-ltb, le-ltb, not-false}
use Rattle.lists.specs.Lists.{pick, All, from, times, among, repeats}
use Rattle.lists.specs.Laws.Tests.{by_test, neither, or_other}
use Rattle.lists.specs.Laws.All.{all_map}
use Rattle.lists.specs.Laws.Finds.{any_count}
use Rattle.lists.specs.Laws.UpTo.{any_one}
use Rattle.lists.specs.Laws.Kept.{repeats_once}
use Rattle.model.specs.Model.{delete_all}
use Rattle.model.specs.Calls.{reason, ◌yields◌, no_filler, wrong_names, name_tests}
use Rattle.regions.specs.Regions.{name_at, entry_in, entry_of, is_live}
use Rattle.regions.specs.Laws.Entries.{entry_found, entry_named, entry_used}
use Rattle.outcomes.specs.Store.{Store, regions}
use Rattle.outcomes.specs.Outcome.{bad_length, dead, checks, refusal}
use Rattle.outcomes.specs.Examples.{small}
use Rattle.promises.specs.Promises.{Refusals}
use Rattle.promises.specs.Laws.Refused.{refusals}
use Rattle.demands.specs.Later.{Lives, WrongList, FirstWrong, NamesNext}

-- ---- 22, by the list alone

repeats_twice : (l : List ℕ) → repeats l ≡ true → (r : ℕ) × (2 ≤ times r l)
repeats_twice [] e = absurd (false≢true e)
repeats_twice (x ∷ xs) e = by_test (among x xs)
    (λ t. (x, rw (eq-eqb x x refl) (omega (arith, ltb-true 0 (times x xs) (sym (any_count (λ y. eqb y x) xs) ∙ t)))))
    (λ t. let q = repeats_twice xs (or_other (among x xs) (repeats xs) e t) in (q.0, omega (arith, q.1)))

-- a name that stands twice is enough
twice_wrong : (l : List ℕ) → repeats l ≡ true → WrongList l
twice_wrong l e = let q = repeats_twice l e in inr (inr (q.0, omega (arith, q.1)))

-- where there is a name, and none twice, it takes more than 16
wrong_long : (l : List ℕ) → length l ≢ 0 → ((r : ℕ) → times r l ≤ 1) → WrongList l → 16 < length l
wrong_long l some once (inl z) = absurd (some z)
wrong_long l some once (inr (inl h)) = omega (arith, h)
wrong_long l some once (inr (inr (r, h))) = absurd (omega (arith, h, once r))

-- the test finds just these lists
wrong_tested : (l : List ℕ) → WrongList l → wrong_names l ≡ true
unfolding wrong_names
wrong_tested l w = by_test (wrong_names l)
    (λ e. e)
    (λ e.
    let p = neither (eqb (length l) 0 || ltb 16 (length l)) (repeats l) e in
    let q = neither (eqb (length l) 0) (ltb 16 (length l)) p.0 in
    absurd (omega (arith, ltb-false 16 (length l) q.1, wrong_long l (eqb-false (length l) 0 q.0) (repeats_once l p.1) w)))

tested_wrong : (l : List ℕ) → wrong_names l ≡ true → WrongList l
unfolding wrong_names
tested_wrong l e = by_test (eqb (length l) 0)
    (λ z. inl (eqb-true (length l) 0 z))
    (λ z. by_test (ltb 16 (length l))
    (λ h. inr (inl (omega (arith, ltb-true 16 (length l) h))))
    (λ h. twice_wrong l (or_other (eqb (length l) 0 || ltb 16 (length l)) (repeats l) e (rw (z, h)))))

-- ---- live names

module _ (S : Store) (r : ℕ) where
  passed_lives : dead S r ≡ false → Lives S r
  unfolding dead is_live name_at entry_of
  passed_lives e =
      let low = ltb-true (entry_of (regions S) r) 64 (not-false (is_live (regions S) r) e) in
      let named : name_at (regions S) (entry_of (regions S) r) ≡ r = entry_named (regions S).names r low in
      ((λ z. entry_used (regions S) r low (named ∙ z)), (entry_of (regions S) r, low, named))

  lives_passed : Lives S r → dead S r ≡ false
  unfolding dead is_live
  lives_passed (some, (i, low, e)) =
      let at = entry_found (regions S) r some (any_one (λ i. eqb (name_at (regions S) i) r) 64 i low (eq-eqb (name_at (regions S) i) r e)) in
      rw (lt-ltb (entry_of (regions S) r) 64 at.0)

  dead_none : dead S r ≡ true → Lives S r → ⊥
  dead_none d h = true≢false (sym d ∙ lives_passed h)

  none_dead : (Lives S r → ⊥) → dead S r ≡ true
  none_dead n = by_test (dead S r) (λ d. d) (λ d. absurd (n (passed_lives d)))

-- ---- 2 and 3, name by name

module _ (S : Store) where
  -- each name before the first wrong one passes both tests
  before_passes : (l : List ℕ) (r : ℕ) (w : FirstWrong S l r) → All (λ q. (dead S q ≡ false) × (eqb q 1 ≡ false)) w.before
  before_passes l r w = all_map (λ q h. (lives_passed S q h.0, ne_eqb q 1 (λ e. omega (arith, e, h.1)))) w.before w.passed

  -- the first wrong name is the first of all, or that of the rest
  here : (x : ℕ) (l : List ℕ) (r : ℕ) → x ≡ r → (Lives S r → ⊥) ⊎ (r ≡ 1) → FirstWrong S (x ∷ l) r
  here x l r e w = record { before = []; behind = l; parts = ap (λ y. y ∷ l) e; passed = tt; wrong = w }

  further : (x : ℕ) (l : List ℕ) (r : ℕ) → Lives S x → x ≢ 1 → FirstWrong S l r → FirstWrong S (x ∷ l) r
  further x l r h o w = record { before = x ∷ w.before; behind = w.behind; parts = ap (λ m. x ∷ m) w.parts; passed = ((h, λ e. omega arith), w.passed); wrong = w.wrong }

  -- the number n has its reason in the list: 2, 3, or neither, and not 22
  abbrev Decided : List ℕ → ℕ → Type 0
  Decided l n = ((n ≡ 2) × ((r : ℕ) × FirstWrong S l r × (Lives S r → ⊥))) ⊎ ((n ≡ 3) × (FirstWrong S l 1 × Lives S 1)) ⊎ ((n ≢ 2) × (n ≢ 3) × (n ≢ 22))

  module _ (l : List ℕ) (n : ℕ) where
    by_2 : Decided l n → n ≡ 2 → (r : ℕ) × FirstWrong S l r × (Lives S r → ⊥)
    by_2 (inl (e, x)) k = x
    by_2 (inr (inl (e, x))) k = absurd (omega (arith, e, k))
    by_2 (inr (inr h)) k = absurd (h.0 k)

    by_3 : Decided l n → n ≡ 3 → FirstWrong S l 1 × Lives S 1
    by_3 (inl (e, x)) k = absurd (omega (arith, e, k))
    by_3 (inr (inl (e, x))) k = x
    by_3 (inr (inr h)) k = absurd (h.1 k)

    not_22 : Decided l n → n ≢ 22
    not_22 (inl (e, x)) k = omega (arith, e, k)
    not_22 (inr (inl (e, x))) k = omega (arith, e, k)
    not_22 (inr (inr h)) k = h.2 k

  -- the tests of the names, with those for 18 and 19 after them
  module _ (c d : Bool) where
    abbrev tests : List ℕ → ℕ
    tests l = reason (name_tests (dead S) l ++ (c yields 18 ∷ d yields 19 ∷ []))

    -- names that pass leave it to the others
    passed_on : (before behind : List ℕ) → All (λ q. (dead S q ≡ false) × (eqb q 1 ≡ false)) before → tests (before ++ behind) ≡ tests behind
    unfolding name_tests
    passed_on [] behind h = refl
    passed_on (q ∷ before) behind h = rw (h.0.0, h.0.1) (passed_on before behind h.1)

    first_decides : (l : List ℕ) (r : ℕ) (w : FirstWrong S l r) → tests l ≡ tests (r ∷ w.behind)
    first_decides l r w = ap (λ m. tests m) w.parts ∙ passed_on w.before (r ∷ w.behind) (before_passes l r w)

    dead_first : (l : List ℕ) (r : ℕ) → FirstWrong S l r → (Lives S r → ⊥) → tests l ≡ 2
    unfolding name_tests
    dead_first l r w n = first_decides l r w ∙ rw (none_dead S r n)

    one_first : (l : List ℕ) → FirstWrong S l 1 → Lives S 1 → tests l ≡ 3
    unfolding name_tests
    one_first l w h = first_decides l 1 w ∙ rw (lives_passed S 1 h)

    decided : (l : List ℕ) → Decided l (tests l)
    unfolding name_tests
    decided [] = inr (inr (last c d))
      where
        last : (c d : Bool) → let n : ℕ = pick c 18 (pick d 19 0) in (n ≢ 2) × (n ≢ 3) × (n ≢ 22)
        last true d = ((λ k. omega (arith, k)), (λ k. omega (arith, k)), (λ k. omega (arith, k)))
        last false true = ((λ k. omega (arith, k)), (λ k. omega (arith, k)), (λ k. omega (arith, k)))
        last false false = ((λ k. omega (arith, k)), (λ k. omega (arith, k)), (λ k. omega (arith, k)))
    decided (x ∷ l) = by_test (dead S x)
        (λ z. let n = dead_none S x z in inl (rw z, (x, here x l x refl (inl n), n)))
        (λ z. by_test (eqb x 1)
        (λ o. let e = eqb-true x 1 o in inr (inl (rw (z, o), (here x l 1 e (inr refl), passed_lives S 1 (ap (dead S) (sym e) ∙ z)))))
        (λ o. rw (z, o) (on (tests l) (passed_lives S x z) (eqb-false x 1 o) (decided l))))
      where
        on : (n : ℕ) → Lives S x → x ≢ 1 → Decided l n → Decided (x ∷ l) n
        on n h o (inl (e, (r, w, k))) = inl (e, (r, further x l r h o w, k))
        on n h o (inr (inl (e, (w, k)))) = inr (inl (e, (further x l 1 h o w, k)))
        on n h o (inr (inr e)) = inr (inr e)

-- ---- the call

call_tests : (l : List ℕ) (f : ℕ) (S : Store)
    → (c : Bool) × (d : Bool) × (checks S (delete_all l f) ≡ bad_length S yields 21 ∷ no_filler f yields 23 ∷ wrong_names l yields 22 ∷ name_tests (dead S) l ++ (c yields 18 ∷ d yields 19 ∷ []))
unfolding checks
call_tests l f S = (_, _, refl)

-- n is what it answers, where the length and the filler pass
module _ (l : List ℕ) (S : Store) (c d : Bool) (n : ℕ) (e : n ≡ pick (wrong_names l) 22 (tests S c d l)) where
  answers_22 : (n ≡ 22) ↔ WrongList l
  answers_22 = ((λ k. tested_wrong l (only (wrong_names l) (sym e ∙ k))), (λ w. e ∙ rw (wrong_tested l w)))
    where
      only : (b : Bool) → pick b 22 (tests S c d l) ≡ 22 → b ≡ true
      only true k = refl
      only false k = absurd (not_22 S l (tests S c d l) (decided S c d l) k)

  names_decide : (WrongList l → ⊥) → n ≡ tests S c d l
  names_decide ok = e ∙ ap (λ b. pick b 22 (tests S c d l)) (by_test (wrong_names l) (λ w. absurd (ok (tested_wrong l w))) (λ w. w))

  answers_2 : (WrongList l → ⊥) → (n ≡ 2) ↔ ((r : ℕ) × FirstWrong S l r × (Lives S r → ⊥))
  answers_2 ok = let t = names_decide ok in ((λ k. by_2 S l (tests S c d l) (decided S c d l) (sym t ∙ k)), (λ w. t ∙ dead_first S c d l w.0 w.1 w.2))

  answers_3 : (WrongList l → ⊥) → (n ≡ 3) ↔ (FirstWrong S l 1 × Lives S 1)
  answers_3 ok = let t = names_decide ok in ((λ k. by_3 S l (tests S c d l) (decided S c d l) (sym t ∙ k)), (λ w. t ∙ one_first S c d l w.0 w.1))

pub names_next : NamesNext
unfolding NamesNext Refusals refusal
names_next l f S a T q fits small =
    let k = call_tests l f S in
    let e : a.refusal ≡ pick (wrong_names l) 22 (tests S k.0 k.1 l) = (refusals (delete_all l f) S a T q).0 ∙ ap (λ ts. reason ts) k.2 ∙ rw (fits, le-ltb 3 f small) in
    (answers_22 l S k.0 k.1 a.refusal e, (λ ok. (answers_2 l S k.0 k.1 a.refusal e ok, answers_3 l S k.0 k.1 a.refusal e ok)))

-- ---- cases, each false of an edit that must be refused

-- sixteen_names_too_many: 17 are
pub sixteen : (WrongList (from 2 16) → ⊥) × WrongList (from 2 17)
unfolding wrong_names
sixteen = ((λ w. false≢true (wrong_tested (from 2 16) w)), inr (inl (omega arith)))

-- region_1_passed_over: of the memory `small` regions 1 and 5 live, and 9 does not
pub in_turn : FirstWrong small (5 ∷ 1 ∷ 9 ∷ []) 1 × (FirstWrong small (5 ∷ 1 ∷ 9 ∷ []) 9 → ⊥)
unfolding name_tests dead is_live entry_of entry_in
in_turn = (
  further small 5 (1 ∷ 9 ∷ []) 1 (passed_lives small 5 refl) (λ e. omega (arith, e)) (here small 1 (9 ∷ []) 1 refl (inr refl)),
  (λ w. let e : ◌≡◌ {A = ℕ} 3 2 = dead_first small false false (5 ∷ 1 ∷ 9 ∷ []) 9 w (dead_none small 9 refl) in omega (arith, e)),
)
