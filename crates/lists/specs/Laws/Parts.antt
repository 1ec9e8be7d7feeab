-- The front of a list, and a part of it by its place and its length, as far as the list goes.
-- Assumes nothing.
use Rattle.std.specs.Prelude.{◌≡◌, List, ℕ, ◌+◌, ◌-◌, min, leb, length, take, drop}
use Rattle.std.proofs.Common.{sym, ap, ◌∙◌, arith, length-drop, drop_of_length-le, take_all, leb-true, leb-false}
use Rattle.lists.specs.Laws.Tests.{by_test}

module _ {A : Type 0} where
  -- n is how many of k elements there are
  pub front_same : (k : ℕ) (l : List A) (n : ℕ) → n ≡ min k (length l) → take n l ≡ take k l
  front_same k l n e =
      by_test (leb k (length l))
      (λ q. let f : n ≡ k = omega (arith, e, leb-true k (length l) q) in rw f)
      (λ q. let h = leb-false k (length l) q in take_all n l (omega (arith, e, h)) ∙ sym (take_all k l (omega (arith, h))))

  module _ (l : List A) (at k : ℕ) where
    -- the same from `at` on
    pub part_taken : (n : ℕ) → n ≡ min k (length l - at) → take n (drop at l) ≡ take k (drop at l)
    part_taken n e = front_same k (drop at l) n (e ∙ ap (min k) (sym (length-drop at l)))

    drop_within : (a : ℕ) → a ≡ min at (length l) → drop a l ≡ drop at l
    drop_within a e =
        by_test (leb at (length l))
        (λ q. let f : a ≡ at = omega (arith, e, leb-true at (length l) q) in rw f)
        (λ q. let h = leb-false at (length l) q in drop_of_length-le l {i = a} (omega (arith, e, h)) ∙ sym (drop_of_length-le l {i = at} (omega (arith, h))))

    -- and a is where they begin: the end of the list, where `at` is further
    pub part_cut : (a n : ℕ) → a ≡ min at (length l) → n ≡ min k (length l - at) → take (a + n - a) (drop a l) ≡ take k (drop at l)
    part_cut a n begins counted = let e : a + n - a ≡ n = omega arith in rw (e, drop_within a begins) (part_taken n counted)
