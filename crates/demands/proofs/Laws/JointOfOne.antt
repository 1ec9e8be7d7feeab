-- A list of one name for delete_all has the outcomes of delete, on every memory but where the region is entered as its own region above and has no other subregion; so after every run.
-- Assumes nothing.
use Rattle.std.proofs.Math.Path.{◌≡◌, refl, sym, ap, subst⁻¹, fun_ext}
use Rattle.std.proofs.Common.{◌∙◌, inl, inr, append-nil, add-zero, add-one}
use Rattle.std.specs.Prelude.{◌↔◌, ◌≢◌, ◌&&◌, ◌||◌, List, [], ◌∷◌, get_or}
use Rattle.std.proofs.Math.Bool.{Bool, true, false, not, or-false}
use Prim.Native.Nat.{ℕ, zero, suc, ◌+◌, ◌≤◌, ◌<◌}
use native.Mathlib.Omega.{arith}
use Rattle.std.proofs.Math.Dec.{eqb, eqb-suc-suc}
use borrow.Author.Tests.{eqb-true, eqb-false, eq-eqb, ne_eqb, ltb-true, not-false}
use Rattle.lists.specs.Lists.{bit, pick, every, sum_of, count_of, up_to, times, among}
use Rattle.lists.specs.Laws.Tests.{by_test, both}
use Rattle.lists.specs.Laws.Finds.{every_zero}
use Rattle.lists.specs.Laws.UpTo.{sum_change}
use Rattle.lists.specs.Laws.Kept.{among_alone, sum_one}
use Rattle.model.specs.Model.{Model, delete, delete_all, gives, refused_by}
use Rattle.model.specs.Calls.{no_filler, wrong_names, name_tests}
use Rattle.regions.specs.declared.Regions.{Regions}
use Rattle.regions.specs.Regions.{name_at, entry_of, tag_of, is_live, parent_at, level_at, subregions_in, subregions_of, follows_in, closed_in, count_at}
use Rattle.regions.specs.Laws.Entries.{entry_used}
use Rattle.regions.specs.Laws.Counts.{rolled_exact}
use Rattle.regions.specs.Laws.Recount.{total_below}
use Rattle.pages.specs.Pages.{pages_of}
use Rattle.objects.specs.Objects.{free_words_of, out_of}
use Rattle.objects.specs.Laws.Leaving.{out_own}
use Rattle.outcomes.specs.Store.{Store, kinds, regions, pages, led_into, led_among}
use Rattle.outcomes.specs.Outcome.{Outcome, Accepted, Answered, bad_length, dead, outgoing, count_but, checks, refusal}
use Rattle.outcomes.proofs.Laws.Steps.{by_refusal}
use Rattle.outcomes.proofs.Laws.Tree.{Place, entry_above}
use Rattle.promises.specs.Promises.{Refusals}
use Rattle.promises.specs.Laws.Refused.{refusals}
use Rattle.refinement.specs.Laws.Together.{led_each}
use Rattle.audited.specs.Laws.Audited.{audited}
use Rattle.audited.specs.Laws.Good.{Good}
use Rattle.demands.specs.Later.{SameAsDelete, OnlyItself, JointOfOne}
use Rattle.demands.proofs.Laws.Steps.{run_told}
use Rattle.demands.proofs.Laws.Demand3.{start_told}

-- ---- 18, by the arrays

-- no number but k passes below n where as many pass as k alone
every_but : (f : ℕ → Bool) (n k : ℕ) → k < n → every (λ i. eqb (pick (eqb i k) 0 (bit (f i))) 0) (up_to n) ≡ eqb (count_of f (up_to n)) (bit (f k))
every_but f n k h =
    let rest : ℕ → ℕ = λ i. pick (eqb i k) 0 (bit (f i)) in
    let z : rest k ≡ 0 = rw (eq-eqb k k refl) in
    every_zero rest (up_to n) ∙ go (count_of f (up_to n)) (sum_of rest (up_to n)) (bit (f k)) (omega (arith, z, sum_change (λ i. bit (f i)) rest n k h (λ i l d. rw (ne_eqb i k d))))
  where
    go : (a b c : ℕ) → a ≡ b + c → eqb b 0 ≡ eqb a c
    go a b c e = by_test (eqb b 0)
        (λ t. rw (t, eq-eqb a c (omega (arith, eqb-true b 0 t))))
        (λ t. rw (t, ne_eqb a c (λ q. eqb-false b 0 t (omega arith))))

module _ (names parents : List ℕ) where
  -- a list of one finds no subregion where there is none, or only the region itself
  closed_one : (i : ℕ) → i < 64 → get_or names i 0 ≢ 0
      → let n = subregions_in names parents (suc i) in closed_in names parents (λ t. among t (suc i ∷ [])) ≡ (eqb n 0 || (eqb (get_or parents i 0) (suc i) && eqb n 1))
  unfolding closed_in follows_in subregions_in
  closed_one i h u =
      ap (λ f. every f (up_to 64)) (fun_ext alike)
      ∙ every_but below 64 i h
      ∙ count (eqb (get_or parents i 0) (suc i)) (count_of below (up_to 64)) own
    where
      below : ℕ → Bool
      below k = not (eqb (get_or names k 0) 0) && eqb (get_or parents k 0) (suc i)

      tests : (a b c : Bool) → (a || not b || c) ≡ eqb (pick c 0 (bit (not a && b))) 0
      tests true b true = refl
      tests true b false = refl
      tests false true true = refl
      tests false true false = refl
      tests false false true = refl
      tests false false false = refl

      alike : (k : ℕ) → (eqb (get_or names k 0) 0 || not (among (get_or parents k 0) (suc i ∷ [])) || among (suc k) (suc i ∷ [])) ≡ eqb (pick (eqb k i) 0 (bit (below k))) 0
      alike k = rw (among_alone (get_or parents k 0) (suc i), among_alone (suc k) (suc i), eqb-suc-suc k i) (tests (eqb (get_or names k 0) 0) (eqb (get_or parents k 0) (suc i)) (eqb k i))

      own : bit (below i) ≤ count_of below (up_to 64)
      own = sum_one (λ k. bit (below k)) 64 i h

      count : (b : Bool) (n : ℕ) → bit (not (eqb (get_or names i 0) 0) && b) ≤ n → eqb n (bit (not (eqb (get_or names i 0) 0) && b)) ≡ (eqb n 0 || (b && eqb n 1))
      count true n l = rw (ne_eqb (get_or names i 0) 0 u, ne_eqb n 0 (λ z. omega (arith, rw (ne_eqb (get_or names i 0) 0 u) at l)))
      count false n l = rw (ne_eqb (get_or names i 0) 0 u) (sym (or-false (eqb n 0)))

-- ---- 19

module _ (S : Store) where
  none_out : (t : ℕ) → times t (outgoing S (t ∷ [])) ≡ 0
  unfolding outgoing
  none_out t =
      let vs = free_words_of (kinds S) S.heap (pages S) t in
      rw (append-nil (out_of (pages S).owners t vs)) (out_own (pages S).owners t vs)

  -- so its count stays
  count_one : (i : ℕ) → count_but S (suc i ∷ []) i ≡ count_at (regions S) i
  unfolding count_but
  count_one i = rolled_exact (count_at (regions S) i) 0 (times (suc i) (outgoing S (suc i ∷ []))) (count_at (regions S) i) (omega (arith, none_out (suc i))) (total_below (regions S) i)

  look_one : (t : ℕ) → led_among S (t ∷ []) ≡ led_into S t
  look_one t = led_each S (t ∷ []) ∙ or-false (led_into S t)

-- ---- the refusals of the two calls

module _ (S : Store) (r f : ℕ) where
  abbrev g : Regions
  g = regions S

  abbrev entry : ℕ
  entry = entry_of g r

  abbrev tag : ℕ
  tag = tag_of g r

  module _ (live : dead S r ≡ false) where
    in_entries : entry < 64
    unfolding dead is_live
    in_entries = ltb-true entry 64 (not-false (is_live g r) live)

    used : name_at g entry ≢ 0
    used = entry_used g r in_entries

  -- the region's one subregion is itself
  abbrev own : Bool
  own = eqb (parent_at g entry) tag && eqb (subregions_of g tag) 1

  closed_of_one : dead S r ≡ false → closed_in g.names g.parents (λ t. among t (tag ∷ [])) ≡ (eqb (subregions_of g tag) 0 || own)
  unfolding tag_of subregions_of parent_at name_at
  closed_of_one d = rw (add-one entry) (closed_one g.names g.parents entry (in_entries d) (used d))

  counted : count_but S (tag ∷ []) entry ≡ count_at g entry
  unfolding tag_of
  counted = rw (add-one entry) (count_one S entry)

  -- the test of delete for 19; and all its tests, with b in place of the one for 18
  abbrev last : Bool
  last = not (eqb (count_at g entry) 0) || led_into S tag

  tested : Bool → ℕ
  tested b = pick (bad_length S) 21 (pick (no_filler f) 23 (pick (dead S r) 2 (pick (eqb r 1) 3 (pick b 18 (pick last 19 0)))))

  delete_tested : refusal S (delete r f) ≡ tested (not (eqb (subregions_of g tag) 0))
  unfolding refusal checks tested
  delete_tested = refl

  joint_tested : refusal S (delete_all (r ∷ []) f) ≡ tested (not (eqb (subregions_of g tag) 0 || own))
  unfolding refusal checks wrong_names name_tests tested
  joint_tested = by_test (dead S r) (λ d. rw d) (λ d. rw (d, closed_of_one d, counted, or-false (not (eqb (count_at g entry) 0)), look_one S tag))

  -- where delete answers 18 it got as far as the subregions
  got_there : refusal S (delete r f) ≡ 18 → (bad_length S ≡ false) × (no_filler f ≡ false) × (dead S r ≡ false) × (eqb r 1 ≡ false)
  unfolding tested
  got_there e = go (bad_length S) (no_filler f) (dead S r) (eqb r 1) (sym e ∙ delete_tested)
    where
      go : (a x b c : Bool) → ◌≡◌ {A = ℕ} 18 (pick a 21 (pick x 23 (pick b 2 (pick c 3 (pick (not (eqb (subregions_of g tag) 0)) 18 (pick last 19 0)))))) → (a ≡ false) × (x ≡ false) × (b ≡ false) × (c ≡ false)
      go true x b c e = absurd (omega (arith, e))
      go false true b c e = absurd (omega (arith, e))
      go false false true c e = absurd (omega (arith, e))
      go false false false true e = absurd (omega (arith, e))
      go false false false false e = (refl, refl, refl, refl)

  refused_alike : (OnlyItself S r f → ⊥) → refusal S (delete_all (r ∷ []) f) ≡ refusal S (delete r f)
  unfolding tested
  refused_alike n = joint_tested ∙ alike ∙ sym delete_tested
    where
      not_own : bad_length S ≡ false → no_filler f ≡ false → dead S r ≡ false → eqb r 1 ≡ false → own ≡ false
      not_own b x d o = by_test own
          (λ w.
          let q = both (eqb (parent_at g entry) tag) (eqb (subregions_of g tag) 1) w in
          let k = eqb-true (subregions_of g tag) 1 q.1 in
          absurd (n (delete_tested ∙ rw (b, x, d, o, k), eqb-true (parent_at g entry) tag q.0, k)))
          (λ w. w)

      alike : tested (not (eqb (subregions_of g tag) 0 || own)) ≡ tested (not (eqb (subregions_of g tag) 0))
      alike = by_test (bad_length S) (λ b. rw b) (λ b. by_test (no_filler f) (λ x. rw x) (λ x. by_test (dead S r) (λ d. rw d) (λ d. by_test (eqb r 1) (λ o. rw o) (λ o. rw (not_own b x d o, or-false (eqb (subregions_of g tag) 0))))))

  -- ---- and so the outcomes

  same_outcomes : refusal S (delete_all (r ∷ []) f) ≡ refusal S (delete r f) → SameAsDelete S r f
  unfolding Outcome Accepted
  same_outcomes e a T = subst⁻¹ (λ n. Answered n (delete_all (r ∷ []) f) S a T ↔ Answered (refusal S (delete r f)) (delete r f) S a T) e (go (refusal S (delete r f)))
    where
      freed : gives (sum_of (λ r. pages_of (pages S) (tag_of g r)) (r ∷ []) ∷ []) ≡ gives (pages_of (pages S) tag ∷ [])
      freed = ap (λ n. gives (n ∷ [])) (add-zero (pages_of (pages S) tag))

      go : (n : ℕ) → Answered n (delete_all (r ∷ []) f) S a T ↔ Answered n (delete r f) S a T
      go zero = ((λ o. (o.0 ∙ freed, o.1)), (λ o. (o.0 ∙ sym freed, o.1)))
      go (suc n) = ((λ o. o), (λ o. o))

  -- delete refuses by 18 where the region's one subregion is itself, and a list of one does not
  apart : SameAsDelete S r f → OnlyItself S r f → ⊥
  unfolding Refusals tested
  apart s o =
      let p = got_there o.0 in
      let j : refusal S (delete_all (r ∷ []) f) ≡ pick last 19 0 = joint_tested ∙ rw (p.0, p.1, p.2, p.3, o.1, eq-eqb tag tag refl, o.2) in
      not_18 last ((refusals (delete_all (r ∷ []) f) S (refused_by 18) S ((s (refused_by 18) S).1 (by_refusal (delete r f) S (refused_by 18) S 18 o.0 (λ z. omega arith) refl refl))).0 ∙ j)
    where
      not_18 : (b : Bool) → ◌≡◌ {A = ℕ} 18 (pick b 19 0) → ⊥
      not_18 true e = omega arith
      not_18 false e = omega arith

on_every_memory : (S : Store) (r f : ℕ) → SameAsDelete S r f ↔ (OnlyItself S r f → ⊥)
on_every_memory S r f = (apart S r f, λ n. same_outcomes S r f (refused_alike S r f n))

-- ---- a store that stands for a valid model

module _ {N : ℕ} {L : Model} {S : Store} (k : Good N L S) (r f : ℕ) where
  -- no region is its own region above: its level would be one more than itself
  not_above : OnlyItself S r f → ⊥
  unfolding tag_of
  not_above o = go (entry_above S k.sized.in_regions.names (audited S k.valid k.represents k.sized).parents (entry S r f) (used S r f (got_there S r f o.0).2))
    where
      go : Place S (entry S r f) → ⊥
      go (inl q) = omega (arith, q.0, o.1)
      go (inr (p, b)) = let q : p ≡ entry S r f = omega (arith, b.parent, o.1) in omega (arith, b.level, ap (level_at (regions S)) q)

  same_told : SameAsDelete S r f
  same_told = same_outcomes S r f (refused_alike S r f not_above)

pub joint_of_one : JointOfOne
unfolding JointOfOne
joint_of_one = (on_every_memory, λ S h s es T u r f. same_told (run_told (start_told S h s).2 u).1.good r f)
