-- All live regions but region 1 go together, where no frame stands and region 1's free words are null.
-- Assumes nothing.
use Rattle.std.specs.Prelude.{◌≡◌, refl, Bool, ◌&&◌, ◌||◌, List, [], ltb, length}
use Rattle.std.proofs.Math.Path.{sym, ap, ap₂}
use Rattle.std.proofs.Common.{◌∙◌}
use Rattle.std.proofs.Math.Bool.{true, false, not, true≢false}
use Prim.Native.Nat.{ℕ, ◌+◌, ◌≤◌}
use native.Mathlib.Omega.{arith}
use Rattle.std.proofs.Math.Dec.{eqb}
use borrow.Author.Tests.{eqb-true, ne_eqb, le-ltb, not-false}
use Rattle.lists.specs.Lists.{bit, pick, every, sum_of, up_to, All, times, among}
use Rattle.lists.specs.Laws.Tests.{by_test, or_right, pick_same}
use Rattle.lists.specs.Laws.All.{all_map, all_both}
use Rattle.lists.specs.Laws.Finds.{any_count, false_any, every_true, true_every, find_none}
use Rattle.lists.specs.Laws.Sums.{sum_same, sum_nothing}
use Rattle.lists.specs.Laws.Kept.{all_each, among_all, once_repeats}
use Rattle.model.specs.Model.{Model, Region, region, lives_in, home_in, parent_in, closed}
use Rattle.model.specs.Calls.{wrong_names}
use Rattle.model.specs.Valid.{Valid}
use Rattle.model.proofs.Laws.Regions.{found_itself, live_zero}
use Rattle.outcomes.specs.Store.{Store}
use Rattle.outcomes.specs.History.{History, Object, Word, is_live, at, home_of, pointers_of, slots_leading_to, words_leading_to, outside_but}
use Rattle.outcomes.specs.History as history
use Rattle.demands.specs.Demands.{names_pass, Demand3}
use Rattle.demands.specs.Later.{free_words_null, AllTogether}
use Rattle.refinement.specs.Laws.Report.{names_live}
use Rattle.histories.specs.Laws.Tells.{Tells, live_is, closed_is, each_met}
use Rattle.demands.proofs.Laws.Steps.{run_told}
use Rattle.demands.proofs.Laws.Demand3.{start_told, demand3}

bit_test : (b : Bool) → ltb 0 (bit b) ≡ b
bit_test true = refl
bit_test false = refl

module _ {L : Model} {sp : List ℕ} {h : History} (v : Valid L) (t : Tells L sp h) (S : Store) (l : List ℕ) (only : (r : ℕ) → times r l ≡ bit (is_live h r && not (eqb r 1))) where
  -- the members are just the live regions but region 1
  members : (r : ℕ) → among r l ≡ (is_live h r && not (eqb r 1))
  members r = any_count (λ x. eqb x r) l ∙ ap (ltb 0) (only r) ∙ bit_test (is_live h r && not (eqb r 1))

  zero_dead : is_live h 0 ≡ false
  zero_dead = live_is t 0 ∙ live_zero L.regions v.names.named

  zero_out : among 0 l ≡ false
  zero_out = members 0 ∙ ap (λ b. b && not (eqb 0 1)) zero_dead

  passes : 1 ≤ length l → length l ≤ 16 → names_pass h l ≡ true
  unfolding wrong_names
  passes a b = rw (
    ne_eqb (length l) 0 (λ z. omega arith),
    le-ltb 16 (length l) b,
    once_repeats l (λ q. most q),
    true_every (λ r. is_live h r && not (eqb r 1)) l (among_all _ l (λ r e. sym (members r) ∙ e)),
  )
    where
      small : (b : Bool) → bit b ≤ 1
      small true = omega arith
      small false = omega arith

      most : (q : ℕ) → times q l ≤ 1
      most q = rw (only q) (small (is_live h q && not (eqb q 1)))

  -- region 1 has none above it, and every other live region is a member
  all_closed : history.closed h l ≡ true
  unfolding closed
  all_closed = closed_is t l ∙ true_every _ L.regions (all_map each L.regions (all_both _ _ L.regions (found_itself L.regions v.names.distinct) (names_live L.regions)))
    where
      each : (x : Region) → (region L.regions x.name ≡ x) × (lives_in L x.name ≡ true) → (not (among x.parent l) || among x.name l) ≡ true
      each x (e, k) = by_test (eqb x.name 1)
          (λ o. let z : x.parent ≡ 0 = sym (ap (λ g. g.parent) e) ∙ ap (parent_in L) (eqb-true x.name 1 o) ∙ v.names.root in rw (z, zero_out))
          (λ o. or_right (not (among x.parent l)) (among x.name l) (members x.name ∙ rw (live_is t x.name, k, o)))

  -- a null word leads into no member
  null_away : (r : ℕ) → among r l ≡ true → eqb (home_of h 0) r ≡ false
  unfolding home_of
  null_away r e =
      let none : Object = record { place = 0; kind = 0; home = 0 } in
      let z = ap (λ o. o.home) (find_none (at 0) none h.objects (false_any (at 0) h.objects (all_each _ (λ o. ne_eqb (o.place + 1) 0 (λ q. omega arith)) h.objects))) in
      rw z (ne_eqb 0 r (λ q. true≢false (sym e ∙ ap (λ n. among n l) (sym q) ∙ zero_out)))

  word_away : (r : ℕ) → among r l ≡ true → (w : Word) → (not (eqb w.mark 1) || eqb w.value 0) ≡ true → bit (eqb w.mark 1 && eqb (home_of h w.value) r) ≡ 0
  word_away r e w z = by_test (eqb w.mark 1)
      (λ m. rw (m, eqb-true w.value 0 (rw m at z), null_away r e))
      (λ m. rw m)

  -- so no word of an object of a region that is no member, which is region 1, leads into one
  object_away : (r : ℕ) → among r l ≡ true → (o : Object) → is_live h o.home ≡ true
      → (not (eqb o.home 1) || every (λ w. not (eqb w.mark 1) || eqb w.value 0) (pointers_of h S o)) ≡ true → pick (among o.home l) 0 (words_leading_to h S r o) ≡ 0
  unfolding words_leading_to
  object_away r e o k z = by_test (among o.home l)
      (λ m. rw m)
      (λ m.
      let one : eqb o.home 1 ≡ true = not-false (eqb o.home 1) (rw k at (sym (members o.home) ∙ m)) in
      let ws = pointers_of h S o in
      let none = sum_same (λ w. bit (eqb w.mark 1 && eqb (home_of h w.value) r)) (λ w. 0) ws (all_map (word_away r e) ws (every_true _ ws (rw one at z))) ∙ sum_nothing (λ w. 0) (λ w. refl) ws in
      rw (m, none) (pick_same (eqb o.home r) 0))

  all_away : h.frames ≡ [] → free_words_null h S 1 ≡ true → All (λ r. outside_but h S l r ≡ 0) l
  unfolding outside_but free_words_null
  all_away f n = among_all _ l (λ r e. ap₂ ◌+◌ (ap (λ fs. sum_of (slots_leading_to h S r) (up_to (length fs))) f) (
      sum_same _ (λ o. 0) h.objects (all_map (λ o z. object_away r e o z.0 z.1) h.objects (all_both _ _ h.objects live (every_true _ h.objects n)))
      ∙ sum_nothing (λ o. 0) (λ o. refl) h.objects))
    where
      live : All (λ o. is_live h o.home ≡ true) h.objects
      live = every_true _ h.objects (each_met t (λ o. is_live h o.home) (λ q a. live_is t (home_in L q) ∙ a))

pub all_together : AllTogether
unfolding AllTogether Demand3
all_together S h s es T r none n l a b only f few x U o =
    let k = (run_told (start_told S h s).2 r).1 in
    let v = k.good.valid in
    ((demand3 S h s es T r).together l f few x U o).1 (passes v k.tells T l only a b, all_closed v k.tells T l only, all_away v k.tells T l only none n)
