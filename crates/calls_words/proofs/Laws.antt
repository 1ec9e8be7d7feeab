-- The tests of put, get and view are those of the functions that they ask, one group after the other; and what the calls do where these accept. Assumes nothing.
use mathlib.Core.Path.{◌≡◌, refl, sym, ap, ◌∙◌}
use mathlib.Core.Bool.{not}
use mathlib.Core.List.{List, [], ◌∷◌}
use Prim.Native.Nat.{ℕ, zero, suc, ◌+◌, ◌-◌, ◌≤◌, min}
use native.Mathlib.Omega.{arith}
use lib.Dec.{eqb}
use lib.ListN.{length, take, drop}
use borrow.Author.Tests.{ne_eqb}
use Rattle.lists.specs.Lists.{pick}
use Rattle.lists.specs.Laws.Parts.{part_taken}
use Rattle.model.specs.Model.{Answer, put, get, view, gives}
use Rattle.model.specs.Calls.{reason, ◌yields◌}
use Rattle.frames.specs.Frames.{slot_at, top_frame}
use Rattle.kinds.specs.Kinds as Kinds
use Rattle.kinds.specs.Kinds.{size_of, size_in, mark_at}
use Rattle.objects.specs.Objects.{kind_of, word_count}
use Rattle.objects.specs.Parts.{object_of, header_in, word_in}
use Rattle.objects.specs.Laws.Words.{object_header}
use Rattle.outcomes.specs.Store.{Store, frames, kinds, pages, slot}
use Rattle.outcomes.specs.Outcome.{Outcome, Accepted, refusal, checks, no_word, is_data, all_data, write_word}
use Rattle.outcomes.proofs.Laws.Steps.{by_refusal, by_effect}
use Rattle.checks.specs.Checks.{first_refusal}
use Rattle.checks.specs.Laws.Tests.{top, one_slot, else_next}
use Rattle.checks.specs.Laws.Words.{in_slot, object, tested, word_read}
use Rattle.calls_words.specs.Words.{data_refusal, view_refusal}
use Rattle.calls_words.specs.Views.{ViewedAs}

-- a part of at most k words from v on by its place and its length, both 0 where it has none
placed : (heap : List ℕ) (k v c p : ℕ) → c ≡ min k (length heap - v) → p ≡ pick (eqb c 0) 0 v → (p + c ≤ length heap) × (take c (drop p heap) ≡ take k (drop v heap))
placed heap k v zero p e a = (omega (arith, a), part_taken heap v k zero e)
placed heap k v (suc n) p e a =
    let at : p ≡ v = rw (ne_eqb (suc n) 0 (λ z. omega arith)) at a in
    (omega (arith, at, e), rw at (part_taken heap v k (suc n) e))

module _ (S : Store) (s : ℕ) where
  pub get_tests : (w : ℕ) → refusal S (get s w) ≡ first_refusal (reason (top S s s)) (data_refusal (kinds S).declared (kinds S).sizes (kinds S).marks (object S s) (in_slot S s) w)
  unfolding refusal checks
  get_tests w = one_slot S (eqb (slot S s) 0 yields 14 ∷ no_word S s w yields 15 ∷ not (is_data S s w) yields 16 ∷ []) s ∙ ap (first_refusal (reason (top S s s))) (tested S s not w)

  pub put_tests : (w x : ℕ) → refusal S (put s w x) ≡ refusal S (get s w)
  unfolding refusal checks
  put_tests w x = refl

  view_tests : let f = frames S in let k = kinds S in let n = header_in (object S s) in
      refusal S (view s) ≡ view_refusal (pages S).made (length S.heap) f.standing f.widths k.marks n (size_in k.declared k.sizes n) (in_slot S s) s
  unfolding refusal checks all_data Kinds.all_data slot slot_at top_frame mark_at size_of
  view_tests = rw (object_header S.heap (in_slot S s)) (one_slot S (eqb (in_slot S s) 0 yields 14 ∷ not (Kinds.all_data (kinds S) (kind_of S.heap (in_slot S s))) yields 16 ∷ []) s)

  -- v and o are what functions gave: what the slot holds, and the object that it leads to
  module _ (v : ℕ) (o : List ℕ) (led : v ≡ in_slot S s) (read : o ≡ object_of S.heap v) where
    -- so are t and g, for the tests of the slot, which accept, and of word w
    module _ (w t g : ℕ) (first : t ≡ reason (top S s s)) (passed : t ≡ 0) (asked : g ≡ data_refusal (kinds S).declared (kinds S).sizes (kinds S).marks o v w) where
      pub get_second : refusal S (get s w) ≡ g
      get_second = get_tests w ∙ else_next (reason (top S s s)) t _ first passed ∙ sym (asked ∙ rw (read, led))

      pub get_effect : (a : Answer) (x : ℕ) → g ≡ 0 → x ≡ word_in o w → a ≡ gives (x ∷ []) → Outcome (get s w) S a S
      unfolding Accepted slot slot_at top_frame
      get_effect a x z e p =
          let q : data_refusal (kinds S).declared (kinds S).sizes (kinds S).marks (object_of S.heap v) v w ≡ 0 = rw (← read) (sym asked ∙ z) in
          by_effect (get s w) S a S (get_second ∙ z) (p ∙ rw (e, read, word_read (kinds S).declared (kinds S).sizes S.heap v w _ q, led), refl)

      pub put_effect : (a : Answer) (x : ℕ) (T : Store) → g ≡ 0 → a ≡ gives [] → T ≡ write_word S v w x → Outcome (put s w x) S a T
      unfolding Accepted slot slot_at top_frame
      put_effect a x T z p h = by_effect (put s w x) S a T (put_tests w x ∙ get_second ∙ z) (p, h ∙ rw led)

    -- and n, m and g: the object's kind, its size, and for the tests
    module _ (n m g : ℕ) (kinded : n ≡ header_in o) (sized : m ≡ size_in (kinds S).declared (kinds S).sizes n)
        (asked : g ≡ view_refusal (pages S).made (length S.heap) (frames S).standing (frames S).widths (kinds S).marks n m v s) where
      pub view_second : refusal S (view s) ≡ g
      view_second = view_tests ∙ sym (asked ∙ rw (sized, kinded, read, led))

      pub view_refused : (g ≡ 0 → ⊥) → ViewedAs s S (record { refusal = g; place = 0; count = 0 })
      view_refused z = (sym view_second, refl, omega arith, by_refusal (view s) S _ S _ refl (λ q. z (sym view_second ∙ q)) refl refl)

      -- and c and p: how many words the object's part has, and where it begins
      pub view_effect : g ≡ 0 → (c p : ℕ) → p ≡ pick (eqb c 0) 0 v → c ≡ min m (length S.heap - v) → ViewedAs s S (record { refusal = 0; place = p; count = c })
      unfolding Accepted slot slot_at top_frame word_count size_of
      view_effect z c p begins counted =
          let e = view_second ∙ z in
          let (within, same) = placed S.heap m v c p counted begins in
          (sym e, begins ∙ ap (pick (eqb c 0) 0) led, within, by_effect (view s) S _ S e (rw (e, same, sized, kinded, read, object_header S.heap v, led), refl))
