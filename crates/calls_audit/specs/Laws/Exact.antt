-- All tests pass exactly if the memory is sound.
-- Assumes nothing.
use Rattle.std.specs.Prelude.{◌≡◌, ◌≢◌, Bool, true, ◌&&◌, List, [], ◌∷◌, ℕ, ◌<◌, length}
use Rattle.std.proofs.Math.Path.{refl, sym}
use Rattle.std.proofs.Common.{◌∙◌}
use Rattle.lists.specs.Laws.Tests.{both, by_test}
use Rattle.regions.specs.Regions.{name_at, count_in, count_at}
use Rattle.regions.specs.Laws.Counts.{Shares}
use Rattle.outcomes.specs.Store.{Store, regions}
use Rattle.outcomes.specs.Sound.{sound, Sound, newest_own, oldest_own}
use Rattle.outcomes.proofs.Laws.Decided.{sound_is, is_sound}
use Rattle.outcomes.proofs.Laws.Begin.{every_entry, each_entry}
use Rattle.outcomes.proofs.Laws.Tree.{Tree, few, tree}
use Rattle.outcomes.proofs.Laws.Pointers.{Ordered}
use Rattle.audit_state.specs.Fits.{state_fits}
use Rattle.audit_slots.specs.Leads.{entry_owns, entries_own}
use Rattle.calls_audit.specs.Passes.{heap_fits, passes_in, passes}
use Rattle.calls_audit.specs.Laws.State.{folded_true, entry_each, widths_same, state_passes_lem, numbers, sizes, marks, widths, levels, distinct, names_given, permanent, parents}
use Rattle.calls_audit.specs.Laws.Heap.{pages_pass, newest_passes, oldest_passes, entries_pass, slots_pass, words_pass, pages_pass_lem, owned, held, filling, newest_same, oldest_same, slots_same, words_same}
use Rattle.calls_audit.specs.Laws.Counts.{counts_pass, counts_same}

-- cs are the shares that the tests have, which come to the stored counts
module _ (S : Store) (names : length (regions S).names ≡ 64) (cs : List ℕ) (fits : Shares cs) (kept : (i : ℕ) → i < 64 → count_in cs i ≡ count_at (regions S) i) where
  abbrev state_passes : Bool
  state_passes = state_fits S.state (length S.heap)

  -- all tests, group by group
  all_tests : passes cs S.state S.heap ≡ (state_passes && (pages_pass S && entries_pass S && slots_pass S && words_pass S) && counts_pass S cs)
  unfolding passes passes_in heap_fits state_fits
  all_tests = refl

  ordered : state_passes ≡ true → pages_pass S ≡ true → Ordered S
  ordered a b = record { names = names; few = few S names (distinct S a); owned = owned S names b }

  grown : state_passes ≡ true → Tree S
  grown a = tree S names (levels S a) (parents S a)

  abbrev own : ℕ → Bool
  own i = newest_passes S i && oldest_passes S i

  -- the test of entries in use
  own_same : Ordered S → entries_pass S ≡ true → (i : ℕ) → i < 64 → name_at (regions S) i ≢ 0 → (newest_own S i ≡ true) × (oldest_own S i ≡ true)
  unfolding entries_own entry_owns name_at
  own_same o e i l n =
      let t = both (newest_passes S i) _ (each_entry S own (every_entry S own ∙ e) i l n) in
      (newest_same S i ∙ t.0, oldest_same S o i n ∙ t.1)

  same_own : Ordered S → Sound S → entries_pass S ≡ true
  unfolding entries_own entry_owns name_at
  same_own o h =
      sym (every_entry S own)
      ∙ entry_each S own (λ i l n. rw (← newest_same S i, ← oldest_same S o i n, each_entry S (newest_own S) h.newest i l n) (each_entry S (oldest_own S) h.oldest i l n))

  sound_passes : Sound S → passes cs S.state S.heap ≡ true
  sound_passes h =
      let a = state_passes_lem S h in
      let b = pages_pass_lem S names h in
      let o = ordered a b in
      let f = sym (slots_same S o) ∙ h.slots in
      let w = sym (words_same S o (grown a)) ∙ h.words in
      all_tests ∙ rw (a, b, same_own o h, f, w) (sym (counts_same S h.standing h.counted (sym (widths_same S) ∙ h.widths) o cs fits kept f w) ∙ h.counts)

  passes_sound : passes cs S.state S.heap ≡ true → Sound S
  passes_sound e =
      let all = folded_true state_passes ((pages_pass S && entries_pass S && slots_pass S && words_pass S) ∷ counts_pass S cs ∷ []) (sym all_tests ∙ e) in
      let t = folded_true (pages_pass S) (entries_pass S ∷ slots_pass S ∷ words_pass S ∷ []) all.1.0 in
      let a = all.0 in
      let b = t.0 in
      let o = ordered a b in
      let f = t.1.1.0 in
      let w = t.1.1.1.0 in
      let n = numbers S a in
      record {
        counts = counts_same S n.standing n.counted (sym (widths_same S) ∙ widths S a) o cs fits kept f w ∙ all.1.1.0;
        slots = slots_same S o ∙ f;
        words = words_same S o (grown a) ∙ w;
        held = held S names b;
        made = n.made;
        declared = n.declared;
        sizes = sizes S a;
        marks = marks S a;
        standing = n.standing;
        widths = widths S a;
        levels = levels S a;
        given = n.given;
        counted = n.counted;
        heap_length = n.heap_length;
        distinct = distinct S a;
        names_given = names_given S a;
        permanent = permanent S a;
        parents = parents S a;
        filling = filling S names b;
        newest = entry_each S (newest_own S) (λ i l n. (own_same o t.1.0 i l n).0);
        oldest = entry_each S (oldest_own S) (λ i l n. (own_same o t.1.0 i l n).1);
      }

  -- so they come to the audit's answer
  pub passes_same : passes cs S.state S.heap ≡ sound S
  passes_same =
      by_test (passes cs S.state S.heap) (λ p. p ∙ sym (is_sound S (passes_sound p))) (λ p. by_test (sound S) (λ e. sound_passes (sound_is S e) ∙ sym e) (λ e. p ∙ sym e))
