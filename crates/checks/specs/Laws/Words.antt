-- The tests of a word, after those of the slots, are those that the calls on words run; and where they accept, what the word read is.
-- Assumes nothing.
use Rattle.std.specs.Prelude.{◌≡◌, refl, Bool, true, false, List, [], ◌∷◌, ℕ, eqb, leb}
use Rattle.std.proofs.Common.{arith, leb-false}
use Rattle.std.proofs.lemmas.Bool.{eqb-false}
use Rattle.lists.specs.Lists.{pick}
use Rattle.model.specs.Calls.{reason, ◌yields◌}
use Rattle.frames.specs.Frames.{slot_in, slot_at, top_in, top_frame}
use Rattle.kinds.specs.Kinds.{size_of, size_in, mark_at, mark_in}
use Rattle.objects.specs.Objects.{word_count, mark_of, word_at}
use Rattle.objects.specs.Parts.{object_of, header_in, word_in}
use Rattle.kinds.specs.Laws.Marks.{size_most}
use Rattle.objects.specs.Laws.Words.{object_header, object_word}
use Rattle.outcomes.specs.Store.{Store, frames, kinds, slot}
use Rattle.outcomes.specs.Outcome.{no_word, is_data}
use Rattle.outcomes.proofs.Laws.Steps.{reason_append}
use Rattle.checks.specs.Checks.{first_refusal, word_tests}

module _ (S : Store) (s : ℕ) where
  -- what slot s holds, and the object that it leads to
  abbrev pub in_slot : ℕ
  in_slot = slot_in (frames S).slots (top_in (frames S).standing) s

  abbrev pub object : List ℕ
  object = object_of S.heap in_slot

  abbrev pub tests_of : ℕ → List (Bool × ℕ)
  tests_of = word_tests (kinds S).declared (kinds S).sizes object in_slot

  abbrev pub mark : ℕ → ℕ
  mark w = mark_in (kinds S).marks (header_in object) w

  -- a test on a word's mark, after those of the word
  pub tested : (test : Bool → Bool) (w : ℕ)
      → reason (eqb (slot S s) 0 yields 14 ∷ no_word S s w yields 15 ∷ test (is_data S s w) yields 16 ∷ []) ≡ first_refusal (reason (tests_of w)) (reason (test (eqb (mark w) 0) yields 16 ∷ []))
  unfolding word_tests no_word is_data word_count mark_of mark_at size_of slot slot_at top_frame
  tested test w = rw (← object_header S.heap in_slot) (reason_append (tests_of w) (test (eqb (mark w) 0) yields 16 ∷ []) refl)

-- where the tests of a word accept, what the part that begins at its object has is the word
pub word_read : (declared : ℕ) (sizes heap : List ℕ) (v w g : ℕ) → first_refusal (reason (word_tests declared sizes (object_of heap v) v w)) g ≡ 0 → word_in (object_of heap v) w ≡ word_at heap v w
unfolding word_tests
word_read declared sizes heap v w g e = go (eqb v 0) refl (leb (size_in declared sizes (header_in (object_of heap v))) w) refl e
  where
    go : (a : Bool) → eqb v 0 ≡ a → (b : Bool) → leb (size_in declared sizes (header_in (object_of heap v))) w ≡ b → first_refusal (pick a 14 (pick b 15 0)) g ≡ 0
        → word_in (object_of heap v) w ≡ word_at heap v w
    go true p b q e = absurd (omega (arith, e))
    go false p true q e = absurd (omega (arith, e))
    go false p false q e =
        object_word heap v (eqb-false v 0 p) w (omega (arith, size_most declared sizes (header_in (object_of heap v)), leb-false (size_in declared sizes (header_in (object_of heap v))) w q))
