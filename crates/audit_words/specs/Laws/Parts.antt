-- An object's words are those of the part of the heap that begins at its header.
-- Assumes nothing.
use Rattle.std.specs.Prelude.{◌≡◌, Bool, List, ℕ, get_or}
use Rattle.std.proofs.Common.{arith}
use Rattle.lists.specs.Laws.Every.{every_below}
use Rattle.kinds.specs.Kinds.{size_in}
use Rattle.objects.specs.Parts.{part_at}
use Rattle.kinds.specs.Laws.Marks.{size_most}
use Rattle.objects.specs.Laws.Words.{part_header, part_word}
use Rattle.audit_words.specs.Words.{words_hold, object_holds}

pub object_words : (stands : ℕ → Bool) (names parents levels owners : List ℕ) (declared : ℕ) (sizes marks heap : List ℕ) (own q s : ℕ) → s ≡ size_in declared sizes (get_or heap q 0)
    → object_holds stands names parents levels owners declared sizes marks heap own q ≡ words_hold stands names parents levels owners marks (part_at heap q) s own
unfolding object_holds words_hold
object_words stands names parents levels owners declared sizes marks heap own q s e =
    let k = get_or heap q 0 in
    rw (e, part_header heap q)
    (every_below _ _ (size_in declared sizes k) (λ w h. rw (part_word heap q w (omega (arith, size_most declared sizes k)))))
