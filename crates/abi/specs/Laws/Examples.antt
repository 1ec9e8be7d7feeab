-- Lent memory written out, computed: what must-fail edits would break.
-- Assumes nothing.
use Rattle.std.specs.Prelude.{◌≡◌, refl, true, ◌&&◌, [], ◌∷◌, ◌++◌, ◌*◌, eqb, length, get_or, replicate}
use Rattle.lists.specs.Lists.{sum_of, equal}
use Rattle.model.specs.Model.{view}
use Rattle.frames.specs.Frames.{pushed, width_at, top_frame, slot_at}
use Rattle.kinds.specs.Kinds.{size_in, size_of, mark_at, all_data as only_data}
use Rattle.pages.specs.Pages.{wrong_length, wrong_length_in}
use Rattle.objects.specs.Objects.{kind_of, word_count}
use Rattle.state.specs.declared.State.{State}
use Rattle.outcomes.specs.Store.{Store, slot}
use Rattle.outcomes.specs.Outcome.{blank, store, with_frames, checks, bad_length, no_frame, lacks, all_data, refusal, viewed}
use Rattle.abi.specs.Memory.{arrays_of, sizes, layout}

-- the layout as hosts read it, and the bytes that they lend
pub layout_numbers : equal eqb layout (1 ∷ 4 ∷ 5 ∷ 1 ∷ 32 ∷ 4 ∷ 256 ∷ 1 ∷ 16 ∷ 1 ∷ 256 ∷ 4 ∷ 64 ∷ 1 ∷ 64 ∷ 1 ∷ 64 ∷ 4 ∷ 256 ∷ 2 ∷ 64 ∷ 4 ∷ 64 ∷ 1 ∷ 256 ∷ 1 ∷ 256 ∷ []) ≡ true
layout_numbers = refl

pub layout_bytes : sum_of (λ p. p.0 * p.1) sizes ≡ 3652
layout_bytes = refl

-- a store of two pages, and the same after a push: the numbers of its state
abbrev made : State
made = blank 2 1

pub made_numbers : equal eqb (get_or (arrays_of made) 0 []) (0 ∷ 0 ∷ 0 ∷ 1 ∷ 2 ∷ []) ≡ true
unfolding blank
made_numbers = refl

pub pushed_numbers : equal eqb (get_or (arrays_of (with_frames (store made []) (pushed made.frames 3)).state) 0 []) (1 ∷ 0 ∷ 0 ∷ 1 ∷ 2 ∷ []) ≡ true
unfolding blank pushed
pushed_numbers = refl

-- one page with two objects of 16 words, all 7: slots 0 and 1 lead to them, so that only the place tells their parts apart
abbrev twins : Store
twins =
    store
    (record {
      frames = record { standing = 1; counted = 0; widths = 2 ∷ replicate 31 0; slots = 1 ∷ 18 ∷ replicate 254 0 };
      kinds = record { declared = 1; sizes = 16 ∷ replicate 15 0; marks = replicate 256 0 };
      regions = made.regions;
      pages = record { made = 1; owners = 1 ∷ replicate 255 0; taken = 34 ∷ replicate 255 0 };
    })
    ((1 ∷ replicate 16 7) ++ (1 ∷ replicate 16 7) ++ replicate 30 0)

-- both are shown, 16 words each, at places 1 and 18
pub twins_shown : (eqb (refusal twins (view 0)) 0 && eqb (refusal twins (view 1)) 0 && eqb (slot twins 0) 1 && eqb (slot twins 1) 18 && eqb (length (viewed twins 1).part) 16 && eqb (length (viewed twins 18).part) 16) ≡ true
unfolding refusal checks bad_length wrong_length wrong_length_in no_frame lacks width_at top_frame slot slot_at all_data only_data mark_at size_of size_in kind_of word_count
twins_shown = refl
