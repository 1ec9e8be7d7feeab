-- What each accepted call moves in the stored count of a region: what enters it and what leaves it. `Laws.Moves` proves it of every live region.
-- Assumes nothing.
use Rattle.std.specs.Prelude.{List, [], ◌∷◌, ℕ, zero, suc, eqb, get_or, take, drop}
use Rattle.lists.specs.Lists.{pick, sum_of, sum_of₂}
use Rattle.model.specs.Model.{Model, Call, declare, new_region, subregion, push, drop_frame, hand_back, allocate, first, copy, fetch, clear, load, set_pointer, put, get, view, same, about, report, totals, audit, delete, delete_all, ask}
use Rattle.model.specs.Model.{home_in, top_place, slot, in_slot, mark_at, marks, in_frames, free_into}
use Rattle.model.specs.Calls.{pop_frame}

-- of the lowest m frames, those above the lowest k
abbrev pub between : ℕ → ℕ → List (List ℕ) → List (List ℕ)
between k m fs = drop k (take m fs)

-- the frames that removing the top one takes out of the count: the new top, if it was counted
unfoldable pub uncounted : Model → List (List ℕ)
uncounted L = between (pop_frame L).counted L.counted L.frames

-- the frames that an accepted delete brings into the count: all above the lowest m but the top one
unfoldable pub newly : Model → List (List ℕ)
newly L = between L.counted (top_place L.frames) L.frames

-- 1 if word w of the object in slot s counts in region r while it holds x: it is marked 1, its object is of another region, and x leads into r
unfoldable pub weighs : Model → ℕ → ℕ → ℕ → ℕ → ℕ
weighs L s w r x = pick (eqb (in_slot L s).home r) 0 (free_into (home_in L) r (mark_at L s w) x)

-- the words of the objects of region q that count in region r
unfoldable pub from_region : Model → ℕ → ℕ → ℕ
from_region L q r = sum_of (λ o. pick (eqb o.home q) (sum_of₂ (free_into (home_in L) r) (marks L.kinds o.kind) o.words) 0) L.objects

-- and those of several regions (document 01, Delete, and document 02, card 2: they leave the counts of the regions they lead to)
unfoldable pub from_regions : Model → List ℕ → ℕ → ℕ
from_regions L qs r = sum_of (λ q. from_region L q r) qs

-- (what enters, what leaves) the stored count of region r by an accepted call
unfoldable pub moves : Model → Call → ℕ → ℕ × ℕ
moves L (declare ms) r = (0, 0)
moves L new_region r = (0, 0)
moves L (subregion q) r = (0, 0)
moves L (push n) r = (0, 0)
moves L (drop_frame f) r = (0, in_frames (home_in L) r (uncounted L))
moves L (hand_back s b f) r = (0, in_frames (home_in L) r (uncounted L))
moves L (allocate s q k) r = (0, 0)
moves L (first s q) r = (0, 0)
moves L (copy s t) r = (0, 0)
moves L (fetch b s) r = (0, 0)
moves L (clear s) r = (0, 0)
moves L (load s w t) r = (0, 0)
moves L (set_pointer s w v f) r = (weighs L s w r (slot L v), weighs L s w r (get_or (in_slot L s).words w 0))
moves L (put s w x) r = (0, 0)
moves L (get s w) r = (0, 0)
moves L (view s) r = (0, 0)
moves L (same s t) r = (0, 0)
moves L (about s) r = (0, 0)
moves L (report q) r = (0, 0)
moves L totals r = (0, 0)
moves L audit r = (0, 0)
moves L (delete q f) r = (in_frames (home_in L) r (newly L), from_regions L (q ∷ []) r)
moves L (delete_all qs f) r = (in_frames (home_in L) r (newly L), from_regions L qs r)
moves L (ask q) r = (0, 0)

-- and by a call that is refused by n, 0 if it is accepted
abbrev pub moves_by : ℕ → Model → Call → ℕ → ℕ × ℕ
moves_by zero L c r = moves L c r
moves_by (suc n) L c r = (0, 0)
