-- The counts of a store that represents a model: how often a live region's tag stands among the regions that pointers lead into, and its count after some came and went.
-- Assumes nothing.
use Rattle.std.specs.Prelude.{◌≡◌, true, false, List, [], ℕ, ◌+◌, ◌-◌, ◌<◌, eqb, length, get_or, drop}
use Rattle.std.proofs.Common.{ap, ap₂, ◌∙◌, add-one, arith}
use Rattle.std.proofs.Math.Seq.{take-length}
use Rattle.lists.specs.Lists.{bit, sum_of, times, from}
use Rattle.lists.specs.Laws.Tests.{both, or_other}
use Rattle.lists.specs.Laws.All.{all₂_in}
use Rattle.lists.specs.Laws.Sums.{sum_same}
use Rattle.lists.specs.Laws.UpTo.{all_from, sum_below, sum_part, sum_places}
use Rattle.model.specs.Model.{Model, object, marks, lives_in, home_in, into, in_frames}
use Rattle.model.specs.Valid.{Valid}
use Rattle.model.proofs.Laws.Slots.{Known, slot_known, object_valid}
use Rattle.frames.specs.Frames.{frame_count}
use Rattle.regions.specs.declared.Regions.{Regions}
use Rattle.regions.specs.Regions.{entry_of, tag_of, count_at, recount}
use Rattle.regions.specs.Laws.Recount.{recount_exact}
use Rattle.pages.specs.declared.Pages.{Pages}
use Rattle.pages.specs.Pages.{owner_of}
use Rattle.outcomes.specs.Store.{Store, frames, regions, pages, slot_targets, slots_beyond_in, slots_beyond}
use Rattle.outcomes.proofs.Laws.Pointers.{slots_sum, slots_into}
use Rattle.refinement.specs.Represents.{spot, Alive, words_in, FramesAgree, RegionsAgree, ObjectsAgree}
use Rattle.refinement.specs.Laws.Tags.{entry_in_lem, tag_for_lem, for_same, live_for}
use Rattle.refinement.specs.Laws.Reads.{frame_count_lem, home_named, owner_is}

-- the count of live region r becomes n, by whichever filler, if n is what was kept with what came and without what went
pub count_is : {L : Model} {sp : List ℕ} {g : Regions} (a : RegionsAgree L sp g) (r f : ℕ) → f < 4 → lives_in L r ≡ true → (come gone : List ℕ) (n : ℕ)
    → n + times (tag_of g r) gone ≡ count_at g (entry_of g r) + times (tag_of g r) come → n < 4294967296 → count_at (recount g f come gone) (entry_of g r) ≡ n
unfolding tag_of
count_is {g = g} a r f k l come gone n e h = recount_exact g f come gone k (entry_of g r) n (entry_in_lem a r l) (rw (add-one (entry_of g r)) at e) h

-- a word that is no data, of an object of a live region, is null or leads to such an object
pub word_known : (L : Model) → Valid L → (q w : ℕ) → Alive L q → w < length (words_in L q) → eqb (get_or (marks L.kinds (object L.objects q).kind) w 0) 0 ≡ false → Known L (get_or (words_in L q) w 0)
word_known L v q w l k m =
    let o = object_valid L v q l in
    let f = all₂_in _ (marks L.kinds (object L.objects q).kind) (words_in L q) w 0 0 (o.fine_words l) (omega (arith, o.sized)) k in
    (both _ _ (or_other (eqb (get_or (marks L.kinds (object L.objects q).kind) w 0) 0) _ f m)).0

-- the owner of a pointer's page is r where the model says that the pointer leads into r
pub leads_into : {L : Model} {sp : List ℕ} {ids : ℕ → List ℕ} {g : Regions} {p : Pages} {heap : List ℕ} → RegionsAgree L sp g → ObjectsAgree L sp ids g p heap → (r : ℕ) → lives_in L r ≡ true
    → (q : ℕ) → Known L q → eqb (owner_of p (spot sp q)) (tag_of g r) ≡ eqb (home_in L q) r
leads_into {L = L} a o r l q k = rw (owner_is o a q k, ← (tag_for_lem a r l)) (for_same a (home_in L q) r (home_named L q k) (live_for a r l))

-- as many slots of frame i lead into r
pub slots_into_lem : {L : Model} {sp : List ℕ} {ids : ℕ → List ℕ} (S : Store) → Valid L → FramesAgree sp L.frames L.counted (frames S)
    → RegionsAgree L sp (regions S) → ObjectsAgree L sp ids (regions S) (pages S) S.heap → (r : ℕ) → lives_in L r ≡ true
    → (i : ℕ) → i < length L.frames → times (tag_of (regions S) r) (slot_targets S i) ≡ sum_of (into (home_in L) r) (get_or L.frames i [])
unfolding slots_into
slots_into_lem {L = L} S v fs a o r l i k =
    let f = get_or L.frames i [] in
    slots_sum S (tag_of (regions S) r) i
    ∙ rw (fs.widths i k) (
    sum_below _ (λ s. into (home_in L) r (get_or f s 0)) (length f) (λ s b. rw (fs.slots i s k b) (ap bit (leads_into a o r l (get_or f s 0) (slot_known L v i s))))
    ∙ sum_places (into (home_in L) r) f 0)

-- as many slots of the uncounted frames
pub slots_beyond_lem : {L : Model} {sp : List ℕ} {ids : ℕ → List ℕ} (S : Store) → Valid L → FramesAgree sp L.frames L.counted (frames S)
    → RegionsAgree L sp (regions S) → ObjectsAgree L sp ids (regions S) (pages S) S.heap → (r : ℕ) → lives_in L r ≡ true
    → slots_beyond S (tag_of (regions S) r) ≡ in_frames (home_in L) r (drop L.counted L.frames)
unfolding slots_beyond slots_beyond_in slot_targets frame_count in_frames
slots_beyond_lem {L = L} S v fs a o r l =
    let t = tag_of (regions S) r in
    let f = L.frames in
    let m = L.counted in
    let e : m + (length f - m) ≡ length f = omega (arith, v.frames.mark) in
    ap₂ (λ k n. sum_of (λ i. times t (slot_targets S i)) (from k (n - k))) fs.counted (frame_count_lem fs v.frames.many)
    ∙ sum_same _ (λ i. sum_of (into (home_in L) r) (get_or f i [])) (from m (length f - m)) (all_from _ m (length f - m) (λ i b c. slots_into_lem S v fs a o r l i (omega arith)))
    ∙ sum_part (sum_of (into (home_in L) r)) f [] m (length f - m) (length f) e (omega arith) ∙ ap (λ x. sum_of (sum_of (into (home_in L) r)) (drop m x)) (take-length f)
