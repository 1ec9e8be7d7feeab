-- The memory that a call works on, and what document 01's words mean of it. In memory that the audit rejects names can repeat,
-- so a region is known here by its tag (its entry plus 1, 0 for none); on audited memory tags and names go together.
-- Assumes nothing.
use Rattle.std.specs.Prelude.{Bool, not, ◌||◌, List, map, ℕ, ◌+◌, ◌-◌, ◌%◌, eqb, leb}
use Rattle.lists.specs.Lists.{sum_of, any_of, from, up_to, times, among}
use Rattle.frames.specs.declared.Frames.{Frames}
use Rattle.frames.specs.Frames.{frame_count_in, top_frame, width_in, slot_in, slot_at}
use Rattle.kinds.specs.declared.Kinds.{Kinds}
use Rattle.kinds.specs.Kinds.{size_of}
use Rattle.regions.specs.declared.Regions.{Regions}
use Rattle.regions.specs.Regions.{allows_in, newest_at, count_at}
use Rattle.pages.specs.declared.Pages.{Pages}
use Rattle.pages.specs.Pages.{taken_in, owner_in, owner_of}
use Rattle.objects.specs.Objects.{mark_of}
use Rattle.state.specs.declared.State.{State}

pub record Store : Type 0 where
  pub state : State
  pub heap : List ℕ

abbrev pub frames : Store → Frames
frames S = S.state.frames

abbrev pub kinds : Store → Kinds
kinds S = S.state.kinds

abbrev pub regions : Store → Regions
regions S = S.state.regions

abbrev pub pages : Store → Pages
pages S = S.state.pages

-- what slot s of the top frame holds
unfoldable pub slot : Store → ℕ → ℕ
slot S s = slot_at (frames S) (top_frame (frames S)) s

-- the tags of the regions that the slots of frame i lead into: by the lists alone, for code that is lent these, and in a store
unfoldable pub targets_in : List ℕ → List ℕ → List ℕ → ℕ → List ℕ
targets_in widths slots owners i = map (λ s. owner_in owners (slot_in slots i s)) (up_to (width_in widths i))

unfoldable pub slot_targets : Store → ℕ → List ℕ
slot_targets S i = targets_in (frames S).widths (frames S).slots (pages S).owners i

-- the uncounted frames: those from m on (document 01, The calls)
abbrev pub uncounted_in : ℕ → ℕ → List ℕ
uncounted_in standing counted = from counted (frame_count_in standing - counted)

-- how many slots of the uncounted frames lead into the region with tag t
unfoldable pub slots_beyond_in : ℕ → ℕ → List ℕ → List ℕ → List ℕ → ℕ → ℕ
slots_beyond_in standing counted widths slots owners t = sum_of (λ i. times t (targets_in widths slots owners i)) (uncounted_in standing counted)

unfoldable pub slots_beyond : Store → ℕ → ℕ
slots_beyond S t = let f = frames S in slots_beyond_in f.standing f.counted f.widths f.slots (pages S).owners t

-- the number of outside pointers that report gives of the region at entry i. On audited memory its stored count has those in words and in counted frames, and the
-- others stand in uncounted frames; so it is the number that there are (History, `outside`), and below 2^32
unfoldable pub outside_of : Store → ℕ → ℕ
outside_of S i = (count_at (regions S) i + slots_beyond S (i + 1)) % 4294967296

-- some slot of an uncounted frame leads into a region whose tag passes: the look of Delete, and, for several regions at once, of document 02, card 2
unfoldable pub led_among_in : ℕ → ℕ → List ℕ → List ℕ → List ℕ → (ℕ → Bool) → Bool
led_among_in standing counted widths slots owners member = any_of (λ i. any_of member (targets_in widths slots owners i)) (uncounted_in standing counted)

-- the region with tag t; those with the tags ts
unfoldable pub led_in : ℕ → ℕ → List ℕ → List ℕ → List ℕ → ℕ → Bool
led_in standing counted widths slots owners t = led_among_in standing counted widths slots owners (λ u. eqb u t)

unfoldable pub led_into : Store → ℕ → Bool
led_into S t = let f = frames S in led_in f.standing f.counted f.widths f.slots (pages S).owners t

unfoldable pub led_among : Store → List ℕ → Bool
led_among S ts = let f = frames S in led_among_in f.standing f.counted f.widths f.slots (pages S).owners (λ t. among t ts)

-- x, which leads into the region with tag t, breaks the mark m of a word of the region with tag h; null breaks none
unfoldable pub breaks_in : List ℕ → List ℕ → List ℕ → ℕ → ℕ → ℕ → ℕ → Bool
breaks_in names parents levels m h x t = not (eqb x 0 || allows_in names parents levels m h t)

-- the value x breaks the mark of word w of the object that v leads to (document 01, The store, on marks; document 02, card 1, on mark 3)
unfoldable pub breaks : Store → ℕ → ℕ → ℕ → Bool
breaks S v w x = breaks_in (regions S).names (regions S).parents (regions S).levels (mark_of (kinds S) S.heap v w) (owner_of (pages S) v) x (owner_of (pages S) x)

-- the words that an object of kind k takes, its header too
unfoldable pub size : Store → ℕ → ℕ
size S k = 1 + size_of (kinds S) k

-- the region at entry i has a newest page, and n words more fit there; q is that page, plus 1
unfoldable pub roomy_in : List ℕ → ℕ → ℕ → Bool
roomy_in taken q n = not (eqb q 0 || leb 65 (taken_in taken (q - 1) + n))

unfoldable pub roomy : Store → ℕ → ℕ → Bool
roomy S i n = roomy_in (pages S).taken (newest_at (regions S) i) n
