-- The history that a list of calls makes: what each accepted call says of kinds, frames and m, live regions and objects, pages held and free (document 01, The calls).
-- It goes by a call's arguments and answer alone, and never by what the state lists, but for the slot in which allocate shows its object.
-- Assumes nothing.
use Rattle.std.specs.Prelude.{not, ◌&&◌, List, [], ◌∷◌, ◌++◌, map, ℕ, zero, suc, ◌-◌, ◌/◌, eqb, ltb, leb, length, get_or, take}
use Rattle.lists.specs.Lists.{pick, every, keep, joined, up_to, among}
use Rattle.model.specs.Model.{Call, declare, new_region, subregion, push, drop_frame, hand_back, allocate, first, copy, fetch, clear, load, set_pointer, put, get, view, same, about, report, totals, audit, delete, delete_all, ask}
use Rattle.frames.specs.Frames.{slot_at}
use Rattle.outcomes.specs.Store.{Store, frames}
use Rattle.outcomes.specs.History.{History, holders}
use Rattle.outcomes.specs.Runs.{Event}

-- what an accepted make of n pages begins: region 1, every page free
unfoldable pub opening : ℕ → History
opening n = record {
  kinds = [];
  frames = [];
  counted = 0;
  regions = record { name = 1; parent = 0 } ∷ [];
  objects = [];
  held = [];
  free = up_to n;
  pages = n;
}

abbrev pub with_kinds : History → List (List ℕ) → History
with_kinds h ks = record { kinds = ks; frames = h.frames; counted = h.counted; regions = h.regions; objects = h.objects; held = h.held; free = h.free; pages = h.pages }

abbrev pub with_frames : History → List ℕ → ℕ → History
with_frames h fs m = record { kinds = h.kinds; frames = fs; counted = m; regions = h.regions; objects = h.objects; held = h.held; free = h.free; pages = h.pages }

-- a new region, by the name that the call answered, and the name of the region above it, 0 for none
unfoldable pub born : History → ℕ → ℕ → History
born h r parent = record {
  kinds = h.kinds;
  frames = h.frames;
  counted = h.counted;
  regions = h.regions ++ (record { name = r; parent = parent } ∷ []);
  objects = h.objects;
  held = h.held;
  free = h.free;
  pages = h.pages;
}

-- the top frame goes and n are left: the new top, if n > 0, is frame n - 1, counted if n <= m; then m falls by one
unfoldable pub popped : History → History
popped h =
    let n = length h.frames - 1 in
    with_frames h (take n h.frames) (pick (ltb 0 n && leb n h.counted) (h.counted - 1) h.counted)

-- a new object of region r and kind k, to which the slot's new pointer p + 1 leads: its header stands at place p, and page p / 64 is r's and not free.
-- (A slot that is null after an accepted allocate would make no object; the outcomes exclude it.)
abbrev pub object_made : History → ℕ → ℕ → ℕ → History
object_made h r k zero = h
object_made h r k (suc p) = record {
  kinds = h.kinds;
  frames = h.frames;
  counted = h.counted;
  regions = h.regions;
  objects = h.objects ++ (record { place = p; kind = k; home = r } ∷ []);
  held = pick (among r (holders h (p / 64))) h.held (h.held ++ (record { page = p / 64; region = r } ∷ []));
  free = keep (λ j. not (eqb j (p / 64))) h.free;
  pages = h.pages;
}

-- the pages that region r holds
abbrev pub pages_held_by : History → ℕ → List ℕ
pages_held_by h r = map (λ t. t.page) (keep (λ t. eqb t.region r) h.held)

-- the regions that rs names go with their objects; those of their pages that no other region holds are free; m is raised (document 01, Delete; document 02, card 2)
unfoldable pub ended : History → List ℕ → History
ended h rs = record {
  kinds = h.kinds;
  frames = h.frames;
  counted = length h.frames - 1;
  regions = keep (λ g. not (among g.name rs)) h.regions;
  objects = keep (λ o. not (among o.home rs)) h.objects;
  held = keep (λ t. not (among t.region rs)) h.held;
  free = h.free ++ keep (λ j. every (λ q. among q rs) (holders h j)) (joined (pages_held_by h) rs);
  pages = h.pages;
}

-- the value of slot s of the top frame, in the store after the call
abbrev pub slot_after : History → Store → ℕ → ℕ
slot_after h T s = slot_at (frames T) (length h.frames - 1) s

-- an accepted call that gave the values v and left the store T
unfoldable pub told : Call → List ℕ → Store → History → History
told (declare ms) v T h = with_kinds h (h.kinds ++ (ms ∷ []))
told new_region v T h = born h (get_or v 0 0) 0
told (subregion r) v T h = born h (get_or v 0 0) r
told (push n) v T h = with_frames h (h.frames ++ (n ∷ [])) h.counted
told (drop_frame f) v T h = popped h
told (hand_back s b f) v T h = popped h
told (allocate s r k) v T h = object_made h r k (slot_after h T s)
told (first s r) v T h = h
told (copy s t) v T h = h
told (fetch b s) v T h = h
told (clear s) v T h = h
told (load s w t) v T h = h
told (set_pointer s w x f) v T h = h
told (put s w x) v T h = h
told (get s w) v T h = h
told (view s) v T h = h
told (same s t) v T h = h
told (about s) v T h = h
told (report r) v T h = h
told totals v T h = h
told audit v T h = h
told (delete r f) v T h = ended h (r ∷ [])
told (delete_all rs f) v T h = ended h rs
told (ask q) v T h = h

abbrev pub note_by : ℕ → Event → History → History
note_by zero e h = told e.call e.answer.values e.left h
note_by (suc n) e h = h

-- the history after a call; a refused call tells nothing
unfoldable pub note : Event → History → History
note e h = note_by e.answer.refusal e h

abbrev pub history : History → List Event → History
history h [] = h
history h (e ∷ es) = history (note e h) es
