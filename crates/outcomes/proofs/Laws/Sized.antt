-- Every change of a part keeps the lengths of its arrays, whatever it is given.
-- Assumes nothing.
use Rattle.std.specs.Prelude.{◌≡◌, List, ℕ, ◌+◌, ◌*◌, length, set, replicate}
use Rattle.std.proofs.Common.{ap, ◌∙◌}
use Rattle.std.proofs.Math.ListN.{length-set}
use Rattle.std.proofs.lemmas.List.{length-replicate}
use Rattle.std.proofs.Math.Seq.{length-sets}
use Rattle.frames.specs.declared.Frames.{Frames}
use Rattle.frames.specs.Frames.{put_slot, pushed, popped, raised}
use Rattle.kinds.specs.declared.Kinds.{Kinds}
use Rattle.kinds.specs.Kinds.{with_kind}
use Rattle.regions.specs.declared.Regions.{Regions}
use Rattle.regions.specs.Regions.{with_region, without_regions, with_page, recount}
use Rattle.regions.specs.Laws.Recount.{recount_beside, recount_length}
use Rattle.regions.specs.Laws.Removed.{cleared_length}
use Rattle.pages.specs.declared.Pages.{Pages}
use Rattle.pages.specs.Pages.{page_count, with_taken, freed}
use Rattle.pages.specs.Laws.Freed.{owners_length}
use Rattle.outcomes.specs.Shape.{FramesSized, KindsSized, RegionsSized, PagesSized, Sized}
use Rattle.outcomes.specs.Outcome.{store, blank}

module _ (f : Frames) (h : FramesSized f) where
  pub put_slot_lem : (i s v : ℕ) → FramesSized (put_slot f i s v)
  unfolding put_slot
  put_slot_lem i s v = record { widths = h.widths; slots = length-set f.slots (8 * i + s) v ∙ h.slots }

  pub push_frame : (n : ℕ) → FramesSized (pushed f n)
  unfolding pushed
  push_frame n = record {
    widths = length-set f.widths f.standing n ∙ h.widths;
    slots = length-sets f.slots (8 * f.standing) (replicate 8 0) ∙ h.slots;
  }

  pub pop_frame_lem : FramesSized (popped f)
  unfolding popped
  pop_frame_lem = record { widths = h.widths; slots = h.slots }

  pub raise_mark : FramesSized (raised f)
  unfolding raised
  raise_mark = record { widths = h.widths; slots = h.slots }

pub with_kind_lem : (k : Kinds) (ms : List ℕ) → KindsSized k → KindsSized (with_kind k ms)
unfolding with_kind
with_kind_lem k ms h = record { sizes = length-set k.sizes k.declared _ ∙ h.sizes; marks = length-sets k.marks (16 * k.declared) ms ∙ h.marks }

module _ (r : Regions) (h : RegionsSized r) where
  pub with_region_lem : (i t l : ℕ) → RegionsSized (with_region r i t l)
  unfolding with_region
  with_region_lem i t l = record {
    names = length-set r.names i (r.given + 1) ∙ h.names;
    parents = length-set r.parents i t ∙ h.parents;
    levels = length-set r.levels i l ∙ h.levels;
    shares = length-sets r.shares (4 * i) (replicate 4 0) ∙ h.shares;
    newest = length-set r.newest i 0 ∙ h.newest;
    oldest = length-set r.oldest i 0 ∙ h.oldest;
  }

  pub without_regions_lem : (es : List ℕ) → RegionsSized (without_regions r es)
  unfolding without_regions
  without_regions_lem es = record { names = cleared_length r.names es ∙ h.names; parents = h.parents; levels = h.levels; shares = h.shares; newest = h.newest; oldest = h.oldest }

  pub with_page_lem : (i p v : ℕ) → RegionsSized (with_page r i p v)
  unfolding with_page
  with_page_lem i p v = record {
    names = h.names;
    parents = h.parents;
    levels = h.levels;
    shares = h.shares;
    newest = length-set r.newest i p ∙ h.newest;
    oldest = length-set r.oldest i v ∙ h.oldest;
  }

  pub recount_sized : (f : ℕ) (come gone : List ℕ) → RegionsSized (recount r f come gone)
  recount_sized f come gone =
      let b = recount_beside r f come gone in
      record {
        names = ap length b.names ∙ h.names;
        parents = ap length b.parents ∙ h.parents;
        levels = ap length b.levels ∙ h.levels;
        shares = recount_length r f come gone;
        newest = ap length b.newest ∙ h.newest;
        oldest = ap length b.oldest ∙ h.oldest;
      }

module _ (p : Pages) (h : PagesSized p) where
  pub with_taken_lem : (j t n : ℕ) → PagesSized (with_taken p j t n)
  unfolding with_taken
  with_taken_lem j t n = record { owners = length-set p.owners j t ∙ h.owners; taken = length-set p.taken j n ∙ h.taken }

  pub free_pages : (ts : List ℕ) → PagesSized (freed p ts)
  unfolding freed
  free_pages ts = record { owners = owners_length p.owners ts (page_count p); taken = h.taken }

-- what make leaves
pub blank_sized : (n r : ℕ) (heap : List ℕ) → Sized (store (blank n r) heap)
unfolding blank
blank_sized n r heap = record {
  in_frames = record { widths = length-replicate {A = ℕ} 32 0; slots = length-replicate {A = ℕ} 256 0 };
  in_kinds = record { sizes = length-replicate {A = ℕ} 16 0; marks = length-replicate {A = ℕ} 256 0 };
  in_regions = record {
    names = first;
    parents = length-replicate {A = ℕ} 64 0;
    levels = first;
    shares = length-replicate {A = ℕ} 256 0;
    newest = length-replicate {A = ℕ} 64 0;
    oldest = length-replicate {A = ℕ} 64 0;
  };
  in_pages = record { owners = length-replicate {A = ℕ} 256 0; taken = length-replicate {A = ℕ} 256 0 };
}
  where
    first : length (set (replicate 64 0) 0 r) ≡ 64
    first = length-set (replicate 64 0) 0 r ∙ length-replicate {A = ℕ} 64 0
