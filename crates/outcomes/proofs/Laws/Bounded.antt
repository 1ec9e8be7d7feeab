-- Every change of a part keeps the size of each number, given numbers that are small enough.
-- Assumes nothing.
use Rattle.std.specs.Prelude.{Bool, true, false, ◌&&◌, ℕ, suc, ◌+◌, ◌-◌, ◌*◌, ◌≤◌, ◌<◌, ltb, length, get_or, set, replicate}
use mathlib.Core.List.{List, [], ◌∷◌, map}
use Rattle.std.proofs.Common.{arith}
use Rattle.std.proofs.lemmas.List.Edits.{sets}
use Rattle.lists.specs.Lists.{pick, All, up_to, among}
use Rattle.lists.specs.Laws.All.{all_map, all_at, all_set, all_replicate, all_change}
use Rattle.lists.specs.Laws.UpTo.{all_up_to}
use Rattle.frames.specs.declared.Frames.{Frames}
use Rattle.frames.specs.Frames.{top_frame, slot_at, put_slot, pushed, uncounts_in, popped, raised}
use Rattle.kinds.specs.declared.Kinds.{Kinds}
use Rattle.kinds.specs.Kinds.{with_kind}
use Rattle.regions.specs.declared.Regions.{Regions}
use Rattle.regions.specs.Regions.{with_region, cleared_at, without_regions, with_page, recount}
use Rattle.regions.specs.Laws.Recount.{recount_beside, recount_below}
use Rattle.pages.specs.declared.Pages.{Pages}
use Rattle.pages.specs.Pages.{page_count, owner_at, with_taken, freed, owners_to}
use Rattle.outcomes.specs.Shape.{Bits32, FramesBounded, KindsBounded, RegionsBounded, PagesBounded, Bounded}
use Rattle.outcomes.specs.Outcome.{store, blank}

-- ---- lists of numbers below `top`

pub below_at : (top : ℕ) (l : List ℕ) (i : ℕ) → 0 < top → All (λ x. x < top) l → get_or l i 0 < top
below_at top l i z h = all_at (λ x. x < top) l i 0 h z

pub all_sets : (P : ℕ → Type 0) (vs l : List ℕ) (i : ℕ) → All P l → All P vs → All P (sets l i vs)
all_sets P [] l i h k = h
all_sets P (v ∷ vs) l i h k = all_sets P vs (set l i v) (suc i) (all_set P l i v h k.0) k.1

-- the values of a function below n
below_map : (n top : ℕ) (f : ℕ → ℕ) → ((i : ℕ) → f i < top) → All (λ x. x < top) (map f (up_to n))
below_map n top f h = all_change (λ i. f i < top) (λ x. x < top) f (λ i b. b) (up_to n) (all_up_to (λ i. f i < top) n (λ i k. h i))

pub pick_below : (b : Bool) (x y n : ℕ) → x < n → y < n → pick b x y < n
pick_below true x y n h k = h
pick_below false x y n h k = k

-- ---- the parts

module _ (f : Frames) (h : FramesBounded f) where
  pub slot_below : (i s : ℕ) → slot_at f i s < 4294967296
  unfolding slot_at
  slot_below i s = below_at 4294967296 f.slots (8 * i + s) (omega arith) h.slots

  pub put_slot_lem : (i s v : ℕ) → v < 4294967296 → FramesBounded (put_slot f i s v)
  unfolding put_slot
  put_slot_lem i s v b = record { standing = h.standing; counted = h.counted; widths = h.widths; slots = all_set (λ x. x < 4294967296) f.slots (8 * i + s) v h.slots b }

  pub push_frame : (n : ℕ) → f.standing < 32 → n ≤ 8 → FramesBounded (pushed f n)
  unfolding pushed
  push_frame n k b = record {
    standing = omega arith;
    counted = h.counted;
    widths = all_set (λ x. x < 256) f.widths f.standing n h.widths (omega arith);
    slots = all_sets (λ x. x < 4294967296) (replicate 8 0) f.slots (8 * f.standing) h.slots (all_replicate (λ x. x < 4294967296) 8 0 (omega arith));
  }

  pub pop_frame_lem : FramesBounded (popped f)
  unfolding popped top_frame
  pop_frame_lem = record {
    standing = omega (arith, h.standing);
    counted = pick_below (uncounts_in f.standing f.counted) (f.counted - 1) f.counted 4294967296 (omega (arith, h.counted)) h.counted;
    widths = h.widths;
    slots = h.slots;
  }

  pub raise_mark : FramesBounded (raised f)
  unfolding raised top_frame
  raise_mark = record { standing = h.standing; counted = omega (arith, h.standing); widths = h.widths; slots = h.slots }

pub with_kind_lem : (k : Kinds) (ms : List ℕ) → KindsBounded k → k.declared < 16 → length ms ≤ 16 → All (λ m. m ≤ 4) ms → KindsBounded (with_kind k ms)
unfolding with_kind
with_kind_lem k ms h d n b = record {
  declared = omega arith;
  sizes = all_set (λ x. x < 256) k.sizes k.declared (length ms) h.sizes (omega arith);
  marks = all_sets (λ x. x < 256) ms k.marks (16 * k.declared) h.marks (all_map (λ m l. omega arith) ms b);
}

module _ (r : Regions) (h : RegionsBounded r) where
  pub with_region_lem : (i t l : ℕ) → r.given < 1000000 → t < 256 → l < 256 → RegionsBounded (with_region r i t l)
  unfolding with_region
  with_region_lem i t l g x y = record {
    given = omega arith;
    names = all_set (λ x. x < 4294967296) r.names i (r.given + 1) h.names (omega arith);
    parents = all_set (λ x. x < 256) r.parents i t h.parents x;
    levels = all_set (λ x. x < 256) r.levels i l h.levels y;
    shares = all_sets (λ x. x < 4294967296) (replicate 4 0) r.shares (4 * i) h.shares (all_replicate (λ x. x < 4294967296) 4 0 (omega arith));
    newest = all_set (λ x. x < 65536) r.newest i 0 h.newest (omega arith);
    oldest = all_set (λ x. x < 4294967296) r.oldest i 0 h.oldest (omega arith);
  }

  pub without_regions_lem : (es : List ℕ) → RegionsBounded (without_regions r es)
  unfolding without_regions
  without_regions_lem es = record {
    given = h.given;
    names = cleared es;
    parents = h.parents;
    levels = h.levels;
    shares = h.shares;
    newest = h.newest;
    oldest = h.oldest;
  }
    where
      cleared : (es : List ℕ) → All (λ x. x < 4294967296) (cleared_at r.names es)
      cleared [] = h.names
      cleared (e ∷ es) = all_set (λ x. x < 4294967296) (cleared_at r.names es) e 0 (cleared es) (omega arith)

  pub with_page_lem : (i p v : ℕ) → p < 65536 → v < 4294967296 → RegionsBounded (with_page r i p v)
  unfolding with_page
  with_page_lem i p v x y = record {
    given = h.given;
    names = h.names;
    parents = h.parents;
    levels = h.levels;
    shares = h.shares;
    newest = all_set (λ x. x < 65536) r.newest i p h.newest x;
    oldest = all_set (λ x. x < 4294967296) r.oldest i v h.oldest y;
  }

  pub recount_bounded : (f : ℕ) (come gone : List ℕ) → RegionsBounded (recount r f come gone)
  recount_bounded f come gone =
      let b = recount_beside r f come gone in
      record {
        given = rw b.given h.given;
        names = rw b.names h.names;
        parents = rw b.parents h.parents;
        levels = rw b.levels h.levels;
        shares = recount_below r f come gone (λ p. below_at 4294967296 r.shares p (omega arith) h.shares);
        newest = rw b.newest h.newest;
        oldest = rw b.oldest h.oldest;
      }

module _ (p : Pages) (h : PagesBounded p) where
  pub with_taken_lem : (j t n : ℕ) → t < 256 → n < 256 → PagesBounded (with_taken p j t n)
  unfolding with_taken
  with_taken_lem j t n x y = record { made = h.made; owners = all_set (λ x. x < 256) p.owners j t h.owners x; taken = all_set (λ x. x < 256) p.taken j n h.taken y }

  pub free_pages : (ts : List ℕ) → PagesBounded (freed p ts)
  unfolding freed owner_at owners_to
  free_pages ts = record {
    made = h.made;
    owners = below_map 256 256 (λ j. pick (ltb j (page_count p) && among (get_or p.owners j 0) ts) 0 (get_or p.owners j 0))
        (λ j. pick_below (ltb j (page_count p) && among (get_or p.owners j 0) ts) 0 (get_or p.owners j 0) 256 (omega arith) (below_at 256 p.owners j (omega arith) h.owners));
    taken = h.taken;
  }

-- ---- what make leaves

pub blank_bounded : (n r : ℕ) → n ≤ 256 → r ≤ 1 → (heap : List ℕ) → Bits32 heap → Bounded (store (blank n r) heap)
unfolding blank
blank_bounded n r most few heap h = record {
  in_frames = record { standing = omega arith; counted = omega arith; widths = zeros 256 32 (omega arith); slots = zeros 4294967296 256 (omega arith) };
  in_kinds = record { declared = omega arith; sizes = zeros 256 16 (omega arith); marks = zeros 256 256 (omega arith) };
  in_regions = record {
    given = omega arith;
    names = first 4294967296 (omega arith);
    parents = zeros 256 64 (omega arith);
    levels = first 256 (omega arith);
    shares = zeros 4294967296 256 (omega arith);
    newest = zeros 65536 64 (omega arith);
    oldest = zeros 4294967296 64 (omega arith);
  };
  in_pages = record { made = omega arith; owners = zeros 256 256 (omega arith); taken = zeros 256 256 (omega arith) };
  heap = h;
}
  where
    zeros : (top m : ℕ) → 0 < top → All (λ x. x < top) (replicate m 0)
    zeros top m h = all_replicate (λ x. x < top) m 0 h

    first : (top : ℕ) → 1 < top → All (λ x. x < top) (set (replicate 64 0) 0 r)
    first top h = all_set (λ x. x < top) (replicate 64 0) 0 r (zeros top 64 (omega arith)) (omega arith)
