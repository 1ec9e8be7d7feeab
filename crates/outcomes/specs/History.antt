-- What is live, held and free, the kinds, frames and m, as a list of calls tells them or as a memory lists them at the start; and demand 3's statements on them.
-- The values of slots, words and counts are those of the store (document 01, The calls, on what is read from where).
-- Assumes nothing.
use Rattle.std.specs.Prelude.{Bool, not, ◌&&◌, ◌||◌, List, map, ℕ, suc, ◌+◌, eqb, leb, length, get_or}
use Rattle.lists.specs.Lists.{pick, any_of, every, keep, find_or, sum_of, count_of, joined, up_to, times, among}
use Rattle.model.specs.Model.{marks, above, rule}
use Rattle.frames.specs.Frames.{frame_count, width_at, slot_at}
use Rattle.kinds.specs.Kinds.{kind_count, size_of, mark_at}
use Rattle.regions.specs.Regions.{name_at, name_of, parent_at, count_at, entry_of}
use Rattle.pages.specs.Pages.{page_count, owner_at, is_free}
use Rattle.objects.specs.Objects.{headers_on}
use Rattle.outcomes.specs.Store.{Store, frames, kinds, regions, pages}

-- a live region by name, with the name of the region above it, 0 for none
pub record Region : Type 0 where
  pub name : ℕ
  pub parent : ℕ

-- a live object: the place of its header in the heap, its kind, the name of its region
pub record Object : Type 0 where
  pub place : ℕ
  pub kind : ℕ
  pub home : ℕ

-- a page held by a region, by name
pub record Holding : Type 0 where
  pub page : ℕ
  pub region : ℕ

-- `frames` has the number of slots of each frame, the lowest first; `counted` is m; `pages` is how many were made
pub record History : Type 0 where
  pub kinds : List (List ℕ)
  pub frames : List ℕ
  pub counted : ℕ
  pub regions : List Region
  pub objects : List Object
  pub held : List Holding
  pub free : List ℕ
  pub pages : ℕ

-- ---- what a memory lists at the start. Entries that are not in use are never read

unfoldable pub entries : Store → List ℕ
entries S = keep (λ i. not (eqb (name_at (regions S) i) 0)) (up_to 64)

unfoldable pub listed_regions : Store → List Region
listed_regions S = map (λ i. record { name = name_at (regions S) i; parent = name_of (regions S) (parent_at (regions S) i) }) (entries S)

unfoldable pub listed_kinds : Store → List (List ℕ)
listed_kinds S = map (λ k. map (mark_at (kinds S) (suc k)) (up_to (size_of (kinds S) (suc k)))) (up_to (kind_count (kinds S)))

unfoldable pub listed_frames : Store → List ℕ
listed_frames S = map (width_at (frames S)) (up_to (frame_count (frames S)))

-- the pages entered as a live region's, and those entered as free; a page entered as neither is in no list
unfoldable pub listed_held : Store → List Holding
listed_held S = keep (λ t. not (eqb t.region 0)) (map (λ j. record { page = j; region = name_of (regions S) (owner_at (pages S) j) }) (up_to (page_count (pages S))))

unfoldable pub listed_free : Store → List ℕ
listed_free S = keep (is_free (pages S)) (up_to (page_count (pages S)))

-- the objects met header by header on a held page
unfoldable pub met_on : Store → Holding → List Object
met_on S t = map (λ p. record { place = p; kind = get_or S.heap p 0; home = t.region }) (headers_on (kinds S) S.heap (pages S) t.page)

unfoldable pub begin : Store → History
begin S = record {
  kinds = listed_kinds S;
  frames = listed_frames S;
  counted = (frames S).counted;
  regions = listed_regions S;
  objects = joined (met_on S) (listed_held S);
  held = listed_held S;
  free = listed_free S;
  pages = page_count (pages S);
}

-- ---- pointers: slots of every frame, and the words of live objects that are no data

abbrev pub is_live : History → ℕ → Bool
is_live h r = any_of (λ g. eqb g.name r) h.regions

-- the region directly above r, 0 for none; and all regions above r (document 02, card 1)
abbrev pub parent_of : History → ℕ → ℕ
parent_of h r = (find_or (λ g. eqb g.name r) (record { name = 0; parent = 0 }) h.regions).parent

abbrev pub above_of : History → ℕ → List ℕ
above_of h r = above (parent_of h) r

-- the values of the slots of frame i
unfoldable pub slots_of : History → Store → ℕ → List ℕ
slots_of h S i = map (slot_at (frames S) i) (up_to (get_or h.frames i 0))

pub record Word : Type 0 where
  pub mark : ℕ
  pub value : ℕ

-- the pointer words of a live object
unfoldable pub pointers_of : History → Store → Object → List Word
pointers_of h S o =
    let ms = marks h.kinds o.kind in
    keep (λ w. not (eqb w.mark 0)) (map (λ w. record { mark = get_or ms w 0; value = get_or S.heap (o.place + 1 + w) 0 }) (up_to (length ms)))

-- whether a pointer v leads to object o: it is 1 plus the place of its header
abbrev pub at : ℕ → Object → Bool
at v o = eqb (o.place + 1) v

unfoldable pub leads : History → ℕ → Bool
leads h v = any_of (at v) h.objects

-- the region of that object by name, 0 where the pointer leads nowhere
unfoldable pub home_of : History → ℕ → ℕ
home_of h v = (find_or (at v) (record { place = 0; kind = 0; home = 0 }) h.objects).home

abbrev pub into : History → ℕ → ℕ → Bool
into h r v = eqb (home_of h v) r

-- a region's outside pointers: slots, and words marked 1 of objects of other regions (document 01, The store)
unfoldable pub slots_leading_to : History → Store → ℕ → ℕ → ℕ
slots_leading_to h S r i = count_of (into h r) (slots_of h S i)

unfoldable pub words_leading_to : History → Store → ℕ → Object → ℕ
words_leading_to h S r o = pick (eqb o.home r) 0 (count_of (λ w. eqb w.mark 1 && into h r w.value) (pointers_of h S o))

unfoldable pub outside : History → Store → ℕ → ℕ
outside h S r = sum_of (slots_leading_to h S r) (up_to (length h.frames)) + sum_of (words_leading_to h S r) h.objects

-- of regions that are to go together, those that rs names (document 02, card 2): each live region right below one of them is one of them;
-- and the outside pointers of r that are no words of their objects
unfoldable pub closed : History → List ℕ → Bool
closed h rs = every (λ g. not (among g.parent rs) || among g.name rs) h.regions

unfoldable pub outside_but : History → Store → List ℕ → ℕ → ℕ
outside_but h S rs r =
    sum_of (slots_leading_to h S r) (up_to (length h.frames)) + sum_of (λ o. pick (among o.home rs) 0 (words_leading_to h S r o)) h.objects

-- those in uncounted frames: all frames above the lowest m
unfoldable pub uncounted_into : History → Store → ℕ → ℕ
uncounted_into h S r = sum_of (λ i. pick (leb h.counted i) (slots_leading_to h S r i) 0) (up_to (length h.frames))

-- the stored count of the region named r, at the entry that has that name; 0 where none has
unfoldable pub stored_count : Store → ℕ → ℕ
stored_count S r = count_at (regions S) (entry_of (regions S) r)

unfoldable pub subregions : History → ℕ → ℕ
subregions h r = count_of (λ g. eqb g.parent r) h.regions

-- ---- demand 3's statements on counts, pointers and pages

unfoldable pub counts_exact : History → Store → Bool
counts_exact h S = every (λ g. eqb (stored_count S g.name + uncounted_into h S g.name) (outside h S g.name)) h.regions

-- every slot is null or leads to a live object
unfoldable pub slots_lead : History → Store → Bool
slots_lead h S = every (λ i. every (λ v. eqb v 0 || leads h v) (slots_of h S i)) (up_to (length h.frames))

-- every pointer word too is null or leads to a live object, and to one that its mark allows (mark 3: document 02, card 1)
unfoldable pub words_lead : History → Store → Bool
words_lead h S =
    every (λ o. every (λ w. eqb w.value 0 || (leads h w.value && rule w.mark (home_of h w.value) o.home (above_of h o.home))) (pointers_of h S o)) h.objects

-- the regions that hold page j
abbrev pub holders : History → ℕ → List ℕ
holders h j = map (λ t. t.region) (keep (λ t. eqb t.page j) h.held)

-- every page made is in one list only, once: free, or held, and then by a region that lives
unfoldable pub pages_held : History → Bool
pages_held h = every (λ j. eqb (times j h.free + length (holders h j)) 1 && every (is_live h) (holders h j)) (up_to h.pages)
