-- Used in proofs only: no demand cites it, and a reader need not believe it. How the demands read audited memory is `begin`, in outcomes' History.
-- A reference model made from a memory: pages, kinds and frames as they stand, regions by entry, objects in the order in which their headers are met, pointers as ids.
-- Assumes nothing.
use Rattle.std.specs.Prelude.{List, map, ℕ, zero, suc, ◌+◌, ◌-◌, ◌/◌, ◌%◌, eqb, length, get_or}
use Rattle.lists.specs.Lists.{pick, find_or, up_to}
use Rattle.model.specs.Model.{Model, Region, Object}
use Rattle.frames.specs.Frames.{frame_count, width_at, slot_at}
use Rattle.kinds.specs.Kinds.{size_of, mark_at}
use Rattle.regions.specs.Regions.{name_at, name_of, parent_at, level_at, newest_at, oldest_at}
use Rattle.pages.specs.Pages.{page_count}
use Rattle.outcomes.specs.Store.{Store, frames, kinds, regions, pages}
use Rattle.outcomes.specs.History.{entries, listed_kinds}
use Rattle.outcomes.proofs.Laws.Begin.{holder_of, headers_of, headers}
use Rattle.refinement.specs.Represents.{spot}

-- the pointers of the objects met
unfoldable pub places : Store → List ℕ
places S = map (λ q. q + 1) (headers S)

-- the id of pointer v, 0 for null and where it leads to no object
unfoldable pub id_of : List ℕ → ℕ → ℕ
id_of sp v = find_or (λ p. eqb (spot sp p) v) 0 (up_to (suc (length sp)))

-- the ids of the objects on page j
unfoldable pub ids_on : Store → ℕ → List ℕ
ids_on S j = map (λ q. id_of (places S) (q + 1)) (headers_of S j)

-- word w of the object whose header stands at place q, a pointer by its id; and that object
unfoldable pub read_word : Store → ℕ → ℕ → ℕ
read_word S q w =
    let x = get_or S.heap (q + 1 + w) 0 in
    pick (eqb (mark_at (kinds S) (get_or S.heap q 0) w) 0) x (id_of (places S) x)

unfoldable pub read_object : Store → ℕ → Object
read_object S q = record {
  home = holder_of S (q / 64);
  kind = get_or S.heap q 0;
  page = q / 64;
  word = q % 64;
  words = map (read_word S q) (up_to (size_of (kinds S) (get_or S.heap q 0)));
}

-- the words left in a newest page, entered as its number plus 1, 0 where there is none
abbrev pub room_of : Store → ℕ → ℕ
room_of S zero = 0
room_of S (suc j) = 64 - get_or (pages S).taken j 0

unfoldable pub read_region : Store → ℕ → Region
read_region S i = record {
  name = name_at (regions S) i;
  parent = name_of (regions S) (parent_at (regions S) i);
  level = level_at (regions S) i;
  newest = newest_at (regions S) i - 1;
  room = room_of S (newest_at (regions S) i);
  oldest = id_of (places S) (oldest_at (regions S) i);
}

unfoldable pub read_frame : Store → ℕ → List ℕ
read_frame S i = map (λ s. id_of (places S) (slot_at (frames S) i s)) (up_to (width_at (frames S) i))

unfoldable pub rebuilt : Store → Model
rebuilt S = record {
  holders = map (holder_of S) (up_to (page_count (pages S)));
  kinds = listed_kinds S;
  regions = map (read_region S) (entries S);
  frames = map (read_frame S) (up_to (frame_count (frames S)));
  counted = (frames S).counted;
  given = (regions S).given;
  objects = map (read_object S) (headers S);
}
