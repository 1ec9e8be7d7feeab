-- Rows beyond document 01's session and starred cases, in the form of the table: its other cases, rules that its cases leave out, and those of document 02's cards. `Laws.Sessions` proves them too.
-- Assumes nothing.
use Rattle.std.specs.Prelude.{List, [], ◌∷◌, ◌++◌, ◌*◌, replicate}
use Rattle.lists.specs.Lists.{from}
use Rattle.model.specs.Model.{declare, new_region, subregion, push, drop_frame, hand_back, allocate, first, copy, fetch, clear, load, set_pointer, put, get, view, same, about, report, totals, audit, delete, delete_all, locate, ask}
use Rattle.model.specs.Sessions.{Row, line}

-- ---- Document 01's cases without a star

-- no word; 256 pages; 257 pages
abbrev pub heap0 : Row
heap0 = record { lent = 0; calls = []; skip = 0; prints = line 1 1 0 0 0 0 ∷ [] }

abbrev pub heap16384 : Row
heap16384 = record { lent = 16384; calls = totals ∷ []; skip = 0; prints = line 1 0 0 0 0 0 ∷ line 2 0 256 1 0 0 ∷ [] }

abbrev pub heap16448 : Row
heap16448 = record { lent = 16448; calls = []; skip = 0; prints = line 1 1 0 0 0 0 ∷ [] }

-- a kind of 16 words: three fit a page, and then one of 12 words, which takes 13, but none of 13
abbrev pub three_fit : Row
three_fit = record {
  lent = 64;
  calls = declare (replicate 16 0) ∷ declare (replicate 12 0) ∷ declare (replicate 13 0) ∷ push 1 ∷ replicate 4 (allocate 0 1 1) ++ (allocate 0 1 3 ∷ allocate 0 1 2 ∷ []);
  skip = 7;
  prints = line 8 0 0 0 0 0 ∷ line 9 13 0 0 0 0 ∷ line 10 13 0 0 0 0 ∷ line 11 0 0 0 0 0 ∷ [];
}

-- frames of 9 slots, of none and of 8
abbrev pub push9 : Row
push9 = record { lent = 64; calls = push 9 ∷ push 0 ∷ push 8 ∷ []; skip = 1; prints = line 2 8 0 0 0 0 ∷ line 3 8 0 0 0 0 ∷ line 4 0 1 0 0 0 ∷ [] }

-- 64 live regions, and one more
abbrev pub regions65 : Row
regions65 = record { lent = 64; calls = replicate 64 new_region; skip = 63; prints = line 64 0 64 0 0 0 ∷ line 65 4 0 0 0 0 ∷ [] }

-- ---- Rules that document 01 states and its cases leave out

-- the drops after row `m_falls`: m is 0 with one frame and with none
abbrev pub last_drops : Row
last_drops = record {
  lent = 64;
  calls = push 1 ∷ push 1 ∷ push 1 ∷ new_region ∷ delete 2 0 ∷ drop_frame 0 ∷ drop_frame 0 ∷ totals ∷ drop_frame 0 ∷ totals ∷ [];
  skip = 7;
  prints = line 8 0 1 0 0 0 ∷ line 9 0 1 1 1 0 ∷ line 10 0 0 0 0 0 ∷ line 11 0 1 1 0 0 ∷ [];
}

-- three objects on each of two pages leave 13 words on both: an object that takes 13 fits the newest page once, and the room on the older one is lost
abbrev pub lost_room : Row
lost_room = record {
  lent = 2 * 64;
  calls = declare (replicate 16 0) ∷ declare (replicate 12 0) ∷ push 1 ∷ replicate 6 (allocate 0 1 1) ++ (allocate 0 1 2 ∷ allocate 0 1 2 ∷ totals ∷ []);
  skip = 10;
  prints = line 11 0 0 0 0 0 ∷ line 12 13 0 0 0 0 ∷ line 13 0 0 1 1 0 ∷ [];
}

-- 16 levels, and one more
abbrev pub levels : Row
levels = record {
  lent = 64;
  calls =
      subregion 1 ∷ subregion 2 ∷ subregion 3 ∷ subregion 4 ∷ subregion 5 ∷ subregion 6 ∷ subregion 7 ∷ subregion 8 ∷ subregion 9 ∷ subregion 10
      ∷ subregion 11 ∷ subregion 12 ∷ subregion 13 ∷ subregion 14 ∷ subregion 15 ∷ subregion 16 ∷ [];
  skip = 15;
  prints = line 16 0 16 0 0 0 ∷ line 17 20 0 0 0 0 ∷ [];
}

-- a deleted region's pointers leave the counts of others
abbrev pub outgoing : Row
outgoing = record {
  lent = 2 * 64;
  calls = declare (1 ∷ []) ∷ push 2 ∷ new_region ∷ allocate 0 2 1 ∷ allocate 1 1 1 ∷ set_pointer 0 0 1 0 ∷ report 1 ∷ clear 0 ∷ delete 2 0 ∷ report 1 ∷ [];
  skip = 7;
  prints = line 8 0 1 2 1 0 ∷ line 9 0 0 0 0 0 ∷ line 10 0 1 0 0 0 ∷ line 11 0 0 1 1 0 ∷ [];
}

-- a pointer replaced by another into the same region: counted once
abbrev pub again : Row
again = record {
  lent = 2 * 64;
  calls = declare (1 ∷ []) ∷ push 2 ∷ new_region ∷ allocate 0 1 1 ∷ allocate 1 2 1 ∷ set_pointer 0 0 1 0 ∷ allocate 1 2 1 ∷ set_pointer 0 0 1 0 ∷ report 2 ∷ [];
  skip = 9;
  prints = line 10 0 1 2 1 0 ∷ [];
}

-- hand back into a frame that was counted: its pointers leave the stored count before it is written
abbrev pub handed : Row
handed = record {
  lent = 2 * 64;
  calls =
      declare (0 ∷ []) ∷ push 2 ∷ new_region ∷ allocate 0 1 1 ∷ push 1 ∷ delete 2 0 ∷ report 1 ∷ fetch 0 0 ∷ hand_back 0 1 0 ∷ report 1 ∷ totals ∷ same 0 1 ∷ [];
  skip = 7;
  prints = line 8 0 1 1 1 0 ∷ line 9 0 0 0 0 0 ∷ line 10 0 1 0 0 0 ∷ line 11 0 0 2 1 0 ∷ line 12 0 1 1 1 0 ∷ line 13 0 1 0 0 0 ∷ [];
}

-- words: data and pointers, and why they are refused
abbrev pub word_rules : Row
word_rules = record {
  lent = 2 * 64;
  calls =
      declare (1 ∷ 0 ∷ 2 ∷ 4 ∷ []) ∷ declare (0 ∷ 0 ∷ []) ∷ push 2 ∷ load 0 0 0 ∷ allocate 0 1 1 ∷ allocate 1 1 2 ∷ put 1 1 7 ∷ get 1 1 ∷ get 0 0 ∷ put 0 1 9
      ∷ set_pointer 0 2 1 0 ∷ load 0 2 1 ∷ load 0 1 0 ∷ load 0 4 0 ∷ set_pointer 0 1 1 0 ∷ view 1 ∷ view 0 ∷ new_region ∷ allocate 1 2 2 ∷ set_pointer 0 2 1 0
      ∷ set_pointer 0 3 1 0 ∷ set_pointer 0 0 1 0 ∷ [];
  skip = 4;
  prints =
      line 5 14 0 0 0 0 ∷ line 6 0 0 0 0 0 ∷ line 7 0 0 0 0 0 ∷ line 8 0 0 0 0 0 ∷ line 9 0 7 0 0 0 ∷ line 10 16 0 0 0 0 ∷ line 11 0 0 0 0 0
      ∷ line 12 0 0 0 0 0 ∷ line 13 0 0 0 0 0 ∷ line 14 16 0 0 0 0 ∷ line 15 15 0 0 0 0 ∷ line 16 16 0 0 0 0 ∷ line 17 0 2 0 0 0 ∷ line 18 16 0 0 0 0
      ∷ line 19 0 2 0 0 0 ∷ line 20 0 0 0 0 0 ∷ line 21 17 0 0 0 0 ∷ line 22 17 0 0 0 0 ∷ line 23 0 0 0 0 0 ∷ [];
}

-- slots, frames and regions, and why they are refused
abbrev pub slot_rules : Row
slot_rules = record {
  lent = 2 * 64;
  calls =
      clear 0 ∷ declare (0 ∷ []) ∷ push 2 ∷ hand_back 0 0 0 ∷ allocate 0 2 1 ∷ allocate 0 1 2 ∷ allocate 2 1 1 ∷ allocate 0 1 1 ∷ first 1 1 ∷ same 0 1 ∷ about 1
      ∷ first 1 9 ∷ allocate 1 1 1 ∷ same 0 1 ∷ first 1 1 ∷ same 0 1 ∷ copy 0 2 ∷ push 1 ∷ fetch 2 0 ∷ hand_back 0 1 0 ∷ about 1 ∷ audit ∷ delete 1 0 ∷ delete 7 0 ∷ [];
  skip = 1;
  prints =
      line 2 6 0 0 0 0 ∷ line 3 0 1 0 0 0 ∷ line 4 0 1 0 0 0 ∷ line 5 6 0 0 0 0 ∷ line 6 2 0 0 0 0 ∷ line 7 12 0 0 0 0 ∷ line 8 9 0 0 0 0 ∷ line 9 0 0 0 0 0
      ∷ line 10 0 0 0 0 0 ∷ line 11 0 1 0 0 0 ∷ line 12 0 1 1 0 0 ∷ line 13 2 0 0 0 0 ∷ line 14 0 0 0 0 0 ∷ line 15 0 0 0 0 0 ∷ line 16 0 0 0 0 0
      ∷ line 17 0 1 0 0 0 ∷ line 18 9 0 0 0 0 ∷ line 19 0 2 0 0 0 ∷ line 20 9 0 0 0 0 ∷ line 21 0 1 0 0 0 ∷ line 22 0 0 0 0 0 ∷ line 23 0 1 0 0 0
      ∷ line 24 3 0 0 0 0 ∷ line 25 2 0 0 0 0 ∷ [];
}

-- ---- Document 02, card 1: a word marked 3 may lead to any region above

-- A round (region 2), a grid in it (3), an attempt in the grid (4), another grid of the round (5) and another round (6), each with an object. The attempt's word may lead
-- to the round, the grid, the attempt itself and null; not to the other round or the other grid, and no word leads downward. The round's count stays,
-- and the attempt can be deleted while its word leads to the round
abbrev pub three_levels : Row
three_levels = record {
  lent = 5 * 64;
  calls =
      declare (3 ∷ []) ∷ push 6 ∷ new_region ∷ subregion 2 ∷ subregion 3 ∷ subregion 2 ∷ new_region ∷ allocate 0 2 1 ∷ allocate 1 3 1 ∷ allocate 2 4 1
      ∷ allocate 3 5 1 ∷ allocate 4 6 1 ∷ report 2 ∷ set_pointer 2 0 0 0 ∷ report 2 ∷ set_pointer 2 0 1 0 ∷ set_pointer 2 0 2 0 ∷ set_pointer 2 0 5 0 ∷ set_pointer 2 0 0 0
      ∷ set_pointer 2 0 4 0 ∷ set_pointer 2 0 3 0 ∷ set_pointer 0 0 1 0 ∷ set_pointer 1 0 2 0 ∷ set_pointer 0 0 2 0 ∷ load 2 0 5 ∷ same 0 5 ∷ audit ∷ delete 2 0 ∷ clear 2
      ∷ delete 4 0 ∷ report 2 ∷ audit ∷ [];
  skip = 13;
  prints =
      line 14 0 0 1 1 2 ∷ line 15 0 0 0 0 0 ∷ line 16 0 0 1 1 2 ∷ line 17 0 0 0 0 0 ∷ line 18 0 0 0 0 0 ∷ line 19 0 0 0 0 0 ∷ line 20 0 0 0 0 0
      ∷ line 21 17 0 0 0 0 ∷ line 22 17 0 0 0 0 ∷ line 23 17 0 0 0 0 ∷ line 24 17 0 0 0 0 ∷ line 25 17 0 0 0 0 ∷ line 26 0 0 0 0 0 ∷ line 27 0 1 0 0 0
      ∷ line 28 0 1 0 0 0 ∷ line 29 18 0 0 0 0 ∷ line 30 0 0 0 0 0 ∷ line 31 0 1 0 0 0 ∷ line 32 0 0 2 1 2 ∷ line 33 0 1 0 0 0 ∷ [];
}

-- from level 16 (region 17) to level 1 (region 2), the longest way up; region 1 is not on it
abbrev pub sixteen_levels : Row
sixteen_levels = record {
  lent = 3 * 64;
  calls =
      declare (3 ∷ []) ∷ push 3 ∷ new_region ∷ subregion 2 ∷ subregion 3 ∷ subregion 4 ∷ subregion 5 ∷ subregion 6 ∷ subregion 7 ∷ subregion 8 ∷ subregion 9
      ∷ subregion 10 ∷ subregion 11 ∷ subregion 12 ∷ subregion 13 ∷ subregion 14 ∷ subregion 15 ∷ subregion 16 ∷ subregion 17 ∷ allocate 0 17 1
      ∷ allocate 1 2 1 ∷ allocate 2 1 1 ∷ set_pointer 0 0 1 0 ∷ set_pointer 0 0 2 0 ∷ audit ∷ [];
  skip = 18;
  prints =
      line 19 0 17 0 0 0 ∷ line 20 20 0 0 0 0 ∷ line 21 0 0 0 0 0 ∷ line 22 0 0 0 0 0 ∷ line 23 0 0 0 0 0 ∷ line 24 0 0 0 0 0 ∷ line 25 17 0 0 0 0
      ∷ line 26 0 1 0 0 0 ∷ [];
}

-- region 1 where the way up ends, two levels above: its count stays
abbrev pub to_region1 : Row
to_region1 = record {
  lent = 2 * 64;
  calls = declare (3 ∷ []) ∷ push 2 ∷ subregion 1 ∷ subregion 2 ∷ allocate 0 3 1 ∷ allocate 1 1 1 ∷ report 1 ∷ set_pointer 0 0 1 0 ∷ report 1 ∷ audit ∷ [];
  skip = 7;
  prints = line 8 0 0 1 1 1 ∷ line 9 0 0 0 0 0 ∷ line 10 0 0 1 1 1 ∷ line 11 0 1 0 0 0 ∷ [];
}

-- ---- Document 02, card 2: regions deleted together

-- A grid (region 2) and its drafts (3) lead to each other, so neither goes alone; both lead into region 4, and the drafts into region 1. They go together, with a page
-- each: their words leave the counts of the others, and the slots of the first frame, which is counted now, enter them
abbrev pub grid_and_drafts : Row
grid_and_drafts = record {
  lent = 4 * 64;
  calls =
      declare (1 ∷ 1 ∷ 1 ∷ []) ∷ push 4 ∷ new_region ∷ new_region ∷ new_region ∷ allocate 0 2 1 ∷ allocate 1 3 1 ∷ allocate 2 4 1 ∷ allocate 3 1 1 ∷ set_pointer 0 0 1 0
      ∷ set_pointer 1 0 0 0 ∷ set_pointer 0 1 2 0 ∷ set_pointer 1 1 2 0 ∷ set_pointer 1 2 3 0 ∷ clear 0 ∷ clear 1 ∷ push 1 ∷ report 2 ∷ report 4 ∷ report 1 ∷ delete 2 0 ∷ delete 3 0
      ∷ delete_all (2 ∷ 3 ∷ []) 0 ∷ report 4 ∷ report 1 ∷ totals ∷ report 2 ∷ audit ∷ [];
  skip = 18;
  prints =
      line 19 0 1 1 1 0 ∷ line 20 0 2 3 1 0 ∷ line 21 0 1 2 1 0 ∷ line 22 19 0 0 0 0 ∷ line 23 19 0 0 0 0 ∷ line 24 0 2 0 0 0 ∷ line 25 0 1 1 1 0
      ∷ line 26 0 1 1 1 0 ∷ line 27 0 2 2 2 1 ∷ line 28 2 0 0 0 0 ∷ line 29 0 1 0 0 0 ∷ [];
}

-- Region 3 lies in region 2, and 4 in 3: 18 while one of them is left out, also before the slot that leads into region 2, which gives 19 once all are named
abbrev pub left_out : Row
left_out = record {
  lent = 64;
  calls =
      declare (0 ∷ []) ∷ push 1 ∷ new_region ∷ subregion 2 ∷ subregion 3 ∷ allocate 0 2 1 ∷ delete_all (2 ∷ []) 0 ∷ delete_all (2 ∷ 3 ∷ []) 0 ∷ delete_all (2 ∷ 4 ∷ []) 0
      ∷ delete_all (4 ∷ 2 ∷ 3 ∷ []) 0 ∷ clear 0 ∷ delete_all (4 ∷ 2 ∷ 3 ∷ []) 0 ∷ totals ∷ [];
  skip = 7;
  prints =
      line 8 18 0 0 0 0 ∷ line 9 18 0 0 0 0 ∷ line 10 18 0 0 0 0 ∷ line 11 19 0 0 0 0 ∷ line 12 0 0 0 0 0 ∷ line 13 0 1 0 0 0 ∷ line 14 0 1 1 1 0 ∷ [];
}

-- Regions 2 and 3 lead to each other: 19 while a word of region 1 leads into region 3, while a slot of a frame that is not counted leads into region 2, and while that
-- frame is counted, which the delete of region 4 brings about; accepted once the slot is null
abbrev pub led_from_outside : Row
led_from_outside = record {
  lent = 3 * 64;
  calls =
      declare (1 ∷ []) ∷ push 3 ∷ new_region ∷ new_region ∷ new_region ∷ allocate 0 2 1 ∷ allocate 1 3 1 ∷ allocate 2 1 1 ∷ set_pointer 0 0 1 0 ∷ set_pointer 1 0 0 0
      ∷ set_pointer 2 0 1 0 ∷ clear 0 ∷ clear 1 ∷ delete_all (2 ∷ 3 ∷ []) 0 ∷ set_pointer 2 0 0 0 ∷ first 0 2 ∷ delete_all (2 ∷ 3 ∷ []) 0 ∷ push 1 ∷ delete 4 0 ∷ totals ∷ report 2
      ∷ delete_all (3 ∷ 2 ∷ []) 0 ∷ drop_frame 0 ∷ clear 0 ∷ delete_all (3 ∷ 2 ∷ []) 0 ∷ totals ∷ audit ∷ [];
  skip = 14;
  prints =
      line 15 19 0 0 0 0 ∷ line 16 0 0 0 0 0 ∷ line 17 0 0 0 0 0 ∷ line 18 19 0 0 0 0 ∷ line 19 0 2 0 0 0 ∷ line 20 0 0 0 0 0 ∷ line 21 0 0 3 2 1
      ∷ line 22 0 2 2 1 0 ∷ line 23 19 0 0 0 0 ∷ line 24 0 1 0 0 0 ∷ line 25 0 0 0 0 0 ∷ line 26 0 2 0 0 0 ∷ line 27 0 2 1 1 0 ∷ line 28 0 1 0 0 0 ∷ [];
}

-- Lists of names: none, one twice, whether it lives, is dead or is region 1; region 1 and a dead name, in either order; both before the subregion of region 2;
-- 17 names, all live, and 16
abbrev pub name_lists : Row
name_lists = record {
  lent = 64;
  calls =
      new_region ∷ subregion 2 ∷ replicate 15 new_region
      ++ (delete_all [] 0 ∷ delete_all (4 ∷ 5 ∷ 4 ∷ []) 0 ∷ delete_all (99 ∷ 99 ∷ []) 0 ∷ delete_all (1 ∷ 1 ∷ []) 0 ∷ delete_all (1 ∷ 99 ∷ []) 0 ∷ delete_all (99 ∷ 1 ∷ []) 0
      ∷ delete_all (2 ∷ 99 ∷ []) 0 ∷ delete_all (2 ∷ 1 ∷ []) 0 ∷ delete_all (2 ∷ 4 ∷ []) 0 ∷ delete_all (from 2 17) 0 ∷ delete_all (from 3 16) 0 ∷ totals ∷ []);
  skip = 18;
  prints =
      line 19 22 0 0 0 0 ∷ line 20 22 0 0 0 0 ∷ line 21 22 0 0 0 0 ∷ line 22 22 0 0 0 0 ∷ line 23 3 0 0 0 0 ∷ line 24 2 0 0 0 0 ∷ line 25 2 0 0 0 0
      ∷ line 26 3 0 0 0 0 ∷ line 27 18 0 0 0 0 ∷ line 28 22 0 0 0 0 ∷ line 29 0 0 0 0 0 ∷ line 30 0 1 2 0 0 ∷ [];
}

-- m after regions with no page: 0 where no frame stands; with three frames 2, and the slot of the lowest enters its region's count once; a refused list leaves m
abbrev pub m_once : Row
m_once = record {
  lent = 64;
  calls =
      declare (0 ∷ []) ∷ new_region ∷ new_region ∷ new_region ∷ new_region ∷ delete_all (2 ∷ 3 ∷ []) 0 ∷ totals ∷ push 1 ∷ allocate 0 1 1 ∷ push 1 ∷ push 1
      ∷ delete_all (4 ∷ 4 ∷ []) 0 ∷ totals ∷ delete_all (4 ∷ 5 ∷ []) 0 ∷ totals ∷ report 1 ∷ drop_frame 0 ∷ totals ∷ [];
  skip = 6;
  prints =
      line 7 0 0 0 0 0 ∷ line 8 0 1 3 0 0 ∷ line 9 0 1 0 0 0 ∷ line 10 0 0 0 0 0 ∷ line 11 0 2 0 0 0 ∷ line 12 0 3 0 0 0 ∷ line 13 22 0 0 0 0 ∷ line 14 0 0 3 3 0
      ∷ line 15 0 0 0 0 0 ∷ line 16 0 0 1 3 2 ∷ line 17 0 1 1 1 0 ∷ line 18 0 2 0 0 0 ∷ line 19 0 0 1 2 1 ∷ [];
}

-- All regions but region 1, which lead to each other in a ring: 19 while a slot leads there, 19 with no frame while region 1's word does, and accepted once it is null
abbrev pub all_others : Row
all_others = record {
  lent = 4 * 64;
  calls =
      declare (1 ∷ []) ∷ push 4 ∷ new_region ∷ subregion 2 ∷ subregion 1 ∷ allocate 0 1 1 ∷ allocate 1 2 1 ∷ allocate 2 3 1 ∷ allocate 3 4 1 ∷ set_pointer 0 0 1 0
      ∷ set_pointer 1 0 2 0 ∷ set_pointer 2 0 3 0 ∷ set_pointer 3 0 1 0 ∷ delete_all (2 ∷ 3 ∷ 4 ∷ []) 0 ∷ drop_frame 0 ∷ delete_all (2 ∷ 3 ∷ 4 ∷ []) 0 ∷ push 2 ∷ first 0 1
      ∷ set_pointer 0 0 1 0 ∷ drop_frame 0 ∷ delete_all (4 ∷ 3 ∷ 2 ∷ []) 0 ∷ totals ∷ report 1 ∷ audit ∷ [];
  skip = 14;
  prints =
      line 15 19 0 0 0 0 ∷ line 16 0 0 0 0 0 ∷ line 17 19 0 0 0 0 ∷ line 18 0 1 0 0 0 ∷ line 19 0 0 0 0 0 ∷ line 20 0 0 0 0 0 ∷ line 21 0 0 0 0 0
      ∷ line 22 0 3 0 0 0 ∷ line 23 0 3 1 0 0 ∷ line 24 0 0 0 1 0 ∷ line 25 0 1 0 0 0 ∷ [];
}

-- ---- Document 02, card 4: the lowest free page

-- Regions 2, 3 and 4 take pages 0, 1 and 2; the second object of region 2 stands at word 16 of its page, and of a null slot locate answers 256 and 0. Region 3 goes: region 4 still has
-- room on its newest page, and region 5 takes page 1, the lowest free one, before region 1 takes page 3. Region 2 goes, and region 6 takes page 0
abbrev pub lowest_again : Row
lowest_again = record {
  lent = 5 * 64;
  calls =
      declare (replicate 15 0) ∷ push 6 ∷ new_region ∷ new_region ∷ new_region ∷ allocate 0 2 1 ∷ allocate 1 3 1 ∷ allocate 2 2 1 ∷ allocate 3 4 1 ∷ ask (locate 0)
      ∷ ask (locate 1) ∷ ask (locate 2) ∷ ask (locate 3) ∷ ask (locate 4) ∷ clear 1 ∷ delete 3 0 ∷ ask (locate 3) ∷ allocate 1 4 1 ∷ ask (locate 1) ∷ new_region
      ∷ allocate 4 5 1 ∷ ask (locate 4) ∷ allocate 5 1 1 ∷ ask (locate 5) ∷ clear 0 ∷ clear 2 ∷ delete 2 0 ∷ new_region ∷ allocate 0 6 1 ∷ ask (locate 0) ∷ totals
      ∷ audit ∷ [];
  skip = 10;
  prints =
      line 11 0 0 0 0 0 ∷ line 12 0 1 0 0 0 ∷ line 13 0 0 16 0 0 ∷ line 14 0 2 0 0 0 ∷ line 15 0 256 0 0 0 ∷ line 16 0 0 0 0 0 ∷ line 17 0 1 0 0 0 ∷ line 18 0 2 0 0 0
      ∷ line 19 0 0 0 0 0 ∷ line 20 0 2 16 0 0 ∷ line 21 0 5 0 0 0 ∷ line 22 0 0 0 0 0 ∷ line 23 0 1 0 0 0 ∷ line 24 0 0 0 0 0 ∷ line 25 0 3 0 0 0 ∷ line 26 0 0 0 0 0
      ∷ line 27 0 0 0 0 0 ∷ line 28 0 1 0 0 0 ∷ line 29 0 6 0 0 0 ∷ line 30 0 0 0 0 0 ∷ line 31 0 0 0 0 0 ∷ line 32 0 1 4 1 0 ∷ line 33 0 1 0 0 0 ∷ [];
}

-- Four objects fill page 1, the newest of region 3. The next takes page 0, which is free again, and not page 2; the one after stands there too. Then a slot that is not there,
-- and no frame
abbrev pub page_full : Row
page_full = record {
  lent = 4 * 64;
  calls =
      declare (replicate 15 0) ∷ push 5 ∷ new_region ∷ new_region ∷ allocate 0 2 1 ∷ replicate 4 (allocate 1 3 1)
      ++ (ask (locate 1) ∷ clear 0 ∷ delete 2 0 ∷ ask (locate 0) ∷ allocate 2 3 1 ∷ ask (locate 2) ∷ allocate 3 3 1 ∷ ask (locate 3) ∷ ask (locate 1) ∷ ask (locate 5)
      ∷ drop_frame 0 ∷ ask (locate 0) ∷ audit ∷ []);
  skip = 10;
  prints =
      line 11 0 1 48 0 0 ∷ line 12 0 0 0 0 0 ∷ line 13 0 1 0 0 0 ∷ line 14 0 256 0 0 0 ∷ line 15 0 0 0 0 0 ∷ line 16 0 0 0 0 0 ∷ line 17 0 0 0 0 0 ∷ line 18 0 0 16 0 0
      ∷ line 19 0 1 48 0 0 ∷ line 20 9 0 0 0 0 ∷ line 21 0 0 0 0 0 ∷ line 22 6 0 0 0 0 ∷ line 23 0 1 0 0 0 ∷ [];
}

-- A joint delete leaves holes at pages 0 and 2; they are taken in that order, and then page 4; where none is left, 13, and the slot stays null
abbrev pub holes_filled : Row
holes_filled = record {
  lent = 5 * 64;
  calls =
      declare (0 ∷ []) ∷ push 8 ∷ new_region ∷ new_region ∷ new_region ∷ allocate 0 2 1 ∷ allocate 1 3 1 ∷ allocate 2 4 1 ∷ allocate 3 1 1 ∷ clear 0 ∷ clear 2
      ∷ delete_all (4 ∷ 2 ∷ []) 0 ∷ new_region ∷ allocate 4 5 1 ∷ ask (locate 4) ∷ new_region ∷ allocate 5 6 1 ∷ ask (locate 5) ∷ new_region ∷ allocate 6 7 1
      ∷ ask (locate 6) ∷ new_region ∷ allocate 7 8 1 ∷ ask (locate 7) ∷ ask (locate 3) ∷ audit ∷ [];
  skip = 12;
  prints =
      line 13 0 2 0 0 0 ∷ line 14 0 5 0 0 0 ∷ line 15 0 0 0 0 0 ∷ line 16 0 0 0 0 0 ∷ line 17 0 6 0 0 0 ∷ line 18 0 0 0 0 0 ∷ line 19 0 2 0 0 0 ∷ line 20 0 7 0 0 0
      ∷ line 21 0 0 0 0 0 ∷ line 22 0 4 0 0 0 ∷ line 23 0 8 0 0 0 ∷ line 24 13 0 0 0 0 ∷ line 25 0 256 0 0 0 ∷ line 26 0 3 0 0 0 ∷ line 27 0 1 0 0 0 ∷ [];
}

-- ---- Document 02, card 5: four fillers

-- Filler 1 sets a pointer and filler 2 clears it: the count is 1, and then 0 again, so that filler 3 can delete the region, which filler 0 could not while the pointer was there. The next region's
-- count is 0
abbrev pub crossed : Row
crossed = record {
  lent = 2 * 64;
  calls =
      declare (1 ∷ []) ∷ push 2 ∷ new_region ∷ allocate 0 1 1 ∷ allocate 1 2 1 ∷ set_pointer 0 0 1 1 ∷ report 2 ∷ clear 1 ∷ delete 2 0 ∷ set_pointer 0 0 1 2 ∷ report 2
      ∷ delete 2 3 ∷ new_region ∷ report 3 ∷ audit ∷ [];
  skip = 6;
  prints =
      line 7 0 0 0 0 0 ∷ line 8 0 1 2 1 0 ∷ line 9 0 0 0 0 0 ∷ line 10 19 0 0 0 0 ∷ line 11 0 0 0 0 0 ∷ line 12 0 0 0 1 0 ∷ line 13 0 1 0 0 0 ∷ line 14 0 3 0 0 0
      ∷ line 15 0 0 0 0 0 ∷ line 16 0 1 0 0 0 ∷ [];
}

-- Filler 3 sets another pointer over the one that filler 1 set: the old one leaves its region's count and the new one enters the other's; filler 0 sets it again, and nothing changes. While the pointer
-- is there filler 1 cannot delete that region, alone or by a list; once filler 2 has cleared it, it can
abbrev pub set_over : Row
set_over = record {
  lent = 3 * 64;
  calls =
      declare (1 ∷ []) ∷ push 3 ∷ new_region ∷ new_region ∷ allocate 0 1 1 ∷ allocate 1 2 1 ∷ allocate 2 3 1 ∷ set_pointer 0 0 1 1 ∷ set_pointer 0 0 2 3 ∷ clear 1 ∷ report 2
      ∷ report 3 ∷ delete 2 2 ∷ set_pointer 0 0 2 0 ∷ report 3 ∷ clear 2 ∷ delete 3 1 ∷ delete_all (3 ∷ []) 1 ∷ set_pointer 0 0 1 2 ∷ delete_all (3 ∷ []) 1 ∷ audit ∷ [];
  skip = 11;
  prints =
      line 12 0 0 0 1 0 ∷ line 13 0 1 2 1 0 ∷ line 14 0 1 0 0 0 ∷ line 15 0 0 0 0 0 ∷ line 16 0 1 2 1 0 ∷ line 17 0 0 0 0 0 ∷ line 18 19 0 0 0 0 ∷ line 19 19 0 0 0 0
      ∷ line 20 0 0 0 0 0 ∷ line 21 0 1 0 0 0 ∷ line 22 0 1 0 0 0 ∷ [];
}

-- A delete by filler 1 counts the lower frame. Filler 3 drops the upper one, and the lower leaves the count. A delete by filler 2 counts it again, and filler 0 hands null back to its slot
abbrev pub other_drops : Row
other_drops = record {
  lent = 64;
  calls =
      declare (0 ∷ []) ∷ push 1 ∷ new_region ∷ allocate 0 2 1 ∷ push 1 ∷ new_region ∷ delete 3 1 ∷ report 2 ∷ drop_frame 3 ∷ report 2 ∷ push 2 ∷ new_region ∷ delete 4 2 ∷ report 2
      ∷ hand_back 1 0 0 ∷ report 2 ∷ delete 2 3 ∷ audit ∷ [];
  skip = 7;
  prints =
      line 8 0 0 0 0 0 ∷ line 9 0 1 1 1 0 ∷ line 10 0 1 0 0 0 ∷ line 11 0 0 1 1 0 ∷ line 12 0 2 0 0 0 ∷ line 13 0 4 0 0 0 ∷ line 14 0 0 0 0 0 ∷ line 15 0 1 1 1 0
      ∷ line 16 0 1 0 0 0 ∷ line 17 0 0 0 1 0 ∷ line 18 0 1 0 0 0 ∷ line 19 0 1 0 0 0 ∷ [];
}

-- A filler above 3 in each of the five calls: where nothing stands and no name is right, and where nothing else is wrong; and the same calls by filler 3
abbrev pub fifth_filler : Row
fifth_filler = record {
  lent = 64;
  calls =
      drop_frame 4 ∷ hand_back 9 9 4 ∷ set_pointer 9 9 9 4 ∷ delete 9 4 ∷ delete_all [] 4 ∷ drop_frame 4294967295 ∷ drop_frame 3 ∷ hand_back 9 9 3 ∷ set_pointer 9 9 9 3 ∷ delete 9 3
      ∷ delete_all [] 3 ∷ declare (1 ∷ []) ∷ push 1 ∷ push 1 ∷ new_region ∷ new_region ∷ allocate 0 1 1 ∷ set_pointer 0 0 0 4 ∷ hand_back 0 0 4 ∷ drop_frame 4 ∷ delete 2 4
      ∷ delete_all (3 ∷ []) 4 ∷ totals ∷ set_pointer 0 0 0 3 ∷ hand_back 0 0 3 ∷ drop_frame 3 ∷ delete 2 3 ∷ delete_all (3 ∷ []) 3 ∷ totals ∷ [];
  skip = 1;
  prints =
      line 2 23 0 0 0 0 ∷ line 3 23 0 0 0 0 ∷ line 4 23 0 0 0 0 ∷ line 5 23 0 0 0 0 ∷ line 6 23 0 0 0 0 ∷ line 7 23 0 0 0 0 ∷ line 8 6 0 0 0 0 ∷ line 9 6 0 0 0 0
      ∷ line 10 6 0 0 0 0 ∷ line 11 2 0 0 0 0 ∷ line 12 22 0 0 0 0 ∷ line 13 0 1 0 0 0 ∷ line 14 0 1 0 0 0 ∷ line 15 0 2 0 0 0 ∷ line 16 0 2 0 0 0 ∷ line 17 0 3 0 0 0
      ∷ line 18 0 0 0 0 0 ∷ line 19 23 0 0 0 0 ∷ line 20 23 0 0 0 0 ∷ line 21 23 0 0 0 0 ∷ line 22 23 0 0 0 0 ∷ line 23 23 0 0 0 0 ∷ line 24 0 0 3 2 0 ∷ line 25 0 0 0 0 0
      ∷ line 26 0 1 0 0 0 ∷ line 27 0 0 0 0 0 ∷ line 28 0 0 0 0 0 ∷ line 29 0 0 0 0 0 ∷ line 30 0 0 1 0 0 ∷ [];
}

abbrev pub further : List Row
further = heap0 ∷ heap16384 ∷ heap16448 ∷ three_fit ∷ push9 ∷ regions65
    ∷ last_drops ∷ lost_room ∷ levels ∷ outgoing ∷ again ∷ handed ∷ word_rules ∷ slot_rules ∷ three_levels ∷ sixteen_levels ∷ to_region1
    ∷ grid_and_drafts ∷ left_out ∷ led_from_outside ∷ name_lists ∷ m_once ∷ all_others ∷ lowest_again ∷ page_full ∷ holes_filled
    ∷ crossed ∷ set_over ∷ other_drops ∷ fifth_filler ∷ []
