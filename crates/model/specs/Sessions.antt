-- Document 01's session and its starred cases on the reference model: a table of calls and of the lines that they print. `Laws.Sessions` proves every row.
-- Assumes nothing.
use Rattle.std.specs.Prelude.{true, false, List, [], ◌∷◌, ◌++◌, ℕ, suc, ◌*◌, ◌/◌, eqb, length, get_or, replicate, drop}
use Rattle.lists.specs.Lists.{pick}
use Rattle.model.specs.Model.{Answer, Call, declare, new_region, subregion, push, drop_frame, allocate, clear, set_pointer, report, totals, delete}
use Rattle.model.specs.Calls.{run, makes, fresh}

-- a printed line: the call's place, its refusal and four values
abbrev pub line : ℕ → ℕ → ℕ → ℕ → ℕ → ℕ → List ℕ
line n e a b c d = n ∷ e ∷ a ∷ b ∷ c ∷ d ∷ []

-- what a line has of an answer: the refusal and the values; of view, which answers a part, the length of that part in the place of the first value, as scripts print it
abbrev pub shown : Answer → List ℕ
shown a = a.refusal ∷ pick (eqb (length a.part) 0) (get_or a.values 0 0) (length a.part) ∷ drop 1 a.values

abbrev pub lines : ℕ → List Answer → List (List ℕ)
lines n [] = []
lines n (a ∷ more) = (n ∷ shown a) ∷ lines (suc n) more

-- make, with w words, and then the calls; none if make is refused
unfoldable pub session : ℕ → List Call → List (List ℕ)
unfolding run
session w cs = elim (makes w) [ true ↦ line 1 0 0 0 0 0 ∷ lines 2 (run (fresh (w / 64)) cs) | false ↦ line 1 1 0 0 0 0 ∷ [] ]

-- the words given to make, the calls after it, and the lines printed, but for the first `skip` of them
pub record Row : Type 0 where
  pub lent : ℕ
  pub calls : List Call
  pub skip : ℕ
  pub prints : List (List ℕ)

unfoldable pub printed : Row → List (List ℕ)
unfolding session
printed r = drop r.skip (session r.lent r.calls)

-- ---- The session, and the starred cases in document 01's order

abbrev pub document : Row
document = record {
  lent = 2 * 64;
  calls =
      declare (1 ∷ 0 ∷ []) ∷ push 2 ∷ new_region ∷ allocate 0 1 1 ∷ allocate 1 2 1 ∷ set_pointer 0 0 1 0 ∷ report 2 ∷ clear 1 ∷ delete 2 0
      ∷ set_pointer 0 0 1 0 ∷ delete 2 0 ∷ new_region ∷ report 2 ∷ allocate 1 3 1 ∷ drop_frame 0 ∷ [];
  skip = 0;
  prints =
      line 1 0 0 0 0 0
      ∷ line 2 0 1 0 0 0
      ∷ line 3 0 1 0 0 0
      ∷ line 4 0 2 0 0 0
      ∷ line 5 0 0 0 0 0
      ∷ line 6 0 0 0 0 0
      ∷ line 7 0 0 0 0 0
      ∷ line 8 0 1 2 1 0
      ∷ line 9 0 0 0 0 0
      ∷ line 10 19 0 0 0 0
      ∷ line 11 0 0 0 0 0
      ∷ line 12 0 1 0 0 0
      ∷ line 13 0 3 0 0 0
      ∷ line 14 2 0 0 0 0
      ∷ line 15 0 0 0 0 0
      ∷ line 16 0 0 0 0 0
      ∷ [];
}

-- a heap of 64 words
abbrev pub heap64 : Row
heap64 = record { lent = 64; calls = []; skip = 0; prints = line 1 0 0 0 0 0 ∷ [] }

-- 17 marks; the row also shows the other half of its line, which has no star, 16 marks
abbrev pub marks17 : Row
marks17 = record { lent = 64; calls = declare (replicate 17 0) ∷ declare (replicate 16 0) ∷ []; skip = 1; prints = line 2 11 0 0 0 0 ∷ line 3 0 1 0 0 0 ∷ [] }

-- a kind of 15 words: the first of two pages takes four, and the fifth takes the other page
abbrev pub four_fit : Row
four_fit = record {
  lent = 2 * 64;
  calls = declare (replicate 15 0) ∷ push 1 ∷ replicate 4 (allocate 0 1 1) ++ (totals ∷ allocate 0 1 1 ∷ totals ∷ []);
  skip = 6;
  prints = line 7 0 0 0 0 0 ∷ line 8 0 1 1 1 0 ∷ line 9 0 0 0 0 0 ∷ line 10 0 0 1 1 0 ∷ [];
}

-- one page, and full: 13 until its region is deleted
abbrev pub full : Row
full = record {
  lent = 64;
  calls = declare (replicate 15 0) ∷ push 1 ∷ new_region ∷ replicate 5 (allocate 0 2 1) ++ (clear 0 ∷ delete 2 0 ∷ new_region ∷ allocate 0 3 1 ∷ []);
  skip = 7;
  prints = line 8 0 0 0 0 0 ∷ line 9 13 0 0 0 0 ∷ line 10 0 0 0 0 0 ∷ line 11 0 1 0 0 0 ∷ line 12 0 3 0 0 0 ∷ line 13 0 0 0 0 0 ∷ [];
}

-- a word marked 1 that leads to its own object: the count stays
abbrev pub itself : Row
itself = record {
  lent = 64;
  calls = declare (1 ∷ []) ∷ push 1 ∷ new_region ∷ allocate 0 2 1 ∷ report 2 ∷ set_pointer 0 0 0 0 ∷ report 2 ∷ [];
  skip = 5;
  prints = line 6 0 0 1 1 0 ∷ line 7 0 0 0 0 0 ∷ line 8 0 0 1 1 0 ∷ [];
}

-- a word marked 3 that leads to the region above: the count stays
abbrev pub upward : Row
upward = record {
  lent = 2 * 64;
  calls = declare (3 ∷ []) ∷ push 2 ∷ subregion 1 ∷ allocate 0 2 1 ∷ allocate 1 1 1 ∷ report 1 ∷ set_pointer 0 0 1 0 ∷ report 1 ∷ [];
  skip = 6;
  prints = line 7 0 0 1 1 1 ∷ line 8 0 0 0 0 0 ∷ line 9 0 0 1 1 1 ∷ [];
}

-- the 33rd frame, after the 32nd
abbrev pub frames33 : Row
frames33 = record { lent = 64; calls = replicate 33 (push 1); skip = 32; prints = line 33 0 32 0 0 0 ∷ line 34 7 0 0 0 0 ∷ [] }

-- delete, with a subregion and an outside pointer: 18; without the subregion it is 19, so the pointer was there
abbrev pub sub_first : Row
sub_first = record {
  lent = 64;
  calls = declare (1 ∷ []) ∷ push 1 ∷ new_region ∷ subregion 2 ∷ allocate 0 2 1 ∷ delete 2 0 ∷ delete 3 0 ∷ delete 2 0 ∷ [];
  skip = 6;
  prints = line 7 18 0 0 0 0 ∷ line 8 0 0 0 0 0 ∷ line 9 19 0 0 0 0 ∷ [];
}

-- three frames and an accepted delete: m is 2, and after a drop 1
abbrev pub m_falls : Row
m_falls = record {
  lent = 64;
  calls = push 1 ∷ push 1 ∷ push 1 ∷ new_region ∷ delete 2 0 ∷ totals ∷ drop_frame 0 ∷ totals ∷ [];
  skip = 5;
  prints = line 6 0 0 0 0 0 ∷ line 7 0 1 1 3 2 ∷ line 8 0 2 0 0 0 ∷ line 9 0 1 1 2 1 ∷ [];
}

abbrev pub table : List Row
table = document ∷ heap64 ∷ marks17 ∷ four_fit ∷ full ∷ itself ∷ upward ∷ frames33 ∷ sub_first ∷ m_falls ∷ []
