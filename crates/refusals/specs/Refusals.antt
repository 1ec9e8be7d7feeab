-- The numbers of refusals (document 01, Refusals; 22 to 24 are document 02's), and what a test gives: 0 where it refuses nothing.
-- Assumes nothing.
use Rattle.std.specs.Prelude.{ℕ, Result, Ok, Err}
use Rattle.refusals.specs.declared.Refusal.{Refusal}
use Rattle.refusals.specs.declared.Refusal.TheVariants.{HeapLength, NoRegion, Permanent, RegionsFull, NamesSpent, NoFrame, FramesFull, FrameSize, NoSlot, KindsFull, WrongMarks, NoKind, NoRoom, NullSlot, NoWord, WrongWord, BreaksMark, Subregion, Counted, Deepest, OtherHeap, WrongNames, NoFiller, NoCall}

abbrev pub number : Refusal → ℕ
number HeapLength = 1
number NoRegion = 2
number Permanent = 3
number RegionsFull = 4
number NamesSpent = 5
number NoFrame = 6
number FramesFull = 7
number FrameSize = 8
number NoSlot = 9
number KindsFull = 10
number WrongMarks = 11
number NoKind = 12
number NoRoom = 13
number NullSlot = 14
number NoWord = 15
number WrongWord = 16
number BreaksMark = 17
number Subregion = 18
number Counted = 19
number Deepest = 20
number OtherHeap = 21
number WrongNames = 22
number NoFiller = 23
number NoCall = 24

-- the number that a test refuses by, 0 where it accepts
abbrev pub refused : {A : Type 0} → Result A Refusal → ℕ
refused (Ok _) = 0
refused (Err r) = number r
