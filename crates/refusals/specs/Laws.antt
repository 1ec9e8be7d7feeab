-- No refusal has the number 0, proved.
use Rattle.std.proofs.Common.{◌≡◌, arith}
use Rattle.refusals.specs.Refusals.{number}
use Rattle.refusals.specs.declared.Refusal.{Refusal}
use Rattle.refusals.specs.declared.Refusal.TheVariants.{HeapLength, NoRegion, Permanent, RegionsFull, NamesSpent, NoFrame, FramesFull, FrameSize, NoSlot, KindsFull, WrongMarks, NoKind, NoRoom, NullSlot, NoWord, WrongWord, BreaksMark, Subregion, Counted, Deepest, OtherHeap, WrongNames, NoFiller, NoCall}

pub number_not_0 : (r : Refusal) → number r ≡ 0 → ⊥
number_not_0 = elim [
  | HeapLength ↦ λ e. omega arith
  | NoRegion ↦ λ e. omega arith
  | Permanent ↦ λ e. omega arith
  | RegionsFull ↦ λ e. omega arith
  | NamesSpent ↦ λ e. omega arith
  | NoFrame ↦ λ e. omega arith
  | FramesFull ↦ λ e. omega arith
  | FrameSize ↦ λ e. omega arith
  | NoSlot ↦ λ e. omega arith
  | KindsFull ↦ λ e. omega arith
  | WrongMarks ↦ λ e. omega arith
  | NoKind ↦ λ e. omega arith
  | NoRoom ↦ λ e. omega arith
  | NullSlot ↦ λ e. omega arith
  | NoWord ↦ λ e. omega arith
  | WrongWord ↦ λ e. omega arith
  | BreaksMark ↦ λ e. omega arith
  | Subregion ↦ λ e. omega arith
  | Counted ↦ λ e. omega arith
  | Deepest ↦ λ e. omega arith
  | OtherHeap ↦ λ e. omega arith
  | WrongNames ↦ λ e. omega arith
  | NoFiller ↦ λ e. omega arith
  | NoCall ↦ λ e. omega arith
]
