use mathlib.Core.List.{[]}
use borrow.Author.Rules.{rules}
use Rattle.abi.proofs.Laws.{numbered, holds}
use Rattle.abi.proofs.holds.Goals as goal

pub returns : goal.returns
returns c = holds _ _ (numbered c.args.numbers _ (search rules)) (c.arrays_shaped.ensures [] tt)
