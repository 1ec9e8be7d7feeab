-- Every row of the table holds, and every further row: one computed test over each list, and the claims of its rows from it.
-- Assumes nothing.
use Rattle.std.specs.Prelude.{◌≡◌, refl, Bool, true, false, ◌&&◌, ◌||◌, List, eqb, length}
use Rattle.std.proofs.Common.{eqb-true}
use Rattle.lists.specs.Lists.{every, equal, All}
use Rattle.lists.specs.Laws.All.{all_map}
use Rattle.lists.specs.Laws.Tests.{both, or_other}
use Rattle.lists.specs.Laws.Finds.{every_true}
use Rattle.lists.specs.Laws.Every.{equal_is}
use Rattle.model.specs.Calls.{makes}
use Rattle.model.specs.Sessions.{Row, printed, table}
use Rattle.model.specs.Further.{further}

-- a row prints its lines, and has no calls where its make is refused
abbrev pub Right : Row → Type 0
Right r = (printed r ≡ r.prints) × (makes r.lent ≡ false → length r.calls ≡ 0)

-- the same as a test
right : Row → Bool
right r = equal (equal eqb) (printed r) r.prints && (makes r.lent || eqb (length r.calls) 0)

right_is : (r : Row) → right r ≡ true → Right r
unfolding right
right_is r e =
    let t = both _ _ e in
    (equal_is (equal eqb) (equal_is eqb eqb-true) (printed r) r.prints t.0, λ m. eqb-true (length r.calls) 0 (or_other _ _ t.1 m))

rows_right : (rows : List Row) → every right rows ≡ true → All Right rows
rows_right rows e = all_map right_is rows (every_true right rows e)

all_right : every right table ≡ true
unfolding right printed
all_right = refl

further_right : every right further ≡ true
unfolding right printed
further_right = refl

pub table_prints : All Right table
table_prints = rows_right table all_right

pub further_prints : All Right further
further_prints = rows_right further further_right
