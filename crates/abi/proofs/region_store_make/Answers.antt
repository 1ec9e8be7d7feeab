use Rattle.abi.proofs.region_store_make.Goals as goal

pub returns : goal.returns
returns c = (_, c.make_in-r.result, c.holds.ensures, c.into.ensures, c.make_in-r.ensures)
