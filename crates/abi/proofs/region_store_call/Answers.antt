use Rattle.abi.proofs.region_store_call.Goals as goal

pub returns : goal.returns
returns c = (_, _, c.call_in-r.result, c.holds.ensures, c.holds-2.ensures, c.into.ensures, c.call_in-r.ensures)
