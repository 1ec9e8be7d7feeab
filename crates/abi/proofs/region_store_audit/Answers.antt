use mathlib.Core.Path.{refl}
use Rattle.dispatch.proofs.Laws.{answered}
use Rattle.abi.proofs.region_store_audit.Goals as goal

-- audit is call 22
pub returns : goal.returns
returns c = (_, _, c.audit_in-r.result, c.holds.ensures, c.holds.ensures, c.into.ensures, answered _ _ _ _ _ _ _ _ _ _ 22 refl c.audit_in-r.ensures refl refl refl)
