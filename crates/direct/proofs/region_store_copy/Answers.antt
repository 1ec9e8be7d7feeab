use mathlib.Core.Path.{refl}
use Rattle.outcomes.specs.Outcome.{Accepted}
use Rattle.direct.proofs.Laws.{by_numbers}
use Rattle.direct.proofs.region_store_copy.Goals as goal

pub returns : goal.returns
unfolding Accepted
returns c s = by_numbers 0 _ (λ g. refl) (λ S T a o. (_, o.0, refl)) _ _ _ (c.copy_in-r.ensures s)
