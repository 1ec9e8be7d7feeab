use mathlib.Core.Path.{refl, ◌∙◌}
use Rattle.regions.specs.Regions.{live_count}
use Rattle.pages.specs.Pages.{pages_of}
use Rattle.outcomes.specs.Outcome.{Accepted, refusal, checks}
use Rattle.outcomes.proofs.Laws.Steps.{by_effect}
use Rattle.calls_about.proofs.totals_in.Goals as goal

pub returns : goal.returns
unfolding Accepted refusal checks pages_of live_count
returns c heap s = by_effect _ _ _ _ refl (c.gives.ensures ∙ rw (c.live_count.ensures, c.pages_of.ensures), refl)
