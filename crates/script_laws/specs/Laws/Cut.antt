-- A script cut in two.
-- Assumes nothing.
use Rattle.std.proofs.Common.{sym, subst}
use Rattle.std.specs.Prelude.{◌++◌}
use Rattle.feed.specs.Scripted.{Scripted}
use Rattle.feed.specs.Laws.Cuts.{scripted_both, scripted_cut}
use Rattle.script_laws.specs.Scripts.{CutAnywhere}

pub cut_anywhere : CutAnywhere
unfolding CutAnywhere
cut_anywhere t v x y q = (scripted_cut t v x y q, λ (u, o, p, a, b, e). subst (λ r. Scripted t (x ++ y) r v) (sym e) (scripted_both a b))
