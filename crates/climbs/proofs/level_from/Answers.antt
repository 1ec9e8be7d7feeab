use mathlib.Core.Path.{◌≡◌, ◌∙◌, sym, ap}
use Prim.Native.Nat.{min}
use Rattle.regions.specs.Regions.{level_in}
use Rattle.regions.specs.Laws.Entries.{level_in_lem}
use Rattle.climbs.proofs.level_from.Goals as goal

-- the level that is kept, 16 at most
sixteen : (c : goal.After-min) → c.min.result ≡ min c.level_at.result 16
sixteen c = c.min.ensures

pub returns-then-t-eq0 : goal.returns-then-t-eq0
unfolding level_in
returns-then-t-eq0 c = rw c.if-t-eq0.true

pub returns : goal.returns
returns c =
    sixteen c ∙ ap (λ l. min l 16) (c.level_at.ensures ∙ sym (level_in_lem c.args.levels.now c.args.t c.if-t-eq0.false))
