use mathlib.Core.Path.{◌≡◌}
use mathlib.Core.List.{map}
use lib.ListN.{drop}
use Rattle.lists.specs.Ticks.{ticked}
use Rattle.members.specs.Members.{tag_by}
use Rattle.members.proofs.Laws.{or_else, refused_by}
use Rattle.members.proofs.Members.tick_named.Given as goal

-- with the names left, the refusal and the ticks are those of the whole list
abbrev pub invariant-loop-n : goal.invariant-loop-n
invariant-loop-n l = record {
  first : or_else l.first (refused_by l.names (drop l.n-index l.list)) ≡ refused_by l.names l.list;
  ticks : ticked l.self.ticks (map (tag_by l.names) (drop l.n-index l.list)) ≡ ticked l.initial.self.ticks (map (tag_by l.names) l.list);
}
