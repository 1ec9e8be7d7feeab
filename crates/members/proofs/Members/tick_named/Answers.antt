use mathlib.Core.Path.{◌≡◌, sym, ◌∙◌}
use Prim.Native.Nat.{◌<◌}
use native.Mathlib.Omega.{arith}
use borrow.Author.Rules.{rules}
use lib.ListN.{length}
use Rattle.std.specs.Result.{result_and}
use Rattle.regions.specs.Laws.Entries.{entry_most}
use Rattle.members.specs.Members.{tag_by}
use Rattle.members.proofs.Laws.{refused_more, refused_end, ticked_more, ticked_end}
use Rattle.members.proofs.Members.tick_named.Goals as goal

pub overflow_add-e : goal.overflow_add-e
overflow_add-e c = omega (arith, entry_most)

pub loop-n-preserved : goal.loop-n-preserved
loop-n-preserved c =
    let h : c.loop-n.n-index < length c.args.list.now = omega arith in
    let list = c.args.list.now in
    let names = c.args.names.now in
    let kept : c.and-first.result ≡ result_and c.loop-n.first c.name_refusal.result = search rules in record {
      first = rw kept (refused_more list c.loop-n.n-index h names _ c.entry_of-e.ensures c.loop-n.first _ c.name_refusal.ensures) ∙ c.loop-n.invariant.first;
      ticks = ticked_more list c.loop-n.n-index h names _ c.entry_of-e.ensures _ _ c.tick.ensures ∙ c.loop-n.invariant.ticks;
    }

pub returns : goal.returns
returns c = (
  sym (refused_end c.args.names.now c.args.list.now c.loop-n.n-index c.loop-n.first (omega arith)) ∙ c.loop-n.invariant.first,
  sym (ticked_end c.loop-n.self.ticks c.args.list.now (tag_by c.args.names.now) c.loop-n.n-index (omega arith)) ∙ c.loop-n.invariant.ticks,
)
