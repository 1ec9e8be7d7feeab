use Rattle.std.proofs.Common.{◌≡◌, ◌<◌, ◌++◌, length, get_or, drop, refl, sym, ◌∙◌, arith, length-take, eq-eqb, ne_eqb, eqb}
use Rattle.std.proofs.lemmas.List.{set-append_left, get_or_append_left, take-append-drop}
use Rattle.lists.specs.Lists.{pick}
use Rattle.lists.specs.Laws.Zeroed.{zeroed_none}
use Rattle.pages.specs.Pages.{page_count_in, pages_in}
use Rattle.outcomes.proofs.Laws.Deleted.{gives_by}
use Rattle.apart.proofs.Laws.{zeroed_without}
use Rattle.apart.proofs.give_back_one.Invariants.{its}
use Rattle.apart.proofs.give_back_one.Goals as goal
use Rattle.apart.proofs.give_back_one.Goals.{then-o-tag, else-o-tag}

pub loop-o-init : goal.loop-o-init
loop-o-init c = take-append-drop c.page_count-n.result c.args.owners.now ∙ zeroed_none (its c.args.owners.now c.args.tag) c.args.owners.now

pub loop-o-preserved : goal.loop-o-preserved
loop-o-preserved c =
    let j = c.loop-o.o-index in
    let items = c.loop-o.o-items in
    let rest = drop c.page_count-n.result c.args.owners.now in
    let h : j < length items = omega arith in
    let left : c.if-o-tag.o ≡ pick (eqb (get_or items j 0) c.args.tag) 0 (get_or items j 0) = elim c.if-o-tag.branch [
      | then-o-tag w ↦ rw (eq-eqb _ _ w.if-o-tag.true) w.o-is
      | else-o-tag w ↦ rw (ne_eqb _ _ w.if-o-tag.false) w.o-is
    ] in
    sym (set-append_left items rest j c.if-o-tag.o h)
    ∙ zeroed_without c.args.tag c.args.owners.now j (items ++ rest) (get_or items j 0) c.if-o-tag.o c.loop-o.invariant (sym (get_or_append_left items rest 0 j h)) left

pub returns : goal.returns
unfolding pages_in
returns c =
    let e : page_count_in c.args.made ≡ c.loop-o.o-index = omega (arith, length-take c.page_count-n.result c.args.owners.now) in
    gives_by _ _ _ _ _ (rw e c.loop-o.invariant) refl
