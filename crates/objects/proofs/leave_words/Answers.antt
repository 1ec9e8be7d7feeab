use mathlib.Core.Path.{refl, sym, ap, ◌∙◌}
use mathlib.Core.List.{[], ◌∷◌}
use native.Mathlib.Omega.{arith}
use borrow.Author.Rules.{rules}
use Rattle.kinds.specs.Kinds.{mark_in}
use Rattle.regions.specs.Laws.Steps.{steps, leavings}
use Rattle.objects.specs.Objects.{out_of}
use Rattle.objects.specs.Parts.{word_in, free_words_in}
use Rattle.objects.specs.Laws.Words.{free_one, free_not}
use Rattle.objects.specs.Laws.Leaving.{left_left}
use Rattle.objects.proofs.leave_words.Goals as goal
use Rattle.objects.proofs.leave_words.Goals.{else-mark_at-eq1, then-mark_at-eq1}

pub loop-w-init : goal.loop-w-init
unfolding out_of free_words_in steps
loop-w-init c = refl

pub loop-w-preserved : goal.loop-w-preserved
loop-w-preserved c =
    let m = c.mark_at.ensures ∙ ap (λ k₁. mark_in c.args.kinds.now.marks.now k₁ c.loop-w.w) c.kind_of-kind.ensures in
    elim c.if-mark_at-eq1.branch [
      | then-mark_at-eq1 w ↦ rw (free_one c.args.kinds.now.marks.now c.args.object.now c.loop-w.w (sym m ∙ w.if-mark_at-eq1.true), ← left_left c.args.owners.now c.args.own c.args.filler c.args.shares.now (free_words_in c.args.kinds.now.marks.now c.args.object.now c.loop-w.w) (word_in c.args.object.now c.loop-w.w ∷ []), ← c.loop-w.invariant)
          (w.shares-is ∙ w.leave_word.ensures ∙ ap (λ v. leavings c.args.filler c.loop-w.shares (out_of c.args.owners.now c.args.own (v ∷ []))) w.word_at.ensures)
      | else-mark_at-eq1 w ↦ rw (free_not c.args.kinds.now.marks.now c.args.object.now c.loop-w.w (λ q. w.if-mark_at-eq1.false (m ∙ q))) (w.shares-is ∙ c.loop-w.invariant)
    ]
