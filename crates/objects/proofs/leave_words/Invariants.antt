use mathlib.Core.Path.{◌≡◌}
use Rattle.regions.specs.Laws.Steps.{leavings}
use Rattle.objects.specs.Objects.{out_of}
use Rattle.objects.specs.Parts.{free_words_in}
use Rattle.objects.proofs.leave_words.Given as goal

-- the words passed have left
abbrev pub invariant-loop-w : goal.invariant-loop-w
invariant-loop-w l = l.shares ≡ leavings l.filler l.initial.shares (out_of l.owners l.own (free_words_in l.kinds.marks.now l.object l.w))
