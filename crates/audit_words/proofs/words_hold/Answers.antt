use borrow.Author.Rules.{rules}
use Rattle.lists.specs.Ticks.{tick_at}
use Rattle.lists.specs.Laws.Chains.{every_from_all}
use Rattle.kinds.specs.Kinds.{mark_in}
use Rattle.objects.specs.Parts.{header_in, word_in}
use Rattle.audit_words.specs.Words.{word_holds, words_hold}
use Rattle.audit_words.proofs.words_hold.Goals as goal

pub returns : goal.returns
unfolding words_hold
returns c =
    every_from_all (λ w. word_holds (tick_at c.args.heads.now) c.args.regions.now.names.now c.args.regions.now.parents.now c.args.regions.now.levels.now c.args.pages.now.owners.now c.args.own (mark_in c.args.kinds.now.marks.now (header_in c.args.object.now) w) (word_in c.args.object.now w)) c.args.n c.all.ensures.ran (λ x b q h k. search rules)
