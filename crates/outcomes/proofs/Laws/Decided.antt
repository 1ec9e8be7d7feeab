-- The audit's tests all hold exactly if its condition does.
-- Assumes nothing.
use Rattle.std.specs.Prelude.{◌≡◌, true}
use Rattle.lists.specs.Laws.Finds.{every_true, true_every}
use Rattle.outcomes.specs.Store.{Store}
use Rattle.outcomes.specs.Sound.{Sound, clauses, sound}

pub sound_is : (S : Store) → sound S ≡ true → Sound S
unfolding sound
sound_is S e =
    let t = every_true (λ b. b) (clauses S) e in
    record {
      counts = t.0;
      slots = t.1.0;
      words = t.1.1.0;
      held = t.1.1.1.0;
      made = t.1.1.1.1.0;
      declared = t.1.1.1.1.1.0;
      sizes = t.1.1.1.1.1.1.0;
      marks = t.1.1.1.1.1.1.1.0;
      standing = t.1.1.1.1.1.1.1.1.0;
      widths = t.1.1.1.1.1.1.1.1.1.0;
      levels = t.1.1.1.1.1.1.1.1.1.1.0;
      given = t.1.1.1.1.1.1.1.1.1.1.1.0;
      counted = t.1.1.1.1.1.1.1.1.1.1.1.1.0;
      heap_length = t.1.1.1.1.1.1.1.1.1.1.1.1.1.0;
      distinct = t.1.1.1.1.1.1.1.1.1.1.1.1.1.1.0;
      names_given = t.1.1.1.1.1.1.1.1.1.1.1.1.1.1.1.0;
      permanent = t.1.1.1.1.1.1.1.1.1.1.1.1.1.1.1.1.0;
      parents = t.1.1.1.1.1.1.1.1.1.1.1.1.1.1.1.1.1.0;
      filling = t.1.1.1.1.1.1.1.1.1.1.1.1.1.1.1.1.1.1.0;
      newest = t.1.1.1.1.1.1.1.1.1.1.1.1.1.1.1.1.1.1.1.0;
      oldest = t.1.1.1.1.1.1.1.1.1.1.1.1.1.1.1.1.1.1.1.1.0;
    }

pub is_sound : (S : Store) → Sound S → sound S ≡ true
unfolding sound
is_sound S h =
    true_every (λ b. b) (clauses S)
    (h.counts, (h.slots, (h.words, (h.held, (h.made, (h.declared, (h.sizes, (h.marks, (h.standing, (h.widths, (h.levels, (h.given, (h.counted, (h.heap_length, (h.distinct, (h.names_given, (h.permanent, (h.parents, (h.filling, (h.newest, (h.oldest, tt)))))))))))))))))))))
