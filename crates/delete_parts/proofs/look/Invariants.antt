use mathlib.Core.Path.{◌≡◌, ◌∙◌}
use mathlib.Core.Bool.{Bool, true, false}
use mathlib.Core.List.{List}
use Prim.Native.Nat.{ℕ, ◌-◌, ◌<◌}
use Rattle.lists.specs.Lists.{any_of, from, up_to}
use Rattle.lists.specs.Laws.Finds.{any_map}
use Rattle.lists.specs.Laws.UpTo.{any_one, none_any}
use Rattle.frames.specs.Frames.{frame_count_in, width_in, slot_in}
use Rattle.pages.specs.Pages.{owner_in}
use Rattle.outcomes.specs.Store.{targets_in, led_among_in}
use Rattle.lists.specs.Ticks.{tick_at}
use Rattle.delete_parts.proofs.look.Given as goal

module _ (widths slots owners members : List ℕ) (i : ℕ) where
  abbrev pub into : ℕ → Bool
  into k = tick_at members (owner_in owners (slot_in slots i k))

  abbrev pub leads : Bool
  leads = any_of (tick_at members) (targets_in widths slots owners i)

  -- a frame leads into a member exactly if a slot of it does
  pub slot-by-slot : leads ≡ any_of into (up_to (width_in widths i))
  unfolding targets_in
  slot-by-slot = any_map (tick_at members) (λ s. owner_in owners (slot_in slots i s)) (up_to (width_in widths i))

  pub none : ((k : ℕ) → k < width_in widths i → into k ≡ false) → leads ≡ false
  none h = slot-by-slot ∙ none_any into (width_in widths i) h

  pub hit : (k : ℕ) → k < width_in widths i → into k ≡ true → leads ≡ true
  hit k h e = slot-by-slot ∙ any_one into (width_in widths i) k h e

-- no slot passed of the frame leads into a member
abbrev pub invariant-loop-k : goal.invariant-loop-k
invariant-loop-k l = (l.found ≡ false) × (l.w ≡ width_in l.frames.widths.now l.i) × ((j : ℕ) → j < l.k → into l.frames.widths.now l.frames.slots.now l.owners l.ticks l.i j ≡ false)

-- the frames left lead into a member exactly if all uncounted frames do
abbrev pub invariant-look : goal.invariant-look
invariant-look l =
    (l.found ≡ false) × (l.n ≡ frame_count_in l.frames.standing) × (any_of (leads l.frames.widths.now l.frames.slots.now l.owners l.ticks) (from l.i (frame_count_in l.frames.standing - l.i)) ≡ led_among_in l.frames.standing l.counted l.frames.widths.now l.frames.slots.now l.owners (tick_at l.ticks))
