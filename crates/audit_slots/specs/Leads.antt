-- The audit's tests of newest pages, oldest objects and slots, as code runs them (document 01, Audit), over the numbers and lists that they read.
-- Those that look pointers up are over any test `stands` of a place.
-- Assumes nothing.
use Rattle.std.specs.Prelude.{Bool, ◌&&◌, ◌||◌, List, ℕ, ◌+◌, ◌-◌, eqb, ltb, get_or}
use Rattle.lists.specs.Lists.{every, up_to}
use Rattle.frames.specs.Frames.{frame_count_in, width_in, slot_in}
use Rattle.pages.specs.Pages.{page_count_in, owner_in}

-- the newest page of entry i, if it has one, is its own
unfoldable pub newest_fits : List ℕ → ℕ → List ℕ → ℕ → Bool
newest_fits newest made owners i = let n = get_or newest i 0 in eqb n 0 || (ltb (n - 1) (page_count_in made) && eqb (get_or owners (n - 1) 0) (i + 1))

module _ (stands : ℕ → Bool) where
  -- so is its oldest object
  unfoldable pub oldest_fits : List ℕ → List ℕ → ℕ → Bool
  oldest_fits oldest owners i = let v = get_or oldest i 0 in eqb v 0 || (stands (v - 1) && eqb (owner_in owners v) (i + 1))

  unfoldable pub entry_owns : List ℕ → List ℕ → List ℕ → ℕ → List ℕ → ℕ → Bool
  entry_owns names newest oldest made owners i = eqb (get_or names i 0) 0 || (newest_fits newest made owners i && oldest_fits oldest owners i)

  unfoldable pub entries_own : List ℕ → List ℕ → List ℕ → ℕ → List ℕ → Bool
  entries_own names newest oldest made owners = every (entry_owns names newest oldest made owners) (up_to 64)

  -- a pointer is null or leads to an object; so of every slot of frame i, and of all frames
  unfoldable pub known : ℕ → Bool
  known v = eqb v 0 || stands (v - 1)

  unfoldable pub frame_leads : List ℕ → List ℕ → ℕ → Bool
  frame_leads widths slots i = every (λ s. known (slot_in slots i s)) (up_to (width_in widths i))

  unfoldable pub frames_lead : ℕ → List ℕ → List ℕ → Bool
  frames_lead standing widths slots = every (frame_leads widths slots) (up_to (frame_count_in standing))
