-- The laws by which everything else knows a change of stored counts (Regions, `recount`): what a share and a count are afterwards, and that nothing else of the regions changes.
-- What is left of the array of shares itself stands at the end: its shape, and that shares changed in place are those of `recount`.
-- Assumes nothing.
use Rattle.std.specs.Prelude.{◌≡◌, ℕ, suc, ◌+◌, ◌<◌, List, [], ◌∷◌, ◌++◌, length, ◌==◌, slice_index}
use Rattle.std.proofs.Math.Path.{refl, ap}
use Rattle.std.proofs.Common.{sym, ◌∙◌, inl, append-nil}
use Rattle.lists.specs.Lists.{pick, All, times}
use Rattle.lists.specs.Laws.Kept.{all_places}
use Rattle.regions.specs.declared.Regions.{Regions}
use Rattle.regions.specs.Regions.{share_at, count_at, with_shares, rolled, moved, recount}
use Rattle.regions.specs.Laws.Counts.{Shares, rolled_none, rolled_exact, count_below, moved_length, moved_below, moved_shares, share_moved, count_moved, moved_none, moved_moved, moved_same, moved_come_skip, moved_gone_skip}
use Rattle.regions.specs.Laws.Steps.{steps, enterings, leavings, enterings_moved, leavings_moved}

-- h is g but for the shares of stored counts
pub record Beside (g h : Regions) : Type 0 where
  pub given : h.given ≡ g.given
  pub names : h.names ≡ g.names
  pub parents : h.parents ≡ g.parents
  pub levels : h.levels ≡ g.levels
  pub newest : h.newest ≡ g.newest
  pub oldest : h.oldest ≡ g.oldest

pub beside_same : (g : Regions) → Beside g g
beside_same g = record { given = refl; names = refl; parents = refl; levels = refl; newest = refl; oldest = refl }

-- a stored count has 32 bits, whatever the shares are
pub total_below : (g : Regions) (i : ℕ) → count_at g i < 4294967296
unfolding count_at
total_below g i = count_below g.shares i

-- so nothing of it is rolled over where no pointer moves
pub total_still : (g : Regions) (i : ℕ) → rolled (count_at g i) 0 0 ≡ count_at g i
total_still g i = rolled_none (count_at g i) (total_below g i)

-- lists that have each tag but 0 equally often move the counts alike
pub recount_same : (g : Regions) (f : ℕ) (come a b : List ℕ) → ((i : ℕ) → times (suc i) a ≡ times (suc i) b) → recount g f come a ≡ recount g f come b
unfolding recount
recount_same g f come a b h = ap (with_shares g) (moved_same f g.shares come a come b (λ i l. refl) (λ i l. h i))

module _ (g : Regions) (f : ℕ) (come gone : List ℕ) where
  pub recount_beside : Beside g (recount g f come gone)
  unfolding recount with_shares
  recount_beside = record { given = refl; names = refl; parents = refl; levels = refl; newest = refl; oldest = refl }

  -- a share of filler f moves by what came and went, and one of another filler stays
  pub recount_share : (h i : ℕ) → h < 4 → i < 64 → share_at (recount g f come gone) h i ≡ pick (h == f) (rolled (share_at g h i) (times (suc i) come) (times (suc i) gone)) (share_at g h i)
  unfolding recount with_shares share_at
  recount_share h i k l = share_moved f g.shares come gone h i k l

  module _ (small : f < 4) where
    pub recount_at : (i : ℕ) → i < 64 → count_at (recount g f come gone) i ≡ rolled (count_at g i) (times (suc i) come) (times (suc i) gone)
    unfolding recount with_shares count_at
    recount_at i h = count_moved f g.shares come gone i small h

    -- a count is n afterwards, if n is what was kept with what came and without what went
    pub recount_exact : (i n : ℕ) → i < 64 → n + times (suc i) gone ≡ count_at g i + times (suc i) come → n < 4294967296 → count_at (recount g f come gone) i ≡ n
    recount_exact i n l e h = recount_at i l ∙ rolled_exact (count_at g i) (times (suc i) come) (times (suc i) gone) n e h

  -- tag 0 is no region's: its pointers change nothing
  pub recount_come_none : recount g f (0 ∷ come) gone ≡ recount g f come gone
  unfolding recount
  recount_come_none = ap (with_shares g) (moved_come_skip f g.shares come gone 0 (inl refl))

  pub recount_gone_none : recount g f come (0 ∷ gone) ≡ recount g f come gone
  unfolding recount
  recount_gone_none = ap (with_shares g) (moved_gone_skip f g.shares come gone 0 (inl refl))

  -- the array afterwards is one of 256 numbers of 32 bits, if it was
  pub recount_length : length (recount g f come gone).shares ≡ 256
  unfolding recount with_shares
  recount_length = moved_length f g.shares come gone

  pub recount_shares : Shares g.shares → Shares (recount g f come gone).shares
  unfolding recount with_shares
  recount_shares = moved_shares f g.shares come gone

  pub recount_below : ((p : ℕ) → slice_index g.shares p < 4294967296) → All (λ x. x < 4294967296) (recount g f come gone).shares
  unfolding recount with_shares
  recount_below h = all_places (λ x. x < 4294967296) (moved f g.shares come gone) 0 (λ p l. moved_below f g.shares come gone h p)

-- one change after the other; and none
pub recount_recount : (g : Regions) (f : ℕ) (a b come gone : List ℕ) → recount (recount g f a b) f come gone ≡ recount g f (a ++ come) (b ++ gone)
unfolding recount with_shares
recount_recount g f a b come gone = ap (with_shares g) (moved_moved f g.shares a b come gone)

pub recount_none : (g : Regions) (f : ℕ) → Shares g.shares → recount g f [] [] ≡ g
unfolding recount with_shares
recount_none g f fits = ap (with_shares g) (moved_none f g.shares fits)

-- the shares of an entry change alike by lists that have its tag equally often
pub recount_alike : (g : Regions) (f : ℕ) (come a b : List ℕ) (h i : ℕ) → h < 4 → i < 64 → times (suc i) a ≡ times (suc i) b → share_at (recount g f come a) h i ≡ share_at (recount g f come b) h i
recount_alike g f come a b h i k l e = recount_share g f come a h i k l ∙ rw e (sym (recount_share g f come b h i k l))

-- the shares changed in place, one pointer after the other, are those of `recount`: pointers that leave, and others that enter after them
module _ (g : Regions) (f : ℕ) (small : f < 4) (fits : Shares g.shares) where
  pub enter_leave_recount : (come gone : List ℕ) → with_shares g (enterings f (leavings f g.shares gone) come) ≡ recount g f come gone
  unfolding recount
  enter_leave_recount come gone =
      ap (with_shares g)
      (ap (λ c. enterings f c come) (leavings_moved f small g.shares gone fits)
      ∙ enterings_moved f small (moved f g.shares [] gone) come (moved_shares f g.shares [] gone fits)
      ∙ moved_moved f g.shares [] gone come []
      ∙ ap (moved f g.shares come) (append-nil gone))

  pub leave_recount : (gone : List ℕ) → with_shares g (leavings f g.shares gone) ≡ recount g f [] gone
  unfolding steps
  leave_recount gone = enter_leave_recount [] gone
