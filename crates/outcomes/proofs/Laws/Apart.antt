-- Pages one after the other: the scan moves the shares of its filler alone, the giving back the owners alone, and what they are then.
-- Assumes nothing.
use Rattle.std.specs.Prelude.{◌≡◌, Bool, get_or, set}
use Rattle.std.proofs.Math.Path.{refl, ap, fun_ext}
use Rattle.std.proofs.Common.{sym, ◌∙◌, add-one}
use Rattle.std.proofs.Math.Bool.{true, false}
use mathlib.Core.List.{List, [], ◌++◌, append-nil, append_assoc}
use Prim.Native.Nat.{ℕ, zero, suc, ◌+◌, ◌<◌}
use Rattle.lists.specs.Lists.{pick, count_of, joined, up_to, zeroed}
use Rattle.lists.specs.Laws.Tests.{by_test}
use Rattle.lists.specs.Laws.UpTo.{joined_next, joined_suc}
use Rattle.lists.specs.Laws.Zeroed.{below, zeroed_none, zeroed_later, zeroed_own, zeroed_other}
use Rattle.kinds.specs.declared.Kinds.{Kinds}
use Rattle.regions.specs.declared.Regions.{Regions}
use Rattle.regions.specs.Regions.{with_shares, recount}
use Rattle.regions.specs.Laws.Counts.{Shares}
use Rattle.regions.specs.Laws.Steps.{leavings, steps_append}
use Rattle.regions.specs.Laws.Recount.{recount_recount, recount_none, recount_shares, leave_recount}
use Rattle.pages.specs.declared.Pages.{Pages}
use Rattle.pages.specs.Pages.{pages_with, owner_at, taken_at}
use Rattle.objects.specs.Objects.{free_words_on, free_words_to, out_of}
use Rattle.outcomes.specs.Store.{Store, frames, kinds, regions, pages}
use Rattle.outcomes.specs.Outcome.{store, recounted}
use Rattle.outcomes.specs.Apart.{page_scanned, page_given, turn, each_page, turns}

-- the store with these regions and owners
abbrev pub apart : Store → Regions → List ℕ → Store
apart S g os = store (record { frames = frames S; kinds = kinds S; regions = g; pages = pages_with (pages S).made os (pages S).taken }) S.heap

-- page j is one of the regions that pass
abbrev pub mine : List ℕ → (ℕ → Bool) → ℕ → Bool
mine owners member j = member (get_or owners j 0)

-- page by page below n, of the regions that pass: the regions that the words marked 1 lead into, but for the page's own; by the owners that there are at each page's turn
unfoldable pub out_by : (ℕ → List ℕ) → Kinds → List ℕ → Pages → (ℕ → Bool) → ℕ → List ℕ
out_by os k heap p member n = joined (λ j. pick (member (owner_at p j)) (out_of (os j) (owner_at p j) (free_words_on k heap p j)) []) (up_to n)

module _ (os : ℕ → List ℕ) (k : Kinds) (heap : List ℕ) (p : Pages) (member : ℕ → Bool) (n : ℕ) where
  abbrev out : ℕ → List ℕ
  out = out_by os k heap p member

  -- one page more
  out_next : out (n + 1) ≡ out n ++ pick (member (owner_at p n)) (out_of (os n) (owner_at p n) (free_words_on k heap p n)) []
  unfolding out_by
  out_next = joined_next (λ j. pick (member (owner_at p j)) (out_of (os j) (owner_at p j) (free_words_on k heap p j)) []) n

  pub out_other : member (owner_at p n) ≡ false → out n ≡ out (n + 1)
  out_other h = sym (out_next ∙ rw h (append-nil (out n)))

  -- the shares ds when the words of page n leave, which is of the region with tag t, and of which m are taken
  pub out_left : (f t m : ℕ) (cs ds : List ℕ) → t ≡ owner_at p n → m ≡ taken_at p n → ds ≡ leavings f cs (out n) → member t ≡ true
      → leavings f ds (out_of (os n) t (free_words_to k heap n m)) ≡ leavings f cs (out (n + 1))
  unfolding free_words_on
  out_left f t m cs ds et em ed h = rw (out_next, ← et, h, ← em, ed) (steps_append 4294967295 f cs (out n) (out_of (os n) t (free_words_to k heap n m)))

-- as they all were before
abbrev pub out_from : Kinds → List ℕ → Pages → (ℕ → Bool) → ℕ → List ℕ
out_from k heap p = out_by (λ j. p.owners) k heap p

module _ (S : Store) (member : ℕ → Bool) where
  abbrev owners : List ℕ
  owners = (pages S).owners

  -- a pass over the pages, by the regions gs and the owners os that it has left at each page's turn
  module _ (step : Store → ℕ → Store) (gs : ℕ → Regions) (os : ℕ → List ℕ) (starts : S ≡ apart S (gs 0) (os 0))
      (next : (n : ℕ) → turn step member (apart S (gs n) (os n)) n ≡ apart S (gs (suc n)) (os (suc n))) where
    pub each_is : (n : ℕ) → each_page step member S n ≡ apart S (gs n) (os n)
    unfolding each_page
    each_is zero = starts
    each_is (suc n) = ap (λ T. turn step member T n) (each_is n) ∙ next n

    -- no page changes hands before its turn, so as many have one as the regions hold
    pub turns_are : ((n : ℕ) → get_or (os n) n 0 ≡ get_or owners n 0) → (n : ℕ) → turns step member S n ≡ count_of (mine owners member) (up_to n)
    unfolding turns owner_at
    turns_are same n = ap (λ f. count_of f (up_to n)) (fun_ext (λ j. ap (λ T. member (get_or (pages T).owners j 0)) (each_is j) ∙ ap member (same j)))

  -- the regions once the words of the pages below n have left filler f's shares, by the owners that there are at each page's turn
  module _ (f : ℕ) (os : ℕ → List ℕ) where
    abbrev words_of : ℕ → List ℕ
    words_of j = out_of (os j) (owner_at (pages S) j) (free_words_on (kinds S) S.heap (pages S) j)

    unfoldable pub left_by : ℕ → Regions
    left_by zero = regions S
    left_by (suc n) = pick (member (owner_at (pages S) n)) (recount (left_by n) f [] (words_of n)) (left_by n)

    abbrev words : ℕ → List ℕ
    words = out_by os (kinds S) S.heap (pages S) member

    words_suc : (n : ℕ) → words (suc n) ≡ words n ++ pick (member (owner_at (pages S) n)) (words_of n) []
    unfolding out_by
    words_suc = joined_suc (λ j. pick (member (owner_at (pages S) j)) (words_of j) [])

    -- what is counted of them then
    pub left_recount : (n : ℕ) (come more : List ℕ) → recount (left_by n) f come more ≡ recount (regions S) f come (words n ++ more)
    unfolding left_by out_by
    left_recount zero come more = refl
    left_recount (suc n) come more = rw (words_suc n, append_assoc (words n)) (go (member (owner_at (pages S) n)) (left_recount n come))
      where
        go : (b : Bool) → ((more : List ℕ) → recount (left_by n) f come more ≡ recount (regions S) f come (words n ++ more))
            → recount (pick b (recount (left_by n) f [] (words_of n)) (left_by n)) f come more ≡ recount (regions S) f come (words n ++ (pick b (words_of n) [] ++ more))
        go true ih = recount_recount (left_by n) f [] (words_of n) come more ∙ ih (words_of n ++ more)
        go false ih = ih more

    -- where the shares fit their type, and there is such a filler, they are those that the words have left
    left_shares : Shares (regions S).shares → (n : ℕ) → Shares (left_by n).shares
    unfolding left_by
    left_shares fits zero = fits
    left_shares fits (suc n) = go (member (owner_at (pages S) n)) (left_shares fits n)
      where
        go : (b : Bool) → Shares (left_by n).shares → Shares (pick b (recount (left_by n) f [] (words_of n)) (left_by n)).shares
        go true ih = recount_shares (left_by n) f [] (words_of n) ih
        go false ih = ih

    pub left_is : f < 4 → Shares (regions S).shares → (n : ℕ) → left_by n ≡ with_shares (regions S) (leavings f (regions S).shares (words n))
    left_is small fits n = sym (recount_none (left_by n) f (left_shares fits n)) ∙ left_recount n [] [] ∙ rw (append-nil (words n)) (sym (leave_recount (regions S) f small fits (words n)))

  -- the scan
  abbrev pub still : ℕ → List ℕ
  still n = owners

  module _ (f : ℕ) where
    scan_starts : S ≡ apart S (left_by f still 0) owners
    unfolding left_by
    scan_starts = refl

    scan_next : (n : ℕ) → turn (page_scanned f) member (apart S (left_by f still n) owners) n ≡ apart S (left_by f still (suc n)) owners
    unfolding turn left_by page_scanned recounted
    scan_next n = by_test (member (owner_at (pages S) n)) (λ h. rw h) (λ h. rw h)

    pub scanned_is : (n : ℕ) → each_page (page_scanned f) member S n ≡ apart S (left_by f still n) owners
    scanned_is = each_is (page_scanned f) (left_by f still) still scan_starts scan_next

  -- the giving back: a page come to is as it was, one page more, and all
  abbrev pub freeing : ℕ → List ℕ
  freeing n = zeroed (below (mine owners member) n) owners

  pub not_yet : (n : ℕ) → get_or (freeing n) n 0 ≡ get_or owners n 0
  not_yet n = zeroed_later (mine owners member) owners n

  pub freeing_own : (n : ℕ) → member (get_or owners n 0) ≡ true → set (freeing n) n 0 ≡ freeing (suc n)
  freeing_own n h = zeroed_own (mine owners member) owners n h ∙ ap freeing (add-one n)

  pub freeing_other : (n : ℕ) → member (get_or owners n 0) ≡ false → freeing n ≡ freeing (suc n)
  freeing_other n h = zeroed_other (mine owners member) owners n h ∙ ap freeing (add-one n)

  give_starts : S ≡ apart S (regions S) (freeing 0)
  give_starts = ap (apart S (regions S)) (zeroed_none (mine owners member) owners)

  give_next : (n : ℕ) → turn page_given member (apart S (regions S) (freeing n)) n ≡ apart S (regions S) (freeing (suc n))
  unfolding turn page_given owner_at
  give_next n =
      rw (not_yet n) (by_test (member (get_or owners n 0))
      (λ h. rw h (ap (apart S (regions S)) (freeing_own n h)))
      (λ h. rw h (ap (apart S (regions S)) (freeing_other n h))))

  pub given_is : (n : ℕ) → each_page page_given member S n ≡ apart S (regions S) (freeing n)
  given_is = each_is page_given (λ n. regions S) freeing give_starts give_next

  pub given_turns : (n : ℕ) → turns page_given member S n ≡ count_of (mine owners member) (up_to n)
  given_turns = turns_are page_given (λ n. regions S) freeing give_starts give_next not_yet
