-- Regions taken apart (document 02, card 3): what the scan and the giving back leave alone, that both deletes go by them, and that page by page, as it was before, comes to the same.
-- Assumes nothing.
use Rattle.std.specs.Prelude.{◌≡◌, ◌↔◌, ◌≢◌, ◌⊎◌, Bool, ◌||◌, eqb, length, get_or}
use Rattle.std.proofs.Math.Path.{refl, sym, ap, subst⁻¹, fun_ext}
use Rattle.std.proofs.Common.{◌∙◌, inl, inr, add-zero, arith}
use Rattle.std.proofs.Math.Bool.{true, false}
use mathlib.Core.List.{List, [], ◌∷◌, ◌++◌, map, append-nil}
use Prim.Native.Nat.{ℕ, zero, suc, ◌+◌, ◌*◌, ◌≤◌, ◌<◌}
use Rattle.std.proofs.Math.Dec.{ltb}
use Rattle.std.proofs.Math.ListN.{get_or-eq_default}
use borrow.Author.Tests.{eqb-true, ne_eqb, ltb-true, ltb-false, not-false}
use Rattle.lists.specs.Lists.{bit, pick, sum_of, count_of, All, up_to, times, among, repeats}
use Rattle.lists.specs.Laws.Tests.{by_test, neither}
use Rattle.lists.specs.Laws.All.{all_map}
use Rattle.lists.specs.Laws.Sums.{sum_joined}
use Rattle.lists.specs.Laws.Kept.{among_alone, all_among, repeats_once}
use Rattle.lists.specs.Laws.Zeroed.{zeroed_none}
use Rattle.model.specs.Model.{Answer, Call, delete, delete_all, gives}
use Rattle.model.specs.Calls.{wrong_names}
use Rattle.model.proofs.Laws.Passed.{names_passed}
use Rattle.frames.specs.Frames.{raised}
use Rattle.regions.specs.declared.Regions.{Regions}
use Rattle.regions.specs.Regions.{name_at, entry_of, tag_of, is_live, share_at, count_at, with_shares, without_regions, rolled, recount}
use Rattle.regions.specs.Laws.Recount.{total_still, recount_same, recount_share, recount_at, recount_length, recount_alike}
use Rattle.regions.specs.Laws.Removed.{name_left}
use Rattle.regions.specs.Laws.Tags.{tag_entry, entries_used, tags_once}
use Rattle.pages.specs.Pages.{page_count, pages_with, owner_at, taken_at, owner_in, pages_of}
use Rattle.pages.specs.Laws.Freed.{freed_owner}
use Rattle.objects.specs.Objects.{free_words_on, out_of}
use Rattle.objects.specs.Laws.Leaving.{out_alike}
use Rattle.outcomes.specs.Store.{Store, frames, kinds, regions, pages}
use Rattle.outcomes.specs.Shape.{Sized}
use Rattle.outcomes.specs.Outcome.{Outcome, Accepted, Answered, Leaves, checks, refusal, dead, outgoing, count_but, with_frames, with_regions, recounted, newly_counted, deleted}
use Rattle.outcomes.specs.Apart.{Way, page_scanned, page_given, turn, each_page, scanned, given_back, scan_then_give, page_by_page, named, deleted_by, DeletesBy}
use Rattle.outcomes.proofs.Laws.Apart.{apart, mine, out_by, out_from, each_is, turns_are, left_by, left_recount, still, scanned_is, freeing, not_yet, freeing_own, freeing_other, given_is}
use Rattle.outcomes.proofs.Laws.Deleted.{out_same, told_pages, entries, gone, deleted_leaves, told, free, told_gone, told_deleted, told_number}
use Rattle.promises.specs.Laws.Passed.{passed}
use Rattle.demands.specs.Later.{ScanMovesNoPage, GivingMovesNoCount, ScansThenGives, SameDelete, OneButGone, DeleteIs, DeleteAllIs}

-- ---- what stays

module _ (f : ℕ) (S : Store) (member : ℕ → Bool) where
  -- T is S but for the filler's shares of stored counts
  abbrev Counting : Store → Type 0
  Counting T =
      (pages T ≡ pages S) × (frames T ≡ frames S) × (kinds T ≡ kinds S) × (T.heap ≡ S.heap) × (regions T ≡ with_shares (regions S) (regions T).shares)
      × ((h i : ℕ) → h ≤ 3 → i < 64 → h ≢ f → share_at (regions T) h i ≡ share_at (regions S) h i)

  one_scanned : (T : Store) (j : ℕ) → Counting T → Counting (page_scanned f T j)
  unfolding page_scanned recounted recount with_shares
  one_scanned T j h = (
    h.0,
    h.1,
    h.2,
    h.3,
    ap (λ g. with_shares g (regions (page_scanned f T j)).shares) h.4,
    λ k i small low d. recount_share (regions T) f [] _ k i (omega arith) low ∙ rw (ne_eqb k f d) (h.5 k i small low d),
  )

  all_scanned : (n : ℕ) → Counting (each_page (page_scanned f) member S n)
  unfolding each_page turn with_shares
  all_scanned zero = (refl, refl, refl, refl, refl, λ h i small low d. refl)
  all_scanned (suc n) = go (each_page (page_scanned f) member S n) (member (owner_at (pages (each_page (page_scanned f) member S n)) n)) (all_scanned n)
    where
      go : (T : Store) (b : Bool) → Counting T → Counting (pick b (page_scanned f T n) T)
      go T true h = one_scanned T n h
      go T false h = h

pub scan_moves_no_page : ScanMovesNoPage
unfolding ScanMovesNoPage scanned
scan_moves_no_page f S member = all_scanned f S member (page_count (pages S))

pub giving_moves_no_count : GivingMovesNoCount
unfolding GivingMovesNoCount given_back with_shares
giving_moves_no_count S member =
    subst⁻¹ (λ T. (regions T ≡ regions S) × (frames T ≡ frames S) × (kinds T ≡ kinds S) × (T.heap ≡ S.heap) × (pages T ≡ pages_with (pages S).made (pages T).owners (pages S).taken))
    (given_is S member (page_count (pages S))) (refl, refl, refl, refl, refl)

-- ---- page by page

module _ (f : ℕ) (S : Store) (member : ℕ → Bool) where
  abbrev owners : List ℕ
  owners = (pages S).owners

  -- the words that have left once n pages had their turn, each by the owners of its turn; and the regions then
  abbrev out_now : ℕ → List ℕ
  out_now = out_by (freeing S member) (kinds S) S.heap (pages S) member

  abbrev left : ℕ → Regions
  left = left_by S member f (freeing S member)

  abbrev step : Store → ℕ → Store
  step T j = page_given (page_scanned f T j) j

  starts : S ≡ apart S (left 0) (freeing S member 0)
  unfolding left_by
  starts = ap (apart S (regions S)) (zeroed_none (mine owners member) owners)

  -- one page more: of a member, it is scanned by the owners of its turn, and given back
  next : (n : ℕ) → turn step member (apart S (left n) (freeing S member n)) n ≡ apart S (left (suc n)) (freeing S member (suc n))
  unfolding turn left_by page_scanned recounted page_given owner_at taken_at free_words_on
  next n =
      rw (not_yet S member n) (by_test (member (get_or owners n 0))
      (λ h. rw h (ap (apart S _) (freeing_own S member n h)))
      (λ h. rw h (ap (apart S _) (freeing_other S member n h))))

  abbrev pages_on : ℕ
  pages_on = page_count (pages S)

  paged_leaves : (page_by_page f S member).0 ≡ apart S (left pages_on) (freeing S member pages_on)
  unfolding page_by_page
  paged_leaves = each_is S member step left (freeing S member) starts next pages_on

  paged_pages : (page_by_page f S member).1 ≡ count_of (mine owners member) (up_to pages_on)
  unfolding page_by_page
  paged_pages = turns_are S member step left (freeing S member) starts next (not_yet S member) pages_on

  -- into a region that is no member, or the only one, the words lead equally often by the owners of each turn and by those before
  module _ (u : ℕ) (z : u ≢ 0) (only : (x : ℕ) → member x ≡ true → member u ≡ true → u ≡ x) where
    change : (j own : ℕ) → member own ≡ true → (v : ℕ) → (owner_in (freeing S member j) v ≡ owner_in owners v) ⊎ ((owner_in (freeing S member j) v ≡ 0) × (owner_in owners v ≡ u → u ≡ own))
    change j own h v = go (freed_owner member owners j v)
      where
        go : (owner_in (freeing S member j) v ≡ owner_in owners v) ⊎ ((owner_in (freeing S member j) v ≡ 0) × (member (owner_in owners v) ≡ true))
            → (owner_in (freeing S member j) v ≡ owner_in owners v) ⊎ ((owner_in (freeing S member j) v ≡ 0) × (owner_in owners v ≡ u → u ≡ own))
        go (inl e) = inl e
        go (inr e) = inr (e.0, λ q. only own h (ap member (sym q) ∙ e.1))

    page_alike : (j : ℕ) (b : Bool) → member (owner_at (pages S) j) ≡ b
        → let vs = free_words_on (kinds S) S.heap (pages S) j in let own = owner_at (pages S) j in times u (pick b (out_of (freeing S member j) own vs) []) ≡ times u (pick b (out_of owners own vs) [])
    page_alike j true e = out_alike owners (freeing S member j) (owner_at (pages S) j) u z (change j (owner_at (pages S) j) e) (free_words_on (kinds S) S.heap (pages S) j)
    page_alike j false e = refl

    words_alike : (n : ℕ) → times u (out_now n) ≡ times u (out_from (kinds S) S.heap (pages S) member n)
    unfolding out_by
    words_alike n =
        sum_joined (λ x. bit (eqb x u)) _ (up_to n)
        ∙ ap (λ f. sum_of f (up_to n)) (fun_ext (λ j. page_alike j (member (owner_at (pages S) j)) refl))
        ∙ sym (sum_joined (λ x. bit (eqb x u)) _ (up_to n))

-- ---- what a delete leaves

-- past the end of the array a share is 0
share_past : (g : Regions) (h i : ℕ) → length g.shares ≤ 4 * i → share_at g h i ≡ 0
unfolding share_at
share_past g h i l = get_or-eq_default g.shares 0 {n = 4 * i + h} (omega arith)

-- the shares of an entry change alike by lists that have its tag equally often, past the 64 entries too, where there are none
alike_anywhere : (g : Regions) (f : ℕ) (come a b : List ℕ) (h i : ℕ) → h ≤ 3 → times (suc i) a ≡ times (suc i) b → share_at (recount g f come a) h i ≡ share_at (recount g f come b) h i
alike_anywhere g f come a b h i small e = by_test (ltb i 64) (λ l. recount_alike g f come a b h i (omega arith) (ltb-true i 64 l) e) (λ l. past a (ltb-false i 64 l) ∙ sym (past b (ltb-false i 64 l)))
  where
    past : (gone : List ℕ) → 64 ≤ i → share_at (recount g f come gone) h i ≡ 0
    past gone l = share_past (recount g f come gone) h i (omega (arith, recount_length g f come gone))

module _ (f : ℕ) (S : Store) (rs : List ℕ) where
  abbrev paged : List ℕ
  paged = out_now f S (named S rs) (page_count (pages S))

  paged_gone : deleted_by page_by_page f S rs ≡ gone f S rs paged (free f S rs)
  paged_gone = deleted_leaves f S rs page_by_page (freeing S (named S rs)) (free f S rs) (paged_leaves f S (named S rs))

  same_number : (page_by_page f S (named S rs)).1 ≡ (scan_then_give f S (named S rs)).1
  same_number = paged_pages f S (named S rs) ∙ sym (told_pages f S (named S rs))

  -- into a region that is no member, or the only one
  alike : (i : ℕ) → ((x : ℕ) → named S rs x ≡ true → named S rs (suc i) ≡ true → suc i ≡ x) → times (suc i) (told f S rs) ≡ times (suc i) paged
  alike i only = sym (words_alike f S (named S rs) (suc i) (λ q. omega arith) only (page_count (pages S)))

  -- all shares, where one region goes
  all_alike : ((u x : ℕ) → named S rs x ≡ true → named S rs u ≡ true → u ≡ x) → deleted_by scan_then_give f S rs ≡ deleted_by page_by_page f S rs
  all_alike only =
      told_gone f S rs
      ∙ ap (λ g. with_frames (with_regions (apart S (regions S) (free f S rs)) (without_regions g (entries f S rs))) (raised (frames S))) (recount_same (regions S) f (newly_counted S) (told f S rs) paged (λ i. alike i (only (suc i))))
      ∙ sym paged_gone

  -- of several, those of the entries that are not given up
  some_alike : All (λ r. entry_of (regions S) r < 64) rs → OneButGone S (deleted_by scan_then_give f S rs) (deleted_by page_by_page f S rs)
  unfolding with_shares without_regions recount share_at
  some_alike live = rw (told_gone f S rs, paged_gone) (refl, λ e i k h. alike_anywhere (regions S) f (newly_counted S) (told f S rs) paged e i k (alike i (λ x m n. absurd (stays i (sym (tag_entry (regions S) rs i) ∙ n) h))))
    where
      stays : (i : ℕ) → among i (entries f S rs) ≡ true → (name_at (regions (gone f S rs (told f S rs) (free f S rs))) i ≢ 0) ⊎ (name_at (regions S) i ≡ 0) → ⊥
      stays i e (inl u) = u (name_left (recount (regions S) f (newly_counted S) (told f S rs)) (entries f S rs) i ∙ rw e)
      stays i e (inr z) = all_among (λ j. name_at (regions S) j ≢ 0) (entries f S rs) (entries_used (regions S) rs live) i e z

-- ---- the outcomes of the calls

module _ (f : ℕ) (S : Store) (c : Call) (rs : List ℕ) (k : ℕ) (accepts : (a : Answer) (T : Store) → Accepted c S a T ≡ Leaves a (gives (k ∷ [])) T (deleted S rs f)) (way : Way) where
  -- the way gives and leaves what the call does, where its tests accept
  same_outcomes : (refusal S c ≡ 0 → (k ≡ (way f S (named S rs)).1) × (deleted S rs f ≡ deleted_by way f S rs)) → (a : Answer) (T : Store) → Outcome c S a T ↔ DeletesBy way f (refusal S c) rs S a T
  unfolding Outcome
  same_outcomes h a T = go (refusal S c) h
    where
      go : (n : ℕ) → (n ≡ 0 → (k ≡ (way f S (named S rs)).1) × (deleted S rs f ≡ deleted_by way f S rs)) → Answered n c S a T ↔ DeletesBy way f n rs S a T
      go zero h = rw (accepts a T, (h refl).0, (h refl).1) ((λ x. x), (λ x. x))
      go (suc n) h = ((λ x. x), (λ x. x))

module _ (S : Store) where
  accepts_one : (r f : ℕ) (a : Answer) (T : Store) → Accepted (delete r f) S a T ≡ Leaves a (gives (pages_of (pages S) (tag_of (regions S) r) ∷ [])) T (deleted S (r ∷ []) f)
  unfolding Accepted
  accepts_one r f a T = refl

  accepts_all : (rs : List ℕ) (f : ℕ) (a : Answer) (T : Store) → Accepted (delete_all rs f) S a T ≡ Leaves a (gives (sum_of (λ r. pages_of (pages S) (tag_of (regions S) r)) rs ∷ [])) T (deleted S rs f)
  unfolding Accepted
  accepts_all rs f a T = refl

module _ (S : Store) (sized : Sized S) where
  long : length (pages S).owners ≡ 256
  long = sized.in_pages.owners

  -- delete
  module _ (r f : ℕ) where
    alone : (t : ℕ) → times t (tag_of (regions S) r ∷ []) ≤ 1
    alone = repeats_once (tag_of (regions S) r ∷ []) refl

    one : pages_of (pages S) (tag_of (regions S) r) ≡ (scan_then_give f S (named S (r ∷ []))).1
    one = sym (told_number f S (r ∷ []) alone ∙ add-zero (pages_of (pages S) (tag_of (regions S) r)))

    -- there is one member
    only : (u x : ℕ) → named S (r ∷ []) x ≡ true → named S (r ∷ []) u ≡ true → u ≡ x
    only u x h k = own u k ∙ sym (own x h)
      where
        own : (t : ℕ) → named S (r ∷ []) t ≡ true → t ≡ tag_of (regions S) r
        own t e = eqb-true t (tag_of (regions S) r) (sym (among_alone t (tag_of (regions S) r)) ∙ e)

    delete_told : DeleteIs scan_then_give S r f
    delete_told = same_outcomes f S (delete r f) (r ∷ []) _ (accepts_one S r f) scan_then_give (λ e. (one, sym (told_deleted f S (r ∷ []) alone long)))

    delete_paged : DeleteIs page_by_page S r f
    delete_paged = same_outcomes f S (delete r f) (r ∷ []) _ (accepts_one S r f) page_by_page (λ e. (one ∙ sym (same_number f S (r ∷ [])), sym (told_deleted f S (r ∷ []) alone long) ∙ all_alike f S (r ∷ []) only))

  -- delete_all: where its tests accept, those named live, and none is named twice
  module _ (rs : List ℕ) (f : ℕ) where
    module _ (z : refusal S (delete_all rs f) ≡ 0) where
      names_live : All (λ r. entry_of (regions S) r < 64) rs
      unfolding checks dead is_live
      names_live = all_map (λ r h. ltb-true (entry_of (regions S) r) 64 (not-false (ltb (entry_of (regions S) r) 64) h.0)) rs (names_passed (dead S) rs _ (passed S (delete_all rs f) z).1.1.1).0

      once : (t : ℕ) → times t (map (tag_of (regions S)) rs) ≤ 1
      unfolding checks wrong_names
      once = tags_once (regions S) rs names_live (neither (eqb (length rs) 0 || ltb 16 (length rs)) (repeats rs) (passed S (delete_all rs f) z).1.1.0).1

      number : sum_of (λ r. pages_of (pages S) (tag_of (regions S) r)) rs ≡ (scan_then_give f S (named S rs)).1
      number = sym (told_number f S rs once)

      leaves : deleted S rs f ≡ deleted_by scan_then_give f S rs
      leaves = sym (told_deleted f S rs once long)

    delete_all_told : DeleteAllIs scan_then_give S rs f
    delete_all_told = same_outcomes f S (delete_all rs f) rs _ (accepts_all S rs f) scan_then_give (λ z. (number z, leaves z))

    delete_all_paged : (a b : Answer) (T U : Store) → Outcome (delete_all rs f) S a T → DeletesBy page_by_page f (refusal S (delete_all rs f)) rs S b U → (a ≡ b) × OneButGone S T U
    unfolding Outcome Accepted with_shares
    delete_all_paged a b T U = go (refusal S (delete_all rs f)) refl
      where
        go : (n : ℕ) → refusal S (delete_all rs f) ≡ n → Answered n (delete_all rs f) S a T → DeletesBy page_by_page f n rs S b U → (a ≡ b) × OneButGone S T U
        go zero z x y = (
          x.0 ∙ ap (λ n. gives (n ∷ [])) (number z ∙ sym (same_number f S rs)) ∙ sym y.0,
          subst⁻¹ (λ T. OneButGone S T U) (x.1 ∙ leaves z) (subst⁻¹ (λ U. OneButGone S (deleted_by scan_then_give f S rs) U) y.1 (some_alike f S rs (names_live z))),
        )
        go (suc n) z x y = (x.0 ∙ sym y.0, subst⁻¹ (λ T. OneButGone S T U) x.1 (subst⁻¹ (λ U. OneButGone S S U) y.1 (refl, λ e i k h. refl)))

  -- 19 of a joint delete asks what the scan leaves of a count: as where no pointer moved afterwards
  asks_scanned : (rs : List ℕ) → let ts = map (tag_of (regions S)) rs in ((t : ℕ) → times t ts ≤ 1)
      → (f : ℕ) → f ≤ 3 → (i : ℕ) → i < 64 → count_but S ts i ≡ count_at (regions (scanned f S (named S rs))) i
  unfolding count_but outgoing scanned
  asks_scanned rs once f few i l =
      let ts = map (tag_of (regions S)) rs in
      let n = page_count (pages S) in
      let member = named S rs in
      let left = left_by S member f (still S member) n in
      let out = out_from (kinds S) S.heap (pages S) member n in
      ap (rolled (count_at (regions S) i) 0) (sym (out_same (kinds S) S.heap (pages S) (suc i) ts once) ∙ ap (times (suc i)) (sym (append-nil out)))
      ∙ sym (recount_at (regions S) f [] (out ++ []) (omega arith) i l)
      ∙ ap (λ g. count_at g i) (sym (left_recount S member f (still S member) n [] []))
      ∙ recount_at left f [] [] (omega arith) i l
      ∙ total_still left i
      ∙ ap (λ T. count_at (regions T) i) (sym (scanned_is S member f n))

pub scans_then_gives : ScansThenGives
unfolding ScansThenGives
scans_then_gives S sized = (delete_told S sized, delete_all_told S sized, asks_scanned S sized)

pub same_delete : SameDelete
unfolding SameDelete
same_delete S sized = (delete_paged S sized, delete_all_paged S sized)
