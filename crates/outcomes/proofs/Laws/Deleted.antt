-- Regions named, scanned and then given back: what Apart says by a test of tags is what the outcome says by the list.
-- Assumes nothing.
use Rattle.std.specs.Prelude.{◌≡◌, length, get_or}
use Rattle.std.proofs.Math.Path.{refl, sym, ap, subst⁻¹, fun_ext}
use Rattle.std.proofs.Common.{◌∙◌, eqb-true}
use Rattle.std.proofs.Math.Bool.{Bool, true, false}
use mathlib.Core.List.{List, [], map, append-nil}
use Prim.Native.Nat.{ℕ, suc, ◌≤◌, ◌<◌}
use Rattle.std.proofs.Math.Dec.{eqb}
use Rattle.lists.specs.Lists.{bit, pick, keep, sum_of, count_of, joined, up_to, times, among, zeroed}
use Rattle.lists.specs.Laws.Tests.{bit_pick}
use Rattle.lists.specs.Laws.Sums.{sum_keep, sum_joined, sum_map}
use Rattle.lists.specs.Laws.Kept.{sum_members}
use Rattle.lists.specs.Laws.Zeroed.{below}
use Rattle.frames.specs.Frames.{raised}
use Rattle.kinds.specs.declared.Kinds.{Kinds}
use Rattle.regions.specs.declared.Regions.{Regions}
use Rattle.regions.specs.Regions.{entry_of, tag_of, with_shares, without_regions, recount}
use Rattle.regions.specs.Laws.Counts.{Shares}
use Rattle.regions.specs.Laws.Steps.{enterings, leavings}
use Rattle.regions.specs.Laws.Recount.{recount_same, enter_leave_recount, leave_recount}
use Rattle.pages.specs.declared.Pages.{Pages}
use Rattle.pages.specs.Pages.{page_count_in, page_count, pages_with, owner_at, pages_in, pages_of, owners_to, freed}
use Rattle.objects.specs.Objects.{free_words_on, free_words_of, out_of}
use Rattle.objects.specs.Laws.Leaving.{out_joined}
use Rattle.outcomes.specs.Store.{Store, frames, kinds, regions, pages}
use Rattle.outcomes.specs.Outcome.{store, with_frames, with_regions, recounted, outgoing, newly_in, newly_counted, deleted}
use Rattle.outcomes.specs.Apart.{scanned, given_back, pages_back, Scans, GivesBack, Way, scan_then_give, named, deleted_by}
use Rattle.outcomes.proofs.Laws.Steps.{by_parts}
use Rattle.outcomes.proofs.Laws.Apart.{apart, mine, out_by, out_from, left_by, left_recount, left_is, still, freeing, scanned_is, given_is, given_turns}

-- ---- the words, page by page and region by region: either way they lead equally often into each region, and leave the same shares

module _ (k : Kinds) (heap : List ℕ) (p : Pages) (u : ℕ) where
  -- how many words marked 1 on page j lead into the region with tag u, where the page is the region t's
  abbrev leading : ℕ → ℕ → ℕ
  leading t j = times u (out_of p.owners t (free_words_on k heap p j))

  -- those of one region
  out_times : (t : ℕ) → times u (out_of p.owners t (free_words_of k heap p t)) ≡ sum_of (λ j. pick (eqb (owner_at p j) t) (leading (owner_at p j) j) 0) (up_to (page_count p))
  unfolding free_words_of
  out_times t =
      let its : ℕ → Bool = λ j. eqb (owner_at p j) t in
      ap (times u) (out_joined p.owners t (free_words_on k heap p) (keep its (up_to (page_count p))))
      ∙ sum_joined (λ x. bit (eqb x u)) (λ j. out_of p.owners t (free_words_on k heap p j)) (keep its (up_to (page_count p)))
      ∙ sum_keep (leading t) its (up_to (page_count p))
      ∙ ap (λ f. sum_of f (up_to (page_count p))) (fun_ext (λ j. go j (eqb (owner_at p j) t) refl))
    where
      go : (j : ℕ) (b : Bool) → eqb (owner_at p j) t ≡ b → pick b (leading t j) 0 ≡ pick b (leading (owner_at p j) j) 0
      go j true e = rw (eqb-true (owner_at p j) t e)
      go j false e = refl

  -- those of the regions with the tags ts
  pub out_same : (ts : List ℕ) → ((t : ℕ) → times t ts ≤ 1)
      → times u (out_from k heap p (λ t. among t ts) (page_count p)) ≡ times u (joined (λ t. out_of p.owners t (free_words_of k heap p t)) ts)
  unfolding out_by
  out_same ts once =
      sum_joined (λ x. bit (eqb x u)) (λ j. pick (among (owner_at p j) ts) (out_of p.owners (owner_at p j) (free_words_on k heap p j)) []) (up_to (page_count p))
      ∙ ap (λ f. sum_of f (up_to (page_count p))) (fun_ext (λ j. go (among (owner_at p j) ts) (out_of p.owners (owner_at p j) (free_words_on k heap p j))))
      ∙ sym (sum_members (owner_at p) (λ j. leading (owner_at p j) j) (up_to (page_count p)) ts once)
      ∙ ap (λ f. sum_of f ts) (fun_ext (λ t. sym (out_times t)))
      ∙ sym (sum_joined (λ x. bit (eqb x u)) (λ t. out_of p.owners t (free_words_of k heap p t)) ts)
    where
      go : (b : Bool) (l : List ℕ) → times u (pick b l []) ≡ pick b (times u l) 0
      go true l = refl
      go false l = refl

module _ (S : Store) (ts : List ℕ) (once : (t : ℕ) → times t ts ≤ 1) where
  abbrev out : List ℕ
  out = out_from (kinds S) S.heap (pages S) (λ t. among t ts) (page_count (pages S))

  same : (i : ℕ) → times (suc i) out ≡ times (suc i) (outgoing S ts)
  unfolding outgoing
  same i = out_same (kinds S) S.heap (pages S) (suc i) ts once

  -- the shares of filler f without these words, and with others that enter after them; as code has them, one word after the other
  recount_out : (f : ℕ) (come : List ℕ) → recount (regions S) f come out ≡ recount (regions S) f come (outgoing S ts)
  recount_out f come = recount_same (regions S) f come out (outgoing S ts) same

  module _ (f : ℕ) (small : f < 4) (fits : Shares (regions S).shares) where
    pub left_are : with_shares (regions S) (leavings f (regions S).shares out) ≡ recount (regions S) f [] (outgoing S ts)
    left_are = leave_recount (regions S) f small fits out ∙ recount_out f []

    entered_are : (come : List ℕ) → with_shares (regions S) (enterings f (leavings f (regions S).shares out) come) ≡ recount (regions S) f come (outgoing S ts)
    entered_are come = enter_leave_recount (regions S) f small fits come out ∙ recount_out f come

-- ---- the pages: how many there were, and the owners left

held_are : (p : Pages) (ts : List ℕ) → ((t : ℕ) → times t ts ≤ 1) → count_of (mine p.owners (λ t. among t ts)) (up_to (page_count p)) ≡ sum_of (pages_of p) ts
unfolding pages_of pages_in page_count
held_are p ts once =
    let n = page_count_in p.made in
    ap (λ f. sum_of f (up_to n)) (fun_ext (λ j. bit_pick (among (get_or p.owners j 0) ts)))
    ∙ sym (sum_members (λ j. get_or p.owners j 0) (λ j. 1) (up_to n) ts once)
    ∙ ap (λ f. sum_of f ts) (fun_ext (λ t. ap (λ f. sum_of f (up_to n)) (fun_ext (λ j. sym (bit_pick (eqb (get_or p.owners j 0) t))))))

freed_are : (owners ts : List ℕ) (n : ℕ) → length owners ≡ 256 → zeroed (below (mine owners (λ t. among t ts)) n) owners ≡ owners_to owners ts n
unfolding zeroed owners_to
freed_are owners ts n e = rw e

-- ---- both

module _ (f : ℕ) (S : Store) (member : ℕ → Bool) where
  abbrev pages_on : ℕ
  pages_on = page_count (pages S)

  -- what the scan leaves, and the giving back after it
  scan_apart : scanned f S member ≡ apart S (left_by S member f (still S member) pages_on) (pages S).owners
  unfolding scanned
  scan_apart = scanned_is S member f pages_on

  pub told_leaves : (scan_then_give f S member).0 ≡ apart S (left_by S member f (still S member) pages_on) (freeing S member pages_on)
  unfolding scan_then_give given_back
  told_leaves = ap (λ T. given_back T member) scan_apart ∙ given_is (apart S _ (pages S).owners) member pages_on

  pub told_pages : (scan_then_give f S member).1 ≡ count_of (mine (pages S).owners member) (up_to pages_on)
  unfolding scan_then_give pages_back
  told_pages = ap (λ T. pages_back T member) scan_apart ∙ given_turns (apart S _ (pages S).owners) member pages_on

  -- where the shares fit their type, and there is such a filler, those that the words have left
  pub scan_leaves : f < 4 → Shares (regions S).shares → regions (scanned f S member) ≡ with_shares (regions S) (leavings f (regions S).shares (out_from (kinds S) S.heap (pages S) member pages_on))
  scan_leaves small fits = ap (λ T. regions T) scan_apart ∙ left_is S member f (still S member) small fits pages_on

-- code whose shares, or owners and number, are these has scanned, and given back
pub scans_by : (f : ℕ) (k : Kinds) (heap : List ℕ) (p : Pages) (member : ℕ → Bool) (bs cs : List ℕ) → f < 4 → Shares bs → cs ≡ leavings f bs (out_from k heap p member (page_count p)) → Scans f k heap p member bs cs
unfolding with_shares
scans_by f k heap p member bs cs small fits e S ek eh ep eb = e ∙ sym (ap (λ g. g.shares) (scan_leaves f S member small (subst⁻¹ Shares eb fits)) ∙ rw (ek, eh, ep, eb))

pub gives_by : (made : ℕ) (ns : List ℕ) (member : ℕ → Bool) (os : List ℕ) (n : ℕ)
    → os ≡ zeroed (below (mine ns member) (page_count_in made)) ns → n ≡ count_of (mine ns member) (up_to (page_count_in made)) → GivesBack made ns member os n
unfolding given_back pages_back page_count
gives_by made ns member os n eo en S em es = (
  eo ∙ sym (ap (λ T. (pages T).owners) (given_is S member (page_count (pages S))) ∙ rw (em, es)),
  en ∙ sym (given_turns S member (page_count (pages S)) ∙ rw (em, es)),
)

module _ (f : ℕ) (S : Store) (rs : List ℕ) where
  abbrev pub entries : List ℕ
  entries = map (entry_of (regions S)) rs

  -- what is left, by the words that left the counts and the owners that there are, once the regions are taken apart
  abbrev pub gone : List ℕ → List ℕ → Store
  gone out os =
      store
      (record {
        frames = raised (frames S);
        kinds = kinds S;
        regions = without_regions (recount (regions S) f (newly_counted S) out) entries;
        pages = pages_with (pages S).made os (pages S).taken;
      })
      S.heap

  pub deleted_leaves : (way : Way) (turn_owners : ℕ → List ℕ) (os : List ℕ) → (way f S (named S rs)).0 ≡ apart S (left_by S (named S rs) f turn_owners (page_count (pages S))) os
      → deleted_by way f S rs ≡ gone (out_by turn_owners (kinds S) S.heap (pages S) (named S rs) (page_count (pages S))) os
  unfolding deleted_by recounted
  deleted_leaves way turn_owners os e =
      let n = page_count (pages S) in
      let words = out_by turn_owners (kinds S) S.heap (pages S) (named S rs) n in
      let after : Regions → Store = λ g. with_frames (with_regions (apart S (regions S) os) (without_regions g entries)) (raised (frames S)) in
      ap (λ T. with_frames (with_regions T (without_regions (recount (regions T) f (newly_counted S) []) entries)) (raised (frames S))) e
      ∙ ap after (left_recount S (named S rs) f turn_owners n (newly_counted S) [] ∙ ap (recount (regions S) f (newly_counted S)) (append-nil words))

  abbrev pub told : List ℕ
  told = out_from (kinds S) S.heap (pages S) (named S rs) (page_count (pages S))

  abbrev pub free : List ℕ
  free = freeing S (named S rs) (page_count (pages S))

  pub told_gone : deleted_by scan_then_give f S rs ≡ gone told free
  told_gone = deleted_leaves scan_then_give (still S (named S rs)) free (told_leaves f S (named S rs))

module _ (f : ℕ) (S : Store) (rs : List ℕ) (once : (t : ℕ) → times t (map (tag_of (regions S)) rs) ≤ 1) where
  abbrev tags : List ℕ
  tags = map (tag_of (regions S)) rs

  -- the regions named, scanned and then given back, are deleted
  pub told_deleted : length (pages S).owners ≡ 256 → deleted_by scan_then_give f S rs ≡ deleted S rs f
  unfolding deleted recounted freed
  told_deleted long =
      told_gone f S rs
      ∙ by_parts _ (deleted S rs f) refl refl (ap (λ g. without_regions g (entries f S rs)) (recount_out S tags once f (newly_counted S))) (ap (λ os. pages_with (pages S).made os (pages S).taken) (freed_are (pages S).owners tags _ long)) refl

  pub told_number : (scan_then_give f S (named S rs)).1 ≡ sum_of (λ r. pages_of (pages S) (tag_of (regions S) r)) rs
  told_number = told_pages f S (named S rs) ∙ held_are (pages S) tags once ∙ sum_map (pages_of (pages S)) (tag_of (regions S)) rs

  -- so does code that has scanned, entered the frames newly counted and given back: cs, ds and os are the shares and owners that it left, k the number of pages
  module _ (small : f < 4) (fits : Shares (regions S).shares) (long : length (pages S).owners ≡ 256) (member : ℕ → Bool) (ticked : member ≡ named S rs) (cs ds os : List ℕ) (k : ℕ)
      (scans : Scans f (kinds S) S.heap (pages S) member (regions S).shares cs)
      (enters : let fs = frames S in ds ≡ enterings f cs (newly_in fs.standing fs.counted fs.widths fs.slots (pages S).owners))
      (gives : GivesBack (pages S).made (pages S).owners member os k) where
    shares_are : cs ≡ leavings f (regions S).shares (out_from (kinds S) S.heap (pages S) (named S rs) (page_count (pages S)))
    unfolding with_shares
    shares_are = scans S refl refl refl refl ∙ ap (λ m. (regions (scanned f S m)).shares) ticked ∙ ap (λ g. g.shares) (scan_leaves f S (named S rs) small fits)

    owners_are : os ≡ freeing S (named S rs) (page_count (pages S))
    unfolding given_back
    owners_are = (gives S refl refl).0 ∙ ap (λ m. (pages (given_back S m)).owners) ticked ∙ ap (λ T. (pages T).owners) (given_is S (named S rs) (page_count (pages S)))

    pub code_number : k ≡ sum_of (λ r. pages_of (pages S) (tag_of (regions S) r)) rs
    unfolding pages_back
    code_number = (gives S refl refl).1 ∙ ap (pages_back S) ticked ∙ given_turns S (named S rs) (page_count (pages S)) ∙ held_are (pages S) (map (tag_of (regions S)) rs) once ∙ sum_map (pages_of (pages S)) (tag_of (regions S)) rs

    pub code_deleted : (T : Store) → frames T ≡ raised (frames S) → kinds T ≡ kinds S → regions T ≡ without_regions (with_shares (regions S) ds) (map (entry_of (regions S)) rs)
        → pages T ≡ pages_with (pages S).made os (pages S).taken → T.heap ≡ S.heap → T ≡ deleted S rs f
    unfolding deleted recounted newly_counted freed
    code_deleted T ef ek er ep eh =
        by_parts T (deleted S rs f) ef ek (er ∙ ap (λ g. without_regions g (map (entry_of (regions S)) rs)) (rw (enters, shares_are) (entered_are S (map (tag_of (regions S)) rs) once f small fits _))) (ep ∙ rw owners_are (ap (λ os. pages_with (pages S).made os (pages S).taken) (freed_are (pages S).owners (map (tag_of (regions S)) rs) _ long))) eh
