-- Card 5: calls look at totals alone, whichever filler they act for.
-- Assumes nothing.
use Rattle.std.specs.Prelude.{◌≡◌, ◌≢◌, ◌⊎◌, List, [], ◌∷◌, ℕ, zero, suc, ◌+◌, ◌*◌, ◌≤◌, ◌<◌, ltb, length}
use Rattle.std.proofs.Math.Path.{refl, sym, ap, subst⁻¹, fun_ext}
use Rattle.std.proofs.Common.{ap₂, ◌∙◌, subst, inl, inr, arith}
use Rattle.std.proofs.Math.ListN.{get_or, get_or-eq_default}
use borrow.Author.Tests.{ne_eqb, ltb-true, ltb-false, le-ltb}
use Rattle.lists.specs.Lists.{pick, All₂}
use Rattle.lists.specs.Laws.Tests.{by_same, by_test}
use Rattle.model.specs.Model.{Answer, Call, declare, new_region, subregion, push, drop_frame, hand_back, allocate, first, copy, fetch, clear, load, set_pointer, put, get, view, same, about, report, totals, audit, delete, delete_all, Query, locate, ask}
use Rattle.model.specs.Calls.{reason}
use Rattle.regions.specs.Regions.{name_at, name_of, entry_of, tag_of, is_live, live_count, parent_at, subregions_of, level_at, newest_at, oldest_at, added, count_in, count_at, unused, with_region, without_regions, with_page, with_shares, moved, recount}
use Rattle.regions.specs.Laws.Counts.{moved_length, share_moved, count_moved}
use Rattle.regions.specs.Laws.Added.{without, count_here, count_else}
use Rattle.outcomes.specs.Store.{Store, regions, slot, slots_beyond, outside_of, led_into, led_among, slot_targets, breaks, size, roomy}
use Rattle.outcomes.specs.History.{entries, listed_regions, listed_kinds, listed_frames, listed_held, listed_free, met_on, begin, slots_of, pointers_of, slots_leading_to, words_leading_to, outside, uncounted_into, stored_count, counts_exact, slots_lead, words_lead}
use Rattle.outcomes.specs.Sound.{filled, placed, newest_own, oldest_own, sound}
use Rattle.outcomes.specs.Outcome.{Outcome, Accepted, Answered, bad_length, no_frame, one_frame, lacks, lacks_beneath, dead, full, names_out, no_word, is_data, all_data, outgoing, count_but, query_checks, checks, refusal, query_reply, with_regions, fill_slot, write_word, recounted, pop_frame, pointed, allocated, deleted, counted_in, newly_counted, page_for}
use Rattle.outcomes.specs.Runs.{Event, calls, answers, Run, done, step}
use Rattle.demands.specs.Later.{drops, hands_back, sets, deletes, deletes_all, SameTotals, OneBut, same as one, TotalsDecide}

-- the fillers of two calls that are one but for the filler
abbrev Fillers : ℕ → ℕ → Type 0
Fillers f g = (f ≡ g) ⊎ ((f ≤ 3) × (g ≤ 3))

-- past the end of an array the total is 0
count_past : (cs : List ℕ) (i : ℕ) → length cs ≤ 4 * i → count_in cs i ≡ 0
unfolding count_in added
count_past cs i h =
    rw (get_or-eq_default cs 0 {n = 4 * i + 0} (omega arith), get_or-eq_default cs 0 {n = 4 * i + 1} (omega arith), get_or-eq_default cs 0 {n = 4 * i + 2} (omega arith), get_or-eq_default cs 0 {n = 4 * i + 3} (omega arith))

-- pointers that move by whichever of the four fillers move totals alike; by a filler above 3 they move none
module _ (bs cs : List ℕ) (even : count_in cs ≡ count_in bs) (come gone : List ℕ) where
  above_moved : (f : ℕ) → 4 ≤ f → (ds : List ℕ) (i : ℕ) → i < 64 → count_in (moved f ds come gone) i ≡ count_in ds i
  unfolding count_in added
  above_moved f h ds i l = rw (share 0 (omega arith), share 1 (omega arith), share 2 (omega arith), share 3 (omega arith))
    where
      share : (k : ℕ) → k < 4 → get_or (moved f ds come gone) (4 * i + k) 0 ≡ get_or ds (4 * i + k) 0
      share k n = share_moved f ds come gone k i n l ∙ rw (ne_eqb k f (λ e. omega arith))

  below_moved : (f g i : ℕ) → f ≤ 3 → g ≤ 3 → i < 64 → count_in (moved g cs come gone) i ≡ count_in (moved f bs come gone) i
  below_moved f g i p q l = count_moved g cs come gone i (omega arith) l ∙ rw even (sym (count_moved f bs come gone i (omega arith) l))

  moved_alike : (f g i : ℕ) → Fillers f g → count_in (moved g cs come gone) i ≡ count_in (moved f bs come gone) i
  moved_alike f g i h = by_test (ltb i 64)
      (λ e. low (ltb-true i 64 e) h)
      (λ e. let far = ltb-false i 64 e in count_past (moved g cs come gone) i (omega (arith, moved_length g cs come gone, far)) ∙ sym (count_past (moved f bs come gone) i (omega (arith, moved_length f bs come gone, far))))
    where
      low : i < 64 → Fillers f g → count_in (moved g cs come gone) i ≡ count_in (moved f bs come gone) i
      low l (inr h) = below_moved f g i h.0 h.1 l
      low l (inl e) = rw (← e) (by_test (ltb 3 f)
          (λ a. let far = ltb-true 3 f a in above_moved f (omega arith) cs i l ∙ ap (λ n. n i) even ∙ sym (above_moved f (omega arith) bs i l))
          (λ a. let near = ltb-false 3 f a in below_moved f f i near near l))

-- a new region's total is 0, and the others stay
entered_alike : (bs cs : List ℕ) → count_in cs ≡ count_in bs → (e i : ℕ) → count_in (without cs e) i ≡ count_in (without bs e) i
entered_alike bs cs even e i = go (by_same i e)
  where
    go : (i ≡ e) ⊎ (i ≢ e) → count_in (without cs e) i ≡ count_in (without bs e) i
    go (inl d) = rw d (count_here cs e ∙ sym (count_here bs e))
    go (inr d) = count_else cs e i d ∙ ap (λ n. n i) even ∙ sym (count_else bs e i d)

-- a store with other shares of the same totals
module _ (S : Store) (cs : List ℕ) (even : count_in cs ≡ count_in (regions S).shares) where
  abbrev U : Store
  U = with_regions S (with_shares (regions S) cs)

  -- its counts are the same, so the audit's condition is, each call's refusal, and the answer of an accepted call
  alike_counts : count_at (regions U) ≡ count_at (regions S)
  unfolding count_at with_shares
  alike_counts = even

  alike_sound : sound U ≡ sound S
  unfolding with_shares name_at name_of entry_of parent_at level_at newest_at oldest_at entries listed_regions listed_kinds listed_frames listed_held listed_free met_on begin slots_of stored_count counts_exact slots_lead words_lead filled placed newest_own oldest_own sound slots_leading_to words_leading_to outside uncounted_into pointers_of
  alike_sound = rw alike_counts

  query_refused : (q : Query) → reason (query_checks U q) ≡ reason (query_checks S q)
  unfolding query_checks no_frame lacks
  query_refused (locate s) = refl

  alike_refused : (c : Call) → refusal U c ≡ refusal S c
  unfolding refusal checks with_shares bad_length no_frame one_frame lacks lacks_beneath dead full names_out no_word is_data all_data roomy size slot breaks is_live live_count entry_of tag_of level_at newest_at subregions_of led_into led_among count_but outgoing
  alike_refused (declare ms) = refl
  alike_refused new_region = refl
  alike_refused (subregion r) = refl
  alike_refused (push n) = refl
  alike_refused (drop_frame f) = refl
  alike_refused (hand_back s b f) = refl
  alike_refused (allocate s r k) = refl
  alike_refused (first s r) = refl
  alike_refused (copy s t) = refl
  alike_refused (fetch b s) = refl
  alike_refused (clear s) = refl
  alike_refused (load s w t) = refl
  alike_refused (set_pointer s w v f) = refl
  alike_refused (put s w x) = refl
  alike_refused (get s w) = refl
  alike_refused (view s) = refl
  alike_refused (same s t) = refl
  alike_refused (about s) = refl
  alike_refused (report r) = refl
  alike_refused totals = refl
  alike_refused audit = refl
  alike_refused (delete r f) = rw alike_counts
  alike_refused (delete_all rs f) = rw alike_counts
  alike_refused (ask q) = ap (λ n. pick (bad_length S) 21 n) (query_refused q)

  query_answered : (q : Query) → query_reply U q ≡ query_reply S q
  unfolding query_reply slot
  query_answered (locate s) = refl

  -- so is the refusal of a call for another of the four fillers
  one_refused : {c d : Call} → OneBut c d → refusal U d ≡ refusal S c
  unfolding refusal checks
  one_refused {c} {d} h = alike_refused d ∙ by_filler h
    where
      by_filler : {c d : Call} → OneBut c d → refusal S d ≡ refusal S c
      by_filler one = refl
      by_filler (drops {f} {g} p q) = rw (le-ltb 3 f p, le-ltb 3 g q)
      by_filler (hands_back {s} {b} {f} {g} p q) = rw (le-ltb 3 f p, le-ltb 3 g q)
      by_filler (sets {s} {w} {v} {f} {g} p q) = rw (le-ltb 3 f p, le-ltb 3 g q)
      by_filler (deletes {r} {f} {g} p q) = rw (le-ltb 3 f p, le-ltb 3 g q)
      by_filler (deletes_all {rs} {f} {g} p q) = rw (le-ltb 3 f p, le-ltb 3 g q)

  module _ (a b : Answer) (T W : Store) where
    abbrev Alike : Type 0
    Alike = (a ≡ b) × SameTotals T W

    -- what an accepted call leaves of the one and of the other
    both_left : (X Y : Store) → T ≡ X → W ≡ Y → SameTotals X Y → SameTotals T W
    both_left X Y p q h = subst⁻¹ (λ T. SameTotals T W) p (subst⁻¹ (λ W. SameTotals X W) q h)

    -- no share changes
    kept : (X Y : Store) → T ≡ X → W ≡ Y → Y ≡ with_regions X (with_shares (regions X) cs) → (regions X).shares ≡ (regions S).shares → SameTotals T W
    unfolding with_shares count_at
    kept X Y p q e s = both_left X Y p q (record { rest = e ∙ ap (λ c. with_regions X (with_shares (regions X) c)) (sym (ap (λ Y. (regions Y).shares) e)); totals = λ i. ap (λ Y. count_in (regions Y).shares i) e ∙ ap (λ n. n i) even ∙ ap (λ c. count_in c i) (sym s) })

    -- a region is made
    begun : (X Y : Store) (e : ℕ) → T ≡ X → W ≡ Y → Y ≡ with_regions X (with_shares (regions X) (regions Y).shares) → (regions X).shares ≡ without (regions S).shares e → (regions Y).shares ≡ without cs e → SameTotals T W
    unfolding count_at
    begun X Y e p q d x y = both_left X Y p q (record { rest = d; totals = λ i. ap (λ c. count_in c i) y ∙ entered_alike (regions S).shares cs even e i ∙ ap (λ c. count_in c i) (sym x) })

    -- pointers move, by two fillers
    shifted : (X Y : Store) (f g : ℕ) (come gone : List ℕ) → Fillers f g → T ≡ X → W ≡ Y → Y ≡ with_regions X (with_shares (regions X) (regions Y).shares)
        → (regions X).shares ≡ moved f (regions S).shares come gone → (regions Y).shares ≡ moved g cs come gone → SameTotals T W
    unfolding count_at
    shifted X Y f g come gone h p q d x y = both_left X Y p q (record { rest = d; totals = λ i. ap (λ c. count_in c i) y ∙ moved_alike (regions S).shares cs even come gone f g i h ∙ ap (λ c. count_in c i) (sym x) })

    -- calls for two fillers
    module _ (f g : ℕ) (h : Fillers f g) where
      drops_alike : Accepted (drop_frame f) S a T → Accepted (drop_frame g) U b W → Alike
      unfolding Accepted with_shares recount recounted pop_frame slot_targets
      drops_alike p q = (p.0 ∙ sym q.0, shifted _ _ f g _ _ h p.1 q.1 refl refl refl)

      hands_alike : (s d : ℕ) → Accepted (hand_back s d f) S a T → Accepted (hand_back s d g) U b W → Alike
      unfolding Accepted with_shares recount recounted pop_frame fill_slot slot slot_targets
      hands_alike s d p q = (p.0 ∙ sym q.0, shifted _ _ f g _ _ h p.1 q.1 refl refl refl)

      sets_alike : (s w v : ℕ) → Accepted (set_pointer s w v f) S a T → Accepted (set_pointer s w v g) U b W → Alike
      unfolding Accepted with_shares recount recounted pointed write_word slot counted_in
      sets_alike s w v p q = (p.0 ∙ sym q.0, shifted _ _ f g _ _ h p.1 q.1 refl refl refl)

      delete_alike : (r : ℕ) → Accepted (delete r f) S a T → Accepted (delete r g) U b W → Alike
      unfolding Accepted with_shares recount recounted deleted without_regions tag_of entry_of newly_counted outgoing
      delete_alike r p q = (p.0 ∙ sym q.0, shifted _ _ f g _ _ h p.1 q.1 refl refl refl)

      joint_alike : (rs : List ℕ) → Accepted (delete_all rs f) S a T → Accepted (delete_all rs g) U b W → Alike
      unfolding Accepted with_shares recount recounted deleted without_regions tag_of entry_of newly_counted outgoing
      joint_alike rs p q = (p.0 ∙ sym q.0, shifted _ _ f g _ _ h p.1 q.1 refl refl refl)

    alike_accepted : (c : Call) → Accepted c S a T → Accepted c U b W → Alike
    unfolding Accepted with_shares slot name_of entry_of tag_of level_at newest_at oldest_at subregions_of live_count outside_of slots_beyond unused with_region with_page fill_slot write_word allocated page_for roomy size
    alike_accepted (declare ms) p q = (p.0 ∙ sym q.0, kept _ _ p.1 q.1 refl refl)
    alike_accepted new_region p q = (p.0 ∙ sym q.0, begun _ _ _ p.1 q.1 refl refl refl)
    alike_accepted (subregion r) p q = (p.0 ∙ sym q.0, begun _ _ _ p.1 q.1 refl refl refl)
    alike_accepted (push n) p q = (p.0 ∙ sym q.0, kept _ _ p.1 q.1 refl refl)
    alike_accepted (drop_frame f) p q = drops_alike f f (inl refl) p q
    alike_accepted (hand_back s d f) p q = hands_alike f f (inl refl) s d p q
    alike_accepted (allocate s r k) p q = (p.0 ∙ sym q.0, kept _ _ p.1 q.1 refl refl)
    alike_accepted (first s r) p q = (p.0 ∙ sym q.0, kept _ _ p.1 q.1 refl refl)
    alike_accepted (copy s t) p q = (p.0 ∙ sym q.0, kept _ _ p.1 q.1 refl refl)
    alike_accepted (fetch d s) p q = (p.0 ∙ sym q.0, kept _ _ p.1 q.1 refl refl)
    alike_accepted (clear s) p q = (p.0 ∙ sym q.0, kept _ _ p.1 q.1 refl refl)
    alike_accepted (load s w t) p q = (p.0 ∙ sym q.0, kept _ _ p.1 q.1 refl refl)
    alike_accepted (set_pointer s w v f) p q = sets_alike f f (inl refl) s w v p q
    alike_accepted (put s w x) p q = (p.0 ∙ sym q.0, kept _ _ p.1 q.1 refl refl)
    alike_accepted (get s w) p q = (p.0 ∙ sym q.0, kept _ _ p.1 q.1 refl refl)
    alike_accepted (view s) p q = (p.0 ∙ sym q.0, kept _ _ p.1 q.1 refl refl)
    alike_accepted (same s t) p q = (p.0 ∙ sym q.0, kept _ _ p.1 q.1 refl refl)
    alike_accepted (about s) p q = (p.0 ∙ sym q.0, kept _ _ p.1 q.1 refl refl)
    alike_accepted (report r) p q = (p.0 ∙ rw (← alike_counts) (sym q.0), kept _ _ p.1 q.1 refl refl)
    alike_accepted totals p q = (p.0 ∙ sym q.0, kept _ _ p.1 q.1 refl refl)
    alike_accepted audit p q = (p.0 ∙ rw (← alike_sound) (sym q.0), kept _ _ p.1 q.1 refl refl)
    alike_accepted (delete r f) p q = delete_alike f f (inl refl) r p q
    alike_accepted (delete_all rs f) p q = joint_alike f f (inl refl) rs p q
    alike_accepted (ask x) p q = (p.0 ∙ sym (q.0 ∙ query_answered x), kept _ _ p.1 q.1 refl refl)

    one_accepted : {c d : Call} → OneBut c d → Accepted c S a T → Accepted d U b W → Alike
    one_accepted (one {c}) p q = alike_accepted c p q
    one_accepted (drops {f} {g} x y) p q = drops_alike f g (inr (x, y)) p q
    one_accepted (hands_back {s} {b = d} {f} {g} x y) p q = hands_alike f g (inr (x, y)) s d p q
    one_accepted (sets {s} {w} {v} {f} {g} x y) p q = sets_alike f g (inr (x, y)) s w v p q
    one_accepted (deletes {r} {f} {g} x y) p q = delete_alike f g (inr (x, y)) r p q
    one_accepted (deletes_all {rs} {f} {g} x y) p q = joint_alike f g (inr (x, y)) rs p q

    one_answered : (n : ℕ) {c d : Call} → OneBut c d → Answered n c S a T → Answered n d U b W → Alike
    one_answered zero h p q = one_accepted h p q
    one_answered (suc n) h p q = (p.0 ∙ sym q.0, kept _ _ p.1 q.1 refl refl)

    one_outcome : {c d : Call} → OneBut c d → Outcome c S a T → Outcome d U b W → Alike
    unfolding Outcome
    one_outcome {c} {d} h p q = one_answered (refusal S c) h p (subst (λ n. Answered n d U b W) (one_refused h) q)

one_call : (S U : Store) → SameTotals S U → (c d : Call) → OneBut c d → (a b : Answer) (T W : Store) → Outcome c S a T → Outcome d U b W → (a ≡ b) × SameTotals T W
unfolding count_at
one_call S U h c d o a b T W p q = one_outcome S (regions U).shares (fun_ext h.totals) a b T W o p (subst (λ U. Outcome d U b W) h.rest q)

-- one call after the other
one_run : {S U : Store} → SameTotals S U → (es fs : List Event) (T W : Store) → Run S es T → Run U fs W → length es ≡ length fs → All₂ OneBut (calls es) (calls fs) → (answers es ≡ answers fs) × SameTotals T W
one_run h [] [] T W done done l o = (refl, h)
one_run h [] (f ∷ fs) T W r u l o = absurd (omega (arith, l))
one_run h (e ∷ es) [] T W r u l o = absurd (omega (arith, l))
one_run {S} {U} h (e ∷ es) (f ∷ fs) T W (step p r) (step q u) l o =
    let n = one_call S U h e.call f.call o.0 e.answer f.answer e.left f.left p q in
    let m = one_run n.1 es fs T W r u (omega (arith, l)) o.1 in
    (ap₂ ◌∷◌ n.0 m.0, m.1)

pub totals_decide : TotalsDecide
unfolding TotalsDecide
totals_decide = (one_call, λ S U h es fs T W r u l o. one_run h es fs T W r u l o)
