-- Card 5: a filler above 3, and nothing else, is refused by 23, a call moves the shares of its own filler alone, and shares give one total in any order.
-- Assumes nothing.
use Rattle.std.specs.Prelude.{◌≡◌, ◌≢◌, ◌⊎◌, Bool, not, List, [], ◌∷◌, ℕ, zero, suc, ◌+◌, ◌*◌, ◌%◌, ◌≤◌, ◌<◌, eqb, length, replicate}
use Rattle.std.proofs.Math.Path.{refl, ap, subst⁻¹}
use Rattle.std.proofs.Common.{sym, ◌∙◌, subst, true≢false, arith, get_or-set_other}
use Rattle.std.proofs.Math.Logic.{inl, inr}
use Rattle.std.proofs.Math.Bool.{true, false}
use Rattle.std.proofs.Math.Dec.{ltb}
use Rattle.std.proofs.Math.ListN.{get_or, get_or-eq_default}
use Rattle.std.proofs.lemmas.List.{length-replicate, get_or-replicate}
use borrow.Author.Tests.{eq-eqb, ne_eqb, ltb-true, ltb-false, lt-ltb}
use Rattle.lists.specs.Lists.{pick, every, up_to, times, among}
use Rattle.lists.specs.Laws.Tests.{by_same, by_test, both}
use Rattle.lists.specs.Laws.Sums.{sum_map}
use Rattle.lists.specs.Laws.Order.{sum_order}
use Rattle.model.specs.Model.{Answer, Call, declare, new_region, subregion, push, drop_frame, hand_back, allocate, first, copy, fetch, clear, load, set_pointer, put, get, view, same, about, report, totals, audit, delete, delete_all, locate, ask}
use Rattle.model.specs.Calls.{reason, ◌yields◌, no_filler, makes}
use Rattle.model.proofs.Laws.Passed.{names_numbers}
use Rattle.regions.specs.declared.Regions.{Regions}
use Rattle.regions.specs.Regions.{name_at, share_in, share_at, added, count_in, count_at, unused, with_region, without_regions, with_page, recount}
use Rattle.regions.specs.Laws.Entries.{unused_free}
use Rattle.regions.specs.Laws.Recount.{recount_beside, recount_share}
use Rattle.regions.specs.Laws.Added.{name_new, share_new, share_old}
use Rattle.regions.specs.Laws.Removed.{name_left}
use Rattle.outcomes.specs.Store.{Store, regions}
use Rattle.outcomes.specs.Shape.{Sized}
use Rattle.outcomes.specs.Outcome.{Outcome, MakeOutcome, MakeBy, Accepted, Answered, bad_length, dead, query_checks, checks, refusal, fill_slot, write_word, recounted, pop_frame, pointed, allocated, deleted, blank}
use Rattle.promises.specs.Promises.{Refusals}
use Rattle.promises.specs.Laws.Refused.{refusals}
use Rattle.demands.specs.Later.{ActsFor, drops, hands_back, sets, deletes, deletes_all, FillerNext, OwnShare, added_singly, AnyOrder}

-- ---- a filler above 3

-- 23 comes next after 21, and with no other test
other : Bool × ℕ → Bool
other t = not (eqb t.1 23)

next_test : {f : ℕ} {c : Call} (S : Store) → ActsFor f c → (ts : List (Bool × ℕ)) × (checks S c ≡ bad_length S yields 21 ∷ no_filler f yields 23 ∷ ts) × (every other ts ≡ true)
unfolding checks other
next_test S drops = (_, refl, refl)
next_test S hands_back = (_, refl, refl)
next_test S sets = (_, refl, refl)
next_test S deletes = (_, refl, refl)
next_test S deletes_all = (_, refl, names_numbers (λ n. not (eqb n 23)) refl refl (dead S) _ _ refl)

never : (ts : List (Bool × ℕ)) → every other ts ≡ true → reason ts ≢ 23
unfolding other
never [] p e = omega arith
never (t ∷ ts) p e = let q = both (not (eqb t.1 23)) _ p in go t.0 t.1 q.0 (never ts q.1) e
  where
    go : (b : Bool) (n : ℕ) → not (eqb n 23) ≡ true → reason ts ≢ 23 → pick b n (reason ts) ≢ 23
    go true n h ih e = true≢false (sym h ∙ ap not (eq-eqb n 23 e))
    go false n h ih e = ih e

-- the filler that a call acts for; a call that acts for none has no such test
acting : (c : Call) → ((f : ℕ) × ActsFor f c) ⊎ ((S : Store) → every other (checks S c) ≡ true)
unfolding checks query_checks other
acting (declare ms) = inr (λ S. refl)
acting new_region = inr (λ S. refl)
acting (subregion r) = inr (λ S. refl)
acting (push n) = inr (λ S. refl)
acting (drop_frame f) = inl (f, drops)
acting (hand_back s b f) = inl (f, hands_back)
acting (allocate s r k) = inr (λ S. refl)
acting (first s r) = inr (λ S. refl)
acting (copy s t) = inr (λ S. refl)
acting (fetch b s) = inr (λ S. refl)
acting (clear s) = inr (λ S. refl)
acting (load s w t) = inr (λ S. refl)
acting (set_pointer s w v f) = inl (f, sets)
acting (put s w x) = inr (λ S. refl)
acting (get s w) = inr (λ S. refl)
acting (view s) = inr (λ S. refl)
acting (same s t) = inr (λ S. refl)
acting (about s) = inr (λ S. refl)
acting (report r) = inr (λ S. refl)
acting totals = inr (λ S. refl)
acting audit = inr (λ S. refl)
acting (delete r f) = inl (f, deletes)
acting (delete_all rs f) = inl (f, deletes_all)
acting (ask (locate s)) = inr (λ S. refl)

module _ (c : Call) (S : Store) where
  abbrev Above : Type 0
  Above = (f : ℕ) × ActsFor f c × (4 ≤ f) × (bad_length S ≡ false)

  above_refused : Above → refusal S c ≡ 23
  unfolding refusal
  above_refused (f, acts, h, e) = let t = next_test S acts in rw (t.1, e, lt-ltb 3 f (omega arith))

  refused_above : refusal S c ≡ 23 → Above
  unfolding refusal
  refused_above e = by (acting c)
    where
      tests : (f : ℕ) (b d : Bool) (n : ℕ) → n ≢ 23 → bad_length S ≡ b → ltb 3 f ≡ d → pick b 21 (pick d 23 n) ≡ 23 → (4 ≤ f) × (bad_length S ≡ false)
      tests f true d n h p q e = absurd (omega (arith, e))
      tests f false true n h p q e = (ltb-true 3 f q, p)
      tests f false false n h p q e = absurd (h e)

      by : ((f : ℕ) × ActsFor f c) ⊎ ((S : Store) → every other (checks S c) ≡ true) → Above
      by (inr none) = absurd (never (checks S c) (none S) e)
      by (inl (f, acts)) =
          let t = next_test S acts in
          let x = tests f _ _ _ (never t.0 t.2) refl refl (rw t.1 at e) in
          (f, acts, x.0, x.1)

pub filler_next : FillerNext
unfolding FillerNext Refusals
filler_next c S a T q = let r = refusals c S a T q in ((λ e. refused_above c S (sym r.0 ∙ e)), (λ h. r.0 ∙ above_refused c S h))

-- ---- a filler's own share

neither_way : {x y : ℕ} (n : ℕ) → (x ≢ 0) ⊎ (y ≡ 0) → x ≡ 0 → y ≡ n + 1 → ⊥
neither_way n (inl u) z e = u z
neither_way n (inr u) z e = omega arith

old_name : (g : Regions) (i t l : ℕ) → i ≢ unused g → name_at (with_region g (unused g) t l) i ≡ name_at g i
unfolding name_at with_region
old_name g i t l e = get_or-set_other g.names (unused g) i (g.given + 1) 0 e

module _ (f i : ℕ) (small : f ≤ 3) (low : i < 64) where
  -- what Share says of the regions before and after a call, where Other says that it does not act for the filler
  abbrev Own : Type 0 → Regions → Regions → Type 0
  Own Other g h =
      (Other → (name_at g i ≢ 0) ⊎ (name_at h i ≡ 0) → share_at h f i ≡ share_at g f i)
      × (name_at g i ≡ 0 → name_at h i ≢ 0 → share_at h f i ≡ 0)
      × ((name_at h i ≡ name_at g i) ⊎ (name_at h i ≡ 0) ⊎ ((name_at g i ≡ 0) × (name_at h i ≡ g.given + 1)))

  module _ {Other : Type 0} (g : Regions) where
    -- no region is made
    own_by : (h : Regions) → (name_at h i ≡ name_at g i) ⊎ (name_at h i ≡ 0) → (Other → share_at h f i ≡ share_at g f i) → Own Other g h
    own_by h (inl e) s = ((λ o u. s o), (λ z u. absurd (u (e ∙ z))), inl e)
    own_by h (inr e) s = ((λ o u. s o), (λ z u. absurd (u e)), inr (inl e))

    -- no name and no share changes
    own_same : (h : Regions) → h.names ≡ g.names → h.shares ≡ g.shares → Own Other g h
    unfolding name_at share_at
    own_same h n s = own_by h (inl (ap (λ l. get_or l i 0) n)) (λ o. ap (λ l. share_in l f i) s)

    -- filler k recounts, and entries may be given up
    module _ (k : ℕ) (come gone : List ℕ) (other : Other → f ≢ k) where
      recount_own : Other → share_at (recount g k come gone) f i ≡ share_at g f i
      recount_own o = recount_share g k come gone f i (omega arith) low ∙ rw (ne_eqb f k (other o))

      recount_name : name_at (recount g k come gone) i ≡ name_at g i
      unfolding name_at
      recount_name = ap (λ l. get_or l i 0) (recount_beside g k come gone).names

      own_recount : Own Other g (recount g k come gone)
      own_recount = own_by _ (inl recount_name) recount_own

      own_deleted : (es : List ℕ) → Own Other g (without_regions (recount g k come gone) es)
      unfolding without_regions share_at
      own_deleted es = own_by _ (kept (among i es) (name_left (recount g k come gone) es i)) recount_own
        where
          kept : {n : ℕ} (b : Bool) → n ≡ pick b 0 (name_at (recount g k come gone) i) → (n ≡ name_at g i) ⊎ (n ≡ 0)
          kept true e = inr e
          kept false e = inl (e ∙ recount_name)

    -- a region is made
    own_added : length g.names ≡ 64 → (t l : ℕ) → Own Other g (with_region g (unused g) t l)
    own_added n t l = made (by_same i (unused g))
      where
        h : Regions
        h = with_region g (unused g) t l

        made : (i ≡ unused g) ⊎ (i ≢ unused g) → Own Other g h
        made (inl e) =
            let free : name_at g i ≡ 0 = ap (name_at g) e ∙ unused_free g (rw (sym e) low) in
            let new : name_at h i ≡ g.given + 1 = ap (name_at h) e ∙ name_new g (unused g) t l (omega (arith, n, e)) (unused_free g (rw (sym e) low)) in
            ((λ o u. absurd (neither_way g.given u free new)), (λ z u. ap (share_at h f) e ∙ share_new g (unused g) t l f (omega arith)), inr (inr (free, new)))
        made (inr e) = own_by h (inl (old_name g i t l e)) (λ o. share_old g (unused g) t l i e f (omega arith))

  -- T is what a call leaves of S
  module _ (S T : Store) (sized : Sized S) where
    left : {Other : Type 0} (W : Store) → T ≡ W → Own Other (regions S) (regions W) → Own Other (regions S) (regions T)
    left {Other} W e = subst⁻¹ (λ T. Own Other (regions S) (regions T)) e

    still : {Other : Type 0} (W : Store) → T ≡ W → (regions W).names ≡ (regions S).names → (regions W).shares ≡ (regions S).shares → Own Other (regions S) (regions T)
    still W e n s = left W e (own_same (regions S) (regions W) n s)

    new : {Other : Type 0} (t l : ℕ) → Own Other (regions S) (with_region (regions S) (unused (regions S)) t l)
    new = own_added (regions S) sized.in_regions.names

    -- every accepted call, and every call
    own_accepted : (c : Call) (a : Answer) → Accepted c S a T → Own (ActsFor f c → ⊥) (regions S) (regions T)
    unfolding Accepted fill_slot write_word recounted pop_frame pointed allocated with_page deleted
    own_accepted (declare ms) a q = still _ q.1 refl refl
    own_accepted new_region a q = left _ q.1 (new _ _)
    own_accepted (subregion r) a q = left _ q.1 (new _ _)
    own_accepted (push n) a q = still _ q.1 refl refl
    own_accepted (drop_frame k) a q = left _ q.1 (own_recount (regions S) k _ _ (λ o e. o (subst (λ k. ActsFor f (drop_frame k)) e drops)))
    own_accepted (hand_back s b k) a q = left _ q.1 (own_recount (regions S) k _ _ (λ o e. o (subst (λ k. ActsFor f (hand_back s b k)) e hands_back)))
    own_accepted (allocate s r k) a q = still _ q.1 refl refl
    own_accepted (first s r) a q = still _ q.1 refl refl
    own_accepted (copy s t) a q = still _ q.1 refl refl
    own_accepted (fetch b s) a q = still _ q.1 refl refl
    own_accepted (clear s) a q = still _ q.1 refl refl
    own_accepted (load s w t) a q = still _ q.1 refl refl
    own_accepted (set_pointer s w v k) a q = left _ q.1 (own_recount (regions S) k _ _ (λ o e. o (subst (λ k. ActsFor f (set_pointer s w v k)) e sets)))
    own_accepted (put s w x) a q = still _ q.1 refl refl
    own_accepted (get s w) a q = still _ q.1 refl refl
    own_accepted (view s) a q = still _ q.1 refl refl
    own_accepted (same s t) a q = still _ q.1 refl refl
    own_accepted (about s) a q = still _ q.1 refl refl
    own_accepted (report r) a q = still _ q.1 refl refl
    own_accepted totals a q = still _ q.1 refl refl
    own_accepted audit a q = still _ q.1 refl refl
    own_accepted (delete r k) a q = left _ q.1 (own_deleted (regions S) k _ _ (λ o e. o (subst (λ k. ActsFor f (delete r k)) e deletes)) _)
    own_accepted (delete_all rs k) a q = left _ q.1 (own_deleted (regions S) k _ _ (λ o e. o (subst (λ k. ActsFor f (delete_all rs k)) e deletes_all)) _)
    own_accepted (ask x) a q = still _ q.1 refl refl

    own_answered : (n : ℕ) (c : Call) (a : Answer) → Answered n c S a T → Own (ActsFor f c → ⊥) (regions S) (regions T)
    own_answered zero c a q = own_accepted c a q
    own_answered (suc n) c a q = still S q.1 refl refl

-- make leaves no share
blank_share : (n r f i : ℕ) → share_at (blank n r).regions f i ≡ 0
unfolding share_at blank
blank_share n r f i =
    by_test (ltb (4 * i + f) 256)
    (λ e. get_or-replicate {A = ℕ} 256 (4 * i + f) 0 0 (ltb-true (4 * i + f) 256 e))
    (λ e. get_or-eq_default (replicate 256 0) 0 {n = 4 * i + f} (omega (arith, length-replicate {A = ℕ} 256 0, ltb-false (4 * i + f) 256 e)))

made_share : (b : Bool) (heap : List ℕ) (a : Answer) (T : Store) → MakeBy b heap a T → (f i : ℕ) → share_at (regions T) f i ≡ 0
made_share true heap a T h f i = ap (λ T. share_at (regions T) f i) h.1 ∙ blank_share _ _ f i
made_share false heap a T h f i = ap (λ T. share_at (regions T) f i) h.1 ∙ blank_share _ _ f i

pub own_share : OwnShare
unfolding OwnShare Outcome MakeOutcome
own_share = (
  (λ c S sized a T q f i small low. let h = own_answered f i small low S T sized (refusal S c) c a q in record { stays = h.0; begins = h.1; named = h.2 }),
  (λ heap a T h f i. made_share (makes (length heap)) heap a T h f i),
)

-- ---- in any order

-- the remainder taken at each step, or of the sum
singly : (l : List ℕ) → added_singly l ≡ added l
unfolding added_singly added
singly [] = refl
singly (x ∷ l) = omega (arith, singly l)

same_total : (k l : List ℕ) → ((n : ℕ) → times n k ≡ times n l) → added k ≡ added l
unfolding added
same_total k l h = ap (λ n. n % 4294967296) (sum_order (λ x. x) k l h)

pub any_order : AnyOrder
unfolding AnyOrder added count_at count_in share_at
any_order = (
  (λ k l h. (same_total k l h, singly k ∙ same_total k l h)),
  (λ g i fs h. let share : ℕ → ℕ = λ f. share_at g f i in ap (λ n. n % 4294967296) (sum_map (λ x. x) share fs ∙ sum_order share fs (up_to 4) h ∙ sym (sum_map (λ x. x) share (up_to 4)))),
)
