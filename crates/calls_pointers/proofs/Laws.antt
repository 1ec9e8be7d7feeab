-- The tests of load and set pointer are those of the functions that they ask, one group after the other; and what the calls do where these accept.
-- Assumes nothing.
use mathlib.Core.Path.{◌≡◌, refl, sym, ap, ap₂, ◌∙◌}
use mathlib.Core.Bool.{Bool, true, false, not, ◌&&◌, ◌||◌}
use mathlib.Core.List.{List, [], ◌∷◌}
use Prim.Native.Nat.{ℕ, ◌+◌, ◌<◌}
use lib.Dec.{eqb}
use lib.ListN.{length, set}
use Rattle.lists.specs.Lists.{pick}
use Rattle.lists.specs.Laws.Tests.{by_test}
use Rattle.model.specs.Model.{Answer, load, set_pointer, gives}
use Rattle.model.specs.Calls.{reason, ◌yields◌}
use Rattle.frames.specs.Frames.{slot_at, top_frame}
use Rattle.kinds.specs.Kinds.{mark_at, mark_in}
use Rattle.regions.specs.declared.Regions.{Regions}
use Rattle.regions.specs.Regions.{with_shares, recount}
use Rattle.regions.specs.Laws.Steps.{steps, entering, leaving}
use Rattle.regions.specs.Laws.Counts.{Shares}
use Rattle.regions.specs.Laws.Recount.{recount_come_none, recount_gone_none, enter_leave_recount}
use Rattle.pages.specs.Pages.{owner_in, owner_of}
use Rattle.objects.specs.Objects.{kind_of, mark_of, word_at}
use Rattle.objects.specs.Parts.{object_of, header_in, word_in}
use Rattle.objects.specs.Laws.Words.{object_header}
use Rattle.outcomes.specs.Store.{Store, kinds, regions, pages, slot, breaks, breaks_in}
use Rattle.outcomes.specs.Outcome.{Outcome, Accepted, refusal, checks, no_frame, lacks, no_word, is_data, with_regions, with_heap, fill_slot, pointed, write_word, recounted, counted_in}
use Rattle.outcomes.proofs.Laws.Steps.{reason_append, by_effect}
use Rattle.checks.specs.Checks.{first_refusal, filler_tests, word_tests}
use Rattle.checks.specs.Laws.Tests.{top, filler_first, two_slots, first_zero, filler_passed, else_next}
use Rattle.checks.specs.Laws.Words.{in_slot, object, mark, tested, word_read}
use Rattle.calls_pointers.specs.Pointers.{pointer_refusal, set_refusal, counted_tag, tag_left, tag_entered}

else_else : (a b c : ℕ) → first_refusal (first_refusal a b) c ≡ first_refusal a (first_refusal b c)
else_else a b c = by_test (eqb a 0) (λ e. rw e) (λ e. rw (e, e))

module _ (S : Store) (s : ℕ) where
  pub load_tests : (w t : ℕ) → refusal S (load s w t) ≡ first_refusal (reason (top S s t)) (pointer_refusal (kinds S).declared (kinds S).sizes (kinds S).marks (object S s) (in_slot S s) w)
  unfolding refusal checks
  load_tests w t = two_slots S (eqb (slot S s) 0 yields 14 ∷ no_word S s w yields 15 ∷ is_data S s w yields 16 ∷ []) s t ∙ ap (first_refusal (reason (top S s t))) (tested S s (λ b. b) w)

  -- the test of the filler that a set pointer names
  abbrev pub filler : ℕ → ℕ
  filler f = reason (filler_tests (pages S).made (length S.heap) f)

  set_tests : (w v f : ℕ) → refusal S (set_pointer s w v f) ≡ first_refusal (filler f) (first_refusal (refusal S (load s w v)) (reason (breaks S (slot S s) w (slot S v) yields 17 ∷ [])))
  unfolding refusal checks
  set_tests w v f =
      let last = breaks S (slot S s) w (slot S v) yields 17 ∷ [] in
      filler_first S (no_frame S yields 6 ∷ (lacks S s || lacks S v) yields 9 ∷ eqb (slot S s) 0 yields 14 ∷ no_word S s w yields 15 ∷ is_data S s w yields 16 ∷ last) f
      ∙ ap (first_refusal (filler f)) (reason_append (checks S (load s w v)) last refl)

  -- the mark's rule by the parts that it reads
  breaks_in_lem : (w x : ℕ) → breaks S (in_slot S s) w x ≡ breaks_in (regions S).names (regions S).parents (regions S).levels (mark S s w) (owner_in (pages S).owners (in_slot S s)) x (owner_in (pages S).owners x)
  unfolding breaks owner_of mark_of mark_at breaks_in
  breaks_in_lem w x = rw (object_header S.heap (in_slot S s))

-- set pointer's tests by the parts that they read
pub set_parts : (S : Store) (s w v f : ℕ) → refusal S (set_pointer s w v f)
    ≡ first_refusal (first_refusal (filler S s f) (reason (top S s v))) (set_refusal (kinds S).declared (kinds S).sizes (kinds S).marks (regions S).names (regions S).parents (regions S).levels (pages S).owners (object S s) (in_slot S s) w (in_slot S v))
unfolding slot slot_at top_frame
set_parts S s w v f =
    set_tests S s w v f
    ∙ ap (first_refusal (filler S s f))
    (ap₂ (λ a b. first_refusal a (reason (b yields 17 ∷ []))) (load_tests S s w v) (breaks_in_lem S s w (in_slot S v))
    ∙ else_else (reason (top S s v)) (pointer_refusal (kinds S).declared (kinds S).sizes (kinds S).marks (object S s) (in_slot S s) w) _)
    ∙ sym (else_else (filler S s f) (reason (top S s v)) _)

set_read : (declared : ℕ) (sizes marks names parents levels owners heap : List ℕ) (v w x : ℕ) → set_refusal declared sizes marks names parents levels owners (object_of heap v) v w x ≡ 0
    → word_in (object_of heap v) w ≡ word_at heap v w
set_read declared sizes marks names parents levels owners heap v w x e =
    word_read declared sizes heap v w _ (sym (else_else (reason (word_tests declared sizes (object_of heap v) v w)) (reason (eqb (mark_in marks (header_in (object_of heap v)) w) 0 yields 16 ∷ [])) _) ∙ e)

-- leaving one count and then entering another, by the regions that the outcome names
counted_recount : (g : Regions) (f k h a b : ℕ) → recount g f (counted_tag k h b ∷ []) (counted_tag k h a ∷ []) ≡ recount g f (pick (eqb k 1 && not (eqb b h)) (b ∷ []) []) (pick (eqb k 1 && not (eqb a h)) (a ∷ []) [])
unfolding counted_tag
counted_recount g f k h a b = go (eqb k 1 && not (eqb b h)) (eqb k 1 && not (eqb a h))
  where
    go : (p q : Bool) → recount g f (pick p b 0 ∷ []) (pick q a 0 ∷ []) ≡ recount g f (pick p (b ∷ []) []) (pick q (a ∷ []) [])
    go true true = refl
    go true false = recount_gone_none g f (b ∷ []) []
    go false true = recount_come_none g f [] (a ∷ [])
    go false false = recount_come_none g f [] (0 ∷ []) ∙ recount_gone_none g f [] []

set_recount : (g : Regions) (f : ℕ) → f < 4 → Shares g.shares → (k h a b : ℕ) → with_shares g (entering f (leaving f g.shares (counted_tag k h a)) (counted_tag k h b))
    ≡ recount g f (pick (eqb k 1 && not (eqb b h)) (b ∷ []) []) (pick (eqb k 1 && not (eqb a h)) (a ∷ []) [])
unfolding steps
set_recount g f few fits k h a b = enter_leave_recount g f few fits (counted_tag k h b ∷ []) (counted_tag k h a ∷ []) ∙ counted_recount g f k h a b

module _ (S : Store) (s w : ℕ) where
  abbrev marks : List ℕ
  marks = (kinds S).marks

  abbrev owners : List ℕ
  owners = (pages S).owners

  -- what an accepted set pointer of filler f leaves: x is what the second slot holds, `out` and `into` are the tags whose shares change
  set_leaves : (v x f out into : ℕ) (cs words : List ℕ) → f < 4 → Shares (regions S).shares → word_in (object_of S.heap v) w ≡ word_at S.heap v w
      → out ≡ tag_left marks owners (object_of S.heap v) v w → into ≡ tag_entered marks owners (object_of S.heap v) v w x
      → cs ≡ entering f (leaving f (regions S).shares out) into → words ≡ set S.heap (v + w) x
      → with_heap (with_regions S (with_shares (regions S) cs)) words ≡ pointed S v w x f
  unfolding pointed write_word recounted counted_in owner_of mark_of mark_at
  set_leaves v x f out into cs words few fits read a b c d =
      let m = mark_in marks (kind_of S.heap v) w in
      let h = owner_in owners v in
      rw (d, c, a, b, read, object_header S.heap v, set_recount (regions S) f few fits m h (owner_in owners (word_at S.heap v w)) (owner_in owners x))

  -- v and o are what functions gave: what the slot holds, and the object that it leads to
  module _ (v : ℕ) (o : List ℕ) (led : v ≡ in_slot S s) (read : o ≡ object_of S.heap v) where
    -- so are t and g, for the tests of the slots, which accept, and of the word
    module _ (u t g : ℕ) (first : t ≡ reason (top S s u)) (passed : t ≡ 0) (asked : g ≡ pointer_refusal (kinds S).declared (kinds S).sizes marks o v w) where
      pub load_second : refusal S (load s w u) ≡ g
      load_second = load_tests S s w u ∙ else_next (reason (top S s u)) t _ first passed ∙ sym (asked ∙ rw (read, led))

      pub load_effect : (a : Answer) (x : ℕ) (T : Store) → g ≡ 0 → x ≡ word_in o w → a ≡ gives [] → T ≡ fill_slot S u x → Outcome (load s w u) S a T
      unfolding Accepted slot slot_at top_frame
      load_effect a x T z e p h =
          let q : pointer_refusal (kinds S).declared (kinds S).sizes marks (object_of S.heap v) v w ≡ 0 = rw (← read) (sym asked ∙ z) in
          by_effect (load s w u) S a T (load_second ∙ z) (p, h ∙ rw (e, read, word_read (kinds S).declared (kinds S).sizes S.heap v w _ q, led))

    -- and x, what slot u holds
    module _ (u x f t g : ℕ) (valued : x ≡ in_slot S u) (first : t ≡ first_refusal (filler S s f) (reason (top S s u))) (passed : t ≡ 0)
        (asked : g ≡ set_refusal (kinds S).declared (kinds S).sizes marks (regions S).names (regions S).parents (regions S).levels owners o v w x) where
      pub set_second : refusal S (set_pointer s w u f) ≡ g
      set_second = set_parts S s w u f ∙ else_next (first_refusal (filler S s f) (reason (top S s u))) t _ first passed ∙ sym (asked ∙ rw (read, led, valued))

      pub set_effect : (a : Answer) (out into : ℕ) (cs words : List ℕ) (T : Store) → g ≡ 0 → a ≡ gives [] → Shares (regions S).shares
          → out ≡ tag_left marks owners o v w → into ≡ tag_entered marks owners o v w x → cs ≡ entering f (leaving f (regions S).shares out) into → words ≡ set S.heap (v + w) x
          → T ≡ with_heap (with_regions S (with_shares (regions S) cs)) words → Outcome (set_pointer s w u f) S a T
      unfolding Accepted slot slot_at top_frame
      set_effect a out into cs words T z p fits l e c d h =
          let r = set_read (kinds S).declared (kinds S).sizes marks (regions S).names (regions S).parents (regions S).levels owners S.heap v w x (rw (← read) (sym asked ∙ z)) in
          let few = filler_passed (pages S).made (length S.heap) f (first_zero (filler S s f) (reason (top S s u)) (sym first ∙ passed)) in
          by_effect (set_pointer s w u f) S a T (set_second ∙ z)
          (p, h ∙ set_leaves v x f out into cs words few fits r (l ∙ rw read) (e ∙ rw read) c d ∙ ap₂ (λ v x. pointed S v w x f) led valued)

-- the tests on the object and the mark, made one after the other, with what they read read before
pub set_asked : (names parents levels : List ℕ) (A h m m' own own' x new new' : ℕ) (r b : Bool) → h ≡ A → h ≡ 0 → m ≡ m' → own ≡ own' → new ≡ new' → r ≡ breaks_in names parents levels m own x new → r ≡ b
    → pick b 17 0 ≡ first_refusal A (reason (breaks_in names parents levels m' own' x new' yields 17 ∷ []))
set_asked names parents levels A h m m' own own' x new new' r true p z em eo en e k = rw (← p, z, ← em, ← eo, ← en, ← e, k)
set_asked names parents levels A h m m' own own' x new new' r false p z em eo en e k = rw (← p, z, ← em, ← eo, ← en, ← e, k)

pub tag_is : (m m' own own' t t' r : ℕ) → m ≡ m' → own ≡ own' → t ≡ t' → r ≡ counted_tag m own t → r ≡ counted_tag m' own' t'
tag_is m m' own own' t t' r em eo et e = rw (← em, ← eo, ← et) e
