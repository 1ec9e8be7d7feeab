-- What the cards promise, proved of a store that represents a valid model and a history that tells of it, and so after every list of calls.
-- Assumes nothing.
use Rattle.std.specs.Prelude.{◌≡◌, ◌↔◌, ◌≢◌, ◌⊎◌, not, ◌&&◌, ◌||◌, List, [], map, leb, length, get_or}
use Rattle.std.proofs.Math.Path.{refl, sym, ap, subst}
use Rattle.std.proofs.Common.{◌∙◌, ⊎_elim, add-one, arith}
use Rattle.std.proofs.Math.Logic.{inl, inr}
use Rattle.std.proofs.Math.Bool.{true, false, true≢false}
use Rattle.std.proofs.lemmas.Bool.{false≢true}
use Prim.Native.Nat.{ℕ, zero, suc, ◌+◌, ◌-◌, ◌≤◌, ◌<◌}
use Rattle.std.proofs.Math.Dec.{eqb}
use Rattle.std.proofs.lemmas.List.{length-map}
use Rattle.std.proofs.Math.ListN.{get_or-map, get_or-eq_default}
use borrow.Author.Tests.{eqb-true, eqb-false, eq-eqb, ne_eqb, leb-true, leb-false, lt-leb, le-ltb}
use Rattle.lists.specs.Lists.{pick, any_of, find_or, All, among}
use Rattle.lists.specs.Laws.Tests.{by_test, both, or_right, or_other}
use Rattle.lists.specs.Laws.All.{all_map, all_both}
use Rattle.lists.specs.Laws.Finds.{any_map, every_true, all_found, find_none, false_any}
use Rattle.lists.specs.Laws.Kept.{all_each}
use Rattle.model.specs.Model.{Model, Answer, set_pointer, region, slot as model_slot, in_slot, slot_marks, mark_at, top, top_place, lives_in, home_in, parent_in, climb, rule, allowed, outside}
use Rattle.model.specs.Calls.{checks, refusal, lacks, no_frame, null, no_word}
use Rattle.model.specs.Valid.{Valid}
use Rattle.model.proofs.Laws.Regions.{live_zero}
use Rattle.model.proofs.Laws.Paged.{outside_bound}
use Rattle.model.proofs.Laws.Slots.{Known, slot_lives}
use Rattle.model.proofs.Laws.Climb.{climb_top, parent_lives, level_some, level_deep, level_falls}
use Rattle.regions.specs.declared.Regions.{Regions}
use Rattle.regions.specs.Regions.{name_at, name_of, name_in, entry_of, tag_of, up_in, level_in}
use Rattle.regions.specs.Laws.Entries.{name_none}
use Rattle.outcomes.specs.Store.{Store, regions, slot}
use Rattle.outcomes.specs.History.{History, Object, Word, begin, parent_of, above_of, is_live, pointers_of, at, leads, home_of, words_lead}
use Rattle.outcomes.specs.Sound.{sound_levels, sound_distinct, sound_parents}
use Rattle.outcomes.specs.Shape.{Sized}
use Rattle.outcomes.specs.Outcome.{Outcome}
use Rattle.outcomes.proofs.Laws.Begin.{entry_is}
use Rattle.outcomes.proofs.Laws.Tree.{few, tree, parent_tag}
use Rattle.promises.specs.Promises.{Refusals}
use Rattle.promises.specs.Laws.Refused.{refusals}
use Rattle.refinement.specs.Represents.{Represents, spot}
use Rattle.refinement.specs.Laws.Reads.{frame_in, top_known, slot_is, spot_zero, sized_known}
use Rattle.refinement.specs.Laws.Refusals.{refusals_agree}
use Rattle.histories.specs.Laws.Tells.{Tells, listed, live_is, parent_is, above_is, each_met, home_is, kind_is}
use Rattle.histories.specs.Laws.Pointers.{words_lead_lem}
use Rattle.audited.specs.Rebuild.{rebuilt}
use Rattle.audited.specs.Laws.RebuildRegions.{live_name, used_live}
use Rattle.audited.specs.Laws.RebuildLaid.{begin_regions}
use Rattle.demands.specs.Told.{history}
use Rattle.demands.specs.Later.{steps, Reached, Reaches, mark_told, top_width, AnyHeight, AuditsHeight}
use Rattle.demands.proofs.Laws.Steps.{run_told}
use Rattle.demands.proofs.Laws.Demand3.{start_told}

-- ---- Card 1: a climb meets just the regions that steps lead to

module _ (parent : ℕ → ℕ) where
  met_steps : (n r u : ℕ) → among u (climb parent n r) ≡ true → (k : ℕ) × (steps parent (suc k) r ≡ u)
  unfolding climb steps
  met_steps zero r u e = absurd (false≢true e)
  met_steps (suc n) r u e = by_test (eqb (parent r) 0)
      (λ z. absurd (false≢true (rw z at e)))
      (λ z. by_test (eqb (parent r) u)
      (λ y. (0, eqb-true (parent r) u y))
      (λ y. let q = met_steps n (parent r) u (or_other (eqb (parent r) u) _ (rw z at e) y) in (suc q.0, q.1)))

  module _ (none : parent 0 ≡ 0) (P : ℕ → Type 0) (closed : (r : ℕ) → P r → parent r ≢ 0 → P (parent r))
      (level : ℕ → ℕ) (falls : (r : ℕ) → P r → parent r ≢ 0 → level (parent r) < level r) where
    steps_none : (n : ℕ) → steps parent n 0 ≡ 0
    unfolding steps
    steps_none zero = refl
    steps_none (suc n) = rw none (steps_none n)

    steps_end : (k r : ℕ) → parent r ≡ 0 → steps parent (suc k) r ≡ 0
    unfolding steps
    steps_end k r e = rw e (steps_none k)

    -- as many steps as the level lead past the last region
    steps_over : ((r : ℕ) → P r → 1 ≤ level r) → (n r : ℕ) → P r → level r ≤ n → steps parent n r ≡ 0
    unfolding steps
    steps_over some zero r p h = absurd (omega (arith, some r p))
    steps_over some (suc n) r p h = by_test (eqb (parent r) 0)
        (λ z. rw (eqb-true (parent r) 0 z) (steps_none n))
        (λ z. let y = eqb-false (parent r) 0 z in steps_over some n (parent r) (closed r p y) (omega (arith, falls r p y)))

    steps_met : (n k r u : ℕ) → P r → level r ≤ n → u ≢ 0 → steps parent (suc k) r ≡ u → among u (climb parent n r) ≡ true
    unfolding climb steps
    steps_met zero k r u p h d e = absurd (d (sym e ∙ steps_end k r (climb_top parent P closed level falls r p h)))
    steps_met (suc n) zero r u p h d e = rw (ne_eqb (parent r) 0 (λ z. d (sym e ∙ z)), eq-eqb (parent r) u e)
    steps_met (suc n) (suc k) r u p h d e = by_test (eqb (parent r) 0)
        (λ z. absurd (d (sym e ∙ steps_end (suc k) r (eqb-true (parent r) 0 z))))
        (λ z.
        let y = eqb-false (parent r) 0 z in
        rw z (or_right (eqb (parent r) u) _ (steps_met n k (parent r) u (closed r p y) (omega (arith, falls r p y)) d e)))

-- the live regions of a history form a tree, no deeper than 16
record Tree (h : History) : Type 0 where
  level : ℕ → ℕ
  dead : is_live h 0 ≡ false
  lives : (r : ℕ) → is_live h r ≡ true → parent_of h r ≢ 0 → is_live h (parent_of h r) ≡ true
  falls : (r : ℕ) → is_live h r ≡ true → parent_of h r ≢ 0 → level (parent_of h r) < level r
  some : (r : ℕ) → is_live h r ≡ true → 1 ≤ level r
  deep : (r : ℕ) → is_live h r ≡ true → level r ≤ 16

module _ (h : History) (k : Tree h) where
  none : parent_of h 0 ≡ 0
  none = ap (λ g. g.parent) (find_none (λ g. eqb g.name 0) (record { name = 0; parent = 0 }) h.regions k.dead)

  live_some : (r : ℕ) → is_live h r ≡ true → r ≢ 0
  live_some r l e = true≢false (sym l ∙ ap (is_live h) e ∙ k.dead)

  over : (r : ℕ) → is_live h r ≡ true → steps (parent_of h) 16 r ≡ 0
  over r l = steps_over (parent_of h) none (λ r. is_live h r ≡ true) k.lives k.level k.falls k.some 16 r l (k.deep r l)

  reached : Reaches h
  unfolding steps
  reached r u l m = (
    (λ e. (m, by_test (eqb u r) (λ z. (0, sym (eqb-true u r z))) (λ z. let q = met_steps (parent_of h) 16 r u (or_other (eqb u r) _ e z) in (suc q.0, q.1)))),
    (λ q. back q.1),
  )
    where
      back : (n : ℕ) × (steps (parent_of h) n r ≡ u) → (eqb u r || among u (above_of h r)) ≡ true
      back (zero, e) = rw (eq-eqb u r (sym e))
      back (suc n, e) = or_right (eqb u r) _ (steps_met (parent_of h) none (λ r. is_live h r ≡ true) k.lives k.level k.falls 16 n r u l (k.deep r l) (live_some u m) e)

-- ---- what a memory lists, where names are distinct and the clauses on levels and regions above hold

module _ (S : Store) (sh : Sized S) (d : sound_distinct S ≡ true) (l : sound_levels S ≡ true) (p : sound_parents S ≡ true) where
  abbrev g : Regions
  g = regions S

  -- a live region is that of an entry in use
  live_same : (r : ℕ) → is_live (begin S) r ≡ lives_in (rebuilt S) r
  live_same r = ap (any_of (λ g. eqb g.name r)) (begin_regions S) ∙ any_map (λ g. eqb g.name r) listed (rebuilt S).regions

  abbrev names : length g.names ≡ 64
  names = sh.in_regions.names

  -- so what holds of each tag in use holds of each live region
  at_tag : (P : ℕ → Type 0) → ((t : ℕ) → name_of g t ≢ 0 → P (name_of g t)) → (r : ℕ) → is_live (begin S) r ≡ true → P r
  unfolding name_of name_in name_at
  at_tag P f r e = let t = used_live S sh r (sym (live_same r) ∙ e) in subst P t.2 (f (suc t.0) t.1)

  parent_at_lem : (t : ℕ) → name_of g t ≢ 0 → parent_of (begin S) (name_of g t) ≡ name_of g (up_in g.parents t)
  parent_at_lem = parent_tag S names (few S names d)

  -- a region's level, by its name and by its tag
  abbrev depth : ℕ → ℕ
  depth r = level_in g.levels (tag_of g r)

  depth_at : (t : ℕ) → name_of g t ≢ 0 → depth (name_of g t) ≡ level_in g.levels t
  unfolding name_of name_in name_at tag_of
  depth_at zero n = absurd (n refl)
  depth_at (suc i) n = ap (level_in g.levels) (add-one (entry_of g (name_at g i)) ∙ ap suc (entry_is S names (few S names d) i n))

  -- the tag above, where there is one
  up_some : (t : ℕ) → name_of g t ≢ 0 → parent_of (begin S) (name_of g t) ≢ 0 → up_in g.parents t ≢ 0
  up_some t n m z = m (parent_at_lem t n ∙ ap (name_of g) z ∙ name_none g)

  tree_listed : Tree (begin S)
  tree_listed =
      let k = tree S names l p in
      record {
        level = depth;
        dead = by_test (is_live (begin S) 0) (λ e. absurd (at_tag (λ r. r ≢ 0) (λ t n. n) 0 e refl)) (λ e. e);
        lives = at_tag (λ r. parent_of (begin S) r ≢ 0 → is_live (begin S) (parent_of (begin S) r) ≡ true) (λ t n m.
            rw (parent_at_lem t n) (live_same _ ∙ live_name S sh (up_in g.parents t) (k.lives t n (up_some t n m))));
        falls = at_tag (λ r. parent_of (begin S) r ≢ 0 → depth (parent_of (begin S) r) < depth r) (λ t n m.
            let u = up_some t n m in rw (parent_at_lem t n, depth_at (up_in g.parents t) (k.lives t n u), depth_at t n) (k.falls t n u));
        some = at_tag (λ r. 1 ≤ depth r) (λ t n. rw (depth_at t n) (k.some t n));
        deep = at_tag (λ r. depth r ≤ 16) (λ t n. rw (depth_at t n) (k.deep t n));
      }

-- ---- a history that tells of a valid model, and the store that represents it

module _ {L : Model} {sp : List ℕ} {ids : ℕ → List ℕ} {S : Store} {h : History} (v : Valid L) (rep : Represents L sp ids S) (t : Tells L sp h) where
  live_told : (r : ℕ) → is_live h r ≡ true → lives_in L r ≡ true
  live_told r l = sym (live_is t r) ∙ l

  tree_told : Tree h
  tree_told = record {
    level = λ r. (region L.regions r).level;
    dead = live_is t 0 ∙ live_zero L.regions v.names.named;
    lives = λ r l n. let k = live_told r l in rw (parent_is t v r k) (live_is t (parent_in L r) ∙ parent_lives L v r k (λ z. n (parent_is t v r k ∙ z)));
    falls = λ r l n. let k = live_told r l in rw (parent_is t v r k) (level_falls L v r k (λ z. n (parent_is t v r k ∙ z)));
    some = λ r l. level_some L v r (live_told r l);
    deep = λ r l. level_deep L v r (live_told r l);
  }

  -- every object's region lives, so a pointer that leads to an object leads into a live region
  homes_live : All (λ o. is_live h o.home ≡ true) h.objects
  homes_live = every_true _ h.objects (each_met t (λ o. is_live h o.home) (λ q l. live_is t (home_in L q) ∙ l))

  home_live : (x : ℕ) → leads h x ≡ true → is_live h (home_of h x) ≡ true
  unfolding leads home_of
  home_live x e = all_found (λ o. is_live h o.home ≡ true) (at x) (record { place = 0; kind = 0; home = 0 }) h.objects homes_live e

  climbed : All (λ o. All (λ w. w.mark ≡ 3 → w.value ≢ 0 → Reached h o.home (home_of h w.value)) (pointers_of h S o)) h.objects
  unfolding words_lead
  climbed = all_map (λ o k. all_map (λ w e m d. word o w k.0 (rw m at e) d) (pointers_of h S o) (every_true _ (pointers_of h S o) k.1)) h.objects
      (all_both _ _ h.objects homes_live (every_true _ h.objects (words_lead_lem S t v rep.on_frames rep.on_objects)))
    where
      word : (o : Object) (w : Word) → is_live h o.home ≡ true → (eqb w.value 0 || (leads h w.value && rule 3 (home_of h w.value) o.home (above_of h o.home))) ≡ true
          → w.value ≢ 0 → Reached h o.home (home_of h w.value)
      word o w l e d =
          let q = both (leads h w.value) _ (or_other (eqb w.value 0) _ e (ne_eqb w.value 0 d)) in
          (reached h tree_told o.home (home_of h w.value) l (home_live w.value q.0)).0 q.1

  -- ---- the next set pointer

  pub top_width_lem : top_width h ≡ length (top L)
  top_width_lem = ap (λ fs. get_or fs (length fs - 1) 0) t.frames ∙ ap (λ n. get_or (map length L.frames) (n - 1) 0) (length-map L.frames length) ∙ get_or-map length L.frames (top_place L.frames) []

  -- the test of a mark 3, by what the history tells
  allows_up : (q x : ℕ) → lives_in L (home_in L q) ≡ true → Known L x → (allowed (parent_in L) (home_in L) (home_in L q) 3 x ≡ true) ↔ ((spot sp x ≡ 0) ⊎ Reached h (home_in L q) (home_in L x))
  unfolding allowed
  allows_up q x l k =
      let z = spot_zero rep.on_objects x k in
      let up : eqb x 0 ≡ false → (rule 3 (home_in L x) (home_in L q) (above_of h (home_in L q)) ≡ true) ↔ Reached h (home_in L q) (home_in L x) = λ d. reached h tree_told (home_in L q) (home_in L x) (live_is t (home_in L q) ∙ l) (live_is t (home_in L x) ∙ or_other (eqb x 0) _ k d) in
      by_test (eqb x 0)
      (λ e. ((λ _. inl (eqb-true (spot sp x) 0 (z ∙ e))), (λ _. rw e)))
      (λ e. (
        (λ a. inr ((up e).0 (rw (above_is t v (home_in L q) l) (or_other (eqb x 0) _ a e)))),
        (λ r. or_right (eqb x 0) _ (⊎_elim (λ n. absurd (eqb-false (spot sp x) 0 (z ∙ e) n)) (λ y. rw (above_is t v (home_in L q) l) at ((up e).1 y)) r)),
      ))

  module _ (s w p : ℕ) (in₁ : s < top_width h) (in₂ : p < top_width h) (three : mark_told h (slot S s) w ≡ 3) where
    has : (i : ℕ) → i < top_width h → lacks (top L) i ≡ false
    has i l = lt-leb (length (top L)) i (rw top_width_lem at l)

    some_frame : no_frame L ≡ false
    some_frame = ne_eqb (length L.frames) 0 (λ z. omega (arith, frame_in L.frames (top_place L.frames) s (rw top_width_lem at in₁)))

    -- the slot leads to an object, since null has no word
    led : null L s ≡ false
    led = by_test (null L s) (λ e. absurd (no_word_lem (eqb-true (model_slot L s) 0 e))) (λ e. e)
      where
        nothing : Object
        nothing = record { place = 0; kind = 0; home = 0 }

        nowhere : find_or (at 0) nothing h.objects ≡ nothing
        nowhere = find_none (at 0) nothing h.objects (false_any (at 0) h.objects (all_each _ (λ o. ne_eqb (o.place + 1) 0 (λ z. omega arith)) h.objects))

        no_word_lem : model_slot L s ≡ 0 → ⊥
        no_word_lem z = let m = rw (slot_is rep s (has s in₁), z, nowhere) at three in omega (arith, m)

    lives : lives_in L (in_slot L s).home ≡ true
    lives = slot_lives L v s led

    marked : mark_at L s w ≡ 3
    marked = rw (slot_is rep s (has s in₁), kind_is t v rep.on_objects (model_slot L s) lives, t.kinds) at three

    -- and the word is one of the object's
    has_word : no_word L s w ≡ false
    has_word = by_test (leb (length (slot_marks L s)) w)
        (λ e. absurd (omega (arith, marked, get_or-eq_default (slot_marks L s) 0 (leb-true (length (slot_marks L s)) w e))))
        (λ e. lt-leb (length (in_slot L s).words) w (omega (arith, leb-false (length (slot_marks L s)) w e, sized_known v (model_slot L s) (top_known v s))))

    -- so only the mark is left to test
    tested : (f : ℕ) → f ≤ 3 → refusal L (set_pointer s w p f) ≡ pick (not (allowed (parent_in L) (home_in L) (in_slot L s).home 3 (model_slot L p))) 17 0
    unfolding refusal checks
    tested f few = rw (le-ltb 3 f few, some_frame, has s in₁, has p in₂, led, has_word, marked)

    sets_up : ((r : ℕ) → outside L r ≤ 16640) → (f : ℕ) → f ≤ 3 → (a : Answer) (T : Store) → Outcome (set_pointer s w p f) S a T
        → let Allowed = (slot S p ≡ 0) ⊎ Reached h (home_of h (slot S s)) (home_of h (slot S p)) in ((a.refusal ≡ 0) × Allowed) ⊎ ((a.refusal ≡ 17) × (Allowed → ⊥))
    unfolding Refusals
    sets_up small f few a T o =
        let q = model_slot L s in
        let x = model_slot L p in
        let e = (refusals (set_pointer s w p f) S a T o).0 ∙ refusals_agree v rep small (set_pointer s w p f) ∙ tested f few in
        let up = allows_up q x lives (top_known v p) in
        rw (slot_is rep s (has s in₁), slot_is rep p (has p in₂), home_is t v rep.on_objects q (top_known v s), home_is t v rep.on_objects x (top_known v p))
        (by_test (allowed (parent_in L) (home_in L) (in_slot L s).home 3 x)
        (λ y. inl (rw y at e, up.0 y))
        (λ y. inr (rw y at e, (λ z. true≢false (sym (up.1 z) ∙ y)))))

pub any_height : AnyHeight
unfolding AnyHeight
any_height S h s es T r =
    let k = (run_told (start_told S h s).2 r).1 in
    let g = k.good in
    record {
      ends = over (history h es) (tree_told g.valid g.represents k.tells);
      reaches = reached (history h es) (tree_told g.valid g.represents k.tells);
      words = climbed g.valid g.represents k.tells;
      sets = λ s w p f few a T o i j m. sets_up g.valid g.represents k.tells s w p i j m (outside_bound _ g.valid g.paged g.few) f few a T o;
    }

pub audits_height : AuditsHeight
unfolding AuditsHeight
audits_height S sh d l p = reached (begin S) (tree_listed S sh d l p)
