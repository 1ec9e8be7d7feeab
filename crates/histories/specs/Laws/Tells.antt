-- A history that tells of a model: the same kinds, frames, live regions and live objects, the regions and objects in any order. What it reads is then what the model reads.
-- Assumes nothing.
use Rattle.std.specs.Prelude.{◌≡◌, refl, Bool, true, ◌||◌, List, map, ℕ, zero, suc, ◌+◌, ◌-◌, ◌≤◌, ltb, length}
use Rattle.std.proofs.Math.Path.{sym, ap, fun_ext}
use Rattle.std.proofs.Common.{◌∙◌, arith, eq-eqb, ne_eqb}
use Rattle.std.proofs.Math.Bool.{not}
use Rattle.std.proofs.lemmas.Bool.{false≢true, not-false}
use Rattle.std.proofs.Math.Dec.{eqb}
use Rattle.std.proofs.lemmas.List.{length-map}
use Rattle.lists.specs.Lists.{bit, pick, every, find_or, sum_of, count_of, from, among}
use Rattle.lists.specs.Laws.Tests.{by_test, bit_zero, or_right, bit_pick}
use Rattle.lists.specs.Laws.All.{all_map}
use Rattle.lists.specs.Laws.Sums.{sum_zero, sum_nothing}
use Rattle.lists.specs.Laws.Finds.{any_count, find_none, sum_one, true_every, every_count}
use Rattle.model.specs.Model.{Model, Region, no_region, called, object, lives_in, home_in, parent_in, subregions, closed, above}
use Rattle.model.specs.Valid.{Valid}
use Rattle.model.proofs.Laws.Slots.{Known, in_list}
use Rattle.model.proofs.Laws.Regions.{distinct_one}
use Rattle.model.proofs.Laws.Climb.{climb_same, parent_lives}
use Rattle.regions.specs.declared.Regions.{Regions}
use Rattle.pages.specs.declared.Pages.{Pages}
use Rattle.outcomes.specs.History.{History, is_live, parent_of, above_of, at, leads, home_of}
use Rattle.outcomes.specs.History as history
use Rattle.refinement.specs.Represents.{spot, Alive, ids_in, ObjectsAgree}
use Rattle.refinement.specs.Laws.Reads.{by_known, spot_same}
use Rattle.lists.specs.Laws.Kept.{sum_single}

-- a region, and object p, as a history lists them
abbrev pub listed : Region → history.Region
listed g = record { name = g.name; parent = g.parent }

abbrev pub met : Model → List ℕ → ℕ → history.Object
met L sp p = record { place = spot sp p - 1; kind = (object L.objects p).kind; home = home_in L p }

-- whatever is added up over the regions or the objects of the history comes to the same over the model's, of whose objects only those of live regions count
pub record Tells (L : Model) (sp : List ℕ) (h : History) : Type 0 where
  pub kinds : h.kinds ≡ L.kinds
  pub frames : h.frames ≡ map length L.frames
  pub counted : h.counted ≡ L.counted
  pub regions : (f : history.Region → ℕ) → sum_of f h.regions ≡ sum_of (λ g. f (listed g)) L.regions
  pub objects : (f : history.Object → ℕ) → sum_of f h.objects ≡ sum_of (λ q. pick (lives_in L (home_in L q)) (f (met L sp q)) 0) (ids_in L)

-- one of the numbers 1 to n
sum_at : (f : ℕ → ℕ) (n q : ℕ) → 1 ≤ q → q ≤ n → sum_of (λ x. pick (eqb x q) (f x) 0) (from 1 n) ≡ f q
sum_at f n q a b =
    let here : pick (eqb q q) (f q) 0 ≡ f q = rw (eq-eqb q q refl) in
    let null : pick (eqb 0 q) (f 0) 0 ≡ 0 = rw (ne_eqb 0 q (λ e. omega arith)) in
    omega (arith, here, null, sum_single (λ x. pick (eqb x q) (f x) 0) (suc n) q (omega arith) (λ i d. rw (ne_eqb i q d)))

module _ {L : Model} {sp : List ℕ} {h : History} (t : Tells L sp h) where
  pub frames_length : length h.frames ≡ length L.frames
  frames_length = ap length t.frames ∙ length-map L.frames length

  -- ---- regions

  pub live_is : (r : ℕ) → is_live h r ≡ lives_in L r
  live_is r = any_count (λ g. eqb g.name r) h.regions ∙ ap (ltb 0) (t.regions (λ g. bit (eqb g.name r))) ∙ sym (any_count (called r) L.regions)

  pub subregions_are : (r : ℕ) → history.subregions h r ≡ subregions L r
  unfolding history.subregions
  subregions_are r = t.regions (λ g. bit (eqb g.parent r))

  pub closed_is : (rs : List ℕ) → history.closed h rs ≡ closed L.regions rs
  unfolding history.closed closed
  closed_is rs =
      every_count (λ g. not (among g.parent rs) || among g.name rs) h.regions
      ∙ ap (λ n. eqb n 0) (t.regions (λ g. bit (not (not (among g.parent rs) || among g.name rs))))
      ∙ sym (every_count (λ g. not (among g.parent rs) || among g.name rs) L.regions)

  -- ---- objects

  -- a test that each live object passes
  pub each_met : (P : history.Object → Bool) → ((q : ℕ) → Alive L q → P (met L sp q) ≡ true) → every P h.objects ≡ true
  each_met P f = true_every P h.objects (all_map (λ o z. not-false (P o) (bit_zero (not (P o)) z)) h.objects (sum_zero (λ o. bit (not (P o))) h.objects
      (t.objects (λ o. bit (not (P o))) ∙ sum_nothing _ (λ q. by_test (lives_in L (home_in L q)) (λ l. rw (l, f q l)) (λ l. rw l)) (ids_in L))))

  module _ (v : Valid L) where
    pub parent_is : (r : ℕ) → lives_in L r ≡ true → parent_of h r ≡ parent_in L r
    parent_is r l =
        let one = distinct_one L.regions r v.names.distinct l in
        sym (sum_one (λ g. eqb g.name r) (λ g. g.parent) (record { name = 0; parent = 0 }) h.regions (t.regions (λ g. bit (eqb g.name r)) ∙ one))
        ∙ t.regions (λ g. pick (eqb g.name r) g.parent 0)
        ∙ sum_one (called r) (λ g. g.parent) no_region L.regions one

    pub above_is : (r : ℕ) → lives_in L r ≡ true → above_of h r ≡ above (parent_in L) r
    above_is r l = climb_same (parent_in L) (parent_of h) (λ r. lives_in L r ≡ true) (parent_lives L v) parent_is 16 r l

    module _ {ids : ℕ → List ℕ} {g : Regions} {p : Pages} {heap : List ℕ} (a : ObjectsAgree L sp ids g p heap) where
      alive_known : (q : ℕ) → Alive L q → Known L q
      alive_known q l = or_right (eqb q 0) (lives_in L (home_in L q)) l

      -- only one object stands at the pointer of a live object
      only : (q : ℕ) → Alive L q → (f : history.Object → ℕ) → sum_of (λ o. pick (at (spot sp q) o) (f o) 0) h.objects ≡ f (met L sp q)
      only q l f = t.objects (λ o. pick (at (spot sp q) o) (f o) 0) ∙ ap (λ k. sum_of k (ids_in L)) (fun_ext each) ∙ sum_at (λ x. f (met L sp x)) (length L.objects) q (some q (a.laid q l).placed) (in_list L v q l)
        where
          some : (q : ℕ) → 1 ≤ spot sp q → 1 ≤ q
          some zero k = absurd (omega arith)
          some (suc i) k = omega arith

          each : (x : ℕ) → pick (lives_in L (home_in L x)) (pick (at (spot sp q) (met L sp x)) (f (met L sp x)) 0) 0 ≡ pick (eqb x q) (f (met L sp x)) 0
          each x = by_test (lives_in L (home_in L x))
              (λ m. let e : spot sp x - 1 + 1 ≡ spot sp x = omega (arith, (a.laid x m).placed) in rw (m, e, spot_same a x q (alive_known x m) (alive_known q l)))
              (λ m. rw (m, ne_eqb x q (λ e. false≢true (sym m ∙ ap (λ x. lives_in L (home_in L x)) e ∙ l))))

      one : (q : ℕ) → Alive L q → count_of (at (spot sp q)) h.objects ≡ 1
      one q l = ap (λ k. sum_of k h.objects) (fun_ext (λ o. bit_pick (at (spot sp q) o))) ∙ only q l (λ o. 1)

      pub leads_to : (q : ℕ) → Alive L q → leads h (spot sp q) ≡ true
      unfolding leads
      leads_to q l = any_count (at (spot sp q)) h.objects ∙ ap (ltb 0) (one q l)

      pub home_is : (q : ℕ) → Known L q → home_of h (spot sp q) ≡ home_in L q
      unfolding home_of
      home_is q k = by_known L q k
          (λ e. rw e (ap (λ o. o.home) (find_none (at 0) none h.objects (any_count (at 0) h.objects ∙ ap (ltb 0) (sum_nothing _ (λ o. rw (ne_eqb (o.place + 1) 0 (λ z. omega arith))) h.objects)))))
          (λ l. sym (sum_one (at (spot sp q)) (λ o. o.home) none h.objects (one q l)) ∙ only q l (λ o. o.home))
        where
          none : history.Object
          none = record { place = 0; kind = 0; home = 0 }

      pub kind_is : (q : ℕ) → Alive L q → (find_or (at (spot sp q)) (record { place = 0; kind = 0; home = 0 }) h.objects).kind ≡ (object L.objects q).kind
      kind_is q l = sym (sum_one (at (spot sp q)) (λ o. o.kind) (record { place = 0; kind = 0; home = 0 }) h.objects (one q l)) ∙ only q l (λ o. o.kind)
