-- Lookups of regions by name and of objects by id, in lists that grew, shrank or changed.
-- Assumes nothing.
use Rattle.std.specs.Prelude.{◌≡◌, refl, Bool, true, false, not, ◌||◌, List, [], ◌∷◌, ◌++◌, map, ℕ, zero, suc, ◌+◌, ◌≤◌, ◌<◌, eqb, leb, length, get_or, set}
use Rattle.std.proofs.Common.{sym, ap, ◌∙◌, true≢false, add-one, arith, eqb-true, eq-eqb, ne_eqb, ltb-true, ltb-false, leb-true, leb-false}
use Rattle.std.proofs.Math.Path.{subst⁻¹, fun_ext}
use Rattle.std.proofs.Math.Bool.{or-false}
use Rattle.std.proofs.Math.ListN.{get_or-append, get_or-eq_default}
use Rattle.std.proofs.Math.Seq.{get_or-append_seam}
use Rattle.lists.specs.Lists.{bit, pick, keep, count_of, All, among}
use Rattle.lists.specs.Laws.Tests.{by_test, eqb_sym}
use Rattle.lists.specs.Laws.All.{all_map, all_both}
use Rattle.lists.specs.Laws.Finds.{any_append, find_append, find_passes, all_find, any_keep, any_thrown, find_keep, any_false, false_any, any_count, any_fewer}
use Rattle.model.specs.Model.{Object, Region, no_object, no_region, called, live, region, home_of, object}
use Rattle.model.specs.Calls.{replaced, with_word, others}
use Rattle.model.specs.Valid.{Distinct, level_of}

-- ---- names

pub live_zero : (gs : List Region) → All (λ g. 1 ≤ g.name) gs → live gs 0 ≡ false
live_zero gs h = false_any (called 0) gs (all_map (λ g k. ne_eqb g.name 0 (λ e. omega arith)) gs h)

pub live_positive : (gs : List Region) (r : ℕ) → All (λ g. 1 ≤ g.name) gs → live gs r ≡ true → 1 ≤ r
live_positive gs zero h l = absurd (true≢false (sym l ∙ live_zero gs h))
live_positive gs (suc r) h l = omega arith

pub name_is : (gs : List Region) (r : ℕ) → live gs r ≡ true → (region gs r).name ≡ r
name_is gs r l = eqb-true (region gs r).name r (find_passes (called r) no_region gs l)

-- what holds of every name in the list holds of a live one
pub live_all : (P : ℕ → Type 0) (gs : List Region) (r : ℕ) → All (λ g. P g.name) gs → P 0 → live gs r ≡ true → P r
live_all P gs r h z l = rw (name_is gs r l) at (all_find (λ g. P g.name) (called r) no_region gs h z)

pub level_is : (gs : List Region) (r : ℕ) → live gs 0 ≡ false → live gs r ≡ true → level_of gs r ≡ (region gs r).level
level_is gs zero z l = absurd (true≢false (sym l ∙ z))
level_is gs (suc r) z l = refl

-- at most one region has a given name, one has a name that lives, and it is the one found under its name
pub distinct_once : (gs : List Region) → Distinct gs → (r : ℕ) → count_of (called r) gs ≤ 1
distinct_once [] d r = omega arith
distinct_once (x ∷ xs) d r = go (eqb x.name r) refl (distinct_once xs d.1 r)
  where
    go : (b : Bool) → eqb x.name r ≡ b → count_of (called r) xs ≤ 1 → bit b + count_of (called r) xs ≤ 1
    go true e h = omega (arith, ltb-false 0 (count_of (called r) xs) (sym (any_count (called r) xs) ∙ ap (live xs) (sym (eqb-true x.name r e)) ∙ d.0))
    go false e h = omega arith

pub distinct_one : (gs : List Region) (r : ℕ) → Distinct gs → live gs r ≡ true → count_of (called r) gs ≡ 1
distinct_one gs r d l = omega (arith, distinct_once gs d r, ltb-true 0 (count_of (called r) gs) (sym (any_count (called r) gs) ∙ l))

pub found_itself : (gs : List Region) → Distinct gs → All (λ g. region gs g.name ≡ g) gs
found_itself [] d = tt
found_itself (g ∷ gs) d = (
  rw (eq-eqb g.name g.name refl),
  all_map (λ x h. rw (eqb_sym g.name x.name, h.0) h.1) gs (all_both _ _ gs (any_false (called g.name) gs d.0) (found_itself gs d.1)),
)

-- ---- one region more

module _ (gs : List Region) (g : Region) where
  pub live_more : (r : ℕ) → live gs r ≡ true → live (gs ++ (g ∷ [])) r ≡ true
  live_more r l = rw (any_append (called r) gs (g ∷ []), l)

  -- a name that is not the new one
  pub live_less : (r : ℕ) → (g.name ≡ r → ⊥) → live (gs ++ (g ∷ [])) r ≡ live gs r
  live_less r n = rw (any_append (called r) gs (g ∷ []), ne_eqb g.name r n) (or-false (live gs r))

  pub region_more : (r : ℕ) → live gs r ≡ true → region (gs ++ (g ∷ [])) r ≡ region gs r
  region_more r l = rw (find_append (called r) no_region gs (g ∷ []), l)

  pub level_more : (r : ℕ) → (eqb r 0 || live gs r) ≡ true → level_of (gs ++ (g ∷ [])) r ≡ level_of gs r
  level_more zero e = refl
  level_more (suc r) e = ap (λ x. x.level) (region_more (suc r) (rw (ne_eqb (suc r) 0 (λ q. omega arith)) at e))

pub distinct_more : (gs : List Region) (g : Region) → Distinct gs → All (λ x. x.name < g.name) gs → Distinct (gs ++ (g ∷ []))
distinct_more [] g d h = (refl, tt)
distinct_more (x ∷ xs) g d h = (live_less xs g x.name (λ e. omega (arith, h.0)) ∙ d.0, distinct_more xs g d.1 h.1)

-- ---- a change that keeps each region's name

module _ (f : Region → Region) (k : (g : Region) → (f g).name ≡ g.name) where
  pub live_map : (gs : List Region) (r : ℕ) → live (map f gs) r ≡ live gs r
  live_map [] r = refl
  live_map (g ∷ gs) r = rw (k g, live_map gs r)

  pub distinct_map : (gs : List Region) → Distinct gs → Distinct (map f gs)
  distinct_map [] d = tt
  distinct_map (g ∷ gs) d = (rw (k g, live_map gs g.name) d.0, distinct_map gs d.1)

  pub region_map : (gs : List Region) (r : ℕ) → live gs r ≡ true → region (map f gs) r ≡ f (region gs r)
  region_map [] r l = absurd (true≢false (sym l))
  region_map (g ∷ gs) r l = subst⁻¹ (λ n. pick (eqb n r) (f g) (region (map f gs) r) ≡ f (pick (eqb g.name r) g (region gs r))) (k g) (go (eqb g.name r) l (region_map gs r))
    where
      go : (b : Bool) → (b || live gs r) ≡ true → (live gs r ≡ true → region (map f gs) r ≡ f (region gs r)) → pick b (f g) (region (map f gs) r) ≡ f (pick b g (region gs r))
      go true l h = refl
      go false l h = h l

  -- and a field
  pub find_map : {X : Type 0} (field : Region → X) → ((g : Region) → field (f g) ≡ field g) → (gs : List Region) (r : ℕ) → field (region (map f gs) r) ≡ field (region gs r)
  find_map field m [] r = refl
  find_map {X} field m (g ∷ gs) r = subst⁻¹ (λ (n : ℕ). field (pick (eqb n r) (f g) (region (map f gs) r)) ≡ field (pick (eqb g.name r) g (region gs r))) (k g) (go (eqb g.name r) (find_map field m gs r))
    where
      go : (b : Bool) → field (region (map f gs) r) ≡ field (region gs r) → field (pick b (f g) (region (map f gs) r)) ≡ field (pick b g (region gs r))
      go true e = m g
      go false e = e

  pub level_map : ((g : Region) → (f g).level ≡ g.level) → (gs : List Region) (r : ℕ) → level_of (map f gs) r ≡ level_of gs r
  level_map m gs zero = refl
  level_map m gs (suc r) = find_map (λ x. x.level) m gs (suc r)

-- ---- the regions that rs names taken out

module _ (gs : List Region) (rs : List ℕ) where
  kept : (q : ℕ) → among q rs ≡ false → (x : Region) → called q x ≡ true → not (among x.name rs) ≡ true
  kept q n x e = rw (eqb-true x.name q e, n)

  pub live_others : (q : ℕ) → among q rs ≡ false → live (others gs rs) q ≡ live gs q
  live_others q n = any_keep (called q) (λ g. not (among g.name rs)) (kept q n) gs

  pub region_others : (q : ℕ) → among q rs ≡ false → region (others gs rs) q ≡ region gs q
  region_others q n = find_keep (called q) (λ g. not (among g.name rs)) no_region (kept q n) gs

  pub level_others : (q : ℕ) → among q rs ≡ false → level_of (others gs rs) q ≡ level_of gs q
  level_others zero n = refl
  level_others (suc q) n = ap (λ x. x.level) (region_others (suc q) n)

  pub live_removed : (q : ℕ) → among q rs ≡ true → live (others gs rs) q ≡ false
  live_removed q m = any_thrown (called q) (λ g. not (among g.name rs)) (λ x e. rw (eqb-true x.name q e, m)) gs

  -- what lives afterwards is no member, and lived before
  pub not_removed : (q : ℕ) → live (others gs rs) q ≡ true → among q rs ≡ false
  not_removed q l = by_test (among q rs) (λ e. absurd (true≢false (sym l ∙ live_removed q e))) (λ e. e)

  pub lived_before : (q : ℕ) → live (others gs rs) q ≡ true → live gs q ≡ true
  lived_before q l = sym (live_others q (not_removed q l)) ∙ l

pub distinct_keep : (f : Region → Bool) (gs : List Region) → Distinct gs → Distinct (keep f gs)
distinct_keep f [] d = tt
distinct_keep f (g ∷ gs) d = go (f g) (distinct_keep f gs d.1)
  where
    go : (b : Bool) → Distinct (keep f gs) → Distinct (pick b (g ∷ keep f gs) (keep f gs))
    go true h = (any_fewer (called g.name) f gs d.0, h)
    go false h = h

-- ---- objects

-- one object more: the region that a pointer leads into
pub home_append : (os : List Object) (o : Object) (p : ℕ) → p ≤ length os → home_of (os ++ (o ∷ [])) p ≡ home_of os p
home_append os o p h = ap (λ x. x.home) (get_or-append (no_object ∷ os) (o ∷ []) no_object p (omega arith))

pub home_new : (os : List Object) (o : Object) → home_of (os ++ (o ∷ [])) (length os + 1) ≡ o.home
home_new os o = rw add-one (ap (λ x. x.home) (get_or-append_seam (no_object ∷ os) o [] no_object))

pub home_out : (os : List Object) (p : ℕ) → length os < p → home_of os p ≡ 0
home_out os p h = ap (λ x. x.home) (get_or-eq_default (no_object ∷ os) no_object {n = p} (omega arith))

-- what leads into a live region is in the list
pub in_range : (lives : ℕ → Bool) (os : List Object) (p : ℕ) → lives 0 ≡ false → lives (home_of os p) ≡ true → p ≤ length os
in_range lives os p z l = by_test (leb p (length os)) (λ e. leb-true p (length os) e)
    (λ e. absurd (true≢false (sym l ∙ ap lives (home_out os p (leb-false p (length os) e)) ∙ z)))

-- a word written: every pointer leads where it led
home_set : (os : List Object) (i : ℕ) (o : Object) → o.home ≡ (get_or os i no_object).home → (p : ℕ) → home_of (set os i o) p ≡ home_of os p
home_set os i o e zero = refl
home_set [] i o e (suc p) = refl
home_set (x ∷ xs) zero o e (suc zero) = e
home_set (x ∷ xs) zero o e (suc (suc p)) = refl
home_set (x ∷ xs) (suc i) o e (suc zero) = refl
home_set (x ∷ xs) (suc i) o e (suc (suc p)) = home_set xs i o e (suc p)

pub homes_kept : (os : List Object) (p w x : ℕ) → home_of (replaced os p (with_word (object os p) w x)) ≡ home_of os
homes_kept os zero w x = refl
homes_kept os (suc i) w x = fun_ext (home_set os i (with_word (get_or os i no_object) w x) refl)
