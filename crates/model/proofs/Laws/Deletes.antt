-- Regions that may go together leave a valid model, and so does an accepted delete, single or joint.
-- Assumes nothing.
use Rattle.std.specs.Prelude.{◌≡◌, refl, ◌≢◌, ◌||◌, List, [], ◌∷◌, ℕ, zero, suc, eqb}
use Rattle.std.proofs.Math.Path.{ap}
use Rattle.std.proofs.Common.{◌∙◌, arith, eqb-true}
use Rattle.std.proofs.Math.Bool.{Bool, true, false, not}
use Rattle.std.proofs.lemmas.Bool.{false≢true}
use Rattle.lists.specs.Lists.{All, All₂, among}
use Rattle.lists.specs.Laws.Tests.{by_test}
use Rattle.lists.specs.Laws.All.{all_map, all_both, all₂_both}
use Rattle.lists.specs.Laws.Sums.{length_keep, count_most}
use Rattle.lists.specs.Laws.Finds.{all_keep}
use Rattle.lists.specs.Laws.Kept.{all_among}
use Rattle.model.specs.Model.{Model, Object, Region, live, parent_of, marks, lives_in, home_in, parent_in, above, rule, delete, delete_all}
use Rattle.model.specs.Calls.{refusal, accepted, others, remove_regions}
use Rattle.model.specs.Valid.{Valid, ValidObject, ValidParent, known}
use Rattle.model.proofs.Laws.Climb.{climb_all, climb_same}
use Rattle.model.proofs.Laws.Slots.{ValidIn}
use Rattle.model.proofs.Laws.Grows.{known_moved, fine_moved}
use Rattle.model.proofs.Laws.Regions.{live_others, region_others, level_others, not_removed, lived_before, distinct_keep}
use Rattle.model.proofs.Laws.Removable.{Removable, Away, parent_away, removable_one, removable_all}

-- A word in a region q, where neither q nor a region above it is a member, that keeps its mark's rule leads into no member, if it does not where it is marked 1.
word_away : (home : ℕ → ℕ) (us rs : List ℕ) (q k p : ℕ) → among 1 rs ≡ false → among q rs ≡ false → All (λ u. among u rs ≡ false) us → (eqb k 1 ≡ true → among (home p) rs ≡ false)
    → rule k (home p) q us ≡ true → among (home p) rs ≡ false
word_away home us rs q zero p a b c f e = absurd (false≢true e)
word_away home us rs q (suc zero) p a b c f e = f refl
word_away home us rs q (suc (suc zero)) p a b c f e = rw (eqb-true (home p) q e) b
word_away home us rs q (suc (suc (suc zero))) p a b c f e = go (eqb (home p) q) refl e
  where
    go : (t : Bool) → eqb (home p) q ≡ t → (t || among (home p) us) ≡ true → among (home p) rs ≡ false
    go true z e = rw (eqb-true (home p) q z) b
    go false z e = all_among (λ u. among u rs ≡ false) us c (home p) e
word_away home us rs q (suc (suc (suc (suc zero)))) p a b c f e = rw (eqb-true (home p) 1 e) a
word_away home us rs q (suc (suc (suc (suc (suc k))))) p a b c f e = absurd (false≢true e)

module _ (L : Model) (v : Valid L) (rs : List ℕ) (m : Removable L rs) where
  abbrev left : List Region
  left = others L.regions rs

  -- the climb from a region that stays meets only regions that stay
  abbrev Stays : ℕ → Type 0
  Stays r = among r rs ≡ false

  stays : (r : ℕ) → Stays r → parent_in L r ≢ 0 → Stays (parent_in L r)
  stays r a h = parent_away m v r a

  parent_left : (g : Region) → ValidParent L.regions g → among g.parent rs ≡ false → ValidParent left g
  parent_left g u a = record { parent = rw (live_others L.regions rs g.parent a) u.parent; level = rw (level_others L.regions rs g.parent a) u.level; deep = u.deep }

  slot_left : (p : ℕ) → known (lives_in L) (home_in L) p ≡ true → Away L rs p → known (live left) (home_in L) p ≡ true
  slot_left p k a = known_moved (lives_in L) (live left) (home_in L) (home_in L) p (λ l. (refl, live_others L.regions rs (home_in L p) a ∙ l)) k

  object_left : (o : Object) → ValidIn L o
      → (lives_in L o.home ≡ true → among o.home rs ≡ false → All₂ (λ k p. eqb k 1 ≡ true → Away L rs p) (marks L.kinds o.kind) o.words)
      → ValidObject (live left) (parent_of left) (home_in L) L.kinds L.given o
  object_left o s w = record {
    home_given = s.home_given;
    kind = s.kind;
    sized = s.sized;
    fine_words = λ l.
        let a = not_removed L.regions rs o.home l in
        let b = lived_before L.regions rs o.home l in
        all₂_both _ _ _ (λ k p f z. fine_moved (lives_in L) (live left) (parent_in L) (parent_of left) (home_in L) (home_in L) o.home k p
        (climb_same (parent_in L) (parent_of left) Stays stays (λ r q. ap (λ x. x.parent) (region_others L.regions rs r q)) 16 o.home a)
        (λ l₂ e. (refl, live_others L.regions rs (home_in L p) (word_away (home_in L) (above (parent_in L) o.home) rs o.home k p m.not_one a (climb_all (parent_in L) Stays stays 16 o.home a) z e) ∙ l₂)) f)
        (marks L.kinds o.kind) o.words (s.fine_words b) (w b a);
  }

  pub remove_valid : Valid (remove_regions L rs)
  unfolding remove_regions
  remove_valid =
      let gs = L.regions in
      let os = L.objects in
      let f : Region → Bool = λ g. not (among g.name rs) in
      record {
        kinds = v.kinds;
        names = record {
          many = omega (arith, length_keep f gs, count_most f gs, v.names.many);
          distinct = distinct_keep f gs v.names.distinct;
          named = all_map (λ g h. h.0) left (all_keep _ f gs v.names.named);
          names_given = all_map (λ g h. h.0) left (all_keep _ f gs v.names.names_given);
          last_given = v.names.last_given;
          permanent = rw (live_others gs rs 1 m.not_one) v.names.permanent;
          root = ap (λ x. x.parent) (region_others gs rs 1 m.not_one) ∙ v.names.root;
        };
        parents = all_map (λ g h. parent_left g h.0.0 (away g.parent g.name h.0.1 h.1)) left
            (all_keep (λ g. ValidParent gs g × (among g.parent rs ≡ true → among g.name rs ≡ true)) f gs (all_both _ _ gs v.parents m.closed));
        oldest = all_map (λ g h. h.0) left (all_keep _ f gs v.oldest);
        objects = all_map (λ o h. object_left o h.0 h.1) os (all_both _ _ os v.objects m.words);
        frames = record {
          mark = omega arith;
          many = v.frames.many;
          sized = v.frames.sized;
          slots = all_map (λ f h. all_map (λ p k. slot_left p k.0 k.1) f (all_both _ _ f h.0 h.1)) L.frames (all_both _ _ L.frames v.frames.slots m.slots);
        };
      }
    where
      away : (u n : ℕ) → (among u rs ≡ true → among n rs ≡ true) → not (among n rs) ≡ true → among u rs ≡ false
      away u n c e = by_test (among u rs) (λ t. absurd (false≢true (rw (c t) at e))) (λ t. t)

pub delete_all_valid : (L : Model) → Valid L → (rs : List ℕ) (f : ℕ) → refusal L (delete_all rs f) ≡ 0 → Valid (accepted L (delete_all rs f))
unfolding accepted
delete_all_valid L v rs f e = remove_valid L v rs (removable_all L rs f e)

pub delete_valid : (L : Model) → Valid L → (r f : ℕ) → refusal L (delete r f) ≡ 0 → Valid (accepted L (delete r f))
unfolding accepted
delete_valid L v r f e = remove_valid L v (r ∷ []) (removable_one L r f e)
