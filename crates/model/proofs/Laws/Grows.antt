-- Calls that add a kind, a region or an object keep a valid model valid.
-- Assumes nothing.
use Rattle.std.specs.Prelude.{◌≡◌, ◌≢◌, Bool, true, false, ◌&&◌, ◌||◌, List, [], ◌∷◌, ◌++◌, map, ℕ, ◌+◌, ◌≤◌, ◌<◌, eqb, ltb, leb, length, replicate}
use Rattle.std.proofs.Math.Path.{refl}
use Rattle.std.proofs.Common.{sym, ap, ◌∙◌, arith, length-append, ltb-false, leb-true, leb-false, eqb-true, eq-eqb}
use Rattle.std.proofs.lemmas.List.{length-replicate, length-map}
use Rattle.std.proofs.Math.ListN.{get_or-append}
use Rattle.std.proofs.lemmas.Bool.{eqb-false, not-false}
use Rattle.lists.specs.Lists.{pick, any_of}
use Rattle.lists.specs.Laws.Tests.{neither, both, or_right}
use Rattle.lists.specs.Laws.All.{all_map, all_append, all_change, all_both, all₂_map, all₂_replicate}
use Rattle.lists.specs.Laws.Finds.{any_false}
use Rattle.model.specs.Model.{Model, Object, Region, called, live, region, home_of, parent_of, marks, lives_in, home_in, parent_in, above, rule, allowed}
use Rattle.model.specs.Model.{declare, new_region, subregion, allocate}
use Rattle.model.specs.Calls.{checks, refusal, accepted, add_region, add_object, page_for, word_for, grown, size}
use Rattle.model.specs.Valid.{Valid, ValidFrames, ValidObject, ValidParent, OwnOldest, known, fine, level_of}
use Rattle.model.proofs.Laws.Passed.{passed}
use Rattle.model.proofs.Laws.Climb.{climb_same, parent_lives}
use Rattle.model.proofs.Laws.Slots.{in_list, fill_valid}
use Rattle.model.proofs.Laws.Regions.{live_zero, live_all, level_is, live_more, live_less, region_more, level_more, distinct_more, live_map, distinct_map, find_map, level_map, home_append, home_new, home_out}

-- ---- declare

pub marks_append : (ks : List (List ℕ)) (ms : List ℕ) (k : ℕ) → k ≤ length ks → marks (ks ++ (ms ∷ [])) k ≡ marks ks k
marks_append ks ms k h = get_or-append ([] ∷ ks) (ms ∷ []) [] k (omega arith)

pub declare_valid : (L : Model) → Valid L → (ms : List ℕ) → refusal L (declare ms) ≡ 0 → Valid (accepted L (declare ms))
unfolding accepted checks
declare_valid L v ms e =
    let c = passed L (declare ms) e in
    let c₁ = neither (eqb (length ms) 0 || ltb 16 (length ms)) (any_of (ltb 4) ms) c.0 in
    let c₂ = neither (eqb (length ms) 0) (ltb 16 (length ms)) c₁.0 in
    let low = eqb-false (length ms) 0 c₂.0 in
    let high = ltb-false 16 (length ms) c₂.1 in
    let few = leb-false 16 (length L.kinds) c.1.0 in
    record {
      names = v.names;
      parents = v.parents;
      oldest = v.oldest;
      frames = v.frames;
      kinds = record {
        many = simp length-append (omega arith);
        sized = all_append _ L.kinds (ms ∷ []) v.kinds.sized (omega arith, tt);
        marks = all_append _ L.kinds (ms ∷ []) v.kinds.marks (all_map (λ k h. ltb-false 4 k h) ms (any_false (ltb 4) ms c₁.1), tt);
      };
      objects = all_map (λ o s. record {
        home_given = s.home_given;
        kind = simp length-append (omega (arith, s.kind));
        sized = rw (marks_append L.kinds ms o.kind s.kind.1) s.sized;
        fine_words = λ l. rw (marks_append L.kinds ms o.kind s.kind.1) (s.fine_words l);
      }) L.objects v.objects;
    }

-- ---- other regions and objects: a pointer that was known stays so, and a word that was fine

pub known_moved : (lives lives₂ : ℕ → Bool) (home home₂ : ℕ → ℕ) (p : ℕ) → (lives (home p) ≡ true → (home₂ p ≡ home p) × (lives₂ (home p) ≡ true))
    → known lives home p ≡ true → known lives₂ home₂ p ≡ true
known_moved lives lives₂ home home₂ p m h = go (eqb p 0) h
  where
    go : (b : Bool) → (b || lives (home p)) ≡ true → (b || lives₂ (home₂ p)) ≡ true
    go true e = refl
    go false e = rw (m e).0 (m e).1

pub fine_moved : (lives lives₂ : ℕ → Bool) (parent parent₂ home home₂ : ℕ → ℕ) (h k p : ℕ) → above parent₂ h ≡ above parent h
    → (lives (home p) ≡ true → rule k (home p) h (above parent h) ≡ true → (home₂ p ≡ home p) × (lives₂ (home p) ≡ true))
    → fine lives parent home h k p ≡ true → fine lives₂ parent₂ home₂ h k p ≡ true
unfolding allowed
fine_moved lives lives₂ parent parent₂ home home₂ h k p u m e = go (eqb k 0) (eqb p 0) e
  where
    go : (a b : Bool) → (a || ((b || lives (home p)) && (b || rule k (home p) h (above parent h)))) ≡ true
        → (a || ((b || lives₂ (home₂ p)) && (b || rule k (home₂ p) h (above parent₂ h)))) ≡ true
    go true b e = refl
    go false true e = refl
    go false false e =
        let q = both (lives (home p)) (rule k (home p) h (above parent h)) e in
        let r = m q.0 q.1 in
        rw (r.0, r.1, u) q.1

-- regions and objects are added, and none goes: of the names given before, the same live
pub record Extends (lives lives₂ : ℕ → Bool) (parent parent₂ home home₂ : ℕ → ℕ) (given given₂ : ℕ) : Type 0 where
  pub back : (r : ℕ) → r ≤ given → lives₂ r ≡ true → lives r ≡ true
  pub forth : (r : ℕ) → lives r ≡ true → lives₂ r ≡ true
  pub parents : (r : ℕ) → lives r ≡ true → parent₂ r ≡ parent r
  pub closed : (r : ℕ) → lives r ≡ true → parent r ≢ 0 → lives (parent r) ≡ true
  pub homes : (p : ℕ) → lives (home p) ≡ true → home₂ p ≡ home p
  pub grows : given ≤ given₂

module _ {lives lives₂ : ℕ → Bool} {parent parent₂ home home₂ : ℕ → ℕ} {given given₂ : ℕ} (m : Extends lives lives₂ parent parent₂ home home₂ given given₂) where
  frames_moved : (fs : List (List ℕ)) (n : ℕ) → ValidFrames lives home fs n → ValidFrames lives₂ home₂ fs n
  frames_moved fs n s = record {
    mark = s.mark;
    many = s.many;
    sized = s.sized;
    slots = all_map (λ f. all_map (λ p. known_moved lives lives₂ home home₂ p (λ l. (m.homes p l, m.forth (home p) l))) f) fs s.slots;
  }

  object_moved : (ks : List (List ℕ)) (o : Object) → ValidObject lives parent home ks given o → ValidObject lives₂ parent₂ home₂ ks given₂ o
  object_moved ks o s = record {
    home_given = omega (arith, s.home_given, m.grows);
    kind = s.kind;
    sized = s.sized;
    fine_words = λ l. let l₁ = m.back o.home s.home_given l in
        all₂_map (λ k p. fine_moved lives lives₂ parent parent₂ home home₂ o.home k p
        (climb_same parent parent₂ (λ r. lives r ≡ true) m.closed m.parents 16 o.home l₁) (λ l₂ r. (m.homes p l₂, m.forth (home p) l₂)))
        (marks ks o.kind) o.words (s.fine_words l₁);
  }

-- ---- new region, subregion

pub region_extends : (L : Model) → Valid L → (g : Region) → g.name ≡ L.given + 1
    → Extends (lives_in L) (live (L.regions ++ (g ∷ []))) (parent_in L) (parent_of (L.regions ++ (g ∷ []))) (home_in L) (home_in L) L.given (L.given + 1)
region_extends L v g n = record {
  back = λ r h l. sym (live_less L.regions g r (λ q. omega arith)) ∙ l;
  forth = λ r l. live_more L.regions g r l;
  parents = λ r l. ap (λ x. x.parent) (region_more L.regions g r l);
  closed = λ r l. parent_lives L v r l;
  homes = λ p l. refl;
  grows = omega arith;
}

add_region_valid : (L : Model) → Valid L → (r l : ℕ) → (eqb r 0 || lives_in L r) ≡ true → l ≡ level_of L.regions r + 1 → l ≤ 16
    → length L.regions < 64 → L.given < 1000000 → Valid (add_region L r l)
unfolding add_region
add_region_valid L v r l a e d few last =
    let gs = L.regions in
    let g : Region = record { name = L.given + 1; parent = r; level = l; newest = 0; room = 0; oldest = 0 } in
    let m = region_extends L v g refl in
    record {
      kinds = v.kinds;
      names = record {
        many = simp length-append (omega arith);
        distinct = distinct_more gs g v.names.distinct (all_map (λ x h. omega arith) gs v.names.names_given);
        named = all_append _ gs (g ∷ []) v.names.named (omega arith, tt);
        names_given = all_append _ gs (g ∷ []) (all_map (λ x h. omega arith) gs v.names.names_given) (omega arith, tt);
        last_given = omega arith;
        permanent = live_more gs g 1 v.names.permanent;
        root = m.parents 1 v.names.permanent ∙ v.names.root;
      };
      parents = all_append _ gs (g ∷ []) (all_map (λ x u. moved g x u) gs v.parents) (record { parent = more g r a; level = rw (level_more gs g r a) e; deep = d }, tt);
      oldest = all_append _ gs (g ∷ []) v.oldest (refl, tt);
      objects = all_map (object_moved m L.kinds) L.objects v.objects;
      frames = frames_moved m L.frames L.counted v.frames;
    }
  where
    more : (g : Region) (r : ℕ) → (eqb r 0 || lives_in L r) ≡ true → (eqb r 0 || live (L.regions ++ (g ∷ [])) r) ≡ true
    more g r e = known_moved (lives_in L) (live (L.regions ++ (g ∷ []))) (λ x. x) (λ x. x) r (λ l. (refl, live_more L.regions g r l)) e

    moved : (g x : Region) → ValidParent L.regions x → ValidParent (L.regions ++ (g ∷ [])) x
    moved g x u = record { parent = more g x.parent u.parent; level = rw (level_more L.regions g x.parent u.parent) u.level; deep = u.deep }

pub new_valid : (L : Model) → Valid L → refusal L new_region ≡ 0 → Valid (accepted L new_region)
unfolding accepted checks
new_valid L v e =
    let c = passed L new_region e in
    add_region_valid L v 0 1 refl refl (omega arith) (leb-false 64 (length L.regions) c.0) (leb-false 1000000 L.given c.1.0)

pub sub_valid : (L : Model) → Valid L → (r : ℕ) → refusal L (subregion r) ≡ 0 → Valid (accepted L (subregion r))
unfolding accepted checks
sub_valid L v r e =
    let c = passed L (subregion r) e in
    let l = not-false (lives_in L r) c.0 in
    let d = leb-false 16 (region L.regions r).level c.1.0 in
    add_region_valid L v r ((region L.regions r).level + 1) (or_right (eqb r 0) _ l) (rw (level_is L.regions r (live_zero L.regions v.names.named) l)) (omega arith)
    (leb-false 64 (length L.regions) c.1.1.0) (leb-false 1000000 L.given c.1.1.1.0)

-- ---- allocate

-- region r grows by an object, and the others stay
unfoldable pub change : ℕ → ℕ → ℕ → ℕ → Region → Region
change r n i j g = pick (called r g) (grown n i j g) g

-- the change keeps what growing keeps
changed : {X : Type 0} (field : Region → X) (r n i j : ℕ) (g : Region) → field (grown n i j g) ≡ field g → field (change r n i j g) ≡ field g
unfolding change
changed {X} field r n i j g e = go (called r g)
  where
    go : (b : Bool) → field (pick b (grown n i j g) g) ≡ field g
    go true = e
    go false = refl

module _ (r n i j : ℕ) where
  pub name_kept : (g : Region) → (change r n i j g).name ≡ g.name
  unfolding grown
  name_kept g = changed (λ x. x.name) r n i j g refl

  parent_kept : (g : Region) → (change r n i j g).parent ≡ g.parent
  unfolding grown
  parent_kept g = changed (λ x. x.parent) r n i j g refl

  level_kept : (g : Region) → (change r n i j g).level ≡ g.level
  unfolding grown
  level_kept g = changed (λ x. x.level) r n i j g refl

pub object_extends : (L : Model) → Valid L → (r n i j : ℕ) (o : Object)
    → Extends (lives_in L) (live (map (change r n i j) L.regions)) (parent_in L) (parent_of (map (change r n i j) L.regions))
    (home_in L) (home_of (L.objects ++ (o ∷ []))) L.given L.given
object_extends L v r n i j o = record {
  back = λ q h l. rw (live_map (change r n i j) (name_kept r n i j) L.regions q) at l;
  forth = λ q l. rw (live_map (change r n i j) (name_kept r n i j) L.regions q) l;
  closed = λ q l. parent_lives L v q l;
  parents = λ q l. find_map (change r n i j) (name_kept r n i j) (λ x. x.parent) (parent_kept r n i j) L.regions q;
  homes = λ p l. home_append L.objects o p (in_list L v p l);
  grows = omega arith;
}

oldest_moved : (L : Model) (r n j : ℕ) (o : Object) (g : Region) → o.home ≡ r → OwnOldest (home_in L) g → 1 ≤ g.name
    → OwnOldest (home_of (L.objects ++ (o ∷ []))) (change r n (length L.objects + 1) j g)
unfolding change grown
oldest_moved L r n j o g h own z = go (called r g) refl (eqb g.oldest 0) refl own
  where
    os : List Object
    os = L.objects

    old : eqb (home_of os g.oldest) g.name ≡ true → eqb (home_of (os ++ (o ∷ [])) g.oldest) g.name ≡ true
    old e = go (leb g.oldest (length os)) refl
      where
        go : (b : Bool) → leb g.oldest (length os) ≡ b → eqb (home_of (os ++ (o ∷ [])) g.oldest) g.name ≡ true
        go true q = rw (home_append os o g.oldest (leb-true g.oldest (length os) q)) e
        go false q = absurd (omega (arith, eqb-true (home_of os g.oldest) g.name e, home_out os g.oldest (leb-false g.oldest (length os) q)))

    go : (b : Bool) → called r g ≡ b → (c : Bool) → eqb g.oldest 0 ≡ c → (c || eqb (home_of os g.oldest) g.name) ≡ true
        → OwnOldest (home_of (os ++ (o ∷ []))) (pick b (grown n (length os + 1) j g) g)
    go true q true p e = or_right (eqb (pick (eqb g.oldest 0) (length os + 1) g.oldest) 0) _ (rw p (rw (home_new os o, h) (eq-eqb r g.name (sym (eqb-true g.name r q)))))
    go true q false p e = or_right (eqb (pick (eqb g.oldest 0) (length os + 1) g.oldest) 0) _ (rw p (old e))
    go false q true p e = rw p
    go false q false p e = or_right (eqb g.oldest 0) _ (old e)

add_object_valid : (L : Model) → Valid L → (r k : ℕ) → lives_in L r ≡ true → (1 ≤ k) × (k ≤ length L.kinds) → Valid (add_object L r k)
unfolding add_object change allowed
add_object_valid L v r k l h =
    let n = size L k in
    let i = length L.objects + 1 in
    let j = page_for L r n in
    let gs = L.regions in
    let o : Object = record { home = r; kind = k; page = j; word = word_for L r n; words = replicate (length (marks L.kinds k)) 0 } in
    let m = object_extends L v r n i j o in
    record {
      kinds = v.kinds;
      names = record {
        many = simp length-map v.names.many;
        distinct = distinct_map (change r n i j) (name_kept r n i j) gs v.names.distinct;
        named = all_change (λ g. 1 ≤ g.name) _ (change r n i j) (λ g q. rw (name_kept r n i j g) q) gs v.names.named;
        names_given = all_change (λ g. g.name ≤ L.given) _ (change r n i j) (λ g q. rw (name_kept r n i j g) q) gs v.names.names_given;
        last_given = v.names.last_given;
        permanent = m.forth 1 v.names.permanent;
        root = m.parents 1 v.names.permanent ∙ v.names.root;
      };
      parents = all_change (ValidParent gs) _ (change r n i j) (λ g u. record {
        parent = rw (parent_kept r n i j g, live_map (change r n i j) (name_kept r n i j) gs g.parent) u.parent;
        level = rw (parent_kept r n i j g, level_kept r n i j g, level_map (change r n i j) (name_kept r n i j) (level_kept r n i j) gs g.parent) u.level;
        deep = rw (level_kept r n i j g) u.deep;
      }) gs v.parents;
      oldest = all_change (λ g. OwnOldest (home_in L) g × (1 ≤ g.name)) _ (change r n i j) (λ g q. oldest_moved L r n j o g refl q.0 q.1) gs
          (all_both _ _ gs v.oldest v.names.named);
      objects = all_append _ L.objects (o ∷ []) (all_map (object_moved m L.kinds) L.objects v.objects) (
        record {
          home_given = live_all (λ q. q ≤ L.given) gs r v.names.names_given (omega arith) l;
          kind = h;
          sized = length-replicate (length (marks L.kinds k)) 0;
          fine_words = λ q. all₂_replicate _ (marks L.kinds k) (length (marks L.kinds k)) 0 (λ x. or_right (eqb x 0) _ refl);
        },
        tt,
      );
      frames = frames_moved m L.frames L.counted v.frames;
    }

pub made_valid : (L : Model) → Valid L → (s r k : ℕ) → refusal L (allocate s r k) ≡ 0 → Valid (add_object L r k)
unfolding checks
made_valid L v s r k e =
    let c = passed L (allocate s r k) e in
    let q = neither (eqb k 0) (ltb (length L.kinds) k) c.1.1.1.0 in
    let z = eqb-false k 0 q.0 in
    add_object_valid L v r k (not-false (lives_in L r) c.1.1.0) (omega arith, ltb-false (length L.kinds) k q.1)

pub allocate_valid : (L : Model) → Valid L → (s r k : ℕ) → refusal L (allocate s r k) ≡ 0 → Valid (accepted L (allocate s r k))
unfolding accepted checks add_object change
allocate_valid L v s r k e =
    let l = not-false (lives_in L r) (passed L (allocate s r k) e).1.1.0 in
    let i = length L.objects + 1 in
    let j = page_for L r (size L k) in
    fill_valid (add_object L r k) (made_valid L v s r k e) s i
    (or_right (eqb i 0) _ (rw (home_new, live_map (change r (size L k) i j) (name_kept r (size L k) i j) L.regions r) l))
