-- What holds of a model at all times: limits, names, levels, and where pointers lead. `Laws.Next` proves it of what make leaves and after every call.
-- Assumes nothing.
use Rattle.std.specs.Prelude.{◌≡◌, Bool, true, false, ◌&&◌, ◌||◌, List, [], ◌∷◌, ℕ, zero, suc, ◌+◌, ◌-◌, ◌≤◌, eqb, length}
use Rattle.lists.specs.Lists.{All, All₂}
use Rattle.model.specs.Model.{Model, Object, Region, live, region, parent_of, marks, lives_in, home_in, parent_in, allowed}

-- at most 16 kinds, each of 1 to 16 marks, each mark at most 4
pub record ValidKinds (ks : List (List ℕ)) : Type 0 where
  pub many : length ks ≤ 16
  pub sized : All (λ ms. (1 ≤ length ms) × (length ms ≤ 16)) ks
  pub marks : All (All (λ k. k ≤ 4)) ks

-- no two regions of the list have one name
abbrev pub Distinct : List Region → Type 0
Distinct [] = Unit {0}
Distinct (g ∷ gs) = (live gs g.name ≡ false) × Distinct gs

-- At most 64 regions live. Their names are distinct and were given, none past 1,000,000. Region 1 lives, with none above it.
pub record ValidNames (gs : List Region) (given : ℕ) : Type 0 where
  pub many : length gs ≤ 64
  pub distinct : Distinct gs
  pub named : All (λ g. 1 ≤ g.name) gs
  pub names_given : All (λ g. g.name ≤ given) gs
  pub last_given : given ≤ 1000000
  pub permanent : live gs 1 ≡ true
  pub root : parent_of gs 1 ≡ 0

-- the level of region r, 0 for none
abbrev pub level_of : List Region → ℕ → ℕ
level_of gs zero = 0
level_of gs (suc r) = (region gs (suc r)).level

-- a region above lives, and the level is one more than that of the region above: 1 where there is none, and at most 16
pub record ValidParent (gs : List Region) (g : Region) : Type 0 where
  pub parent : (eqb g.parent 0 || live gs g.parent) ≡ true
  pub level : g.level ≡ level_of gs g.parent + 1
  pub deep : g.level ≤ 16

-- a region's oldest object is its own, where it has one
abbrev pub OwnOldest : (ℕ → ℕ) → Region → Type 0
OwnOldest home g = (eqb g.oldest 0 || eqb (home g.oldest) g.name) ≡ true

-- pointer p is null or leads to an object of a live region
abbrev pub known : (ℕ → Bool) → (ℕ → ℕ) → ℕ → Bool
known lives home p = eqb p 0 || lives (home p)

-- a word marked k in region h is data, or a pointer that is known and keeps its mark's rule
abbrev pub fine : (ℕ → Bool) → (ℕ → ℕ) → (ℕ → ℕ) → ℕ → ℕ → ℕ → Bool
fine lives parent home h k p = eqb k 0 || (known lives home p && allowed parent home h k p)

-- An object's region was given its name, so that no later region takes it over. Its kind was declared, it has as many words as that has marks, and they are fine while its region lives.
pub record ValidObject (lives : ℕ → Bool) (parent home : ℕ → ℕ) (ks : List (List ℕ)) (given : ℕ) (o : Object) : Type 0 where
  pub home_given : o.home ≤ given
  pub kind : (1 ≤ o.kind) × (o.kind ≤ length ks)
  pub sized : length o.words ≡ length (marks ks o.kind)
  pub fine_words : lives o.home ≡ true → All₂ (λ k p. fine lives parent home o.home k p ≡ true) (marks ks o.kind) o.words

-- m is below the number of frames, or 0 with none; at most 32 frames, each of 1 to 8 slots; every slot is known
pub record ValidFrames (lives : ℕ → Bool) (home : ℕ → ℕ) (fs : List (List ℕ)) (m : ℕ) : Type 0 where
  pub mark : m ≤ length fs - 1
  pub many : length fs ≤ 32
  pub sized : All (λ f. (1 ≤ length f) × (length f ≤ 8)) fs
  pub slots : All (All (λ p. known lives home p ≡ true)) fs

pub record Valid (L : Model) : Type 0 where
  pub kinds : ValidKinds L.kinds
  pub names : ValidNames L.regions L.given
  pub parents : All (ValidParent L.regions) L.regions
  pub oldest : All (OwnOldest (home_in L)) L.regions
  pub objects : All (ValidObject (lives_in L) (parent_in L) (home_in L) L.kinds L.given) L.objects
  pub frames : ValidFrames (lives_in L) (home_in L) L.frames L.counted
