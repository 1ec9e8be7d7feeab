-- The pages of a model: each is free or a live region's, and no region's objects take more words than its pages have. `Laws.Paged` proves it of what make leaves and after every call.
-- Assumes nothing.
use Rattle.std.specs.Prelude.{◌≡◌, true, ◌||◌, ℕ, ◌+◌, ◌*◌, ◌≤◌, eqb, length}
use Rattle.lists.specs.Lists.{pick, sum_of, All}
use Rattle.model.specs.Model.{Model, Object, Region, lives_in, held_by}

-- the words that object o takes if it is of region r, its header too
abbrev pub space_of : ℕ → Object → ℕ
space_of r o = pick (eqb o.home r) (length o.words + 1) 0

-- the words that the objects of region r take
unfoldable pub space : Model → ℕ → ℕ
space L r = sum_of (space_of r) L.objects

-- the objects of region g, and the room left in its newest page, take no more words than its pages of 64 have
abbrev pub Lies : Model → Region → Type 0
Lies L g = space L g.name + g.room ≤ 64 * held_by L g.name

-- Each of the N pages that make had is free or held by a live region, and a region's objects take no more words than its pages have (document 01, The store).
pub record Paged (N : ℕ) (L : Model) : Type 0 where
  pub whole : length L.holders ≡ N
  pub held : All (λ r. (eqb r 0 || lives_in L r) ≡ true) L.holders
  pub fits : All (Lies L) L.regions
