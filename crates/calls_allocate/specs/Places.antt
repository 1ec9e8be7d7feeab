-- Where a region's next object stands (document 01, The store, on objects; document 02, card 4), and allocate's tests, over the numbers and lists that they read. Assumes nothing.
use Rattle.std.specs.Prelude.{Bool, not, ◌||◌, List, [], ◌∷◌, ℕ, ◌+◌, ◌-◌, ◌*◌, eqb, ltb, Option, Some, None}
use Rattle.lists.specs.Lists.{pick}
use Rattle.model.specs.Calls.{◌yields◌}
use Rattle.kinds.specs.Kinds.{kind_count_in}
use Rattle.pages.specs.Pages.{page_count_in, taken_in, first_free_in}
use Rattle.outcomes.specs.Store.{roomy_in}

-- a pointer to the start of the lowest free page, 0 where none is free
unfoldable pub free_place : ℕ → List ℕ → ℕ
free_place made owners = pick (ltb (first_free_in made owners) (page_count_in made)) (64 * first_free_in made owners + 1) 0

-- a pointer to the place of an object of n words, its header too, made next for a region whose newest page, plus 1, is q: behind what is taken of that page,
-- or at the start of the lowest free page where it has none or the object does not fit there; 0 where there is no such page
unfoldable pub place_for : ℕ → List ℕ → List ℕ → ℕ → ℕ → ℕ
place_for made owners taken q n = pick (roomy_in taken q n) (64 * (q - 1) + taken_in taken (q - 1) + 1) (free_place made owners)

-- a place as these numbers give it: 0 for none
abbrev pub place_or_0 : Option ℕ → ℕ
place_or_0 None = 0
place_or_0 (Some v) = v

-- a region's oldest object once v is made, where it was o; 0 where there was none
abbrev pub oldest_with : ℕ → ℕ → ℕ
oldest_with o v = pick (eqb o 0) v o

-- allocate's tests in document 01's order, after its slot: a region at entry e, and an object that would stand at v, 0 where there is no room
unfoldable pub allocate_tests : ℕ → ℕ → ℕ → ℕ → List (Bool × ℕ)
allocate_tests declared e kind v = not (ltb e 64) yields 2 ∷ (eqb kind 0 || ltb (kind_count_in declared) kind) yields 12 ∷ eqb v 0 yields 13 ∷ []
