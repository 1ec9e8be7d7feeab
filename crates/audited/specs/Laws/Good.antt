-- A store that stands for a valid model: audited memory is one, and what such a store lists tells of its model.
-- Assumes nothing.
use Rattle.std.specs.Prelude.{List, ℕ, ◌≤◌}
use Rattle.model.specs.Model.{Model}
use Rattle.model.specs.Valid.{Valid}
use Rattle.model.specs.Paged.{Paged}
use Rattle.outcomes.specs.Store.{Store, regions, pages}
use Rattle.outcomes.specs.History.{begin}
use Rattle.outcomes.specs.Sound.{Sound}
use Rattle.outcomes.specs.Shape.{Sized}
use Rattle.refinement.specs.Represents.{Represents}
use Rattle.audited.specs.Rebuild.{places, ids_on, rebuilt}
use Rattle.audited.specs.Laws.Rebuild.{rebuilt_valid, rebuilt_represents}
use Rattle.histories.specs.Laws.Tells.{Tells}
use Rattle.histories.specs.Laws.TellsPages.{TellsPages, begin_pages}
use Rattle.audited.specs.Laws.AuditedObjects.{agrees}
use Rattle.audited.specs.Laws.AuditedLists.{begin_tells}
use Rattle.audited.specs.Laws.AuditedPages.{paged}

-- the store S stands for the valid model L of N pages
pub record Good (N : ℕ) (L : Model) (S : Store) : Type 0 where
  pub places : List ℕ
  pub on_page : ℕ → List ℕ
  pub few : N ≤ 256
  pub valid : Valid L
  pub paged : Paged N L
  pub sized : Sized S
  pub represents : Represents L places on_page S

-- audited memory stands for the model that it lists
unfoldable pub audited_good : (S : Store) → Sized S → Sound S → Good (pages S).made (rebuilt S) S
audited_good S sh so =
    let v = rebuilt_valid S sh so in
    let h = rebuilt_represents S sh so in
    record { places = places S; on_page = ids_on S; few = h.on_pages.most; valid = v; paged = paged S (agrees v h); sized = sh; represents = h }

module _ {N : ℕ} {L : Model} {S : Store} (g : Good N L S) where
  pub lists : Tells L g.places (begin S)
  lists = begin_tells S (agrees g.valid g.represents)

  pub lists_pages : TellsPages (begin S) (regions S).names (pages S)
  lists_pages = begin_pages S g.represents.on_regions g.represents.on_pages
