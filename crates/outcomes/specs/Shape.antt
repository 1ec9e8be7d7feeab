-- What the types of the language give of every memory: the lengths of the arrays (`Sized`) and the size of each number (`Bounded`); `Shaped` is both.
-- The contract of audit says `Sized` of every memory. That is what lists of calls ask of audited memory; only demand 1's promise on the size of numbers asks `Shaped`.
-- Assumes nothing.
use Rattle.std.specs.Prelude.{◌≡◌, List, ℕ, ◌<◌, length}
use Rattle.lists.specs.Lists.{All}
use Rattle.frames.specs.declared.Frames.{Frames}
use Rattle.kinds.specs.declared.Kinds.{Kinds}
use Rattle.regions.specs.declared.Regions.{Regions}
use Rattle.pages.specs.declared.Pages.{Pages}
use Rattle.outcomes.specs.Store.{Store, frames, kinds, regions, pages}

-- ---- the lengths of the arrays

pub record FramesSized (f : Frames) : Type 0 where
  pub widths : length f.widths ≡ 32
  pub slots : length f.slots ≡ 256

pub record KindsSized (k : Kinds) : Type 0 where
  pub sizes : length k.sizes ≡ 16
  pub marks : length k.marks ≡ 256

pub record RegionsSized (r : Regions) : Type 0 where
  pub names : length r.names ≡ 64
  pub parents : length r.parents ≡ 64
  pub levels : length r.levels ≡ 64
  pub shares : length r.shares ≡ 256
  pub newest : length r.newest ≡ 64
  pub oldest : length r.oldest ≡ 64

pub record PagesSized (p : Pages) : Type 0 where
  pub owners : length p.owners ≡ 256
  pub taken : length p.taken ≡ 256

pub record Sized (S : Store) : Type 0 where
  pub in_frames : FramesSized (frames S)
  pub in_kinds : KindsSized (kinds S)
  pub in_regions : RegionsSized (regions S)
  pub in_pages : PagesSized (pages S)

-- ---- the size of each number: 8, 16 and 32 bits

abbrev pub Bits8 : List ℕ → Type 0
Bits8 l = All (λ x. x < 256) l

abbrev pub Bits16 : List ℕ → Type 0
Bits16 l = All (λ x. x < 65536) l

abbrev pub Bits32 : List ℕ → Type 0
Bits32 l = All (λ x. x < 4294967296) l

pub record FramesBounded (f : Frames) : Type 0 where
  pub standing : f.standing < 4294967296
  pub counted : f.counted < 4294967296
  pub widths : Bits8 f.widths
  pub slots : Bits32 f.slots

pub record KindsBounded (k : Kinds) : Type 0 where
  pub declared : k.declared < 4294967296
  pub sizes : Bits8 k.sizes
  pub marks : Bits8 k.marks

pub record RegionsBounded (r : Regions) : Type 0 where
  pub given : r.given < 4294967296
  pub names : Bits32 r.names
  pub parents : Bits8 r.parents
  pub levels : Bits8 r.levels
  pub shares : Bits32 r.shares
  pub newest : Bits16 r.newest
  pub oldest : Bits32 r.oldest

pub record PagesBounded (p : Pages) : Type 0 where
  pub made : p.made < 4294967296
  pub owners : Bits8 p.owners
  pub taken : Bits8 p.taken

pub record Bounded (S : Store) : Type 0 where
  pub in_frames : FramesBounded (frames S)
  pub in_kinds : KindsBounded (kinds S)
  pub in_regions : RegionsBounded (regions S)
  pub in_pages : PagesBounded (pages S)
  pub heap : Bits32 S.heap

pub record Shaped (S : Store) : Type 0 where
  pub sized : Sized S
  pub bounded : Bounded S
