-- The tests and the state left are those of the call's outcome.
-- Assumes nothing.
use mathlib.Core.Path.{◌≡◌, refl, ap, ◌∙◌, fun_ext}
use mathlib.Core.Logic.{◌≢◌}
use mathlib.Core.Bool.{Bool, true, false, ◌||◌}
use mathlib.Core.List.{List, [], ◌∷◌, map}
use Prim.Native.Nat.{ℕ, ◌≤◌, ◌<◌}
use native.Mathlib.Omega.{arith}
use lib.ListN.{length, replicate}
use Rattle.lists.specs.Lists.{pick, times, among}
use Rattle.model.specs.Model.{Answer, delete_all, gives, refused_by}
use Rattle.model.specs.Calls.{reason}
use Rattle.frames.specs.Frames.{raised}
use Rattle.regions.specs.declared.Regions.{Regions}
use Rattle.regions.specs.Regions.{entry_of, tag_of, without_regions, with_shares}
use Rattle.regions.specs.Laws.Counts.{Shares}
use Rattle.regions.specs.Laws.Steps.{enterings}
use Rattle.regions.specs.Laws.Tags.{tags_below}
use Rattle.pages.specs.Pages.{pages_with}
use Rattle.outcomes.specs.Store.{Store, frames, kinds, regions, pages, led_among_in}
use Rattle.outcomes.specs.Outcome.{Outcome, Accepted, refusal, newly_in}
use Rattle.outcomes.specs.Apart.{scanned, Scans, GivesBack}
use Rattle.outcomes.proofs.Laws.Steps.{by_refusal, by_effect}
use Rattle.outcomes.proofs.Laws.Deleted.{code_number, code_deleted}
use Rattle.lists.specs.Ticks.{tick_at, ticked}
use Rattle.members.specs.Members.{tag_by}
use Rattle.lists.specs.Laws.Ticks.{blank_ticked}
use Rattle.joint_parts.specs.Joint.{still_counted, names_left}
use Rattle.calls_delete_all.specs.Laws.Gone.{names_are}
use Rattle.calls_delete_all.specs.Laws.Tests.{Live, tags, firsts, pointed, refused_first, passed_first, passed_filler, passed_live, passed_once, pointed_is}

-- the regions with these names and shares
abbrev regions_with : Regions → List ℕ → List ℕ → Regions
regions_with g names shares = record { given = g.given; names = names; parents = g.parents; levels = g.levels; shares = shares; newest = g.newest; oldest = g.oldest }

module _ (S : Store) (rs : List ℕ) (f : ℕ) where
  -- those named, ticked
  abbrev ticks : List ℕ
  ticks = ticked (replicate 256 0) (map (tag_by (regions S).names) rs)

  -- g is what a function gave for the first tests
  module _ (g : ℕ) (asked : g ≡ reason (firsts S rs f (tick_at ticks))) where
    ticks_are : Live S rs f → tick_at ticks ≡ (λ t. among t (tags S rs f))
    unfolding tag_by tag_of entry_of
    ticks_are live = fun_ext (λ t. blank_ticked 256 (tags S rs f) t (tags_below (regions S) rs live))

    pub delete_all_refused : (a : Answer) (T : Store) → g ≢ 0 → a ≡ refused_by g → T ≡ S → Outcome (delete_all rs f) S a T
    delete_all_refused a T z p q = by_refusal (delete_all rs f) S a T g (refused_first S rs f (tick_at ticks) ticks_are g asked z) z p q

    -- and where these accept, ms the ticks, cs the shares once the members are scanned, b whether something leads into a member still
    module _ (z : g ≡ 0) (ms cs : List ℕ) (b : Bool) (filled : g ≡ 0 → ms ≡ ticks) (fits : Shares (regions S).shares)
        (scans : f < 4 → Scans f (kinds S) S.heap (pages S) (tick_at ms) (regions S).shares cs)
        (looked : let fs = frames S in b ≡ (still_counted cs (tick_at ms) || led_among_in fs.standing fs.counted fs.widths fs.slots (pages S).owners (tick_at ms))) where
      few : f < 4
      few = passed_filler S rs f (tick_at ticks) ticks_are g asked z

      live : Live S rs f
      live = passed_live S rs f (tick_at ticks) ticks_are g asked z

      once : (t : ℕ) → times t (tags S rs f) ≤ 1
      once = passed_once S rs f (tick_at ticks) ticks_are g asked z

      members : tick_at ms ≡ (λ t. among t (tags S rs f))
      members = ap tick_at (filled z) ∙ ticks_are live

      left : b ≡ pointed S rs f
      left = looked ∙ rw members (pointed_is S rs f few live once fits cs (scans few S refl refl refl refl ∙ ap (λ m. (regions (scanned f S m)).shares) members))

      second : refusal S (delete_all rs f) ≡ pick b 19 0
      second = passed_first S rs f (tick_at ticks) ticks_are g asked z ∙ rw left

      pub delete_all_pointed : (a : Answer) (T : Store) → b ≡ true → a ≡ refused_by 19 → T ≡ S → Outcome (delete_all rs f) S a T
      delete_all_pointed a T e p q = by_refusal (delete_all rs f) S a T 19 (second ∙ ap (λ b. pick b 19 0) e) (λ n. omega arith) p q

      -- and ds, k, os and ns, where nothing does: the shares left, the number of pages, the owners and the names left
      pub delete_all_effect : (a : Answer) (T : Store) (k : ℕ) (ds os ns : List ℕ) → b ≡ false → a ≡ gives (k ∷ []) → length (pages S).owners ≡ 256
          → let fs = frames S in ds ≡ enterings f cs (newly_in fs.standing fs.counted fs.widths fs.slots (pages S).owners)
          → GivesBack (pages S).made (pages S).owners (tick_at ms) os k
          → ns ≡ names_left (regions S).names (tick_at ms) 64
          → frames T ≡ raised fs → kinds T ≡ kinds S → regions T ≡ regions_with (regions S) ns ds → pages T ≡ pages_with (pages S).made os (pages S).taken → T.heap ≡ S.heap
          → Outcome (delete_all rs f) S a T
      unfolding Accepted without_regions with_shares
      delete_all_effect a T k ds os ns e p long enters back en ef et er ep eh =
          by_effect (delete_all rs f) S a T (second ∙ ap (λ b. pick b 19 0) e) (
            p ∙ ap (λ n. gives (n ∷ [])) (code_number f S rs once few fits long (tick_at ms) members cs ds os k (scans few) enters back),
            code_deleted f S rs once few fits long (tick_at ms) members cs ds os k (scans few) enters back T ef et (er ∙ rw (en, members, names_are (regions S) rs live)) ep eh,
          )
