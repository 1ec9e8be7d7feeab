-- Memory that represents a valid model passes the audit.
-- Assumes nothing.
use Rattle.std.specs.Prelude.{◌≡◌, true, List, length}
use Rattle.std.proofs.Math.Path.{ap}
use Rattle.std.proofs.Common.{◌∙◌, arith}
use Rattle.std.proofs.Math.Bool.{Bool}
use Prim.Native.Nat.{ℕ, ◌+◌, ◌-◌, ◌*◌}
use Rattle.std.proofs.Math.Dec.{eqb}
use borrow.Author.Tests.{le-leb, eq-eqb}
use Rattle.lists.specs.Laws.All.{all_change}
use Rattle.lists.specs.Laws.Finds.{true_every}
use Rattle.model.specs.Model.{Model, lives_in}
use Rattle.model.specs.Valid.{Valid}
use Rattle.regions.specs.Regions.{name_at}
use Rattle.outcomes.specs.Store.{Store, frames, regions, pages}
use Rattle.outcomes.specs.History.{begin, entries, listed_regions, stored_count, uncounted_into, outside, counts_exact}
use Rattle.outcomes.specs.Sound.{Sound}
use Rattle.outcomes.specs.Shape.{Sized}
use Rattle.refinement.specs.Represents.{Represents}
use Rattle.refinement.specs.Laws.Tags.{entry_name}
use Rattle.histories.specs.Laws.Tells.{Tells}
use Rattle.histories.specs.Laws.Pointers.{slots_lead_lem, words_lead_lem, outside_is, uncounted_is}
use Rattle.audited.specs.Laws.RebuildStack.{is_within}
use Rattle.audited.specs.Laws.AuditedObjects.{Agrees, agrees}
use Rattle.audited.specs.Laws.AuditedLists.{entries_all, begin_tells}
use Rattle.audited.specs.Laws.AuditedRegions.{entries_every, distinct, permanent, deep, names_given, stands, own_newest, own_oldest}
use Rattle.audited.specs.Laws.AuditedHeld.{declared, sizes, marks_fit, widths, held, filling}

module _ {L : Model} {sp : List ℕ} {ids : ℕ → List ℕ} (S : Store) (v : Valid L) (h : Represents L sp ids S) where
  a : Agrees L sp ids S
  a = agrees v h

  t : Tells L sp (begin S)
  t = begin_tells S a

  -- the stored count of a live region is what the audit asks for
  exact : (r : ℕ) → lives_in L r ≡ true → eqb (stored_count S r + uncounted_into (begin S) S r) (outside (begin S) S r) ≡ true
  unfolding stored_count
  exact r l = eq-eqb (stored_count S r + uncounted_into (begin S) S r) (outside (begin S) S r) (omega (arith, h.counts r l, outside_is S t v h.on_frames h.on_objects r, uncounted_is S t v h.on_frames h.on_objects r))

  counts : counts_exact (begin S) S ≡ true
  unfolding counts_exact begin listed_regions
  counts =
      let test : ℕ → Bool = λ n. eqb (stored_count S n + uncounted_into (begin S) S n) (outside (begin S) S n) in
      true_every _ (begin S).regions (all_change (λ i. test (name_at (regions S) i) ≡ true) (λ g. test g.name ≡ true) _ (λ i e. e) (entries S)
      (entries_all S a (λ i. test (name_at (regions S) i) ≡ true) (λ r l. ap test (entry_name h.on_regions r l) ∙ exact r l)))

  pub audited : Sized S → Sound S
  audited sh = let names = sh.in_regions.names in record {
    counts = counts;
    slots = slots_lead_lem S t v h.on_frames h.on_objects;
    words = words_lead_lem S t v h.on_frames h.on_objects;
    held = held S a;
    made = is_within 1 256 (pages S).made h.on_pages.some h.on_pages.most;
    declared = declared S a;
    sizes = sizes S a;
    marks = marks_fit S a;
    standing = le-leb (frames S).standing 32 (omega (arith, h.on_frames.standing, v.frames.many));
    widths = widths S a;
    levels = entries_every S a _ (deep S a);
    given = le-leb (regions S).given 1000000 (omega (arith, h.on_regions.given, v.names.last_given));
    counted = le-leb (frames S).counted ((frames S).standing - 1) (omega (arith, h.on_frames.standing, h.on_frames.counted, v.frames.mark));
    heap_length = eq-eqb (length S.heap) (64 * (pages S).made) h.on_pages.whole;
    distinct = entries_every S a _ (distinct S a);
    names_given = entries_every S a _ (names_given S a);
    permanent = permanent S a;
    parents = entries_every S a _ (stands S a);
    filling = filling S a names;
    newest = entries_every S a _ (own_newest S a);
    oldest = entries_every S a _ (own_oldest S a);
  }
