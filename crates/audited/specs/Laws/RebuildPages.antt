-- The pages of an audited memory agree with the model that it lists.
-- Assumes nothing.
use Rattle.std.specs.Prelude.{◌≡◌, ◌≢◌, ◌&&◌, length, get_or}
use Rattle.std.proofs.Math.Path.{refl, sym, ap}
use Rattle.std.proofs.Common.{◌∙◌, arith}
use Rattle.std.proofs.Math.Logic.{inl, inr}
use Rattle.std.proofs.Math.Bool.{true}
use Rattle.std.proofs.lemmas.Bool.{false≢true}
use Prim.Native.Nat.{ℕ, zero, suc, ◌+◌, ◌*◌, ◌≤◌, ◌<◌}
use Rattle.std.proofs.Math.Dec.{eqb, ltb}
use borrow.Author.Tests.{ltb-true, eqb-true, eqb-false, eq-eqb, ne_eqb}
use Rattle.lists.specs.Lists.{sum_of}
use Rattle.lists.specs.Laws.Tests.{by_test, both, or_other}
use Rattle.lists.specs.Laws.UpTo.{every_each, get_d_map_up_to, length_map_up_to}
use Rattle.regions.specs.Regions.{name_at, name_of, name_in, tag_of, entry_of, newest_at}
use Rattle.pages.specs.Pages.{page_count, owner_at, taken_at}
use Rattle.objects.specs.Objects.{headers_on}
use Rattle.outcomes.specs.Store.{Store, kinds, regions, pages}
use Rattle.outcomes.specs.Sound.{Sound, filled, newest_own}
use Rattle.outcomes.specs.Shape.{Sized}
use Rattle.outcomes.proofs.Laws.Begin.{holder_of, pages_held_lem, pages_filled}
use Rattle.outcomes.proofs.Laws.Tree.{each_used}
use Rattle.refinement.specs.Represents.{RoomAgrees, PagesAgree}
use Rattle.audited.specs.Rebuild.{room_of, read_region, rebuilt}
use Rattle.audited.specs.Laws.RebuildWalk.{stacked_sum}
use Rattle.audited.specs.Laws.RebuildObjects.{words_at, on_stacked}
use Rattle.audited.specs.Laws.RebuildStack.{within_is}
use Rattle.audited.specs.Laws.RebuildRegions.{live_name, tag_name, read}

module _ (S : Store) (sh : Sized S) (so : Sound S) where
  pages_some : (1 ≤ (pages S).made) × ((pages S).made ≤ 256)
  pages_some = within_is 1 256 (pages S).made so.made

  pub pages_all : page_count (pages S) ≡ (pages S).made
  unfolding page_count
  pages_all = omega (arith, pages_some)

  -- a page that is not free is a live region's
  pub held : (j : ℕ) → j < (pages S).made → owner_at (pages S) j ≢ 0 → holder_of S j ≢ 0
  held j h n z =
      let e = every_each _ (page_count (pages S)) (sym (pages_held_lem S sh.in_regions.names) ∙ so.held) j (omega (arith, pages_all)) in
      false≢true (rw (ne_eqb (owner_at (pages S) j) 0 n, eq-eqb (holder_of S j) 0 z) at e)

  -- its objects take just the words that are taken
  pub taken_sum : (j : ℕ) → j < (pages S).made → owner_at (pages S) j ≢ 0 → sum_of (λ q. 1 + words_at S q) (headers_on (kinds S) S.heap (pages S) j) ≡ get_or (pages S).taken j 0
  unfolding filled
  taken_sum j h n =
      let e = every_each _ (page_count (pages S)) (sym (pages_filled S sh.in_regions.names) ∙ so.filling) j (omega (arith, pages_all)) in
      eqb-true _ _ (or_other (eqb (holder_of S j) 0) (filled S (record { page = j; region = holder_of S j })) e (ne_eqb (holder_of S j) 0 (held j h n)))

  pub full : (j : ℕ) → j < (pages S).made → owner_at (pages S) j ≢ 0 → get_or (pages S).taken j 0 ≤ 64
  unfolding taken_at
  full j h n = omega (arith, taken_sum j h n, stacked_sum (words_at S) (64 * j) (64 * j + taken_at (pages S) j) (headers_on (kinds S) S.heap (pages S) j) (on_stacked S j))

  room_agrees : (i t : ℕ) → name_at (regions S) i ≢ 0 → i + 1 ≡ t → RoomAgrees (read_region S i) (pages S) t (newest_at (regions S) i)
  unfolding read_region newest_own
  room_agrees i t h e = go (newest_at (regions S) i) refl (each_used S sh.in_regions.names (newest_own S) so.newest i h)
    where
      go : (n : ℕ) → newest_at (regions S) i ≡ n → elim n [ zero ↦ true | suc j ↦ ltb j (page_count (pages S)) && eqb (owner_at (pages S) j) (i + 1) ] ≡ true
          → RoomAgrees (read_region S i) (pages S) t n
      go zero x q = ap (room_of S) x
      go (suc j) x q =
          let u = both (ltb j (page_count (pages S))) (eqb (owner_at (pages S) j) (i + 1)) q in
          let m : j < (pages S).made = omega (arith, pages_all, ltb-true j (page_count (pages S)) u.0) in
          let o : owner_at (pages S) j ≡ t = eqb-true (owner_at (pages S) j) (i + 1) u.1 ∙ e in
          record { made = m; own = o; page = omega (arith, x); left = omega (arith, ap (room_of S) x, full j m (λ z. omega arith)) }

  pub pages_agree : PagesAgree (rebuilt S) (regions S) (pages S) (length S.heap)
  unfolding rebuilt name_of name_in tag_of
  pages_agree = record {
    some = pages_some.0;
    most = pages_some.1;
    whole = eqb-true (length S.heap) (64 * (pages S).made) so.heap_length;
    listed = length_map_up_to (holder_of S) (page_count (pages S)) ∙ pages_all;
    owned = λ j h.
        let k = get_d_map_up_to (holder_of S) 0 (page_count (pages S)) j (omega (arith, pages_all)) in
        by_test (eqb (owner_at (pages S) j) 0) (λ e. let z = eqb-true (owner_at (pages S) j) 0 e in inl (k ∙ ap (name_of (regions S)) z, z)) (λ e.
        let n = held j h (eqb-false (owner_at (pages S) j) 0 e) in
        inr (rw k (live_name S sh (owner_at (pages S) j) n), sym (ap (tag_of (regions S)) k ∙ tag_name S sh so (owner_at (pages S) j) n)));
    room = λ r l.
        let t = read S sh so r l in
        rw t.is (room_agrees (entry_of (regions S) r) (tag_of (regions S) r) (λ z. t.some (sym t.name ∙ z)) refl);
  }
