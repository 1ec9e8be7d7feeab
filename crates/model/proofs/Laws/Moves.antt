-- Exact counts: by every call, the stored count of each region that then lives moves by what `moves` tells, and by a refused call not at all.
-- Assumes nothing.
use Rattle.std.specs.Prelude.{◌≡◌, [], ◌∷◌, eqb, length, get_or, replicate}
use Rattle.std.proofs.Math.Path.{refl}
use Rattle.std.proofs.Common.{ap, ◌∙◌, arith}
use Rattle.std.proofs.Math.Bool.{true}
use Prim.Native.Nat.{ℕ, zero, suc, ◌+◌, ◌<◌}
use borrow.Author.Tests.{eqb-true, leb-false, not-false}
use Rattle.lists.specs.Laws.Tests.{pick_same}
use Rattle.model.specs.Model.{Model, Call, declare, new_region, subregion, push, drop_frame, hand_back, allocate, first, copy, fetch, clear, load, set_pointer, put, get, view, same, about, report, totals, audit, delete, delete_all, ask}
use Rattle.model.specs.Model.{region, lives_in, beneath, slot, in_slot, mark_at, stored}
use Rattle.model.specs.Calls.{checks, refusal, accepted, next, next_by, pop_frame, add_object, remove_regions}
use Rattle.model.specs.Valid.{Valid}
use Rattle.model.specs.Moves.{weighs, moves, moves_by}
use Rattle.model.proofs.Laws.Passed.{passed}
use Rattle.model.proofs.Laws.Regions.{live_positive, not_removed}
use Rattle.model.proofs.Laws.Slots.{pop_valid}
use Rattle.model.proofs.Laws.Removable.{removable_one, removable_all}
use Rattle.model.proofs.Laws.Grows.{made_valid}
use Rattle.model.proofs.Laws.Next.{accepted_valid}
use Rattle.model.proofs.Laws.Counts.{fill_stored, push_stored, pop_stored, write_stored, declare_stored, region_stored, object_stored, remove_stored}

-- a data word counts nowhere
weighs_data : (L : Model) (s w r x : ℕ) → mark_at L s w ≡ 0 → weighs L s w r x ≡ 0
unfolding weighs
weighs_data L s w r x e = rw e (pick_same (eqb (in_slot L s).home r) 0)

module _ (L : Model) (r : ℕ) (v : Valid L) where
  still : (n : ℕ) → n ≡ stored L r → n + 0 ≡ stored L r + 0
  still n e = ap (λ x. x + 0) e

  put_stored : (s w x : ℕ) → refusal L (put s w x) ≡ 0 → stored (accepted L (put s w x)) r ≡ stored L r
  unfolding accepted checks
  put_stored s w x e =
      let t = passed L (put s w x) e in
      let z = eqb-true (mark_at L s w) 0 (not-false (eqb (mark_at L s w) 0) t.1.1.1.1.0) in
      omega (arith, write_stored L r v s w x t.1.1.0 (leb-false (length (in_slot L s).words) w t.1.1.1.0), weighs_data L s w r x z, weighs_data L s w r (get_or (in_slot L s).words w 0) z)

  positive : (c : Call) → refusal L c ≡ 0 → lives_in (accepted L c) r ≡ true → 0 < r
  positive c e l = live_positive (accepted L c).regions r (accepted_valid L c v e).names.named l

  pub accepted_stored : (c : Call) → refusal L c ≡ 0 → lives_in (accepted L c) r ≡ true → stored (accepted L c) r + (moves L c r).1 ≡ stored L r + (moves L c r).0
  unfolding accepted moves checks remove_regions add_object
  accepted_stored (declare ms) e l = still _ (declare_stored L r v ms)
  accepted_stored new_region e l = still _ (region_stored L r v 0 1)
  accepted_stored (subregion q) e l = still _ (region_stored L r v q ((region L.regions q).level + 1))
  accepted_stored (push n) e l = still _ (push_stored L r v (replicate n 0))
  accepted_stored (drop_frame f) e l = omega (arith, pop_stored L r v)
  accepted_stored (hand_back s b f) e l = omega (arith, fill_stored (pop_frame L) r (pop_valid L v) b (slot L s), pop_stored L r v)
  accepted_stored (allocate s q k) e l = still _ (fill_stored (add_object L q k) r (made_valid L v s q k e) s (length L.objects + 1) ∙ object_stored L r v (positive (allocate s q k) e l) q k)
  accepted_stored (first s q) e l = still _ (fill_stored L r v s (region L.regions q).oldest)
  accepted_stored (copy s t) e l = still _ (fill_stored L r v t (slot L s))
  accepted_stored (fetch b s) e l = still _ (fill_stored L r v s (get_or (beneath L) b 0))
  accepted_stored (clear s) e l = still _ (fill_stored L r v s 0)
  accepted_stored (load s w t) e l = still _ (fill_stored L r v t (get_or (in_slot L s).words w 0))
  accepted_stored (set_pointer s w p f) e l =
      let t = passed L (set_pointer s w p f) e in
      write_stored L r v s w (slot L p) t.1.1.1.0 (leb-false (length (in_slot L s).words) w t.1.1.1.1.0)
  accepted_stored (put s w x) e l = still _ (put_stored s w x e)
  accepted_stored (get s w) e l = refl
  accepted_stored (view s) e l = refl
  accepted_stored (same s t) e l = refl
  accepted_stored (about s) e l = refl
  accepted_stored (report q) e l = refl
  accepted_stored totals e l = refl
  accepted_stored audit e l = refl
  accepted_stored (delete q f) e l = remove_stored L v (q ∷ []) (removable_one L q f e) r (not_removed L.regions (q ∷ []) r l)
  accepted_stored (delete_all qs f) e l = remove_stored L v qs (removable_all L qs f e) r (not_removed L.regions qs r l)
  accepted_stored (ask q) e l = refl

  pub next_stored : (c : Call) → lives_in (next L c) r ≡ true → stored (next L c) r + (moves_by (refusal L c) L c r).1 ≡ stored L r + (moves_by (refusal L c) L c r).0
  unfolding next
  next_stored c l = go (refusal L c) refl l
    where
      go : (n : ℕ) → refusal L c ≡ n → lives_in (next_by n L c) r ≡ true → stored (next_by n L c) r + (moves_by n L c r).1 ≡ stored L r + (moves_by n L c r).0
      go zero e l = accepted_stored c e l
      go (suc n) e l = refl
