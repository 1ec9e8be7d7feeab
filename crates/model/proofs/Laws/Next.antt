-- What make leaves is valid, and every call keeps a valid model valid.
-- Assumes nothing.
use Rattle.std.specs.Prelude.{◌≡◌, refl, List, [], ◌∷◌, ℕ, zero, suc}
use Rattle.std.proofs.Common.{arith}
use Rattle.model.specs.Model.{Model, Call, declare, new_region, subregion, push, drop_frame, hand_back, allocate, first, copy, fetch, clear, load, set_pointer, put, get, view, same, about, report, totals, audit, delete, delete_all, ask}
use Rattle.model.specs.Calls.{refusal, accepted, next, next_by, after, fresh}
use Rattle.model.specs.Valid.{Valid}
use Rattle.model.proofs.Laws.Slots.{push_valid, pop_valid, hand_valid, clear_valid, copy_valid, fetch_valid, load_valid, first_valid, set_valid, put_valid}
use Rattle.model.proofs.Laws.Grows.{declare_valid, new_valid, sub_valid, allocate_valid}
use Rattle.model.proofs.Laws.Deletes.{delete_valid, delete_all_valid}

pub accepted_valid : (L : Model) (c : Call) → Valid L → refusal L c ≡ 0 → Valid (accepted L c)
unfolding accepted
accepted_valid L (declare ms) v e = declare_valid L v ms e
accepted_valid L new_region v e = new_valid L v e
accepted_valid L (subregion r) v e = sub_valid L v r e
accepted_valid L (push n) v e = push_valid L v n e
accepted_valid L (drop_frame f) v e = pop_valid L v
accepted_valid L (hand_back s b f) v e = hand_valid L v s b f
accepted_valid L (allocate s r k) v e = allocate_valid L v s r k e
accepted_valid L (first s r) v e = first_valid L v s r e
accepted_valid L (copy s t) v e = copy_valid L v s t
accepted_valid L (fetch b s) v e = fetch_valid L v b s
accepted_valid L (clear s) v e = clear_valid L v s
accepted_valid L (load s w t) v e = load_valid L v s w t e
accepted_valid L (set_pointer s w p f) v e = set_valid L v s w p f e
accepted_valid L (put s w x) v e = put_valid L v s w x e
accepted_valid L (get s w) v e = v
accepted_valid L (view s) v e = v
accepted_valid L (same s t) v e = v
accepted_valid L (about s) v e = v
accepted_valid L (report r) v e = v
accepted_valid L totals v e = v
accepted_valid L audit v e = v
accepted_valid L (delete r f) v e = delete_valid L v r f e
accepted_valid L (delete_all rs f) v e = delete_all_valid L v rs f e
accepted_valid L (ask q) v e = v

pub next_valid : (L : Model) (c : Call) → Valid L → Valid (next L c)
unfolding next
next_valid L c v = go (refusal L c) refl
  where
    go : (n : ℕ) → refusal L c ≡ n → Valid (next_by n L c)
    go zero e = accepted_valid L c v e
    go (suc n) e = v

pub after_valid : (L : Model) (cs : List Call) → Valid L → Valid (after L cs)
after_valid L [] v = v
after_valid L (c ∷ cs) v = after_valid (next L c) cs (next_valid L c v)

pub fresh_valid : (n : ℕ) → Valid (fresh n)
fresh_valid n = record {
  kinds = record { many = omega arith; sized = tt; marks = tt };
  names = record { many = omega arith; distinct = (refl, tt); named = (omega arith, tt); names_given = (omega arith, tt); last_given = omega arith; permanent = refl; root = refl };
  parents = (record { parent = refl; level = refl; deep = omega arith }, tt);
  oldest = (refl, tt);
  objects = tt;
  frames = record { mark = omega arith; many = omega arith; sized = tt; slots = tt };
}
