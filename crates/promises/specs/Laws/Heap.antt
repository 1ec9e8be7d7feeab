-- No call changes the heap's length, and none writes a heap word that the rules don't name.
-- Assumes nothing.
use Rattle.std.specs.Prelude.{◌≡◌, refl, ◌⊎◌, Bool, true, false, List, [], ◌∷◌, ℕ, zero, suc, ◌+◌, ◌*◌, ◌≤◌, ◌<◌, leb, length, get_or, replicate}
use Rattle.std.proofs.Common.{ap, ◌∙◌, inl, inr, arith, leb-true, leb-false}
use Rattle.std.proofs.lemmas.List.{length-replicate}
use Rattle.std.proofs.lemmas.List.Edits.{sets}
use Rattle.std.proofs.Math.Seq.{length-sets}
use Rattle.lists.specs.Laws.Sets.{get_d_sets_out}
use Rattle.model.specs.Model.{Answer, Call, declare, new_region, subregion, push, drop_frame, hand_back, allocate, first, copy, fetch, clear, load, set_pointer, put, get, view, same, about, report, totals, audit, delete, delete_all, ask}
use Rattle.kinds.specs.Kinds.{size_of}
use Rattle.regions.specs.Regions.{entry_of}
use Rattle.outcomes.specs.Store.{Store, kinds, regions, slot, size}
use Rattle.outcomes.specs.Outcome.{Outcome, Accepted, Answered, refusal, page_for, start_on, allocated, fill_slot, write_word, recounted, pointed, pop_frame, deleted}
use Rattle.promises.specs.Promises.{SameLength, Named, OnlyNamed}

-- what an accepted call writes: the values vs from place p on, each of them a word that the call names
wrote : (c : Call) (S : Store) (a : Answer) (T : Store) → refusal S c ≡ 0 → Accepted c S a T
    → (p : ℕ) × (vs : List ℕ) × (T.heap ≡ sets S.heap p vs) × ((q : ℕ) → p ≤ q → q < p + length vs → Named c S q)
unfolding Accepted allocated size fill_slot write_word recounted pointed pop_frame deleted
wrote (declare ms) S a T e h = (0, [], ap (λ U. U.heap) h.1, λ p l m. absurd (omega arith))
wrote new_region S a T e h = (0, [], ap (λ U. U.heap) h.1, λ p l m. absurd (omega arith))
wrote (subregion r) S a T e h = (0, [], ap (λ U. U.heap) h.1, λ p l m. absurd (omega arith))
wrote (push n) S a T e h = (0, [], ap (λ U. U.heap) h.1, λ p l m. absurd (omega arith))
wrote (drop_frame f) S a T e h = (0, [], ap (λ U. U.heap) h.1, λ p l m. absurd (omega arith))
wrote (hand_back s b f) S a T e h = (0, [], ap (λ U. U.heap) h.1, λ p l m. absurd (omega arith))
wrote (allocate s r k) S a T e h =
    let i = entry_of (regions S) r in
    let j = page_for S i (size S k) in
    let n = length-replicate {A = ℕ} (size_of (kinds S) k) 0 in
    (64 * j + start_on S i k j, k ∷ replicate (size_of (kinds S) k) 0, ap (λ U. U.heap) h.1, λ p l m. (l, omega (arith, n)))
wrote (first s r) S a T e h = (0, [], ap (λ U. U.heap) h.1, λ p l m. absurd (omega arith))
wrote (copy s t) S a T e h = (0, [], ap (λ U. U.heap) h.1, λ p l m. absurd (omega arith))
wrote (fetch b s) S a T e h = (0, [], ap (λ U. U.heap) h.1, λ p l m. absurd (omega arith))
wrote (clear s) S a T e h = (0, [], ap (λ U. U.heap) h.1, λ p l m. absurd (omega arith))
wrote (load s w t) S a T e h = (0, [], ap (λ U. U.heap) h.1, λ p l m. absurd (omega arith))
wrote (set_pointer s w v f) S a T e h = (slot S s + w, slot S v ∷ [], ap (λ U. U.heap) h.1, λ p l m. omega arith)
wrote (put s w x) S a T e h = (slot S s + w, x ∷ [], ap (λ U. U.heap) h.1, λ p l m. omega arith)
wrote (get s w) S a T e h = (0, [], ap (λ U. U.heap) h.1, λ p l m. absurd (omega arith))
wrote (view s) S a T e h = (0, [], ap (λ U. U.heap) h.1, λ p l m. absurd (omega arith))
wrote (same s t) S a T e h = (0, [], ap (λ U. U.heap) h.1, λ p l m. absurd (omega arith))
wrote (about s) S a T e h = (0, [], ap (λ U. U.heap) h.1, λ p l m. absurd (omega arith))
wrote (report r) S a T e h = (0, [], ap (λ U. U.heap) h.1, λ p l m. absurd (omega arith))
wrote totals S a T e h = (0, [], ap (λ U. U.heap) h.1, λ p l m. absurd (omega arith))
wrote audit S a T e h = (0, [], ap (λ U. U.heap) h.1, λ p l m. absurd (omega arith))
wrote (delete r f) S a T e h = (0, [], ap (λ U. U.heap) h.1, λ p l m. absurd (omega arith))
wrote (delete_all rs f) S a T e h = (0, [], ap (λ U. U.heap) h.1, λ p l m. absurd (omega arith))
wrote (ask q) S a T e h = (0, [], ap (λ U. U.heap) h.1, λ p l m. absurd (omega arith))

-- the heap after any call
heap_after : (c : Call) (S : Store) (a : Answer) (T : Store) → Outcome c S a T
    → (p : ℕ) × (vs : List ℕ) × (T.heap ≡ sets S.heap p vs) × ((q : ℕ) → p ≤ q → q < p + length vs → Named c S q)
unfolding Outcome
heap_after c S a T h = go (refusal S c) refl h
  where
    go : (n : ℕ) → refusal S c ≡ n → Answered n c S a T → (p : ℕ) × (vs : List ℕ) × (T.heap ≡ sets S.heap p vs) × ((q : ℕ) → p ≤ q → q < p + length vs → Named c S q)
    go zero e k = wrote c S a T e k
    go (suc n) e k = (0, [], ap (λ U. U.heap) k.1, λ q l m. absurd (omega arith))

pub same_length : SameLength
unfolding SameLength
same_length c S a T h = let w = heap_after c S a T h in ap length w.2 ∙ length-sets S.heap w.0 w.1

pub only_named : OnlyNamed
unfolding OnlyNamed
only_named c S a T h q = go (leb w.0 q) refl (leb (w.0 + length w.1) q) refl
  where
    w : (p : ℕ) × (vs : List ℕ) × (T.heap ≡ sets S.heap p vs) × ((q : ℕ) → p ≤ q → q < p + length vs → Named c S q)
    w = heap_after c S a T h

    out : (q < w.0) ⊎ (w.0 + length w.1 ≤ q) → (get_or T.heap q 0 ≡ get_or S.heap q 0) ⊎ Named c S q
    out l = inl (ap (λ k. get_or k q 0) w.2 ∙ get_d_sets_out w.1 S.heap w.0 q 0 l)

    go : (b : Bool) → leb w.0 q ≡ b → (d : Bool) → leb (w.0 + length w.1) q ≡ d → (get_or T.heap q 0 ≡ get_or S.heap q 0) ⊎ Named c S q
    go false e d f = out (inl (leb-false w.0 q e))
    go true e true f = out (inr (leb-true (w.0 + length w.1) q f))
    go true e false f = inr (w.3 q (leb-true w.0 q e) (leb-false (w.0 + length w.1) q f))
