-- What is made directly is as if made by its number.
-- Assumes nothing.
use Rattle.std.specs.Prelude.{refl, Bool, true, false, List, [], ℕ}
use Rattle.std.proofs.Common.{ap, subst, inl, inr}
use Rattle.std.proofs.Math.Path.{subst⁻¹}
use Rattle.lists.specs.Lists.{All}
use Rattle.state.specs.declared.State.{State}
use Rattle.outcomes.specs.Outcome.{Outcome, store, answer_of}
use Rattle.outcomes.specs.Shape.{Bits32, Shaped}
use Rattle.outcomes.specs.Store.{Store}
use Rattle.promises.specs.Promises.{Sent, KeepsShape}
use Rattle.promises.specs.Laws.Keeps.{keeps_shape}
use Rattle.dispatch.specs.Dispatch.{is_call, DispatchedBy, Dispatched}
use Rattle.abi.specs.Memory.{arrays_of, OfSizes, sizes, HoldsState}
use Rattle.abi.specs.Hosts.{Request, Driven, ended, asked}
use Rattle.direct.specs.Direct.{call_of, ByNumber, DirectCalled, Mixed, nothing, more, MixedDriven}

-- memory of the right sizes is a state of the language's types, and the other way round
shaped : (s : State) (heap : List ℕ) → Bits32 heap → OfSizes sizes (arrays_of s) → Shaped (store s heap)
shaped s heap k (_, (n0, (n1, (n2, (n3, (n4, _))))), (w, bw, (l, bl, (z, bz, (m, bm, (n, bn, (p, bp, (v, bv, (h, bh, (e, be, (o, bo, (r, br, (t, bt, _))))))))))))) =
    record {
      sized = record {
        in_frames = record { widths = w; slots = l };
        in_kinds = record { sizes = z; marks = m };
        in_regions = record { names = n; parents = p; levels = v; shares = h; newest = e; oldest = o };
        in_pages = record { owners = r; taken = t };
      };
      bounded = record {
        in_frames = record { standing = n0; counted = n1; widths = bw; slots = bl };
        in_kinds = record { declared = n2; sizes = bz; marks = bm };
        in_regions = record { given = n3; names = bn; parents = bp; levels = bv; shares = bh; newest = be; oldest = bo };
        in_pages = record { made = n4; owners = br; taken = bt };
        heap = k;
      };
    }

fitting : (s : State) (heap : List ℕ) → Shaped (store s heap) → OfSizes sizes (arrays_of s)
fitting s heap h =
    let z = h.sized in
    let b = h.bounded in
    let f = b.in_frames in
    let k = b.in_kinds in
    let r = b.in_regions in
    let p = b.in_pages in
    (refl, (f.standing, (f.counted, (k.declared, (r.given, (p.made, tt))))), (z.in_frames.widths, f.widths, (z.in_frames.slots, f.slots, (z.in_kinds.sizes, k.sizes, (z.in_kinds.marks, k.marks, (z.in_regions.names, r.names, (z.in_regions.parents, r.parents, (z.in_regions.levels, r.levels, (z.in_regions.shares, r.shares, (z.in_regions.newest, r.newest, (z.in_regions.oldest, r.oldest, (z.in_pages.owners, p.owners, (z.in_pages.taken, p.taken, tt)))))))))))))

held_shaped : (s : State) (memory : List (List ℕ)) (heap : List ℕ) → HoldsState s memory → Bits32 heap → Shaped (store s heap)
unfolding HoldsState
held_shaped s memory heap (e, fits) k = shaped s heap k (subst (OfSizes sizes) e fits)

pub direct_called : DirectCalled
unfolding DirectCalled HoldsState Dispatched KeepsShape
direct_called q memory memory' heap heap' reply k sent (s, before, after, r, h, whole, is_one, f, e, er) =
    let o : Outcome (call_of q) (store s heap) (answer_of r []) (store (after s) heap') = subst (λ x. Outcome (call_of q) (store x heap) (answer_of r []) (store (after x) heap')) whole (f s) in
    let kept = keeps_shape (call_of q) (store s heap) (answer_of r []) (store (after s) heap') sent (held_shaped s memory heap h k) o in
    (s, after s, r, h, (e, subst⁻¹ (OfSizes sizes) e (fitting (after s) heap' kept.0)), er, subst⁻¹ (λ x. DispatchedBy x (call_of q) (store s heap) r (store (after s) heap')) is_one ([], o))

-- the words of the heap that a request leaves fit their type again
left_fits : (q : Request) (memory memory' : List (List ℕ)) (heap heap' reply : List ℕ) → Bits32 heap → Sent (call_of q) → ByNumber q memory heap memory' heap' reply → Bits32 heap'
unfolding Dispatched KeepsShape
left_fits q memory memory' heap heap' reply k sent (s, t, r, h, _, _, o) = go (is_call q.number) o
  where
    go : (x : Bool) → DispatchedBy x (call_of q) (store s heap) r (store t heap') → Bits32 heap'
    go true (part, u) = (keeps_shape (call_of q) (store s heap) (answer_of r part) (store t heap') sent (held_shaped s memory heap h k) u).0.bounded.heap
    go false (_, same) = subst⁻¹ Bits32 (ap (λ (S : Store). S.heap) same) k

mixed : {before after : List (List ℕ)} {heap heap' : List ℕ} {qs : List Request} {replies : List (List ℕ)} → Mixed before heap qs replies after heap' → Bits32 heap → All (λ q. Sent (call_of q)) qs
    → Driven before heap qs replies after heap'
unfolding DirectCalled
mixed nothing k sent = ended
mixed {heap = heap} (more {before = m} {after = n} {heap' = left} {q = q} {reply = y} (inl o) d) k (sent, rest) = asked o (mixed d (left_fits q m n heap left y k sent o) rest)
mixed {heap = heap} (more {before = m} {after = n} {heap' = left} {q = q} {reply = y} (inr o) d) k (sent, rest) =
    let p = direct_called q m n heap left y k sent o in
    asked p (mixed d (left_fits q m n heap left y k sent p) rest)

pub mixed_driven : MixedDriven
unfolding MixedDriven
mixed_driven before after heap heap' qs replies k sent d = mixed d k sent
