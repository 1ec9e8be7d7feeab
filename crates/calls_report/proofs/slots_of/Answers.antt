use Rattle.std.proofs.Common.{◌≡◌, ℕ, zero, suc, ◌+◌, ◌*◌, Bool, true, false, eqb, cond, List, [], ◌∷◌, count_by, get_or, take, drop, refl, sym, ap, ◌∙◌, arith, get_or-drop, ne_eqb}
use Rattle.std.proofs.lemmas.List.Recursion.{is_count_by}
use Rattle.lists.specs.Lists.{bit, count_of, up_to}
use Rattle.lists.specs.Laws.Sums.{sum_map, sum_nothing}
use Rattle.lists.specs.Laws.UpTo.{sum_below}
use Rattle.lists.specs.Laws.Kept.{sum_later}
use Rattle.frames.specs.Frames.{width_in, slot_in}
use Rattle.pages.specs.Pages.{owner_in}
use Rattle.outcomes.specs.Store.{targets_in}
use Rattle.calls_report.proofs.slots_of.Goals as goal

module _ (f : ℕ → Bool) where
  by_count : (l : List ℕ) → count_of f l ≡ count_by f l
  by_count = is_count_by (count_of f) f refl (λ x xs. one (f x) (count_of f xs))
    where
      one : (b : Bool) (n : ℕ) → bit b + n ≡ cond b (1 + n) n
      one true n = omega arith
      one false n = omega arith

  -- places past the end read 0, which does not count
  first_places : f 0 ≡ false → (l : List ℕ) (w : ℕ) → count_of f (take w l) ≡ count_of (λ k. f (get_or l k 0)) (up_to w)
  first_places z l zero = refl
  first_places z [] (suc w) = sym (sum_nothing (λ k. bit (f 0)) (λ k. rw z) (up_to (suc w)))
  first_places z (x ∷ l) (suc w) = rw (sum_later (λ k. bit (f (get_or (x ∷ l) k 0))) 0 w, first_places z l w)

pub returns : goal.returns
unfolding targets_in owner_in
returns c =
    let at = 8 * c.args.i in
    let slots = c.args.frames.now.slots.now in
    let f : ℕ → Bool = λ v. eqb (owner_in c.args.owners.now v) c.args.tag in
    let w = width_in c.args.frames.now.widths.now c.args.i in
    let null : f 0 ≡ false = ne_eqb 0 c.args.tag (λ e. omega arith) in
    c.led.ensures
    ∙ rw (c.part-frame.ensures, c.width_at-n.ensures) (sym (by_count f (take w (drop at slots))))
    ∙ first_places f null (drop at slots) w
    ∙ sum_below (λ k. bit (f (get_or (drop at slots) k 0))) (λ k. bit (f (slot_in slots c.args.i k))) w (λ k h. ap (λ v. bit (f v)) (get_or-drop at slots k 0))
    ∙ sym (sum_map (λ t. bit (eqb t c.args.tag)) (λ k. owner_in c.args.owners.now (slot_in slots c.args.i k)) (up_to w))
