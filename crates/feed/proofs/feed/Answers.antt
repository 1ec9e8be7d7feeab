use Prim.Native.Nat.{◌+◌, ◌-◌, ◌≤◌}
use mathlib.Core.Path.{◌≡◌, refl, sym, subst, ◌∙◌}
use native.Mathlib.Omega.{arith}
use lib.ListN.{length, get_or}
use borrow.Author.Tests.{leb-true}
use Rattle.script.specs.Laws.Lines.{few_heard}
use Rattle.feed.specs.Laws.Cuts.{scripted_none}
use Rattle.feed.specs.Laws.Steps.{piece_within}
use Rattle.feed.proofs.Laws.{used_fits, begun_more, turned}
use Rattle.feed.proofs.feed.Goals as goal

pub loop-at-init : goal.loop-at-init
loop-at-init c = (refl, refl, refl, refl, omega arith, omega arith, (λ _. refl), (λ _ _. scripted_none _))

pub slice_bounds-keep-end : goal.slice_bounds-keep-end
slice_bounds-keep-end c =
    let within : c.line_end-end.result ≤ length c.args.chunk.now = piece_within _ c.loop-at.at _ c.line_end-end.ensures c.loop-at.invariant.4 in
    omega (arith, c.line_end-end.ensures)

-- a line is whole: its call is made, and answered
pub loop-at-preserved-then-end-chunk : goal.loop-at-preserved-then-end-chunk
loop-at-preserved-then-end-chunk c =
    let l = c.loop-at in
    -- there is room for any answer
    let room : l.answers.used + 1024 ≤ length l.answers.bytes.now = leb-true _ _ (sym c.room.ensures ∙ c.if-not-room.false) in
    -- a line of `pages` asks for 257 at most
    let few : c.heard-l.result.call ≡ 1 → get_or c.heard-l.result.args 0 0 ≤ 257 = subst (λ x. x.call ≡ 1 → get_or x.args 0 0 ≤ 257) (sym c.heard-l.ensures) (λ e. (few_heard _ _ _ e).1) in
    let answer = c.add_answer.ensures in
    let used = used_fits _ _ _ _ _ _ _ _ answer.added room in (
      c.memory-1.given ∙ l.invariant.0,
      c.line-1.given ∙ l.invariant.1,
      answer.as_long ∙ l.invariant.2,
      answer.same_reference ∙ l.invariant.3,
      omega (arith, c.if-end-chunk.true),
      omega (arith, used, answer.as_long),
      (λ e. absurd (omega (arith, e))),
      (λ m n.
          let r = l.invariant.1 ∙ n in
          let kept = c.keep-held.ensures r in
          let k : c.min-k.result - 0 ≡ c.keep-held.result = omega (arith, c.min-k.ensures, kept.0, r, c.line-1.given) in
          turned _ _ l.line _ l.answers.bytes.now _ l.memory _ l.at _ l.answers.used _ l.held c.keep-held.result l.words _ l.c _ l.state _ c.heard-l.result _
          c.line_end-end.ensures
          c.if-end-chunk.true
          r
          (l.invariant.7 m n)
          kept.1
          (rw k at c.heard-l.ensures)
          (c.acted-d.ensures (l.invariant.0 ∙ m) few)
          answer.added
          room
          c.tallied-c.ensures
          c.words_after-words.ensures),
    )

-- a line has begun, or gone on
pub loop-at-preserved : goal.loop-at-preserved
loop-at-preserved c =
    let l = c.loop-at in (
      l.invariant.0,
      c.line-1.given ∙ l.invariant.1,
      l.invariant.2,
      l.invariant.3,
      piece_within _ l.at _ c.line_end-end.ensures l.invariant.4,
      l.invariant.5,
      (λ e. absurd (omega (arith, e, c.if-end-chunk.false, c.loop-at-test.true))),
      (λ m n. let r = l.invariant.1 ∙ n in begun_more _ _ l.line c.keep-held.new.line _ l.at _ l.held c.keep-held.result l.c _ c.line_end-end.ensures r (l.invariant.7 m n) (c.keep-held.ensures r).1),
    )
