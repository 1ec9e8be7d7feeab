use mathlib.Core.Path.{◌≡◌, refl, sym, ◌∙◌}
use mathlib.Core.List.{List}
use Prim.Native.Nat.{ℕ}
use lib.ListN.{length}
use Rattle.refusals.specs.Laws.{number_not_0}
use Rattle.model.specs.Model.{declare}
use Rattle.model.specs.Calls.{reason}
use Rattle.kinds.specs.Kinds.{with_kind}
use Rattle.pages.specs.Pages.{wrong_length}
use Rattle.outcomes.specs.Store.{Store, kinds, pages}
use Rattle.outcomes.specs.Outcome.{refusal, checks, bad_length, Accepted}
use Rattle.outcomes.proofs.Laws.Steps.{by_refusal, by_effect}
use Rattle.calls_make.specs.Tests.{declare_tests}
use Rattle.calls_make.proofs.Laws.{declare_passed}
use Rattle.calls_make.proofs.declare_in.Goals as goal

tests : (S : Store) (ms : List ℕ) → refusal S (declare ms) ≡ reason (declare_tests (pages S).made (length S.heap) (kinds S).declared ms)
unfolding refusal checks bad_length wrong_length declare_tests
tests S ms = refl

pub returns-in-Err : goal.returns-in-Err
returns-in-Err c s = by_refusal _ _ _ _ _ (tests _ _ ∙ sym c.in-Err.ensures) (number_not_0 _) c.refuses.ensures refl

pub returns : goal.returns
unfolding Accepted with_kind
returns c s = by_effect _ _ _ _ (tests _ _ ∙ sym c.in_default.ensures) (c.gives.ensures, rw (c.put_marks.ensures, c.put.ensures, (declare_passed _ _ _ _ c.in_default.ensures).1))
