-- Every row of sessions, of the table and further, holds of the store.
-- Assumes nothing.
use Rattle.std.specs.Prelude.{◌≡◌, refl, true, false, List, [], ◌∷◌, ℕ, ◌/◌, length, drop}
use Rattle.std.proofs.Common.{sym, ap, ap₂, ◌∙◌, arith}
use Rattle.lists.specs.Laws.Tests.{by_test}
use Rattle.lists.specs.Laws.All.{all_map}
use Rattle.model.specs.Model.{Answer, Call, gives, refused_by}
use Rattle.model.specs.Calls.{makes, fresh, run}
use Rattle.model.specs.Sessions.{Row, lines, line, session, printed, table}
use Rattle.model.specs.Further.{further}
use Rattle.model.proofs.Laws.Sessions.{Right, table_prints, further_prints}
use Rattle.outcomes.specs.Store.{Store}
use Rattle.outcomes.specs.Outcome.{MakeOutcome}
use Rattle.outcomes.specs.Runs.{Event, calls, answers, Run}
use Rattle.demands.specs.Demands.{Demand2, RowHolds, TableHolds, FurtherHolds}
use Rattle.demands.proofs.Laws.Demand2.{demand2}

session_made : (w : ℕ) (cs : List Call) → makes w ≡ true → session w cs ≡ lines 1 (gives [] ∷ run (fresh (w / 64)) cs)
unfolding session
session_made w cs e = ap (λ b. elim b [ true ↦ line 1 0 0 0 0 0 ∷ lines 2 (run (fresh (w / 64)) cs) | false ↦ line 1 1 0 0 0 0 ∷ [] ]) e

session_refused : (w : ℕ) (cs : List Call) → makes w ≡ false → session w cs ≡ lines 1 (refused_by 1 ∷ [])
unfolding session
session_refused w cs e = ap (λ b. elim b [ true ↦ line 1 0 0 0 0 0 ∷ lines 2 (run (fresh (w / 64)) cs) | false ↦ line 1 1 0 0 0 0 ∷ [] ]) e

-- the lines of make and a run are the model's session: no call follows a refused make
run_prints : (heap : List ℕ) (a : Answer) (S : Store) → MakeOutcome heap a S → (es : List Event) (T : Store) → Run S es T → (makes (length heap) ≡ false → answers es ≡ [])
    → lines 1 (a ∷ answers es) ≡ session (length heap) (calls es)
unfolding Demand2 MakeOutcome
run_prints heap a S o es T r none = by_test (makes (length heap))
    (λ e. let q = demand2 heap a S e o es T r in ap₂ (λ x l. lines 1 (x ∷ l)) q.0 q.1 ∙ sym (session_made (length heap) (calls es) e))
    (λ e. ap₂ (λ x l. lines 1 (x ∷ l)) (rw e at o).0 (none e) ∙ sym (session_refused (length heap) (calls es) e))

no_answers : (es : List Event) → length (calls es) ≡ 0 → answers es ≡ []
no_answers [] e = refl
no_answers (x ∷ es) e = absurd (omega (arith, e))

row_holds : (row : Row) → Right row → RowHolds row
unfolding RowHolds printed
row_holds row (prints, stops) heap a S e o es T r c =
    ap (drop row.skip) (run_prints heap a S o es T r (λ m. no_answers es (ap length c ∙ stops (sym (ap makes e) ∙ m))) ∙ ap₂ session e c) ∙ prints

pub table_holds : TableHolds
unfolding TableHolds
table_holds = all_map row_holds table table_prints

pub further_holds : FurtherHolds
unfolding FurtherHolds
further_holds = all_map row_holds further further_prints
