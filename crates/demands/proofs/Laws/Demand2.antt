-- Demand 2: what make leaves stands for the fresh model, audited memory for the one that it lists, and any run follows it.
-- Assumes nothing.
use Rattle.std.specs.Prelude.{◌≡◌, refl, true, List, [], ◌∷◌, ℕ, ◌/◌, length}
use Rattle.model.specs.Model.{Answer, gives}
use Rattle.model.specs.Calls.{makes, fresh}
use Rattle.model.proofs.Laws.Next.{fresh_valid}
use Rattle.model.proofs.Laws.Paged.{fresh_paged}
use Rattle.outcomes.specs.Store.{Store}
use Rattle.outcomes.specs.Outcome.{MakeOutcome}
use Rattle.promises.specs.Promises.{AuditExact}
use Rattle.promises.specs.Laws.Refused.{audit_exact}
use Rattle.audited.specs.Rebuild.{rebuilt}
use Rattle.refinement.specs.Laws.Fresh.{make_pages, make_answers, make_represents, make_sized}
use Rattle.audited.specs.Laws.Good.{Good, audited_good}
use Rattle.demands.specs.Demands.{Demand2, AuditedAnswers}
use Rattle.demands.proofs.Laws.Steps.{run_follows}

-- what an accepted make leaves
pub made_good : (heap : List ℕ) (a : Answer) (S : Store) → makes (length heap) ≡ true → MakeOutcome heap a S → Good (length heap / 64) (fresh (length heap / 64)) S
made_good heap a S ok o = record {
  places = [];
  on_page = λ j. [];
  few = (make_pages (length heap) ok).1;
  valid = fresh_valid (length heap / 64);
  paged = fresh_paged (length heap / 64);
  sized = make_sized heap a S ok o;
  represents = make_represents heap a S ok o;
}

pub demand2 : Demand2
unfolding Demand2
demand2 heap a S ok o es T r = (make_answers heap a S ok o, (run_follows (made_good heap a S ok o) r).0)

pub audited_answers : AuditedAnswers
unfolding AuditedAnswers AuditExact
audited_answers S sh o =
    let g = audited_good S sh ((audit_exact S (gives (1 ∷ [])) S o).1.0 refl) in
    (rebuilt S, g.valid, λ es T r. (run_follows g r).0)
