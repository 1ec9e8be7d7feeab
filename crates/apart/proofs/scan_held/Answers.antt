use mathlib.Core.Path.{◌≡◌, sym, ◌∙◌}
use native.Mathlib.Omega.{arith}
use borrow.Author.Rules.{rules}
use Rattle.regions.specs.Laws.Counts.{Shares, fits_shares}
use Rattle.pages.specs.Pages.{page_count}
use Rattle.apart.proofs.Laws.{scans_none}
use Rattle.apart.proofs.scan_held.Goals as goal

pub returns-then-held-eq0 : goal.returns-then-held-eq0
unfolding page_count
returns-then-held-eq0 c few counted =
    let none_held : c.args.held ≡ 0 = omega arith in
    let shares-fit : Shares c.args.shares.now = fits_shares c.args.shares.now (search rules) (λ i. search rules) in
    scans_none _ _ _ _ _ _ few shares-fit (sym counted ∙ none_held)
