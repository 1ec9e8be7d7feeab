use Rattle.bench.proofs.+changing.Given as goal

abbrev pub decreases-changing : goal.decreases-changing
decreases-changing l = l.n
