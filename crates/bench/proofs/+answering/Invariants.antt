use Rattle.bench.proofs.+answering.Given as goal

abbrev pub decreases-answering : goal.decreases-answering
decreases-answering l = l.n
