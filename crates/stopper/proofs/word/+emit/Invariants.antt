use Rattle.stopper.proofs.word.+emit.Given as goal

abbrev pub decreases-emit : goal.decreases-emit
decreases-emit l = l.i
