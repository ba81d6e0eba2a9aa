use Rattle.writing.proofs.decimal.+decimal_out.Given as goal

abbrev pub decreases-decimal_out : goal.decreases-decimal_out
decreases-decimal_out l = l.n
