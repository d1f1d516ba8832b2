use Rattle.text.proofs.rules.+decimal_size.Given as goal

abbrev pub decreases-decimal_size : goal.decreases-decimal_size
decreases-decimal_size l = l.x
