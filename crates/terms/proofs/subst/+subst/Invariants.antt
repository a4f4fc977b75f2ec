use Rattle.terms.proofs.subst.+subst.Given as goal

abbrev pub decreases-subst : goal.decreases-subst
decreases-subst l = l.left
