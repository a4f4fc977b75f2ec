use Rattle.terms.proofs.subst.+fits_within.Given as goal

abbrev pub decreases-fits_within : goal.decreases-fits_within
decreases-fits_within l = l.room
