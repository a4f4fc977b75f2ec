-- `terms::subst::deep_or_full` meets its contract: both depths, as in the definition.
use Rattle.terms.specs.Subst.{deep_or_full}
use Rattle.terms.proofs.subst.deep_or_full.Goals as goal
use Rattle.terms.proofs.subst.deep_or_full.Goals.{else-fits_within-via-then-fits_within+else-fits_within-2, else-fits_within-via-else-fits_within}

pub returns-then-fits_within-2 : goal.returns-then-fits_within-2
unfolding deep_or_full
returns-then-fits_within-2 c =
    rw (
      ← c.fits_within.ensures,
      c.if-fits_within.true,
      ← c.fits_within-then-fits_within.ensures,
      c.if-fits_within-2.true,
    )

pub returns-else-fits_within : goal.returns-else-fits_within
unfolding deep_or_full
returns-else-fits_within c =
    elim c.else-fits_within.branch [
      | else-fits_within-via-then-fits_within+else-fits_within-2 w ↦ rw (
        ← c.fits_within.ensures,
        w.if-fits_within.true,
        ← w.fits_within-then-fits_within.ensures,
        w.if-fits_within-2.false,
      )
      | else-fits_within-via-else-fits_within w ↦ rw (← c.fits_within.ensures, w.if-fits_within.false)
    ]
