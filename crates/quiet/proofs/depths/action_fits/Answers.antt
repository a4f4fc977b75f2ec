-- `quiet::depths::action_fits` meets its contract: the tests of the definition, in its order.
use Rattle.std.proofs.Common.{sym, ◌∙◌, arith}
use borrow.Author.Tests.{eq-eqb, ne_eqb}
use Rattle.quiet.specs.Quiet.{action_fits}
use Rattle.quiet.proofs.depths.action_fits.Goals as goal
use Rattle.quiet.proofs.depths.action_fits.Goals.{then-fits_within, else-fits_within}

pub returns-then-a-ne2 : goal.returns-then-a-ne2
unfolding action_fits
returns-then-a-ne2 c =
    elim c.if-fits_within.branch [
      | then-fits_within w ↦
          rw (
            ← c.fits_within.ensures,
            w.if-fits_within.true,
            ← w.fits_within-then-fits_within.ensures,
            sym w.value-is ∙ c.if-fits_within-2.true,
            ne_eqb _ _ c.if-a-ne2.true,
          )
      | else-fits_within w ↦ grind arith
    ]

pub returns-else-a-ne2 : goal.returns-else-a-ne2
unfolding action_fits
returns-else-a-ne2 c =
    elim c.if-fits_within.branch [
      | then-fits_within w ↦
          rw (
            ← c.fits_within.ensures,
            w.if-fits_within.true,
            ← w.fits_within-then-fits_within.ensures,
            sym w.value-is ∙ c.if-fits_within-2.true,
            eq-eqb _ _ c.if-a-ne2.false,
            ← c.value_at.ensures,
            ← c.depth_at.ensures,
          )
      | else-fits_within w ↦ grind arith
    ]

pub returns-else-fits_within-2 : goal.returns-else-fits_within-2
unfolding action_fits
returns-else-fits_within-2 c =
    elim c.if-fits_within.branch [
      | then-fits_within w ↦
          rw (
            c.if-fits_within-2.false,
            ← c.fits_within.ensures,
            w.if-fits_within.true,
            ← w.fits_within-then-fits_within.ensures,
            sym w.value-is ∙ c.if-fits_within-2.false,
          )
      | else-fits_within w ↦ rw (c.if-fits_within-2.false, ← c.fits_within.ensures, w.if-fits_within.false)
    ]
