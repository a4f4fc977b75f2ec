-- `terms::subst::fits_within` meets its contract: one step down is `fits_step`, no room is `fits_zero`. The measure
-- is the room.
use Rattle.terms.proofs.Laws.{fits_zero, fits_step}
use Rattle.terms.proofs.subst.+fits_within.Goals as goal

pub returns-then-room-eq0 : goal.returns-then-room-eq0
returns-then-room-eq0 t c = rw (fits_zero _ _ _ _ _ c.if-room-eq0.true)

pub returns-in-Keep : goal.returns-in-Keep
returns-in-Keep t c =
    rw (fits_step _ _ _ _ _ c.if-room-eq0.false, ← c.plan_at.ensures, c.in-Keep.is, ← c.depth_at.ensures)

pub returns-in-First : goal.returns-in-First
returns-in-First t c =
    rw (fits_step _ _ _ _ _ c.if-room-eq0.false, ← c.plan_at.ensures, c.in-First.is, ← c.fits_within.ensures)

pub returns-in-Second : goal.returns-in-Second
returns-in-Second t c =
    rw (
      fits_step _ _ _ _ _ c.if-room-eq0.false,
      ← c.plan_at.ensures,
      c.in-Second.is,
      ← c.fits_within-in-Second.ensures,
    )

pub returns-then-fits_within : goal.returns-then-fits_within
returns-then-fits_within t c =
    rw (
      fits_step _ _ _ _ _ c.if-room-eq0.false,
      ← c.plan_at.ensures,
      c.in-Both.is,
      ← c.fits_within-in-Both.ensures,
      c.if-fits_within.true,
      ← c.fits_within-then-fits_within.ensures,
    )

pub returns-else-fits_within : goal.returns-else-fits_within
returns-else-fits_within t c =
    rw (
      fits_step _ _ _ _ _ c.if-room-eq0.false,
      ← c.plan_at.ensures,
      c.in-Both.is,
      ← c.fits_within-in-Both.ensures,
      c.if-fits_within.false,
    )
