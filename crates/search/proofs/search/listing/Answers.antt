-- `search::search::listing` meets its contract: the refusals in the definition's order, then the place entered and
-- the walk.
use mathlib.Core.Path.{ap}
use Rattle.terms.specs.Base.{held}
use Rattle.search.specs.Turn.{Lent}
use Rattle.search.specs.Search.{listing_on}
use Rattle.search.specs.declared.answer.Listing.{Listing}
use Rattle.search.proofs.search.listing.Goals as goal

pub returns-then-not-sound_model : goal.returns-then-not-sound_model
unfolding listing_on
returns-then-not-sound_model c =
    rw (
      c.refused_listing.ensures,
      c.number.ensures,
      ← c.sound_model.ensures,
      c.if-not-sound_model.true,
    )

pub returns-then-not-bound_fits : goal.returns-then-not-bound_fits
unfolding listing_on
returns-then-not-bound_fits c =
    rw (
      c.refused_listing-then-not-bound_fits.ensures,
      c.number-then-not-bound_fits.ensures,
      ← c.sound_model.ensures,
      c.if-not-sound_model.false,
      ← c.bound_fits.ensures,
      c.if-not-bound_fits.true,
    )

pub returns-then-not-in_bounds : goal.returns-then-not-in_bounds
unfolding listing_on
returns-then-not-in_bounds c =
    rw (
      c.refused_listing-then-not-in_bounds.ensures,
      c.number-then-not-in_bounds.ensures,
      ← c.sound_model.ensures,
      c.if-not-sound_model.false,
      ← c.bound_fits.ensures,
      c.if-not-bound_fits.false,
      ← c.in_bounds.ensures,
      c.if-not-in_bounds.true,
    )

pub returns-in-Err : goal.returns-in-Err
unfolding listing_on
returns-in-Err c =
    rw (
      ← c.sound_model.ensures,
      c.if-not-sound_model.false,
      ← c.bound_fits.ensures,
      c.if-not-bound_fits.false,
      ← c.in_bounds.ensures,
      c.if-not-in_bounds.false,
      ← c.enter.ensures,
      c.in-Err.is,
      c.refused_listing-in-Err.ensures,
      c.number-in-Err.ensures,
    )

pub returns-in-Ok : goal.returns-in-Ok
unfolding listing_on
returns-in-Ok c =
    rw (
      ← c.sound_model.ensures,
      c.if-not-sound_model.false,
      ← c.bound_fits.ensures,
      c.if-not-bound_fits.false,
      ← c.in_bounds.ensures,
      c.if-not-in_bounds.false,
      ← c.enter.ensures,
      c.in-Ok.is,
      ← c.outline_of.ensures,
    )
    (ap (λ (r : Lent Listing). held r.out r.room) c.walk.ensures)
