-- `lines::field::read_field` meets its contract: the callees' answers put into the definition; a limit of 32 bits
-- does not see the cap.
use Prim.Native.Nat.{◌<◌}
use mathlib.Core.Path.{◌≡◌}
use native.Mathlib.Omega.{arith}
use borrow.Author.Tests.{lt-ltb, le-ltb}
use borrow.Author.Rules.{rules}
use Rattle.lines.specs.Field.{number_of, field_of}
use Rattle.lines.proofs.Laws.{fits_some, fits_none}
use Rattle.lines.proofs.field.read_field.Goals as goal

pub returns-then-not-well_spelt : goal.returns-then-not-well_spelt
unfolding field_of
returns-then-not-well_spelt c =
    rw (
      ← c.digits-n.ensures,
      ← c.front_of-ds.ensures,
      ← c.well_spelt.ensures,
      c.if-not-well_spelt.true,
    )

pub returns-in_err-number : goal.returns-in_err-number
unfolding field_of
returns-in_err-number c =
    let n = number_of c.front_of-ds.result.now in
    let h : 4294967295 < n = fits_none c.try_from.result n (rw c.value.ensures at c.try_from.ensures) c.in_err-number.ensures.value in
    let m : c.args.most < 4294967296 = search rules in
    rw (
      c.from_residual.ensures,
      ← c.digits-n.ensures,
      ← c.front_of-ds.ensures,
      ← c.well_spelt.ensures,
      c.if-not-well_spelt.false,
      lt-ltb c.args.most n (omega arith),
    )

pub returns-then-most-number : goal.returns-then-most-number
unfolding field_of
returns-then-most-number c =
    let n = number_of c.front_of-ds.result.now in
    let q : c.in_ok-number.number ≡ n = fits_some c.try_from.result n _ (rw c.value.ensures at c.try_from.ensures) c.in_ok-number.ensures.value in
    rw (
      ← c.digits-n.ensures,
      ← c.front_of-ds.ensures,
      ← c.well_spelt.ensures,
      c.if-not-well_spelt.false,
      ← q,
      lt-ltb _ _ c.if-most-number.true,
    )

pub returns : goal.returns
unfolding field_of
returns c =
    let n = number_of c.front_of-ds.result.now in
    let q : c.in_ok-number.number ≡ n = fits_some c.try_from.result n _ (rw c.value.ensures at c.try_from.ensures) c.in_ok-number.ensures.value in
    rw (
      ← c.digits-n.ensures,
      ← c.front_of-ds.ensures,
      ← c.well_spelt.ensures,
      c.if-not-well_spelt.false,
      ← q,
      le-ltb _ _ c.if-most-number.false,
      ← c.behind.ensures,
    )
