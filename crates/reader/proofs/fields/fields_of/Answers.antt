use Rattle.std.proofs.Common.{rules}
use mathlib.Core.Path.{refl, ap, ◌∙◌}
use native.Mathlib.Nat.{sub-zero}
use native.Mathlib.Omega.{arith}
use borrow.Author.Tests.{ne_eqb, eq-eqb}
use Rattle.reader.specs.Numbers.{Fields, good, no_fields, fields_of}
use Rattle.reader.proofs.Laws.{number_fits, number_fails, fields_more, fields_end, fields_with_more, fields_with_fits}
use Rattle.reader.proofs.fields.fields_of.Goals as goal

pub returns-then-byte_at-ne9 : goal.returns-then-byte_at-ne9
unfolding fields_of
returns-then-byte_at-ne9 c = rw (← c.byte_at.ensures, ne_eqb _ _ c.if-byte_at-ne9.true)

pub loop-init : goal.loop-init
unfolding fields_of no_fields
loop-init c = (rw (← c.byte_at.ensures, eq-eqb _ _ c.if-byte_at-ne9.false, ← c.rest_of-rest.ensures, sub-zero), refl)

pub returns-in_err-field : goal.returns-in_err-field
returns-in_err-field c =
    rw (c.loop.invariant.0, fields_more c.loop.counter _ _ (omega arith), ← c.read_field.ensures, c.in_err-field.was) (search rules)

pub returns-in_err-number : goal.returns-in_err-number
returns-in_err-number c =
    absurd (number_fails _ c.in_ok-field.field c.try_from.result (rw c.in_ok-field.was at c.read_field.ensures) c.try_from.ensures c.in_err-number.ensures.value)

pub returns-in_err-got : goal.returns-in_err-got
returns-in_err-got c =
    absurd (fields_with_fits (good c.loop.got) c.in_ok-number.number (omega arith) (rw c.in_err-got.was at c.with.ensures))

pub returns-in-None : goal.returns-in-None
returns-in-None c =
    let f = rw c.in_ok-field.was at c.read_field.ensures in
    let fits = number_fits _ c.in_ok-field.field c.try_from.result c.in_ok-number.number f c.try_from.ensures c.in_ok-number.ensures.value in
    let w = rw (fits, c.in_ok-got.was) at c.with.ensures in
    rw (c.loop.invariant.0, fields_more c.loop.counter _ _ (omega arith), ← c.read_field.ensures, c.in_ok-field.was, c.in-None.is, ← w)

pub loop-preserved : goal.loop-preserved
loop-preserved c =
    let f = rw c.in_ok-field.was at c.read_field.ensures in
    let fits = number_fits _ c.in_ok-field.field c.try_from.result c.in_ok-number.number f c.try_from.ensures c.in_ok-number.ensures.value in
    let w = rw (fits, c.in_ok-got.was) at c.with.ensures in
    let n = ap (λ (g : Fields). g.count) (w ∙ fields_with_more (good c.loop.got) c.in_ok-field.field.number (omega arith)) in (
      rw (
        c.loop.invariant.0,
        fields_more c.loop.counter _ _ (omega arith),
        ← c.read_field.ensures,
        c.in_ok-field.was,
        c.in-Some.is,
        ← c.rest_of-rest-in-Some.ensures,
        ← w,
      ),
      omega arith,
    )

pub returns : goal.returns
returns c = rw (c.loop.invariant.0, fields_end c.loop.counter _ _ (omega arith))
