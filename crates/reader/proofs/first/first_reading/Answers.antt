use Prim.Native.Nat.{◌-◌, ◌<◌, ◌≤◌}
use mathlib.Core.Path.{◌≡◌, ap, ◌∙◌}
use native.Mathlib.Omega.{arith}
use lib.ListN.{length, length-drop}
use Rattle.std.proofs.lemmas.Bool.Decides.{nat_tests}
use Rattle.reader.proofs.Laws.{refused, read_more, read_end}
use Rattle.reader.proofs.first.first_reading.Goals as goal

pub returns-in-Err : goal.returns-in-Err
returns-in-Err c =
    let some : 0 < length c.loop-rest.rest.now = grind (arith, nat_tests) in
    rw (c.loop-rest.invariant.0, read_more _ c.loop-rest.line _ _ _ some, ← c.next_line.ensures, c.in-Err.is, refused)

pub loop-rest-smaller : goal.loop-rest-smaller
loop-rest-smaller c =
    let some : 0 < length c.loop-rest.rest.now = grind (arith, nat_tests) in
    let k : 0 < c.width.result = c.width.ensures.some some in
    omega (arith, ap length c.rest_of-rest.ensures ∙ length-drop c.width.result c.loop-rest.rest.now)

pub loop-rest-preserved : goal.loop-rest-preserved
loop-rest-preserved c =
    let some : 0 < length c.loop-rest.rest.now = grind (arith, nat_tests) in
    let k : 0 < c.width.result = c.width.ensures.some some in
    let e : length c.rest_of-rest.result.now ≡ length c.loop-rest.rest.now - c.width.result = ap length c.rest_of-rest.ensures ∙ length-drop c.width.result c.loop-rest.rest.now in (
      rw (
        c.loop-rest.invariant.0,
        read_more _ c.loop-rest.line _ _ _ some,
        ← c.next_line.ensures,
        c.in_default.is,
        ← c.width.ensures.is,
        ← c.rest_of-rest.ensures,
      ),
      omega arith,
    )

pub returns : goal.returns
returns c =
    let none : length c.loop-rest.rest.now ≤ 0 = grind (arith, nat_tests) in
    rw (c.loop-rest.invariant.0, read_end _ c.loop-rest.line _ _ _ none, ← c.whole.ensures)
