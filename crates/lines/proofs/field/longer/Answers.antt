-- `lines::field::longer` meets its contract: the cap is the least of the number and the first one over.
use Prim.Native.Nat.{◌+◌, ◌*◌, ◌-◌}
use native.Mathlib.Omega.{arith}
use Rattle.lines.proofs.Laws.{capped_min}
use Rattle.lines.proofs.field.longer.Goals as goal

pub returns : goal.returns
returns c =
    let d = c.args.b - 48 in
    rw (capped_min (c.args.n * 10 + (c.args.b - 48)), c.min.ensures, c.saturating_add.ensures, c.saturating_mul.ensures, c.from-digit.ensures, c.saturating_sub.ensures) (omega arith)
