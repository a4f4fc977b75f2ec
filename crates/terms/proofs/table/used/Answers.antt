-- `terms::table::used` meets its contract: std's minimum; the bound is what callers index with.
use native.Mathlib.Omega.{arith}
use Rattle.terms.proofs.Laws.{used_min}
use Rattle.terms.proofs.table.used.Goals as goal

pub returns : goal.returns
returns c = record { is = rw (c.min.ensures, used_min _); small = omega (arith, c.min.ensures) }
