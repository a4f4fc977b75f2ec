-- `terms::table::free_entries` meets its contract: std's difference, and the bound that `graded` needs for its index.
use native.Mathlib.Omega.{arith}
use Rattle.terms.proofs.Laws.{free_is}
use Rattle.terms.proofs.table.free_entries.Goals as goal

pub returns : goal.returns
returns c = let h = c.saturating_sub.ensures in record { is = rw (h, free_is _); within = omega (arith, h) }
