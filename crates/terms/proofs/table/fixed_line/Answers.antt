-- `terms::table::fixed_line` meets its contract: one call of `pack`.
use Rattle.terms.specs.Table.{fixed_line}
use Rattle.terms.proofs.table.fixed_line.Goals as goal

pub returns : goal.returns
unfolding fixed_line
returns c = rw (← c.pack.ensures)
