-- `terms::table::Table::fresh` meets its contract: three stores of three callees' answers.
use Rattle.terms.specs.Table.{fresh_table}
use Rattle.terms.proofs.table.Table.fresh.Goals as goal

pub returns : goal.returns
unfolding fresh_table
returns c =
    rw (← c.fixed_line.ensures, ← c.fixed_line-2.ensures, ← c.fixed_line-3.ensures)
