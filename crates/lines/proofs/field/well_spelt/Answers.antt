-- `lines::field::well_spelt` meets its contract: no digit, one, or more: the clauses of the definition.
use native.Mathlib.Omega.{arith}
use Rattle.lines.proofs.Laws.{spelt_none, spelt_one, spelt_more}
use Rattle.lines.proofs.field.well_spelt.Goals as goal

pub returns-in-empty : goal.returns-in-empty
returns-in-empty c = rw (spelt_none c.args.ds.now (omega arith))

pub returns-in-len1 : goal.returns-in-len1
returns-in-len1 c = rw (spelt_one c.args.ds.now (omega arith))

pub returns-in-len1-up : goal.returns-in-len1-up
returns-in-len1-up c = rw (spelt_more c.args.ds.now c.in-len1-up.len_at_least)
