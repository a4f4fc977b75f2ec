-- `reader::load` meets its contract: refused by the first reading, refused by the second, or a model.
use Rattle.std.proofs.Common.{rules}
use Rattle.reader.specs.FirstReading.{first_reading}
use Rattle.reader.specs.Load.{load_of}
use Rattle.reader.proofs.Laws.{refused}
use Rattle.reader.proofs.load.Goals as goal

pub returns-in_err-first_reading : goal.returns-in_err-first_reading
unfolding load_of first_reading
returns-in_err-first_reading c = rw (← c.fresh-r.ensures.terms, ← c.fresh-r.ensures.actions, ← c.fresh-r.ensures.draft, ← c.first_reading.ensures, c.in_err-first_reading.was, refused) (search rules)

pub returns-in_err-second_reading : goal.returns-in_err-second_reading
unfolding load_of first_reading
returns-in_err-second_reading c = rw (← c.fresh-r.ensures.terms, ← c.fresh-r.ensures.actions, ← c.fresh-r.ensures.draft, ← c.first_reading.ensures, c.in_ok-first_reading.was, ← c.second_reading.ensures, c.in_err-second_reading.was, refused) (search rules)

pub returns : goal.returns
unfolding load_of first_reading
returns c = rw (← c.fresh-r.ensures.terms, ← c.fresh-r.ensures.actions, ← c.fresh-r.ensures.draft, ← c.first_reading.ensures, c.in_ok-first_reading.was, ← c.second_reading.ensures, c.in_ok-second_reading.was, ← c.model_of.ensures)
