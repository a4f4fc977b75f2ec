-- `reader::term::term_entry` meets its contract: no room for the term, or an entry.
use Rattle.std.proofs.Common.{◌≡◌, refl, rules}
use Rattle.terms.specs.Table.{outcome_of}
use Rattle.terms.specs.declared.table.Size.{Size}
use Rattle.terms.specs.declared.table.Size.TheVariants as Z
use Rattle.terms.specs.declared.term.Term.{Term}
use Rattle.reader.specs.Drafts.{lined}
use Rattle.reader.specs.ELine.{entered_by, term_entry}
use Rattle.reader.specs.declared.draft.Draft.{Draft}
use Rattle.reader.proofs.term.term_entry.Goals as goal

size_22 : (z : Size) (d : Draft) (x : Term) → entered_by (outcome_of z) d x ≡ lined 22 d
size_22 Z.Deep d x = refl
size_22 Z.Full d x = refl

pub returns-in_err-added : goal.returns-in_err-added
unfolding term_entry
returns-in_err-added c = rw (← c.add.ensures, c.in_err-added.was, size_22) (search rules)

pub returns-in-New : goal.returns-in-New
unfolding term_entry
returns-in-New c = rw (← c.add.ensures, c.in_ok-added.was, c.in-New.is, ← c.term_counted.ensures)

pub returns-in-Listed : goal.returns-in-Listed
unfolding term_entry
returns-in-Listed c = rw (← c.add.ensures, c.in_ok-added.was, c.in-Listed.is)
