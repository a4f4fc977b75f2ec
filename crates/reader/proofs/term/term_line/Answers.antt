-- `reader::term::term_line`: a line of bad form is refused as such. The check finds the other answers.
use Rattle.reader.specs.Numbers.{bad_fields, are_fields}
use Rattle.reader.specs.ELine.{term_line, term_refusal}
use Rattle.reader.proofs.term.term_line.Goals as goal

pub returns-in_default : goal.returns-in_default
unfolding bad_fields are_fields term_line term_refusal
returns-in_default c = rw c.in_default.is
