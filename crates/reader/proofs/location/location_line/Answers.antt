-- `reader::location::location_line`: a line of bad form is refused as such. The check finds the other answers.
use Rattle.reader.specs.Numbers.{bad_fields, are_fields}
use Rattle.reader.specs.LLine.{location_line, location_refusal}
use Rattle.reader.proofs.location.location_line.Goals as goal

pub returns-in_default : goal.returns-in_default
unfolding bad_fields are_fields location_line location_refusal
returns-in_default c = rw c.in_default.is
