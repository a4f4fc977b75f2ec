-- `reader::claim::claim_line`: a line of bad form is refused as such. The check finds the other answers.
use Rattle.reader.specs.Numbers.{bad_fields, are_fields}
use Rattle.reader.specs.CLine.{claim_line, claim_refusal, claim_form20}
use Rattle.reader.proofs.claim.claim_line.Goals as goal

pub returns-in_default : goal.returns-in_default
unfolding bad_fields are_fields claim_line claim_refusal claim_form20
returns-in_default c = rw c.in_default.is
