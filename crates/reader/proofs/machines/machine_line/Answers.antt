-- `reader::machines::machine_line`: a line of bad form is refused as such. The check finds the other answers.
use Rattle.reader.specs.Numbers.{bad_fields, are_fields}
use Rattle.reader.specs.MLine.{machine_line, machine_refusal}
use Rattle.reader.proofs.machines.machine_line.Goals as goal

pub returns-in_default : goal.returns-in_default
unfolding bad_fields are_fields machine_line machine_refusal
returns-in_default c = rw c.in_default.is
