-- `reader::thread::thread_line`: a line of bad form is refused as such. The check finds the other answers.
use Rattle.reader.specs.Numbers.{bad_fields, are_fields}
use Rattle.reader.specs.TLine.{thread_line, thread_refusal}
use Rattle.reader.proofs.thread.thread_line.Goals as goal

pub returns-in_default : goal.returns-in_default
unfolding bad_fields are_fields thread_line thread_refusal
returns-in_default c = rw c.in_default.is
