-- `reader::second::first_bad_code` meets its contract: the first label that does not pass.
use Rattle.std.proofs.Common.{rules}
use mathlib.Core.Bool.{not}
use Rattle.terms.specs.Line.{term_at}
use Rattle.audit.specs.Models.{names_program}
use Rattle.reader.specs.SecondReading.{first_bad_code}
use Rattle.reader.proofs.Ranges.{found_first}
use Rattle.reader.proofs.second.first_bad_code.Goals as goal

pub returns : goal.returns
unfolding first_bad_code
returns c =
    found_first c.args.count (λ i. not (names_program (term_at c.args.lines.now i) c.args.programs)) _ _ _ c.find.ensures.ran (λ x b q k. search rules)
