-- `reader::claim::path_names23` meets its contract: one of the four places is named past the programs.
use Rattle.std.proofs.Common.{rules}
use mathlib.Core.Path.{◌∙◌}
use borrow.Author.Tests.{tests}
use lib.Dec.{leb}
use Rattle.std.proofs.lemmas.Iterator.{YieldsList-from_slice}
use Rattle.std.proofs.lemmas.Iterator.Search.{any_from_yields_List}
use Rattle.reader.specs.CLine.{path_names23}
use Rattle.reader.proofs.Laws.{any_four}
use Rattle.reader.proofs.claim.path_names23.Goals as goal

pub returns : goal.returns
unfolding path_names23
returns c =
    any_from_yields_List (leb c.args.programs) _ _ c.any.result c.any.ensures.ran (YieldsList-from_slice _ c.iter.ensures.rest) (λ x b q k. search (rules, tests))
    ∙ any_four (leb c.args.programs) c.args.f.now.values (search rules)
