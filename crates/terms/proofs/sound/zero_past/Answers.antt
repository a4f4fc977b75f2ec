-- `terms::sound::zero_past` meets its contract: each line past the count is tested.
use Rattle.std.proofs.Common.{rules, ◌∙◌}
use lib.Dec.{eqb}
use lib.ListN.{drop}
use borrow.Author.Tests.{tests}
use Rattle.std.proofs.lemmas.Iterator.{YieldsList-from_slice}
use Rattle.std.proofs.lemmas.Iterator.Adapters.{YieldsList-from_skip}
use Rattle.std.proofs.lemmas.Iterator.Search.{all_from_yields_List}
use Rattle.terms.proofs.Laws.{zero_list}
use Rattle.terms.proofs.sound.zero_past.Goals as goal

pub returns : goal.returns
returns c =
    all_from_yields_List (λ n. eqb n 0) _ _ c.all.result c.all.ensures.ran
    (YieldsList-from_skip c.args.count (YieldsList-from_slice c.args.t.now cc) (c.skip.ensures.count ∙ c.from.ensures)) (λ x b q k. search (rules, tests))
    ∙ zero_list (drop c.args.count c.args.t.now)
