-- `audit::controls::listed_count` meets its contract: a count of what the filter keeps, of the listed ones.
use Rattle.std.proofs.Common.{rules, ◌∙◌, take}
use Rattle.std.proofs.lemmas.Iterator.{YieldsList-from_slice, YieldsList-from_take}
use Rattle.std.proofs.lemmas.Iterator.Consumers.{YieldsList-at, YieldsList-from_filter, count_from_yields_List}
use lib.Dec.{eqb}
use borrow.Author.Tests.{tests}
use Rattle.model.specs.Records.{thread_in}
use Rattle.audit.proofs.Laws.{listed_filtered}
use Rattle.audit.proofs.controls.listed_count.Goals as goal

pub returns : goal.returns
returns c =
    let m = c.args.m.now in
    count_from_yields_List c.filter.result c.count.result c.count.ensures.ran
    (YieldsList-from_filter _ (λ n. eqb (thread_in n).machine c.args.k)
    (YieldsList-at c.filter.ensures.source (YieldsList-from_take m.thread_count (YieldsList-from_slice m.threads cc) (cc)))
    c.filter.ensures.closure (λ x r q k. search (rules, tests)))
    ∙ listed_filtered c.args.k (take m.thread_count m.threads)
