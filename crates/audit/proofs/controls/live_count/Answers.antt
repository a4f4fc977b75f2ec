-- `audit::controls::live_count` meets its contract: a count of what the filter keeps.
use Rattle.std.proofs.Common.{rules, ◌∙◌}
use Rattle.std.proofs.lemmas.Iterator.{YieldsList-from_slice}
use Rattle.std.proofs.lemmas.Iterator.Consumers.{YieldsList-from_filter, count_from_yields_List}
use borrow.Author.Tests.{tests}
use Rattle.state.specs.Reset.{is_on}
use Rattle.audit.proofs.Laws.{live_filtered}
use Rattle.audit.proofs.controls.live_count.Goals as goal

pub returns : goal.returns
returns c =
    count_from_yields_List c.filter.result c.count.result c.count.ensures.ran
    (YieldsList-from_filter _ (λ n. is_on n c.args.k) (YieldsList-from_slice c.args.slots.now cc) c.filter.ensures.closure (λ x r q k. search (rules, tests)))
    ∙ live_filtered c.args.k c.args.slots.now
