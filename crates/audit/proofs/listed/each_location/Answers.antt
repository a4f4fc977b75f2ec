-- `audit::listed::each_location` meets its contract: `all` over the places of the array is the test on each of them.
use Rattle.std.proofs.Common.{rules, ◌≡◌, length}
use lib.Dec.{ltb}
use borrow.Author.Tests.{tests}
use Rattle.terms.proofs.Chains.{all_places}
use Rattle.audit.specs.Listed.{each_location, location_sound}
use Rattle.audit.proofs.listed.each_location.Goals as goal

pub returns : goal.returns
unfolding each_location
returns c =
    let long : length c.args.m.now.locations ≡ 32 = search rules in
    all_places (λ i n. location_sound n (ltb i c.args.m.now.location_count) c.args.m.now.machine_count c.args.m.now.lines c.args.m.now.count) c.args.m.now.locations 32 0
    c.all.ensures.ran (cc) (cc) long (λ x b q k. search (rules, tests))
