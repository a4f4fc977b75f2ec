-- `audit::controls::values_sound` meets its contract: `all` over the places of the array is the test on each of them.
use Rattle.std.proofs.Common.{rules, ◌≡◌, length}
use lib.Dec.{ltb}
use borrow.Author.Tests.{tests}
use Rattle.terms.proofs.Chains.{all_places}
use Rattle.audit.specs.Configuration.{values_sound, value_sound}
use Rattle.audit.proofs.controls.values_sound.Goals as goal

pub returns : goal.returns
unfolding values_sound
returns c =
    let long : length c.args.s.now.values ≡ 32 = search rules in
    all_places (λ i v. value_sound v c.args.t.now c.args.s.now.count (ltb i c.args.m.now.location_count)) c.args.s.now.values 32 0
    c.all.ensures.ran (cc) (cc) long (λ x b q k. search (rules, tests))
