-- `audit::controls::locks_sound` meets its contract: `all` over the places of the array is the test on each of them.
use Rattle.std.proofs.Common.{rules, ◌≡◌, length}
use lib.Dec.{ltb}
use borrow.Author.Tests.{tests}
use Rattle.terms.proofs.Chains.{all_places}
use Rattle.audit.specs.Configuration.{locks_sound, lock_sound}
use Rattle.audit.proofs.controls.locks_sound.Goals as goal

pub returns : goal.returns
unfolding locks_sound
returns c =
    let long : length c.args.f.now.locks ≡ 32 = search rules in
    all_places (λ i n. lock_sound n c.args.f.now.serial (ltb i c.args.m.now.location_count)) c.args.f.now.locks 32 0
    c.all.ensures.ran (cc) (cc) long (λ x b q k. search (rules, tests))
