-- `audit::listed::machines_sound` meets its contract: `all` over the places of the array is the test on each of them.
use Rattle.std.proofs.Common.{rules, ◌≡◌, length}
use lib.Dec.{ltb}
use borrow.Author.Tests.{tests}
use Rattle.terms.proofs.Chains.{all_places}
use Rattle.audit.specs.Listed.{machines_sound, machine_sound}
use Rattle.audit.proofs.listed.machines_sound.Goals as goal

pub returns-then-contains : goal.returns-then-contains
unfolding machines_sound
returns-then-contains c =
    let m = c.args.m.now in
    let long : length m.machines ≡ 4 = search rules in
    let each : c.all.result ≡ _ = all_places (λ i n. machine_sound n (ltb i m.machine_count) m.programs) m.machines 4 0
    c.all.ensures.ran (cc) (cc) long (λ x b q k. search (rules, tests)) in
    search (rules, tests)
