-- `audit::controls::slots_sound` meets its contract: `all` over the numbers of the array is the test on each place.
use Rattle.std.proofs.Common.{rules, ◌≡◌, length}
use borrow.Author.Tests.{tests}
use Rattle.terms.proofs.Chains.{all_items}
use Rattle.audit.specs.Configuration.{slots_sound, slot_sound}
use Rattle.audit.proofs.controls.slots_sound.Goals as goal

pub returns : goal.returns
unfolding slots_sound
returns c =
    let m = c.args.m.now in
    let f = c.args.f.now in
    let long : length f.slots ≡ 12 = search rules in
    all_items (λ n. slot_sound n f.serial m.lengths m.programs m.machine_count) f.slots 12 0
    c.all.ensures.ran (cc) long (λ x b q k. search (rules, tests))
