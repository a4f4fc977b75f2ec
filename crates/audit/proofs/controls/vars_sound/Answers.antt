-- `audit::controls::vars_sound` meets its contract: `all` over the places of the array is the test on each of them.
use Rattle.std.proofs.Common.{rules, ◌≡◌, ◌/◌, ◌%◌, length}
use Rattle.state.specs.Slot.{slot_at}
use borrow.Author.Tests.{tests}
use Rattle.terms.proofs.Chains.{all_places}
use Rattle.audit.specs.Configuration.{vars_sound, var_sound}
use Rattle.audit.proofs.controls.vars_sound.Goals as goal

pub returns : goal.returns
unfolding vars_sound
returns c =
    let long : length c.args.s.now.vars ≡ 192 = search rules in
    all_places (λ i v. var_sound v (slot_at c.args.s.now.frame.slots (i / 16)) (i % 16) c.args.t.now c.args.s.now.count) c.args.s.now.vars 192 0
    c.all.ensures.ran (cc) (cc) long (λ x b q k. search (rules, tests))
