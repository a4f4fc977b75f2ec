-- `state::reset::slots_booted` meets its contract: the callees' answers put into the definition.
use mathlib.Core.Path.{sym, ◌∙◌}
use Rattle.state.specs.Reset.{boot_thread}
use Rattle.state.proofs.Found.{free_some, free_none}
use Rattle.state.proofs.reset.slots_booted.Goals as goal

pub returns-in-Some : goal.returns-in-Some
returns-in-Some c =
    rw (
      ← c.slots_reset.ensures,
      ← c.boot_thread.ensures,
      ← free_some c.slots_reset.new.slots c.in-Some.i (sym c.in-Some.is ∙ c.lowest_free.ensures),
      ← c.with_slot.ensures,
    )

pub returns-in_default : goal.returns-in_default
returns-in_default c =
    rw (
      ← c.slots_reset.ensures,
      free_none c.slots_reset.new.slots (boot_thread c.args.machine c.args.m c.args.serial) (sym c.in_default.is ∙ c.lowest_free.ensures),
    )
