-- `state::control::fresh_slots` meets its contract: slot i by its call.
use borrow.Author.Rules.{rules}
use Rattle.state.specs.Control.{fresh_slot, fresh_slots}
use Rattle.state.proofs.Arrays.{filled}
use Rattle.state.proofs.control.fresh_slots.Goals as goal

pub returns : goal.returns
unfolding fresh_slots
returns c =
    filled (fresh_slot c.args.threads.now c.args.count) c.from_fn.result 12 0 c.from_fn.ensures.items (λ x y q k. search rules)
