-- `state::control::fresh_values` meets its contract: the value of each location.
use borrow.Author.Rules.{rules}
use Rattle.model.specs.Records.{location_in}
use Rattle.model.proofs.Places.{location_in_lem}
use Rattle.state.specs.Control.{first_value, first_values}
use Rattle.state.proofs.Arrays.{mapped_to}
use Rattle.state.proofs.control.fresh_values.Goals as goal

pub returns : goal.returns
unfolding first_values first_value
returns c =
    mapped_to (λ n. (location_in n).value) c.args.locations.now c.map.result 32 c.map.ensures.items (λ x y q k. search rules)
    (first_value (λ v. v) c.args.locations.now) 0 0 (λ k l. rw (← location_in_lem c.args.locations.now k l))
