-- `state::seek::next_sender` meets its contract: what `find` gives of the slots from this one on.
use borrow.Author.Rules.{rules}
use Rattle.state.proofs.Found.{sender_found}
use Rattle.state.proofs.seek.next_sender.Goals as goal

pub returns : goal.returns
returns c =
    rw c.unwrap_or.ensures (sender_found c.args.slots.now c.args.actions.now c.args.from _ _ _ c.find.ensures.ran (λ x b q k. search rules))
