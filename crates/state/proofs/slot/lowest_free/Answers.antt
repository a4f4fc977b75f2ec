-- `state::slot::lowest_free` meets its contract: what `position` gives of the first slot that is free.
use borrow.Author.Rules.{rules}
use mathlib.Core.Path.{sym, ◌∙◌}
use Rattle.std.proofs.lemmas.Iterator.{YieldsList-from_slice}
use Rattle.std.proofs.lemmas.Iterator.Search.{position_from_yields_List}
use Rattle.state.proofs.Found.{free_at, lowest_found}
use Rattle.state.proofs.slot.lowest_free.Goals as goal

pub returns-in_err-i : goal.returns-in_err-i
returns-in_err-i c =
    c.from_residual.ensures
    ∙ sym c.in_err-i.was
    ∙ lowest_found c.args.slots.now c.position.result
    (position_from_yields_List free_at _ _ c.position.result c.position.ensures.ran (YieldsList-from_slice c.args.slots.now cc) (λ x b q k. search rules))
    c.told-slots

pub returns : goal.returns
returns c =
    sym c.in_ok-i.was
    ∙ lowest_found c.args.slots.now c.position.result
    (position_from_yields_List free_at _ _ c.position.result c.position.ensures.ran (YieldsList-from_slice c.args.slots.now cc) (λ x b q k. search rules))
    c.told-slots
