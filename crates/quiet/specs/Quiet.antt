-- When nothing can come of any code tried in a configuration but a refusal that is not for size, or a step that breaks nothing. These are
-- tests that the search makes to pass all codes of a configuration at once; that they suffice is proved (`plain_ahead`), so none
-- of this need be believed.
use Rattle.std.specs.Prelude.{ℕ, zero, suc, ◌+◌, ◌*◌, ◌-◌, Bool, true, false, not, List, get_or, eqb, ltb, leb}
use Rattle.terms.specs.Base.{pick, also, larger_of}
use Rattle.terms.specs.Line.{depth_at}
use Rattle.terms.specs.Table.{used_of}
use Rattle.terms.specs.Subst.{fits_within}
use Rattle.model.specs.declared.records.Action.{Action}
use Rattle.model.specs.declared.records.Model.{Model}
use Rattle.state.specs.Slot.{slot_in, slot_at}
use Rattle.state.specs.Control.{value_at}
use Rattle.state.specs.Early.{next_action}
use Rattle.state.specs.Moves.{is_last}
use Rattle.machine.specs.Judge.{any_from}
use Rattle.quiet.specs.declared.quiet.Outline.{Outline}

-- a live thread that stands before the last action of program v
unfoldable pub stands_in : List ℕ → ℕ → ℕ → Bool
stands_in lengths v n =
    pick (not (slot_in n).live) false
    (pick (not (eqb (slot_in n).program v)) false
    (is_last lengths (slot_in n)))

unfoldable pub nobody_stands : List ℕ → List ℕ → ℕ → Bool
nobody_stands slots lengths v = not (any_from 12 0 (λ i. stands_in lengths v (get_or slots i 0)))

-- the deepest of n terms from label i on, or d
unfoldable pub deepest_in : ℕ → List ℕ → ℕ → ℕ → ℕ
deepest_in zero l i d = d
deepest_in (suc n) l i d = deepest_in n l (i + 1) (larger_of d (depth_at l i))

-- the deepest of the terms from a label up to a count, or d
unfoldable pub deepest : List ℕ → ℕ → ℕ → ℕ → ℕ
deepest l d from count = deepest_in (used_of count - from) l from d

-- operands of depth 15 at most, so that a result is within 16; an extend takes the value of its location too
unfoldable pub action_fits : List ℕ → List ℕ → List ℕ → ℕ → Action → Bool
action_fits l values vars o a =
    pick (not (fits_within 15 l vars o a.x)) false
    (pick (not (fits_within 15 l vars o a.y)) false
    (pick (not (eqb a.op 2)) true
    (leb (depth_at l (value_at 0 values a.loc)) 15)))

-- the next action of a live thread in slot i does not fit
unfoldable pub fails_at : List ℕ → List ℕ → List ℕ → List ℕ → List ℕ → ℕ → Bool
fails_at l slots values vars actions i =
    also (slot_at slots i).live (not (action_fits l values vars (i * 16) (next_action actions (slot_at slots i))))

unfoldable pub all_fit : List ℕ → List ℕ → List ℕ → List ℕ → List ℕ → Bool
all_fit l slots values vars actions = not (any_from 12 0 (λ i. fails_at l slots values vars actions i))

-- the deepest term put for every variable of the operands still leaves a result within 16
unfoldable pub action_near : List ℕ → ℕ → Action → Bool
action_near l deep a =
    pick (ltb 16 (depth_at l a.x + deep)) false
    (leb (depth_at l a.y + deep) 16)

-- the next action of a live thread in slot i may come to be too deep
unfoldable pub far_at : List ℕ → List ℕ → List ℕ → ℕ → ℕ → Bool
far_at l slots actions deep i =
    also (slot_at slots i).live (not (action_near l deep (next_action actions (slot_at slots i))))

unfoldable pub all_near : List ℕ → List ℕ → List ℕ → ℕ → Bool
all_near l slots actions deep = not (any_from 12 0 (λ i. far_at l slots actions deep i))

-- nobody stands before the last action of the claim's program, and there is room for as many terms more as are listed, and a result
unfoldable pub calm : List ℕ → List ℕ → ℕ → Outline → Bool
calm slots lengths count g = pick (ltb 511 (count + g.count)) false (nobody_stands slots lengths g.program)

-- the deepest term put for every variable of the deepest listed one
unfoldable pub shallow : ℕ → Outline → Bool
shallow deep g = leb (deep + g.deep) 16

-- the outline of a model
unfoldable pub outline_of : Model → Outline
outline_of m = record { program = m.claim.program; count = m.count; deep = deepest m.lines 0 0 m.count }
