-- The rules of a step, document 01's 'Step codes' and 'Turned down', on terms written out whole. Threads, locks and
-- counters hold no term: what a step does to them is said once, in `state` and `rules`, and used here as it stands.
use Rattle.std.specs.Prelude.{ℕ, Bool, List, replicate, eqb}
use Rattle.terms.specs.Base.{pick}
use Rattle.terms.specs.Tree.{Tree, nought, sinit, dinit, subst_t}
use Rattle.terms.specs.Meaning.{trees, tree_of}
use Rattle.model.specs.declared.records.Action.{Action}
use Rattle.model.specs.declared.records.Model.{Model}
use Rattle.state.specs.Slot.{slot_at}
use Rattle.state.specs.Code.{way_of}
use Rattle.state.specs.Control.{fresh_frame, first_values, value_at}
use Rattle.state.specs.Early.{sight_of, next_action, early_of}
use Rattle.state.specs.declared.code.Way.{Way}
use Rattle.state.specs.declared.code.Way.TheVariants as W
use Rattle.rules.specs.Effect.{place_of}
use Rattle.rules.specs.Work.{labels}
use Rattle.rules.specs.Happened.{happened_on}
use Rattle.rules.specs.Made.{Layout, layout_of, Config, made_on}
use Rattle.rules.specs.declared.event.Happening.{Happening}
use Rattle.law.specs.Out.{Out, ok, refuse, and_then}
use Rattle.law.specs.Size.{fits_both, fits_one}
use Rattle.law.specs.Act.{result, program_of}

-- the terms known, in the order in which they entered; the frame (threads, locks, counters), the values of locations, and
-- the variables, sixteen to a slot
pub record State : Type 0 where
  pub known : List Tree
  pub config : Config Tree

-- what an action comes to: the terms known then, ground x, ground y, and the result, number 0 where there is none
pub record Acted : Type 0 where
  pub known : List Tree
  pub x : Tree
  pub y : Tree
  pub result : Tree

-- a permitted step: the state after it, and its event. The labels of the event are 0 in `happening`: the terms that they
-- stand for are beside it.
pub record Made : Type 0 where
  pub state : State
  pub happening : Happening
  pub x : Tree
  pub y : Tree
  pub result : Tree

-- "Every schedule runs from the model's fresh configuration, its table the fixed and listed terms alone"
unfoldable pub fresh_state : Model → State
fresh_state m = record {
  known = trees m.lines m.count;
  config = record {
    frame = fresh_frame m;
    values = first_values (tree_of m.lines m.count) m.locations;
    vars = replicate 192 nought;
  };
}

-- an operand of the thread in slot i, its values put for variables; `label` is the model's name for the term
unfoldable pub operand : Model → State → ℕ → ℕ → Tree
operand m d i label = subst_t d.config.vars (place_of i 0) (tree_of m.lines m.count label)

abbrev pub acted : List Tree → Tree → Tree → Tree → Acted
acted ks x y r = record { known = ks; x = x; y = y; result = r }

-- "Order: .. the operands (8, then 9); 10; the result (8, then 9)": action a of the thread in slot i
unfoldable pub acts : Bool → Model → State → ℕ → Action → Out Acted
acts lim m d i a =
    let x = operand m d i a.x in
    let y = operand m d i a.y in
    and_then (fits_both lim d.known x y) (λ ks.
    and_then (result a (value_at nought d.config.values a.loc) x y d.config.frame.nonce) (λ r.
    and_then (fits_one lim ks r) (λ ls.
    ok (acted ls x y r))))

-- the next action of the thread in slot i
abbrev pub action_of : Model → State → ℕ → Action
action_of m d i = next_action m.actions (slot_at d.config.frame.slots i)

-- the step is made: the configuration after it, by its code, and its event
unfoldable pub made : Model → State → ℕ → Acted → Made
made m d code t = record {
  state = record {
    known = t.known;
    config = made_on nought sinit dinit (layout_of m) d.config code t.x t.result (program_of t.x);
  };
  happening = happened_on d.config.frame m.actions m.lengths code (labels 0 0 0 (program_of t.x) 0);
  x = t.x;
  y = t.y;
  result = t.result;
}

-- What the code moves, once 1 to 7 are asked. A hand-over acts out the sender's send: its value is x, and there is no
-- result. A reset has no terms.
abbrev pub go_by : Way → Bool → Model → State → ℕ → Out Made
go_by W.Nothing lim m d code = refuse 1
go_by (W.Advance i) lim m d code = and_then (acts lim m d i (action_of m d i)) (λ t. ok (made m d code t))
go_by (W.Hand i j) lim m d code =
    and_then (acts lim m d i (action_of m d i)) (λ t. ok (made m d code (acted t.known t.x t.y nought)))
go_by (W.Reset k) lim m d code = ok (made m d code (acted d.known nought nought nought))

-- One step. `lim`: with the limits of the table (8 and 9), or without them. A refusal has no state beside it: a refused
-- step leaves the state as it came.
unfoldable pub step_r : Bool → Model → State → ℕ → Out Made
step_r lim m d code =
    let n = early_of (sight_of d.config.frame m.actions m.locations m.machine_count) code in
    pick (eqb n 0) (go_by (way_of code) lim m d code) (refuse n)
