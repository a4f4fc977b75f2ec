-- The configuration after a step whose work is done, for any type of labels: `none`, `sinit`, `dinit` stand for labels 0,
-- 1, 2; x and r for the labels of ground x and of the result, p for the program of a jump.
use Rattle.std.specs.Prelude.{ℕ, List, eqb}
use Rattle.terms.specs.Base.{pick}
use Rattle.model.specs.Records.{machine_at}
use Rattle.model.specs.declared.records.Action.{Action}
use Rattle.model.specs.declared.records.Model.{Model}
use Rattle.state.specs.Slot.{slot_at}
use Rattle.state.specs.Code.{way_of}
use Rattle.state.specs.Early.{next_action}
use Rattle.state.specs.Moves.{moved_on, jumped_to, frame_moved}
use Rattle.state.specs.Launch.{frame_launched}
use Rattle.state.specs.Reset.{frame_reset}
use Rattle.state.specs.Hand.{frame_handed}
use Rattle.state.specs.declared.slot.Slot.{Slot}
use Rattle.state.specs.declared.code.Way.{Way}
use Rattle.state.specs.declared.code.Way.TheVariants as W
use Rattle.state.specs.declared.control.Frame.{Frame}
use Rattle.state.specs.declared.control.Control.{Control}
use Rattle.rules.specs.Effect.{stored, cleared, bound_by, bound}
use Rattle.rules.specs.Restart.{values_launched, values_reset, vars_reset}
use Rattle.rules.specs.declared.work.Labels.{Labels}

-- what the steps read of a model
pub record Layout : Type 0 where
  pub actions : List ℕ
  pub lengths : List ℕ
  pub machines : List ℕ
  pub locations : List ℕ

abbrev pub layout : List ℕ → List ℕ → List ℕ → List ℕ → Layout
layout actions lengths machines locations = record { actions = actions; lengths = lengths; machines = machines; locations = locations }

abbrev pub layout_of : Model → Layout
layout_of m = layout m.actions m.lengths m.machines m.locations

-- the frame, in which no label stands, and the two lists of labels
pub record Config (A : Type 0) : Type 0 where
  pub frame : Frame
  pub values : List A
  pub vars : List A

-- "jump ..; the thread goes on at that program's start, no variables bound"
unfoldable pub jumped_on : {A : Type 0} → A → Config A → ℕ → Slot → Action → ℕ → Config A
jumped_on none c i q a p = record {
  frame = frame_moved c.frame i (jumped_to q p) a q.serial;
  values = c.values;
  vars = cleared none c.vars i;
}

-- any action but a jump or a late launch
unfoldable pub acted_on : {A : Type 0} → A → List ℕ → Config A → ℕ → Slot → Action → A → A → Config A
acted_on none lengths c i q a x r = record {
  frame = frame_moved c.frame i (moved_on lengths q) a q.serial;
  values = stored c.values a x r;
  vars = bound none lengths c.vars i q (bound_by none a.op r);
}

-- "late_launch ends the thread; in its slot a new thread"
unfoldable pub launched_on : {A : Type 0} → A → A → List ℕ → List ℕ → Config A → ℕ → Slot → Config A
launched_on none dinit machines locations c i q = record {
  frame = frame_launched c.frame machines locations i q;
  values = values_launched dinit c.values locations q.machine;
  vars = cleared none c.vars i;
}

-- "reset ends every thread .. on m"
unfoldable pub reset_on : {A : Type 0} → A → A → List ℕ → List ℕ → Config A → ℕ → Config A
reset_on none sinit machines locations c m = record {
  frame = frame_reset c.frame (machine_at machines m) locations m;
  values = values_reset none sinit c.values locations m;
  vars = vars_reset none c.vars c.frame.slots m;
}

-- the sender binds label 0, the receiver the value
abbrev pub handed_by : {A : Type 0} → A → List ℕ → Config A → ℕ → Slot → ℕ → Slot → A → Config A
handed_by none lengths c i q j r x = record {
  frame = frame_handed c.frame lengths i q j r;
  values = c.values;
  vars = bound none lengths (bound none lengths c.vars i q none) j r x;
}

-- "hands the value sent by slot s to slot r, both moving"
unfoldable pub handed_on : {A : Type 0} → A → List ℕ → Config A → ℕ → ℕ → A → Config A
handed_on none lengths c i j x = handed_by none lengths c i (slot_at c.frame.slots i) j (slot_at c.frame.slots j) x

-- jump is 19, late_launch 20
abbrev pub advanced_by : {A : Type 0} → A → A → Layout → Config A → ℕ → Slot → Action → A → A → ℕ → Config A
advanced_by none dinit g c i q a x r p =
    pick (eqb a.op 19) (jumped_on none c i q a p)
    (pick (eqb a.op 20) (launched_on none dinit g.machines g.locations c i q)
    (acted_on none g.lengths c i q a x r))

abbrev pub advanced_from : {A : Type 0} → A → A → Layout → Config A → ℕ → Slot → A → A → ℕ → Config A
advanced_from none dinit g c i q x r p = advanced_by none dinit g c i q (next_action g.actions q) x r p

-- "Codes 0 to 11 advance that slot"
unfoldable pub advanced_on : {A : Type 0} → A → A → Layout → Config A → ℕ → A → A → ℕ → Config A
advanced_on none dinit g c i x r p = advanced_from none dinit g c i (slot_at c.frame.slots i) x r p

abbrev pub made_by : {A : Type 0} → Way → A → A → A → Layout → Config A → A → A → ℕ → Config A
made_by W.Nothing none sinit dinit g c x r p = c
made_by (W.Advance i) none sinit dinit g c x r p = advanced_on none dinit g c i x r p
made_by (W.Hand i j) none sinit dinit g c x r p = handed_on none g.lengths c i j x
made_by (W.Reset m) none sinit dinit g c x r p = reset_on none sinit g.machines g.locations c m

unfoldable pub made_on : {A : Type 0} → A → A → A → Layout → Config A → ℕ → A → A → ℕ → Config A
made_on none sinit dinit g c code x r p = made_by (way_of code) none sinit dinit g c x r p

-- the declared configuration: the same on labels, beside the number of terms in its table
abbrev pub config_of : Control → Config ℕ
config_of s = record { frame = s.frame; values = s.values; vars = s.vars }

abbrev pub control : Config ℕ → ℕ → Control
control c n = record { frame = c.frame; values = c.values; vars = c.vars; count = n }

unfoldable pub control_after : Control → Layout → ℕ → Labels → Control
control_after s g code l = control (made_on 0 1 2 g (config_of s) code l.x l.result l.program) l.count
