-- One step of a sound configuration: refusals 1 to 7, the work on the table (8 to 10), then event and configuration.
-- "A refused step gives its number, no event, and the configuration, term table included, as it came."
use Rattle.std.specs.Prelude.{ℕ, List, Result, Ok, Err, eqb}
use Rattle.terms.specs.Base.{pick, Held, held}
use Rattle.state.specs.Early.{sight_of, early_of}
use Rattle.state.specs.Refusal.{number_of}
use Rattle.state.specs.declared.refusal.Refusal.{Refusal}
use Rattle.state.specs.declared.control.Control.{Control}
use Rattle.rules.specs.Work.{work_on}
use Rattle.rules.specs.Happened.{happened_on}
use Rattle.rules.specs.Made.{Layout, control_after}
use Rattle.rules.specs.Worked.{Worked}
use Rattle.rules.specs.Worked as W
use Rattle.rules.specs.Reply.{Reply, Refused, Permitted, Stepped}
use Rattle.rules.specs.declared.event.Happening.{Happening}

abbrev pub stepped : Reply → Control → Stepped
stepped r s = record { reply = r; control = s }

abbrev pub refused_step : ℕ → Control → Stepped
refused_step n s = stepped (Refused n) s

-- the same as the code answers it, with the configuration that it leaves
abbrev pub stepped_in : Result Happening Refusal → Control → Stepped
stepped_in (Ok h) s = stepped (Permitted h) s
stepped_in (Err r) s = refused_step (number_of r) s

abbrev pub go_by : Worked → Control → Layout → ℕ → Stepped
go_by (W.Refused n) s g code = refused_step n s
go_by (W.Done l) s g code = stepped (Permitted (happened_on s.frame g.actions g.lengths code l)) (control_after s g code l)

abbrev pub go_worked : Held Worked → Control → Layout → ℕ → Held Stepped
go_worked w s g code = held (go_by w.out s g code) w.table

-- a step that refusals 1 to 7 let through
unfoldable pub go_on : List ℕ → Control → Layout → ℕ → Held Stepped
go_on l s g code = go_worked (work_on l s g.actions code) s g code

abbrev pub step_by : ℕ → List ℕ → Control → Layout → ℕ → Held Stepped
step_by n l s g code = pick (eqb n 0) (go_on l s g code) (held (refused_step n s) l)

-- k is the number of machines listed
unfoldable pub step_on : List ℕ → Control → Layout → ℕ → ℕ → Held Stepped
step_on l s g k code = step_by (early_of (sight_of s.frame g.actions g.locations k) code) l s g code
