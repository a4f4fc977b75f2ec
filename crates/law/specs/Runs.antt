-- A run: one code after the other, from a state by the rules, and from table and control on labels. "A refused step leaves
-- the run going", from where it stood.
use Rattle.std.specs.Prelude.{ℕ, ◌≡◌, Bool, true, List, [], ◌∷◌}
use Rattle.terms.specs.Base.{Held}
use Rattle.model.specs.declared.records.Model.{Model}
use Rattle.state.specs.declared.control.Control.{Control}
use Rattle.rules.specs.Step.{step_on}
use Rattle.rules.specs.Reply.{Stepped}
use Rattle.audit.specs.Configuration.{sound_control}
use Rattle.audit.specs.Whole.{SoundConfig}
use Rattle.law.specs.Out.{Out, ok, refuse}
use Rattle.rules.specs.Made.{layout_of}
use Rattle.law.specs.Rules.{State, Made, step_r}

abbrev pub state_after : Out Made → State → State
state_after (ok r) d = r.state
state_after (refuse n) d = d

-- what the rules answer to each code
unfoldable pub run_rules : Bool → Model → State → List ℕ → List (Out Made)
run_rules lim m d [] = []
run_rules lim m d (k ∷ ks) = step_r lim m d k ∷ run_rules lim m (state_after (step_r lim m d k) d) ks

-- the machine's step on table l and control s
abbrev pub step_from : Model → List ℕ → Control → ℕ → Held Stepped
step_from m l s code = step_on l s (layout_of m) m.machine_count code

-- what the machine answers, each step from the table and control that the one before left
unfoldable pub run_labels : Model → List ℕ → Control → List ℕ → List (Held Stepped)
run_labels m l s [] = []
run_labels m l s (k ∷ ks) = let w = step_from m l s k in w ∷ run_labels m w.table w.out.control ks

-- what a step leaves is sound, and passes the test
abbrev pub LeavesSound : Model → Held Stepped → Type 0
LeavesSound m w = SoundConfig m w.table w.out.control

abbrev pub LeavesPassing : Model → Held Stepped → Type 0
LeavesPassing m w = sound_control m w.table w.out.control ≡ true
