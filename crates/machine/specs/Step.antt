-- A step for every model, table, configuration and code: "11 model or configuration unsound" first, then the step of a
-- sound configuration, which asks the others in their order.
use Rattle.std.specs.Prelude.{ℕ, Bool, List}
use Rattle.terms.specs.Base.{pick, also, Held, held}
use Rattle.model.specs.declared.records.Model.{Model}
use Rattle.state.specs.declared.control.Control.{Control}
use Rattle.rules.specs.Step.{refused_step, step_on}
use Rattle.rules.specs.Reply.{Stepped}
use Rattle.audit.specs.Models.{sound_model}
use Rattle.audit.specs.Configuration.{sound_control}
use Rattle.rules.specs.Made.{layout_of}

abbrev pub is_sound : Model → List ℕ → Control → Bool
is_sound m l s = also (sound_model m) (sound_control m l s)

-- the step of a sound configuration of a model
abbrev pub inner_step : List ℕ → Model → Control → ℕ → Held Stepped
inner_step l m s code = step_on l s (layout_of m) m.machine_count code

unfoldable pub step_checked : List ℕ → Model → Control → ℕ → Held Stepped
step_checked l m s code = pick (is_sound m l s) (inner_step l m s code) (held (refused_step 11 s) l)
