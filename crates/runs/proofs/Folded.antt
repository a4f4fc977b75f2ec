-- M7, whole: for every model, configuration, codes and lent tables the run, which checks soundness once, is the checked step
-- folded over the codes. It may check once since every permitted step keeps soundness (M3, crate `law`).
use Prim.Native.Nat.{ℕ}
use mathlib.Core.Path.{◌≡◌}
use mathlib.Core.Bool.{true}
use mathlib.Core.List.{List, []}
use Rattle.terms.proofs.Meaning.{also_left, also_right, also_both}
use Rattle.model.specs.declared.records.Model.{Model}
use Rattle.state.specs.declared.control.Control.{Control}
use Rattle.rules.specs.Event.{room_in}
use Rattle.audit.specs.Models.{sound_model}
use Rattle.audit.specs.Configuration.{sound_control}
use Rattle.audit.specs.Sound.{SoundModel}
use Rattle.audit.specs.Whole.{Arrays, Lengths, SoundConfig}
use Rattle.audit.proofs.Check.{test_model, model_test}
use Rattle.audit.proofs.Whole.{test_control, control_test}
use Rattle.law.proofs.KeptStep.{step_sound}
use Rattle.law.specs.Machines.{conf}
use Rattle.machine.specs.Step.{is_sound, step_checked}
use Rattle.runs.specs.Run.{tried_of, run_on}
use Rattle.runs.specs.Fold.{fold_steps, Folds}
use Rattle.runs.proofs.Whole.{run_checked}

-- model and configuration are sound
record Both (m : Model) (l : List ℕ) (s : Control) : Type 0 where
  model : SoundModel m
  config : SoundConfig m l s

module _ (m : Model) (A : Arrays m) where
  both_test : (l : List ℕ) (s : Control) → Both m l s → is_sound m l s ≡ true
  both_test l s b = also_both (model_test A.lines b.model) (control_test A b.config)

  pub run_is_steps : (l : List ℕ) (s : Control) → Lengths l s → (codes ans rs : List ℕ)
      → Folds rs ans 0 (run_on l m s codes ans rs) (fold_steps (λ t c code. step_checked t m c code) (room_in rs) (conf l s []) (tried_of codes ans))
  run_is_steps l s L codes ans rs =
      run_checked m l s codes ans rs A.lines L.lines (Both m) both_test
      (λ t c code b h e. record { model = b.model; config = step_sound b.model A b.config code })
      (λ e.
      let M : SoundModel m = test_model A.lines (also_left (sound_model m) (sound_control m l s) e) in
      record { model = M; config = test_control M A L (also_right (sound_model m) (sound_control m l s) e) })
