-- The step of any configuration: M1, a refused one leaves table and configuration as they came; on sound input it is the
-- inner step.
use Prim.Native.Nat.{ℕ}
use mathlib.Core.Path.{◌≡◌, refl, ◌∙◌, ap}
use mathlib.Core.Bool.{Bool, true, false}
use mathlib.Core.List.{List}
use lib.ListN.{length}
use Rattle.terms.specs.Base.{held}
use Rattle.terms.specs.Sound.{Sound}
use Rattle.terms.proofs.Meaning.{also_left, also_right}
use Rattle.terms.proofs.Check.{test_sound}
use Rattle.model.specs.declared.records.Model.{Model}
use Rattle.state.specs.declared.control.Control.{Control}
use Rattle.rules.specs.Step.{refused_step}
use Rattle.rules.specs.Reply.{Reply, Refused}
use Rattle.rules.proofs.Back.{step_back}
use Rattle.audit.specs.Models.{sound_model}
use Rattle.audit.specs.Configuration.{table_sound, sound_control}
use Rattle.rules.specs.Made.{layout_of}
use Rattle.machine.specs.Step.{is_sound, inner_step, step_checked}

-- a configuration that passes the test has a sound table
pub table_right : (m : Model) (l : List ℕ) (s : Control) → length l ≡ 512 → sound_control m l s ≡ true → Sound l s.count
unfolding sound_control table_sound
table_right m l s h e = test_sound h (also_left _ _ (also_left _ _ e))

module _ (l : List ℕ) (m : Model) (s : Control) (code : ℕ) where
  -- on sound input the checked step is the inner one
  pub inner_agrees : is_sound m l s ≡ true → step_checked l m s code ≡ inner_step l m s code
  unfolding step_checked
  inner_agrees e = rw e

  -- on any other it is refused by 11
  pub unsound_refused : is_sound m l s ≡ false → step_checked l m s code ≡ held (refused_step 11 s) l
  unfolding step_checked
  unsound_refused e = rw e

  -- "A refused step gives its number, no event, and the configuration, term table included, as it came."
  pub step_refused : length l ≡ 512 → (n : ℕ) → (step_checked l m s code).out.reply ≡ Refused n → step_checked l m s code ≡ held (refused_step n s) l
  step_refused h n e = by (is_sound m l s) refl
    where
      by : (b : Bool) → is_sound m l s ≡ b → step_checked l m s code ≡ held (refused_step n s) l
      by true t =
          let a = inner_agrees t in
          let z : Sound l s.count = table_right m l s h (also_right (sound_model m) (sound_control m l s) t) in
          a ∙ step_back l s z.room z.zeros (layout_of m) m.machine_count code n (rw a at e)
      by false t =
          let a = unsound_refused t in
          let d : ◌≡◌ {A = Reply} (Refused 11) (Refused n) = rw a at e in
          let k : 11 ≡ n = cc in
          a ∙ ap (λ (x : ℕ). held (refused_step x s) l) k
