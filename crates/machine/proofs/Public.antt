-- The public step, for every model, table, configuration and code: 11 where model or configuration is unsound, else what the
-- rules with limits say. And each refusal, 11 too, exactly when its reason holds and none before it.
use Prim.Native.Nat.{ℕ, ◌<◌}
use mathlib.Core.Path.{◌≡◌, refl, ◌∙◌}
use mathlib.Core.Bool.{Bool, true, false, not}
use mathlib.Core.List.{List, ◌∷◌}
use mathlib.Core.Logic.{◌↔◌}
use Rattle.terms.specs.Base.{pick, held}
use Rattle.terms.proofs.Meaning.{also_left, also_right}
use Rattle.model.specs.declared.records.Model.{Model}
use Rattle.state.specs.Reason.{reason, first_of, FirstIs}
use Rattle.state.specs.declared.control.Control.{Control}
use Rattle.state.proofs.Turned.{first_iff}
use Rattle.rules.specs.Step.{refused_step}
use Rattle.audit.specs.Models.{sound_model}
use Rattle.audit.specs.Configuration.{sound_control}
use Rattle.audit.proofs.Check.{test_model}
use Rattle.machine.specs.Step.{is_sound, inner_step, step_checked}
use Rattle.law.specs.Out.{refuse}
use Rattle.law.specs.Rules.{step_r}
use Rattle.law.specs.Meant.{Sized, meant, answer}
use Rattle.law.specs.Turned.{turned_by, step_reasons}
use Rattle.law.proofs.Law.{step_is_rules}
use Rattle.law.proofs.Turned.{turned_same, step_turned}

module _ {m : Model} {l : List ℕ} {s : Control} (size : Sized m l s) (code : ℕ) where
  -- what the public step answers means what the rules answer, or is 11
  pub checked_is_rules : answer (step_checked l m s code) ≡ pick (is_sound m l s) (step_r true m (meant l s) code) (refuse 11)
  unfolding step_checked answer
  checked_is_rules = go (is_sound m l s) refl
    where
      go : (b : Bool) → is_sound m l s ≡ b → answer (pick b (inner_step l m s code) (held (refused_step 11 s) l)) ≡ pick b (step_r true m (meant l s) code) (refuse 11)
      go true e = step_is_rules (test_model size.lines (also_left (sound_model m) (sound_control m l s) e)) size (also_right (sound_model m) (sound_control m l s) e) code
      go false e = refl

  -- the number that the public step answers, 0 where it permits the step
  checked_turned : turned_by (step_checked l m s code) ≡ first_of (reason (not (is_sound m l s)) 11 ∷ step_reasons m (meant l s) code)
  unfolding step_checked
  checked_turned = go (is_sound m l s) refl
    where
      go : (b : Bool) → is_sound m l s ≡ b
          → turned_by (pick b (inner_step l m s code) (held (refused_step 11 s) l)) ≡ pick (not b) 11 (first_of (step_reasons m (meant l s) code))
      go true e =
          turned_same (test_model size.lines (also_left (sound_model m) (sound_control m l s) e)) size (also_right (sound_model m) (sound_control m l s) e) code
          ∙ step_turned m (meant l s) code
      go false e = refl

  -- "Order: 11; 1 to 7; the operands (8, then 9); 10; the result (8, then 9). Each is given exactly when its reason holds and none before it."
  pub checked_turned_iff : (n : ℕ) → 0 < n → (turned_by (step_checked l m s code) ≡ n) ↔ FirstIs n (reason (not (is_sound m l s)) 11 ∷ step_reasons m (meant l s) code)
  checked_turned_iff n h = rw checked_turned (first_iff (reason (not (is_sound m l s)) 11 ∷ step_reasons m (meant l s) code) n h)
