-- The public step checks model and configuration before each step; along the schedules of the facts it answers what the inner step does,
-- since the models are sound and steps keep soundness.
use Prim.Native.Nat.{ℕ}
use mathlib.Core.Path.{◌≡◌, refl, ap, ◌∙◌}
use mathlib.Core.Bool.{true}
use mathlib.Core.List.{List, [], ◌∷◌}
use Rattle.terms.specs.Base.{also, Held}
use Rattle.terms.proofs.Meaning.{also_left, also_right, also_both}
use Rattle.model.specs.Fields.{loc_of, names_location, uses_x, uses_y, closing, loc_in_form, unused_zero, in_form, is_memory, is_register, kind_fits}
use Rattle.model.specs.declared.records.Model.{Model}
use Rattle.terms.specs.Term.{in_limits, parts_below}
use Rattle.terms.specs.Table.{fresh_table}
use Rattle.terms.specs.Sound.{fixed_first, line_sound, all_zero, sound_test}
use Rattle.state.specs.Control.{fresh_control}
use Rattle.state.specs.declared.control.Control.{Control}
use Rattle.rules.specs.Reply.{Stepped}
use Rattle.model.specs.Records.{action_number}
use Rattle.terms.specs.Each.{all_from}
use Rattle.audit.specs.Tops.{past_of, top_at, top_of, tops_from, tops_of}
use Rattle.audit.specs.Programs.{listed_and_fits, loc_fits, operand_fits, action_fits, last_if_closing, action_sound, actions_sound}
use Rattle.audit.specs.Programs.{length_fits, program_sound, each_program, equal_actions, equal_programs, new_program, programs_differ, programs_sound}
use Rattle.audit.specs.Listed.{machine_sound, machines_sound, stored_value, first_fits, location_sound, each_location, locations_sound, thread_sound, threads_sound}
use Rattle.audit.specs.Claims.{path_program, path_sound, claim_sound}
use Rattle.audit.specs.Models.{names_program, may_be_listed, terms_listed, sound_model}
use Rattle.audit.specs.Sound.{SoundModel}
use Rattle.audit.specs.Whole.{Arrays, SoundConfig}
use Rattle.audit.proofs.Check.{test_model, model_test}
use Rattle.audit.proofs.Whole.{control_test}
use Rattle.law.specs.Turned.{turned_by}
use Rattle.law.proofs.KeptFresh.{fresh_passes}
use Rattle.law.proofs.KeptStep.{step_sound}
use Rattle.machine.specs.Step.{step_checked, inner_step}
use Rattle.machine.proofs.Checked.{inner_agrees}
use Rattle.facts.specs.Models.{keys, full_table, extends, unlocks, hashes}
use Rattle.facts.specs.Said.{answers_after, answers_from, answers_to}
use Rattle.facts.proofs.Opened.{adding_open, records_open}
use Rattle.facts.proofs.Steps.{inner_from, inner_to}

module _ (m : Model) (M : SoundModel m) (A : Arrays m) where
  one_same : (l : List ℕ) (s : Control) → SoundConfig m l s → (k : ℕ) → step_checked l m s k ≡ inner_step l m s k
  one_same l s C k = inner_agrees l m s k (also_both (model_test A.lines M) (control_test A C))

  all_same : (ks : List ℕ) (l : List ℕ) (s : Control) → SoundConfig m l s → answers_from m ks l s ≡ inner_from m ks l s
  unfolding answers_from inner_from
  all_same [] l s C = refl
  all_same (k ∷ ks) l s C =
      let r : Held Stepped = inner_step l m s k in
      ap (λ (x : Held Stepped). answers_after x (answers_from m ks)) (one_same l s C k)
      ∙ ap (λ (ns : List ℕ). turned_by r ∷ ns) (all_same ks r.table r.out.control (step_sound M A C k))

  same_answers : (ks : List ℕ) → answers_to m ks ≡ inner_to m ks
  unfolding answers_to inner_to
  same_answers ks = all_same ks m.lines (fresh_control m) (fresh_passes M A)

-- what the test of a model opens
unfoldable table_open : Unit {0}
unfolding sound_test all_zero all_from line_sound fixed_first parts_below in_limits
table_open = tt

unfoldable forms_open : Unit {0}
unfolding kind_fits is_register is_memory in_form unused_zero loc_in_form closing uses_y uses_x names_location loc_of
forms_open = tt

unfoldable same_open : Unit {0}
unfolding programs_differ new_program equal_programs equal_actions
same_open = tt

unfoldable actions_open : Unit {0}
unfolding actions_sound action_number action_sound last_if_closing action_fits operand_fits loc_fits listed_and_fits
actions_open = tt

unfoldable programs_open : Unit {0}
unfolding same_open actions_open programs_sound each_program program_sound length_fits
programs_open = tt

unfoldable listed_open : Unit {0}
unfolding threads_sound thread_sound locations_sound each_location location_sound first_fits stored_value machines_sound machine_sound
listed_open = tt

unfoldable models_open : Unit {0}
unfolding terms_listed may_be_listed names_program claim_sound path_sound path_program tops_of tops_from top_of top_at past_of all_from
models_open = tt

-- the three models are sound, by the test itself
models_sound : also (sound_model extends) (also (sound_model unlocks) (sound_model hashes)) ≡ true
unfolding extends unlocks hashes full_table keys sound_model models_open listed_open programs_open forms_open records_open table_open adding_open
models_sound = refl

-- what the types of their arrays say
extends_arrays : Arrays extends
unfolding extends fresh_table
extends_arrays = record { lines = refl; threads = refl; locations = refl }

unlocks_arrays : Arrays unlocks
unfolding unlocks fresh_table
unlocks_arrays = record { lines = refl; threads = refl; locations = refl }

hashes_arrays : Arrays hashes
unfolding hashes full_table keys
hashes_arrays = record { lines = refl; threads = refl; locations = refl }

pub extends_same : (ks : List ℕ) → answers_to extends ks ≡ inner_to extends ks
extends_same = same_answers extends (test_model extends_arrays.lines (also_left (sound_model extends) _ models_sound)) extends_arrays

pub unlocks_same : (ks : List ℕ) → answers_to unlocks ks ≡ inner_to unlocks ks
unlocks_same =
    same_answers unlocks
    (test_model unlocks_arrays.lines (also_left (sound_model unlocks) (sound_model hashes) (also_right (sound_model extends) _ models_sound))) unlocks_arrays

pub hashes_same : (ks : List ℕ) → answers_to hashes ks ≡ inner_to hashes ks
hashes_same =
    same_answers hashes
    (test_model hashes_arrays.lines (also_right (sound_model unlocks) (sound_model hashes) (also_right (sound_model extends) _ models_sound))) hashes_arrays
