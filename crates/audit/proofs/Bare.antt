-- The model Bare of document 01 passes the test, so the test does not turn every model away; and it is turned away as soon
-- as one clause is broken.
use mathlib.Core.Path.{◌≡◌, refl}
use mathlib.Core.Bool.{true, false}
use Rattle.terms.specs.Base.{larger_of}
use Rattle.terms.specs.Term.{shape_of, in_limits, parts_below}
use Rattle.terms.specs.Line.{packed, term_in, depth_in, ground_in}
use Rattle.terms.specs.Grade.{above_line, above_both, grade_of}
use Rattle.terms.specs.Table.{fixed_line, fresh_table, find_in, find_line}
use Rattle.terms.specs.Sound.{fixed_first, line_sound, all_zero, sound_test}
use Rattle.model.specs.Records.{pack_action, action_in, action_number, pack_machine, machine_in, pack_location, location_in, pack_thread, thread_in, length_at, location_at}
use Rattle.model.specs.Fields.{loc_of, names_location, uses_x, uses_y, closing, loc_in_form, unused_zero, in_form, is_memory, is_register, kind_fits}
use Rattle.terms.specs.Each.{all_from}
use Rattle.audit.specs.Tops.{past_of, top_at, top_of, tops_from, tops_of}
use Rattle.audit.specs.Programs.{listed_and_fits, loc_fits, operand_fits, action_fits, last_if_closing, action_sound, actions_sound, length_fits, program_sound, each_program, equal_actions, equal_programs, new_program, programs_differ, programs_sound}
use Rattle.audit.specs.Listed.{machine_sound, machines_sound, stored_value, first_fits, location_sound, each_location, locations_sound, thread_sound, threads_sound}
use Rattle.audit.specs.Claims.{path_program, path_sound, claim_sound}
use Rattle.audit.specs.Models.{names_program, may_be_listed, terms_listed, sound_model}
use Rattle.audit.specs.Bare.{bare_with}

pub bare_sound : sound_model (bare_with 1) ≡ true
unfolding sound_model terms_listed may_be_listed names_program claim_sound path_sound path_program threads_sound thread_sound locations_sound each_location location_sound first_fits stored_value machines_sound machine_sound programs_sound programs_differ new_program equal_programs equal_actions each_program program_sound length_fits actions_sound action_number action_sound last_if_closing action_fits operand_fits loc_fits listed_and_fits tops_of tops_from top_of top_at past_of all_from kind_fits is_register is_memory in_form unused_zero loc_in_form closing uses_y uses_x names_location loc_of location_at length_at thread_in pack_thread location_in pack_location machine_in pack_machine action_in pack_action sound_test all_zero line_sound fixed_first find_line find_in fresh_table fixed_line grade_of above_both above_line larger_of ground_in depth_in term_in packed parts_below in_limits shape_of
bare_sound = refl

-- a thread that runs no listed program
pub bare_unsound : sound_model (bare_with 2) ≡ false
unfolding sound_model terms_listed may_be_listed names_program claim_sound path_sound path_program threads_sound thread_sound locations_sound each_location location_sound first_fits stored_value machines_sound machine_sound programs_sound programs_differ new_program equal_programs equal_actions each_program program_sound length_fits actions_sound action_number action_sound last_if_closing action_fits operand_fits loc_fits listed_and_fits tops_of tops_from top_of top_at past_of all_from kind_fits is_register is_memory in_form unused_zero loc_in_form closing uses_y uses_x names_location loc_of location_at length_at thread_in pack_thread location_in pack_location machine_in pack_machine action_in pack_action sound_test all_zero line_sound fixed_first find_line find_in fresh_table fixed_line grade_of above_both above_line larger_of ground_in depth_in term_in packed parts_below in_limits shape_of
bare_unsound = refl
