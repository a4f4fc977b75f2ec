-- The listing of the model Bare in document 01, as bytes: it loads, as that very model. So the reader does not turn every
-- file away. With the code of a program that is not listed it is refused.
use mathlib.Core.Path.{◌≡◌, refl}
use Rattle.terms.specs.Base.{larger_of}
use Rattle.terms.specs.Term.{shape_of, in_limits, parts_below, after_parts}
use Rattle.terms.specs.Line.{packed, term_in, depth_in, ground_in}
use Rattle.terms.specs.Grade.{above_line, above_both, grade_of}
use Rattle.terms.specs.Table.{fixed_line, fresh_table, free_of, find_in, find_line, find_term, add_to}
use Rattle.model.specs.Records.{pack_action, action_in, pack_machine, pack_location, pack_thread, length_at, action_number, action_at, location_at, location_in}
use Rattle.model.specs.Fields.{loc_of, names_location, uses_x, uses_y, closing, loc_in_form, unused_zero, in_form, is_memory, is_register, kind_fits}
use Rattle.model.specs.First.{first_from}
use Rattle.lines.specs.Line.{span, no_lf, cut_line, lines_of}
use Rattle.lines.specs.Field.{is_digit, well_spelt, number_from, number_of, field_of}
use Rattle.terms.specs.Each.{all_from}
use Rattle.audit.specs.Models.{names_program}
use Rattle.audit.specs.Tops.{past_of, top_at, top_of}
use Rattle.audit.specs.Programs.{equal_actions, equal_programs, new_program}
use Rattle.audit.specs.Bare.{bare_with}
use Rattle.reader.specs.Numbers.{no_fields, bad_fields, fields_with, fields_in, fields_of, are_fields, up_to255}
use Rattle.reader.specs.Drafts.{no_claim, fresh_draft, follows_group, with_edition, with_term, with_action, with_machine, with_location, with_thread, with_claim}
use Rattle.reader.specs.VLine.{known_edition, version_order21, version_refusal, version_line}
use Rattle.reader.specs.ELine.{term_of, term_order21, term_limits22, term_names23, term_twice24, term_kind25, term_refusal, term_counted, term_entry, term_line}
use Rattle.reader.specs.ALine.{action_of, action_order21, action_limits22, location_past, label_bad, action_names23, action_refusal, action_counted, action_entry, action_line}
use Rattle.reader.specs.MLine.{machine_order21, machine_limits22, machine_names23, machine_refusal, machine_of, machine_entry, machine_line}
use Rattle.reader.specs.LLine.{location_order21, location_limits22, location_names23, location_kind25, location_refusal, location_of, location_entry, location_line}
use Rattle.reader.specs.TLine.{thread_names23, thread_refusal, thread_of, thread_entry, thread_line}
use Rattle.reader.specs.CLine.{claim_form20, path_names23, claim_names23, claim_refusal, claim_of, claim_line}
use Rattle.reader.specs.FirstReading.{one_line, next_line, whole_read, read_from, first_reading}
use Rattle.reader.specs.SecondReading.{first_bad_code, line_of_label, program_twice24, action_second, within_from, program_reading, programs_from, programs_reading, second_reading}
use Rattle.reader.specs.Load.{no_model, model_of, refused_with, load_of, loaded}
use Rattle.reader.specs.BareFile.{bare_file}

pub bare_loads : load_of (bare_file 49) ≡ loaded 0 0 (bare_with 1)
unfolding no_fields bad_fields fields_with fields_in fields_of are_fields up_to255 no_claim fresh_draft follows_group with_edition with_term with_action with_machine with_location with_thread with_claim known_edition version_order21 version_refusal version_line top_at past_of top_of term_of term_order21 term_limits22 names_program term_names23 term_twice24 term_kind25 term_refusal term_counted term_entry term_line action_of action_order21 action_limits22 location_past label_bad action_names23 action_refusal action_counted action_entry action_line machine_order21 machine_limits22 machine_names23 machine_refusal machine_of machine_entry machine_line location_order21 location_limits22 location_names23 location_kind25 location_refusal location_of location_entry location_line thread_names23 thread_refusal thread_of thread_entry thread_line claim_form20 path_names23 claim_names23 claim_refusal claim_of claim_line one_line next_line whole_read read_from first_reading first_from first_bad_code line_of_label program_twice24 action_second within_from program_reading programs_from programs_reading second_reading no_model model_of refused_with load_of shape_of in_limits parts_below packed term_in depth_in ground_in larger_of above_line above_both grade_of fixed_line fresh_table free_of find_in find_line find_term add_to after_parts pack_action action_in pack_machine pack_location pack_thread length_at action_at action_number location_at location_in names_location loc_of uses_x uses_y closing loc_in_form unused_zero in_form is_memory is_register kind_fits span no_lf cut_line lines_of is_digit well_spelt number_from number_of field_of all_from equal_actions equal_programs new_program
bare_loads = refl

-- "code programs .. (23)", at line 2
pub bare_refused : load_of (bare_file 50) ≡ refused_with 23 2
unfolding no_fields bad_fields fields_with fields_in fields_of are_fields up_to255 no_claim fresh_draft follows_group with_edition with_term with_action with_machine with_location with_thread with_claim known_edition version_order21 version_refusal version_line top_at past_of top_of term_of term_order21 term_limits22 names_program term_names23 term_twice24 term_kind25 term_refusal term_counted term_entry term_line action_of action_order21 action_limits22 location_past label_bad action_names23 action_refusal action_counted action_entry action_line machine_order21 machine_limits22 machine_names23 machine_refusal machine_of machine_entry machine_line location_order21 location_limits22 location_names23 location_kind25 location_refusal location_of location_entry location_line thread_names23 thread_refusal thread_of thread_entry thread_line claim_form20 path_names23 claim_names23 claim_refusal claim_of claim_line one_line next_line whole_read read_from first_reading first_from first_bad_code line_of_label program_twice24 action_second within_from program_reading programs_from programs_reading second_reading no_model model_of refused_with load_of shape_of in_limits parts_below packed term_in depth_in ground_in larger_of above_line above_both grade_of fixed_line fresh_table free_of find_in find_line find_term add_to after_parts pack_action action_in pack_machine pack_location pack_thread length_at action_at action_number location_at location_in names_location loc_of uses_x uses_y closing loc_in_form unused_zero in_form is_memory is_register kind_fits span no_lf cut_line lines_of is_digit well_spelt number_from number_of field_of all_from equal_actions equal_programs new_program
bare_refused = refl
