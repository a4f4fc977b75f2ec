-- Worked examples, by computation: files near the listing Bare of document 01 are refused with the number and the line that
-- the document gives.
use Prim.Native.Nat.{ℕ}
use mathlib.Core.Path.{◌≡◌, refl}
use mathlib.Core.List.{List, [], ◌∷◌, ◌++◌}
use Rattle.lines.specs.Base.{Refusal, refusal}
use Rattle.lines.specs.Line.{lines_of, cut_line, span, no_lf}
use Rattle.lines.specs.Field as F
use Rattle.terms.specs.Base.{larger_of}
use Rattle.terms.specs.Term.{shape_of, in_limits, parts_below, after_parts}
use Rattle.terms.specs.Line.{packed, term_in, depth_in, ground_in}
use Rattle.terms.specs.Grade.{grade_of, above_line, above_both}
use Rattle.terms.specs.Table.{fixed_line, fresh_table, add_to, find_in, find_line, find_term, free_of}
use Rattle.model.specs.Records.{pack_action, action_in, pack_machine, machine_in, pack_location, location_in, pack_thread, thread_in, action_number, action_at, length_at, location_at}
use Rattle.model.specs.Fields.{loc_of, names_location, uses_x, uses_y, closing, loc_in_form, unused_zero, in_form, is_memory, is_register, kind_fits}
use Rattle.model.specs.First.{first_from}
use Rattle.terms.specs.Each.{all_from}
use Rattle.audit.specs.Models.{names_program}
use Rattle.audit.specs.Tops.{past_of, top_at, top_of}
use Rattle.audit.specs.Programs.{equal_actions, equal_programs, new_program}
use Rattle.reader.specs.Numbers.{no_fields, bad_fields, fields_with, fields_in, fields_of, are_fields, up_to255}
use Rattle.reader.specs.Drafts.{no_claim, fresh_draft, follows_group, with_edition, with_term, with_action, with_machine, with_location, with_thread, with_claim}
use Rattle.reader.specs.VLine.{known_edition, version_order21, version_refusal, version_line}
use Rattle.reader.specs.ELine.{term_of, term_order21, term_limits22, term_names23, term_twice24, term_kind25, term_refusal, term_counted, term_entry, term_line}
use Rattle.reader.specs.ALine.{action_of, action_order21, action_limits22, location_past, label_bad, action_names23, action_refusal, action_counted, action_entry, action_line}
use Rattle.reader.specs.MLine.{machine_order21, machine_limits22, machine_names23, machine_refusal, machine_of, machine_entry, machine_line}
use Rattle.reader.specs.LLine.{location_order21, location_limits22, location_names23, location_kind25, location_refusal, location_of, location_entry, location_line}
use Rattle.reader.specs.TLine.{thread_names23, thread_refusal, thread_of, thread_entry, thread_line}
use Rattle.reader.specs.CLine.{claim_form20, path_names23, claim_names23, claim_refusal, claim_of, claim_line}
use Rattle.reader.specs.FirstReading.{one_line, next_line, whole_read, read_from, first_reading}
use Rattle.reader.specs.SecondReading.{first_bad_code, line_of_label, program_twice24, action_second, within_from, program_reading, programs_from, programs_reading, second_reading}
use Rattle.reader.specs.Load.{no_model, model_of, refused_with, load_of}

-- V 1
abbrev v_line : List ℕ
v_line = 86 ∷ 9 ∷ 49 ∷ 10 ∷ []

-- E 3 8 1 0
abbrev e_line : List ℕ
e_line = 69 ∷ 9 ∷ 51 ∷ 9 ∷ 56 ∷ 9 ∷ 49 ∷ 9 ∷ 48 ∷ 10 ∷ []

-- A 0 19 0 3 0
abbrev jump_line : List ℕ
jump_line = 65 ∷ 9 ∷ 48 ∷ 9 ∷ 49 ∷ 57 ∷ 9 ∷ 48 ∷ 9 ∷ 51 ∷ 9 ∷ 48 ∷ 10 ∷ []

-- A 1 17 0 0 0
abbrev match_line : List ℕ
match_line = 65 ∷ 9 ∷ 49 ∷ 9 ∷ 49 ∷ 55 ∷ 9 ∷ 48 ∷ 9 ∷ 48 ∷ 9 ∷ 48 ∷ 10 ∷ []

-- M 0 0 0 0
abbrev m_line : List ℕ
m_line = 77 ∷ 9 ∷ 48 ∷ 9 ∷ 48 ∷ 9 ∷ 48 ∷ 9 ∷ 48 ∷ 10 ∷ []

-- T 1 0 1
abbrev t_line : List ℕ
t_line = 84 ∷ 9 ∷ 49 ∷ 9 ∷ 48 ∷ 9 ∷ 49 ∷ 10 ∷ []

-- C 0 1 0 0
abbrev c_line : List ℕ
c_line = 67 ∷ 9 ∷ 48 ∷ 9 ∷ 49 ∷ 9 ∷ 48 ∷ 9 ∷ 48 ∷ 10 ∷ []

-- V 2
abbrev other_edition : List ℕ
other_edition = 86 ∷ 9 ∷ 50 ∷ 10 ∷ []

-- V 01
abbrev needless : List ℕ
needless = 86 ∷ 9 ∷ 48 ∷ 49 ∷ 10 ∷ []

-- E 3 1 0 0: sinit again, of a kind that cannot be listed
abbrev sinit_again : List ℕ
sinit_again = 69 ∷ 9 ∷ 51 ∷ 9 ∷ 49 ∷ 9 ∷ 48 ∷ 9 ∷ 48 ∷ 10 ∷ []

-- E 3 7 0 5: a nonce, its unused field not 0
abbrev nonce_with_b : List ℕ
nonce_with_b = 69 ∷ 9 ∷ 51 ∷ 9 ∷ 55 ∷ 9 ∷ 48 ∷ 9 ∷ 53 ∷ 10 ∷ []

-- E 3 8 2 0: the code of a program that no line lists
abbrev far_code : List ℕ
far_code = 69 ∷ 9 ∷ 51 ∷ 9 ∷ 56 ∷ 9 ∷ 50 ∷ 9 ∷ 48 ∷ 10 ∷ []

-- A 1 0 0 0 0: location 0, which no line lists
abbrev no_loc : List ℕ
no_loc = 65 ∷ 9 ∷ 49 ∷ 9 ∷ 48 ∷ 9 ∷ 48 ∷ 9 ∷ 48 ∷ 9 ∷ 48 ∷ 10 ∷ []

abbrev bare_end : List ℕ
bare_end = m_line ++ (t_line ++ c_line)

-- the number and the line of a refusal
verdict : List ℕ → Refusal
verdict f = refusal (load_of f).number (load_of f).line

verdicts : List Refusal
verdicts =
    verdict []
    ∷ verdict other_edition
    ∷ verdict needless
    ∷ verdict (v_line ++ sinit_again)
    ∷ verdict (v_line ++ nonce_with_b)
    ∷ verdict (v_line ++ jump_line)
    ∷ verdict (v_line ++ (e_line ++ (jump_line ++ (match_line ++ (m_line ++ t_line)))))
    ∷ verdict (v_line ++ (far_code ++ (jump_line ++ (match_line ++ bare_end))))
    ∷ verdict (v_line ++ (e_line ++ (jump_line ++ (no_loc ++ bare_end))))
    ∷ []

-- no line, so no C, one past the last; another edition (21); a needless zero (20); a term twice before its kind (24); an unused
-- field before its kind (22); a label that is not listed (23); no C after the sixth line (21); in the second reading code of no
-- program and no location (23)
near_misses : verdicts
    ≡ refusal 21 1 ∷ refusal 21 1 ∷ refusal 20 1 ∷ refusal 24 2 ∷ refusal 22 2 ∷ refusal 23 2 ∷ refusal 21 7 ∷ refusal 23 2 ∷ refusal 23 4 ∷ []
unfolding verdicts verdict load_of refused_with model_of no_model second_reading programs_reading programs_from program_reading within_from action_second program_twice24 line_of_label first_bad_code first_from first_reading read_from whole_read next_line one_line version_line version_refusal version_order21 known_edition term_line term_entry term_counted term_refusal term_kind25 term_twice24 term_names23 names_program term_limits22 term_order21 term_of top_of past_of top_at action_line action_entry action_counted action_refusal action_names23 label_bad location_past action_limits22 action_order21 action_of machine_line machine_entry machine_of machine_refusal machine_names23 machine_limits22 machine_order21 location_line location_entry location_of location_refusal location_kind25 location_names23 location_limits22 location_order21 thread_line thread_entry thread_of thread_refusal thread_names23 claim_line claim_of claim_refusal claim_names23 path_names23 claim_form20 with_edition with_term with_action with_machine with_location with_thread with_claim follows_group fresh_draft no_claim fields_of fields_in fields_with bad_fields no_fields are_fields up_to255 new_program equal_programs equal_actions action_number all_from kind_fits is_register is_memory in_form unused_zero loc_in_form closing uses_y uses_x names_location loc_of location_at length_at action_at thread_in pack_thread location_in pack_location machine_in pack_machine action_in pack_action fresh_table fixed_line add_to after_parts find_term find_line find_in free_of grade_of above_both above_line larger_of ground_in depth_in term_in packed parts_below in_limits shape_of lines_of cut_line span no_lf F.field_of F.number_of F.number_from F.well_spelt F.is_digit
near_misses = refl
