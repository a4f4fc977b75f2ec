-- What the closed computations of this crate open, by theme: an `unfolding` line that names one of these opens all that its own line names.
use Rattle.terms.specs.Term.{shape_of, after_parts}
use Rattle.terms.specs.Line.{packed, term_in, depth_in, ground_in}
use Rattle.terms.specs.Base.{larger_of, filled}
use Rattle.terms.specs.Grade.{grade_of, above_line, above_both}
use Rattle.terms.specs.Table.{fixed_line, fresh_table, add_to, find_in, find_line, free_of}
use Rattle.terms.specs.Meaning.{build, trees_from, trees, tree_of}
use Rattle.model.specs.Records.{pack_action, action_in, action_number, pack_machine, machine_in, pack_location, location_in, pack_thread, thread_in}
use Rattle.model.specs.Records.{action_at, length_at, machine_at, location_at, thread_at}
use Rattle.model.specs.Fields.{loc_of, names_location}
use Rattle.state.specs.Slot.{pack_slot, slot_in, slot_at, lowest_in, lowest_free}
use Rattle.state.specs.Lock.{lock_in, lock_at}
use Rattle.state.specs.Code.{way_of}
use Rattle.state.specs.Control.{up_from, fresh_slot, fresh_slots, fresh_frame, first_value, first_values, value_at, one_more}
use Rattle.state.specs.Each.{each2}
use Rattle.state.specs.Early.{next_action, refusal_of, early_of}
use Rattle.state.specs.Ended.{ended_one}
use Rattle.state.specs.Moves.{with_slot, locked, is_last, moved_on, jumped_to, nonce_after, frame_moved}
use Rattle.rules.specs.Effect.{stored, place_of, with_var, cleared, bound_by, bound}
use Rattle.rules.specs.Happened.{advance_event, happened_on}
use Rattle.rules.specs.Made.{jumped_on, acted_on, advanced_on, made_on}

-- a line of the table of terms, and its fixed lines
unfoldable pub lines_open : Unit {0}
unfolding packed term_in depth_in ground_in shape_of fresh_table fixed_line
lines_open = tt

-- finding and adding a term
unfoldable pub adding_open : Unit {0}
unfolding lines_open add_to after_parts grade_of above_both above_line larger_of find_line find_in free_of
adding_open = tt

-- the tree of a label
unfoldable pub trees_open : Unit {0}
unfolding tree_of trees trees_from build
trees_open = tt

-- the records of a model
unfoldable pub records_open : Unit {0}
unfolding thread_at location_at machine_at length_at action_at action_number thread_in pack_thread location_in pack_location machine_in pack_machine action_in pack_action
records_open = tt

-- a fresh configuration
unfoldable pub fresh_open : Unit {0}
unfolding fresh_frame fresh_slots fresh_slot first_values first_value up_from one_more value_at each2
fresh_open = tt

-- slots and locks
unfoldable pub slots_open : Unit {0}
unfolding lock_at lock_in lowest_free lowest_in slot_at slot_in pack_slot
slots_open = tt

-- what is refused early, and how a thread moves
unfoldable pub frame_open : Unit {0}
unfolding slots_open frame_moved nonce_after jumped_to moved_on is_last locked with_slot ended_one early_of refusal_of names_location loc_of next_action way_of
frame_open = tt

-- what a permitted step makes
unfoldable pub made_open : Unit {0}
unfolding made_on advanced_on acted_on jumped_on happened_on advance_event bound bound_by cleared filled with_var place_of stored
made_open = tt
