-- The rules worked through on the model Bare, with the codes of document 01's run: 160, 0, 12, 0.
use Prim.Native.Nat.{ℕ}
use mathlib.Core.Path.{◌≡◌, refl}
use mathlib.Core.Bool.{true}
use mathlib.Core.List.{List, [], ◌∷◌, map}
use native.Mathlib.Decide.{ℕ_discrete}
use lib.ListN.{get_or}
use Rattle.terms.specs.Base.{filled}
use Rattle.terms.specs.Term.{shape_of}
use Rattle.terms.specs.Line.{packed, term_in}
use Rattle.terms.specs.Table.{fixed_line, fresh_table}
use Rattle.terms.specs.Tree.{kind_of, deepness, subst_t, same, member, with, enter}
use Rattle.terms.specs.Meaning.{build, trees_from, trees, tree_of}
use Rattle.model.specs.Fields.{loc_of, names_location}
use Rattle.model.specs.Records.{pack_action, action_in, machine_in, location_in, pack_thread, thread_in, action_number, action_at, length_at, machine_at, location_at, thread_at}
use Rattle.state.specs.Slot.{pack_slot, slot_in, slot_at, lowest_in, lowest_free}
use Rattle.state.specs.Lock.{lock_in, lock_at}
use Rattle.state.specs.Code.{way_of}
use Rattle.state.specs.Control.{up_from, fresh_slot, fresh_slots, fresh_frame, first_value, first_values, value_at, one_more}
use Rattle.state.specs.Each.{each2}
use Rattle.state.specs.Early.{next_action, refusal_of, early_of}
use Rattle.state.specs.Ended.{ended_one}
use Rattle.state.specs.Moves.{with_slot, locked, is_last, moved_on, jumped_to, nonce_after, frame_moved}
use Rattle.state.specs.Reset.{is_on, slot_reset, slots_reset, boot_thread, lock_reset, locks_reset, frame_reset}
use Rattle.rules.specs.Effect.{stored, place_of, with_var, cleared, bound_by, bound}
use Rattle.rules.specs.Restart.{reset_value, value_reset, values_reset, var_reset, each_slot, vars_reset}
use Rattle.rules.specs.Event.{numbered, record_of}
use Rattle.rules.specs.Happened.{advance_event, happened_on}
use Rattle.rules.specs.Made.{jumped_on, acted_on, reset_on, advanced_on, made_on}
use Rattle.audit.specs.Bare.{bare_with}
use Rattle.law.specs.Out.{Out, ok, refuse, and_then}
use Rattle.law.specs.Size.{fits}
use Rattle.law.specs.Act.{num_of, result, program_of}
use Rattle.law.specs.Rules.{Made, fresh_state, operand, acts, made, step_r}
use Rattle.law.specs.Runs.{run_rules}

-- the number of a refusal, or of an event its op, the mover's serial, the program of a jump and the new thread
abbrev shown : Out Made → List ℕ
shown (refuse n) = n ∷ []
shown (ok r) =
    get_or (record_of r.happening).numbers 0 0
    ∷ get_or (record_of r.happening).numbers 1 0
    ∷ get_or (record_of r.happening).numbers 6 0
    ∷ get_or (record_of r.happening).numbers 8 0
    ∷ []

-- a reset (21) makes thread 1, which jumps (19) to program 1; 12 is no code; then it makes its match (17)
bare_run : map shown (run_rules true (bare_with 1) (fresh_state (bare_with 1)) (160 ∷ 0 ∷ 12 ∷ 0 ∷ []))
    ≡ (21 ∷ 0 ∷ 0 ∷ 1 ∷ []) ∷ (19 ∷ 1 ∷ 1 ∷ 0 ∷ []) ∷ (1 ∷ []) ∷ (17 ∷ 1 ∷ 0 ∷ 0 ∷ []) ∷ []
unfolding run_rules step_r made acts operand fresh_state program_of result num_of kind_of fits and_then made_on advanced_on reset_on acted_on jumped_on happened_on advance_event record_of numbered vars_reset each_slot var_reset values_reset value_reset reset_value bound bound_by cleared filled with_var place_of stored frame_reset locks_reset lock_reset boot_thread slots_reset slot_reset is_on frame_moved nonce_after jumped_to moved_on is_last locked with_slot ended_one early_of refusal_of names_location loc_of next_action each2 one_more value_at first_values first_value fresh_frame fresh_slots fresh_slot up_from way_of lock_at lock_in lowest_free lowest_in slot_at slot_in pack_slot thread_at location_at machine_at length_at action_at action_number thread_in pack_thread location_in machine_in action_in pack_action tree_of trees trees_from build enter with member same subst_t deepness fresh_table fixed_line term_in packed shape_of ℕ_discrete
bare_run = refl

-- "code 12 gives 1; 161 with one machine gives 2; hand-over from a live slot to itself 3"; an empty slot gives 2 first
bare_refusals : map shown (run_rules true (bare_with 1) (fresh_state (bare_with 1)) (12 ∷ 161 ∷ 16 ∷ 29 ∷ [])) ≡ (1 ∷ []) ∷ (2 ∷ []) ∷ (3 ∷ []) ∷ (2 ∷ []) ∷ []
unfolding run_rules step_r made acts operand fresh_state program_of result num_of kind_of fits and_then made_on advanced_on reset_on acted_on jumped_on happened_on advance_event record_of numbered vars_reset each_slot var_reset values_reset value_reset reset_value bound bound_by cleared filled with_var place_of stored frame_reset locks_reset lock_reset boot_thread slots_reset slot_reset is_on frame_moved nonce_after jumped_to moved_on is_last locked with_slot ended_one early_of refusal_of names_location loc_of next_action each2 one_more value_at first_values first_value fresh_frame fresh_slots fresh_slot up_from way_of lock_at lock_in lowest_free lowest_in slot_at slot_in pack_slot thread_at location_at machine_at length_at action_at action_number thread_in pack_thread location_in machine_in action_in pack_action tree_of trees trees_from build enter with member same subst_t deepness fresh_table fixed_line term_in packed shape_of ℕ_discrete
bare_refusals = refl
