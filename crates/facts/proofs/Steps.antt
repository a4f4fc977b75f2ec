-- The facts that speak of steps, by computing the inner step.
use Prim.Native.Nat.{ℕ}
use mathlib.Core.Path.{◌≡◌, refl}
use mathlib.Core.List.{List, [], ◌∷◌, ◌++◌}
use lib.ListN.{replicate}
use Rattle.terms.specs.Base.{filled}
use Rattle.terms.specs.Table.{find_term, used_of, cut_to}
use Rattle.terms.specs.Subst.{plan_at, fits_within, entered_in, with_first, with_second, with_both, subst_in, second_operand, take_both, deep_or_full, take_operands}
use Rattle.model.specs.declared.records.Model.{Model}
use Rattle.state.specs.Lock.{pack_lock, held_by, bars_to, is_held_by}
use Rattle.state.specs.Control.{fresh_control}
use Rattle.state.specs.Early.{is_elsewhere, locked_out}
use Rattle.state.specs.Ended.{ended_both}
use Rattle.state.specs.Moves.{with_at}
use Rattle.state.specs.declared.control.Control.{Control}
use Rattle.rules.specs.Want.{sealed_by, opened_by, first_half, second_half, matched_of, code_needed, want_of}
use Rattle.rules.specs.Work.{meet_new, meet_want, given_at, try_action, code_at, work_advance, work_on}
use Rattle.rules.specs.Happened.{hand_event}
use Rattle.rules.specs.Made.{layout, control_after}
use Rattle.rules.specs.Step.{go_on, step_on}
use Rattle.facts.specs.Models.{keys, full_table, extends, unlocks, hashes}
use Rattle.facts.specs.Said.{answers_after}
use Rattle.facts.proofs.Opened.{adding_open, records_open, fresh_open, frame_open, made_open}

-- `answers_to` with the inner step
unfoldable pub inner_from : Model → List ℕ → List ℕ → Control → List ℕ
inner_from m [] l s = []
inner_from m (k ∷ ks) l s =
    answers_after (step_on l s (layout m.actions m.lengths m.machines m.locations) m.machine_count k) (inner_from m ks)

unfoldable pub inner_to : Model → List ℕ → List ℕ
inner_to m ks = inner_from m ks m.lines (fresh_control m)

-- the schedules of the facts, in their order, and what each of their codes is answered
abbrev pub schedules : List (List ℕ)
schedules =
    inner_to extends (replicate 16 0)
    ∷ inner_to extends (12 ∷ []) ∷ inner_to extends (161 ∷ []) ∷ inner_to extends (16 ∷ [])
    ∷ inner_to extends (1 ∷ 1 ∷ []) ∷ inner_to unlocks (0 ∷ [])
    ∷ inner_to hashes (0 ∷ []) ∷ inner_to hashes (1 ∷ []) ∷ []

abbrev pub answers : List (List ℕ)
answers = (replicate 15 0 ++ (8 ∷ [])) ∷ (1 ∷ []) ∷ (2 ∷ []) ∷ (3 ∷ []) ∷ (0 ∷ 0 ∷ []) ∷ (7 ∷ []) ∷ (0 ∷ []) ∷ (9 ∷ []) ∷ []

-- what the computation below opens, beside what the others do: the step, locks, and substitution
unfoldable work_open : Unit {0}
unfolding want_of code_needed matched_of second_half first_half opened_by sealed_by
work_open = tt

unfoldable step_open : Unit {0}
unfolding work_open step_on go_on control_after hand_event with_at work_on work_advance code_at try_action given_at meet_want meet_new
step_open = tt

unfoldable locks_open : Unit {0}
unfolding with_at ended_both locked_out is_elsewhere is_held_by bars_to held_by pack_lock fresh_control
locks_open = tt

unfoldable subst_open : Unit {0}
unfolding take_operands deep_or_full take_both second_operand subst_in with_both with_second with_first entered_in fits_within plan_at filled cut_to used_of find_term
subst_open = tt

-- one theorem, so that the steps are computed together
pub steps_answered : schedules ≡ answers
unfolding hashes full_table keys unlocks extends inner_to inner_from step_open made_open locks_open frame_open fresh_open records_open subst_open adding_open
steps_answered = refl
