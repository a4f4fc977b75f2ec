-- Refusals 1 to 7 of 'Turned down': what can be said of a code by reading threads, locks and the model. Each reason is
-- a test of its own, and they stand in one list in the order of their numbers.
use Rattle.std.specs.Prelude.{ℕ, Bool, true, false, not, Result, Ok, Err, List, [], ◌∷◌, eqb, ltb, leb}
use Rattle.terms.specs.Base.{pick, also}
use Rattle.model.specs.Fields.{either, names_location}
use Rattle.model.specs.Records.{action_at, location_at}
use Rattle.model.specs.declared.records.Action.{Action}
use Rattle.state.specs.Reason.{Reason, reason, first_of}
use Rattle.state.specs.Slot.{slot_at}
use Rattle.state.specs.Lock.{lock_at, bars_to, is_held_by}
use Rattle.state.specs.Code.{way_of}
use Rattle.state.specs.declared.refusal.Refusal.{Refusal}
use Rattle.state.specs.declared.refusal.Refusal.TheVariants.{Nobody, StepsMade}
use Rattle.state.specs.declared.slot.Slot.{Slot}
use Rattle.state.specs.declared.control.Frame.{Frame}
use Rattle.state.specs.declared.code.Way.{Way}
use Rattle.state.specs.declared.code.Way.TheVariants.{Nothing, Advance, Hand, Reset}

-- all that these refusals look at: slots, locks and steps of a frame, actions, locations and number of machines of a model
pub record Sight : Type 0 where
  pub slots : List ℕ
  pub locks : List ℕ
  pub steps : ℕ
  pub actions : List ℕ
  pub locations : List ℕ
  pub machines : ℕ

abbrev pub sight : List ℕ → List ℕ → ℕ → List ℕ → List ℕ → ℕ → Sight
sight slots locks steps actions locations machines =
    record { slots = slots; locks = locks; steps = steps; actions = actions; locations = locations; machines = machines }

-- what is looked at in a frame
abbrev pub sight_of : Frame → List ℕ → List ℕ → ℕ → Sight
sight_of f actions locations machines = sight f.slots f.locks f.steps actions locations machines

-- the action that a thread stands before
unfoldable pub next_action : List ℕ → Slot → Action
next_action actions s = action_at actions s.program s.position

abbrev pub thread_of : Sight → ℕ → Slot
thread_of g i = slot_at g.slots i

abbrev pub action_of : Sight → ℕ → Action
action_of g i = next_action g.actions (thread_of g i)

unfoldable pub is_elsewhere : List ℕ → ℕ → ℕ → Bool
is_elsewhere locations loc machine = not (eqb (location_at locations loc).machine machine)

-- "Locks don't bar reading"; "write, lock and extend need the location free or held by this thread; unlock needs it held by this thread"
unfoldable pub locked_out : List ℕ → Action → ℕ → Bool
locked_out locks a serial =
    pick (eqb a.op 0) false
    (pick (eqb a.op 4) (not (is_held_by (lock_at locks a.loc) serial))
    (bars_to (lock_at locks a.loc) serial))

-- 1, "not a code"
abbrev pub not_code : Way → Bool
not_code Nothing = true
not_code (Advance i) = false
not_code (Hand i j) = false
not_code (Reset m) = false

-- 2, "slot empty, or no such machine"
abbrev pub is_missing : Sight → Way → Bool
is_missing g Nothing = false
is_missing g (Advance i) = not (thread_of g i).live
is_missing g (Hand i j) = either (not (thread_of g i).live) (not (thread_of g j).live)
is_missing g (Reset m) = leb g.machines m

-- 3, "sender and receiver are one slot"
abbrev pub is_one_slot : Way → Bool
is_one_slot Nothing = false
is_one_slot (Advance i) = false
is_one_slot (Hand i j) = eqb i j
is_one_slot (Reset m) = false

-- 4, "60,000 steps already made"
abbrev pub is_spent : Sight → Bool
is_spent g = leb 60000 g.steps

-- 5, "the next action isn't the one this code moves": send (5) and receive (6) move by a hand-over alone, and nothing else does
abbrev pub is_other : Sight → Way → Bool
is_other g Nothing = false
is_other g (Advance i) = either (eqb (action_of g i).op 5) (eqb (action_of g i).op 6)
is_other g (Hand i j) = either (not (eqb (action_of g i).op 5)) (not (eqb (action_of g j).op 6))
is_other g (Reset m) = false

-- 6, "location on another machine": 6 and 7 are asked of actions that name a location alone
abbrev pub is_away : Sight → Way → Bool
is_away g Nothing = false
is_away g (Advance i) = also (names_location (action_of g i).op) (is_elsewhere g.locations (action_of g i).loc (thread_of g i).machine)
is_away g (Hand i j) = false
is_away g (Reset m) = false

-- 7, "locked by another; or unlock of a lock not held"
abbrev pub is_locked : Sight → Way → Bool
is_locked g Nothing = false
is_locked g (Advance i) = also (names_location (action_of g i).op) (locked_out g.locks (action_of g i) (thread_of g i).serial)
is_locked g (Hand i j) = false
is_locked g (Reset m) = false

abbrev pub reasons : Sight → Way → List Reason
reasons g w =
    reason (not_code w) 1
    ∷ reason (is_missing g w) 2
    ∷ reason (is_one_slot w) 3
    ∷ reason (is_spent g) 4
    ∷ reason (is_other g w) 5
    ∷ reason (is_away g w) 6
    ∷ reason (is_locked g w) 7
    ∷ []

-- the refusal of what a code moves, 0 where none of these reasons holds
unfoldable pub refusal_of : Sight → Way → ℕ
refusal_of g w = first_of (reasons g w)

unfoldable pub early_of : Sight → ℕ → ℕ
early_of g c = refusal_of g (way_of c)

-- 2 and 4 as the code asks them: the thread of a slot, and that a step is left
unfoldable pub thread_or : Slot → Result Slot Refusal
thread_or s = pick s.live (Ok s) (Err Nobody)

unfoldable pub steps_or : ℕ → Result (Unit {0}) Refusal
steps_or n = pick (ltb n 60000) (Ok tt) (Err StepsMade)
