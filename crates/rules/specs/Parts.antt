-- The configuration after a step in two parts, as it is made in place: its slots, and all else, which goes by the slots
-- before the step. Put together they are the configuration of Made (proofs/Parts: made_parts).
use Rattle.std.specs.Prelude.{ℕ, List, eqb}
use Rattle.terms.specs.Base.{pick, Held, held}
use Rattle.model.specs.Records.{machine_at}
use Rattle.model.specs.declared.records.Action.{Action}
use Rattle.model.specs.declared.records.Machine.{Machine}
use Rattle.state.specs.Slot.{slot_at}
use Rattle.state.specs.Code.{way_of}
use Rattle.state.specs.Control.{one_more}
use Rattle.state.specs.Early.{next_action}
use Rattle.state.specs.Moves.{with_slot, locked, moved_on, jumped_to, nonce_after}
use Rattle.state.specs.Launch.{thread_launched, locks_launched}
use Rattle.state.specs.Reset.{is_on, slots_booted, locks_reset}
use Rattle.state.specs.declared.slot.Slot.{Slot}
use Rattle.state.specs.declared.code.Way.{Way}
use Rattle.state.specs.declared.code.Way.TheVariants as W
use Rattle.state.specs.declared.control.Frame.{Frame}
use Rattle.state.specs.declared.control.Control.{Control}
use Rattle.rules.specs.Effect.{stored, cleared, bound_by, bound}
use Rattle.rules.specs.Restart.{values_launched, values_reset, vars_reset}
use Rattle.rules.specs.Made.{Layout}
use Rattle.rules.specs.declared.work.Labels.{Labels}

-- steps made, next serial, next nonce
pub record Counters : Type 0 where
  pub steps : ℕ
  pub serial : ℕ
  pub nonce : ℕ

abbrev pub counters : ℕ → ℕ → ℕ → Counters
counters steps serial nonce = record { steps = steps; serial = serial; nonce = nonce }

abbrev pub counters_of : Frame → Counters
counters_of f = counters f.steps f.serial f.nonce

-- all of a configuration but its slots and the number of its terms
pub record Rest : Type 0 where
  pub counters : Counters
  pub locks : List ℕ
  pub values : List ℕ
  pub vars : List ℕ

abbrev pub rest : Counters → List ℕ → List ℕ → List ℕ → Rest
rest c locks values vars = record { counters = c; locks = locks; values = values; vars = vars }

abbrev pub rest_of : Control → Rest
rest_of s = rest (counters_of s.frame) s.frame.locks s.values s.vars

-- the parts put together
abbrev pub frame_of : List ℕ → List ℕ → Counters → Frame
frame_of slots locks c = record { slots = slots; locks = locks; steps = c.steps; serial = c.serial; nonce = c.nonce }

abbrev pub with_counters : Frame → Counters → Frame
with_counters f c = frame_of f.slots f.locks c

abbrev pub frame_with : List ℕ → Rest → Frame
frame_with slots r = frame_of slots r.locks r.counters

abbrev pub control_with : List ℕ → Rest → ℕ → Control
control_with slots r n = record { frame = frame_with slots r; values = r.values; vars = r.vars; count = n }

-- a configuration with another rest
abbrev pub with_rest : Control → Rest → Control
with_rest s r = control_with s.frame.slots r s.count

-- the slots after a jump (19), a late launch (20), any other action
abbrev pub slots_acted : List ℕ → List ℕ → List ℕ → ℕ → ℕ → ℕ → Slot → Action → List ℕ
slots_acted slots lengths machines serial i p q a =
    pick (eqb a.op 19) (with_slot slots i (jumped_to q p))
    (pick (eqb a.op 20) (with_slot slots i (thread_launched machines q serial))
    (with_slot slots i (moved_on lengths q)))

abbrev pub slots_from : List ℕ → List ℕ → List ℕ → List ℕ → ℕ → ℕ → ℕ → Slot → List ℕ
slots_from slots actions lengths machines serial i p q = slots_acted slots lengths machines serial i p q (next_action actions q)

unfoldable pub slots_advanced : List ℕ → List ℕ → List ℕ → List ℕ → ℕ → ℕ → ℕ → List ℕ
slots_advanced slots actions lengths machines serial i p = slots_from slots actions lengths machines serial i p (slot_at slots i)

-- both have made their action
unfoldable pub slots_handed : List ℕ → List ℕ → ℕ → ℕ → List ℕ
slots_handed slots lengths i j =
    with_slot (with_slot slots i (moved_on lengths (slot_at slots i))) j (moved_on lengths (slot_at slots j))

abbrev pub slots_by : Way → List ℕ → List ℕ → List ℕ → List ℕ → ℕ → ℕ → List ℕ
slots_by W.Nothing slots actions lengths machines serial p = slots
slots_by (W.Advance i) slots actions lengths machines serial p = slots_advanced slots actions lengths machines serial i p
slots_by (W.Hand i j) slots actions lengths machines serial p = slots_handed slots lengths i j
slots_by (W.Reset m) slots actions lengths machines serial p = slots_booted slots (machine_at machines m) m serial

-- the slots after a step; p is the program of a jump
unfoldable pub slots_made : List ℕ → List ℕ → List ℕ → List ℕ → ℕ → ℕ → ℕ → List ℕ
slots_made slots actions lengths machines serial code p = slots_by (way_of code) slots actions lengths machines serial p

-- one step more; new takes a number
unfoldable pub moved : Counters → ℕ → Counters
moved c op = counters (one_more c.steps) c.serial (nonce_after op c.nonce)

-- one step more, by which a thread was made
unfoldable pub started : Counters → Counters
started c = counters (one_more c.steps) (one_more c.serial) c.nonce

-- the rest after a jump (19), a late launch (20), any other action of thread q in slot i
abbrev pub rest_acted : Rest → List ℕ → List ℕ → ℕ → Labels → Slot → Action → Rest
rest_acted r lengths locations i l q a =
    pick (eqb a.op 19) (rest (moved r.counters a.op) (locked r.locks a q.serial) r.values (cleared 0 r.vars i))
    (pick (eqb a.op 20)
    (rest (started r.counters) (locks_launched r.locks locations q.machine r.counters.serial)
    (values_launched 2 r.values locations q.machine) (cleared 0 r.vars i))
    (rest (moved r.counters a.op) (locked r.locks a q.serial) (stored r.values a l.x l.result)
    (bound 0 lengths r.vars i q (bound_by 0 a.op l.result))))

abbrev pub rest_from : Rest → List ℕ → List ℕ → List ℕ → ℕ → Labels → Slot → Rest
rest_from r actions lengths locations i l q = rest_acted r lengths locations i l q (next_action actions q)

unfoldable pub rest_advanced : List ℕ → Rest → List ℕ → List ℕ → List ℕ → ℕ → Labels → Rest
rest_advanced slots r actions lengths locations i l = rest_from r actions lengths locations i l (slot_at slots i)

-- the sender binds label 0, the receiver the value; counters and variables alone change
unfoldable pub rest_handed : List ℕ → Counters → List ℕ → List ℕ → ℕ → ℕ → ℕ → Held Counters
rest_handed slots c vars lengths i j x =
    held (moved c 5)
    (bound 0 lengths (bound 0 lengths vars i (slot_at slots i) 0) j (slot_at slots j) x)

abbrev pub rest_after : Rest → Held Counters → Rest
rest_after r h = rest h.out r.locks r.values h.table

-- the variables after a reset are made slot by slot: slot i, whose number is n, loses its own if its thread ended
unfoldable pub slot_cleared : {A : Type 0} → A → ℕ → List A → ℕ → ℕ → List A
slot_cleared none m vars i n = pick (is_on n m) (cleared none vars i) vars

abbrev pub rest_reborn : List ℕ → Rest → Machine → List ℕ → ℕ → Rest
rest_reborn slots r machine locations m =
    rest (started r.counters) (locks_reset r.locks locations m machine.protected r.counters.serial)
    (values_reset 0 1 r.values locations m) (vars_reset 0 r.vars slots m)

unfoldable pub rest_reset : List ℕ → Rest → List ℕ → List ℕ → ℕ → Rest
rest_reset slots r machines locations m = rest_reborn slots r (machine_at machines m) locations m

abbrev pub rest_by : Way → List ℕ → Rest → Layout → Labels → Rest
rest_by W.Nothing slots r g l = r
rest_by (W.Advance i) slots r g l = rest_advanced slots r g.actions g.lengths g.locations i l
rest_by (W.Hand i j) slots r g l = rest_after r (rest_handed slots r.counters r.vars g.lengths i j l.x)
rest_by (W.Reset m) slots r g l = rest_reset slots r g.machines g.locations m

-- all but the slots after a step; slots are those before it
unfoldable pub rest_made : List ℕ → Rest → Layout → ℕ → Labels → Rest
rest_made slots r g code l = rest_by (way_of code) slots r g l
