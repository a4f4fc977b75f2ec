-- "late_launch ends the thread; in its slot a new thread with the next serial runs the machine's launch program."
use Rattle.std.specs.Prelude.{ℕ, Bool, List, eqb}
use Rattle.terms.specs.Base.{pick, also}
use Rattle.model.specs.Records.{location_in, machine_at}
use Rattle.state.specs.Slot.{thread, pack_slot}
use Rattle.state.specs.Lock.{held_by}
use Rattle.state.specs.Control.{one_more}
use Rattle.state.specs.Each.{each2}
use Rattle.state.specs.Moves.{with_slot}
use Rattle.state.specs.declared.slot.Slot.{Slot}
use Rattle.state.specs.declared.control.Frame.{Frame}

-- a dynamic register (3) of machine m
unfoldable pub is_dynamic : ℕ → ℕ → Bool
is_dynamic location m = also (eqb (location_in location).machine m) (eqb (location_in location).kind 3)

-- "A launched thread keeps the agent of the one it replaces"
unfoldable pub thread_launched : List ℕ → Slot → ℕ → ℕ
thread_launched machines q serial = pack_slot (thread serial q.agent q.machine (machine_at machines q.machine).launch 0)

-- "Dynamic registers of that machine .. are locked by the new thread, whoever held them. All other locks stay."
unfoldable pub lock_launched : ℕ → ℕ → ℕ → ℕ → ℕ
lock_launched m serial lock location = pick (is_dynamic location m) (held_by serial) lock

unfoldable pub locks_launched : List ℕ → List ℕ → ℕ → ℕ → List ℕ
locks_launched locks locations m serial = each2 (lock_launched m serial) locks locations

-- the frame after the late_launch of thread q in slot i
unfoldable pub frame_launched : Frame → List ℕ → List ℕ → ℕ → Slot → Frame
frame_launched f machines locations i q = record {
  slots = with_slot f.slots i (thread_launched machines q f.serial);
  locks = locks_launched f.locks locations q.machine f.serial;
  steps = one_more f.steps;
  serial = one_more f.serial;
  nonce = f.nonce;
}
