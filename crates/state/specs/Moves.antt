-- What an ordinary action does to the frame: its thread moves on, lock and unlock change one lock, new takes a number.
use Rattle.std.specs.Prelude.{ℕ, ◌+◌, ◌<◌, Bool, false, List, ◌≡◌, set, eqb, ltb, leb}
use Rattle.terms.specs.Base.{pick}
use Rattle.model.specs.Records.{length_at}
use Rattle.model.specs.declared.records.Action.{Action}
use Rattle.state.specs.Slot.{thread, pack_slot}
use Rattle.state.specs.Lock.{held_by}
use Rattle.state.specs.Control.{one_more}
use Rattle.state.specs.declared.slot.Slot.{Slot}
use Rattle.state.specs.declared.control.Frame.{Frame}

-- the twelve slots with another number at a place; as they are where there is no such place
unfoldable pub with_slot : List ℕ → ℕ → ℕ → List ℕ
with_slot l i n = pick (ltb i 12) (set l i n) l

-- the same of what the thirty-two locations have: their locks, and their values, which may be of any type
unfoldable pub with_at : {A : Type 0} → List A → ℕ → A → List A
with_at l loc v = pick (ltb loc 32) (set l loc v) l

-- lock (3) takes the location for this thread, unlock (4) frees it
unfoldable pub locked : List ℕ → Action → ℕ → List ℕ
locked l a serial =
    pick (eqb a.op 3) (with_at l a.loc (held_by serial))
    (pick (eqb a.op 4) (with_at l a.loc 0)
    l)

-- the thread stands before its last action
unfoldable pub is_last : List ℕ → Slot → Bool
is_last lengths s = leb (length_at lengths s.program) (s.position + 1)

-- the answer to that, and that a thread before another action has room for its next position
pub record Last (lengths : List ℕ) (s : Slot) (r : Bool) : Type 0 where
  pub is : r ≡ is_last lengths s
  pub room : r ≡ false → s.position < 255

-- the slot of a thread that has made its action: "A thread past its last action is gone and its slot free, all zero"
unfoldable pub moved_on : List ℕ → Slot → ℕ
moved_on lengths s =
    pick (is_last lengths s) 0
    (pack_slot (thread s.serial s.agent s.machine s.program (s.position + 1)))

-- "the thread goes on at that program's start"
unfoldable pub jumped_to : Slot → ℕ → ℕ
jumped_to s program = pack_slot (thread s.serial s.agent s.machine program 0)

-- "new yields a nonce numbered from 0": new is 18
unfoldable pub nonce_after : ℕ → ℕ → ℕ
nonce_after op nonce = pick (eqb op 18) (one_more nonce) nonce

-- the frame after action a of the thread in slot i, whose slot has become n
unfoldable pub frame_moved : Frame → ℕ → ℕ → Action → ℕ → Frame
frame_moved f i n a serial = record {
  slots = with_slot f.slots i n;
  locks = locked f.locks a serial;
  steps = one_more f.steps;
  serial = f.serial;
  nonce = nonce_after a.op f.nonce;
}
