-- "reset ends every thread and frees every lock on m .. A boot thread with the next serial runs the boot program in the
-- lowest free slot. If m is protected it holds all static registers of m."
use Rattle.std.specs.Prelude.{ℕ, Bool, List, map, eqb}
use Rattle.terms.specs.Base.{pick, also}
use Rattle.model.specs.Records.{location_in}
use Rattle.model.specs.declared.records.Machine.{Machine}
use Rattle.state.specs.Slot.{thread, pack_slot, slot_in, lowest_free}
use Rattle.state.specs.Lock.{held_by}
use Rattle.state.specs.Control.{one_more}
use Rattle.state.specs.Each.{each2}
use Rattle.state.specs.Moves.{with_slot}
use Rattle.state.specs.declared.control.Frame.{Frame}

-- a live thread on machine m
unfoldable pub is_on : ℕ → ℕ → Bool
is_on slot m = also (slot_in slot).live (eqb (slot_in slot).machine m)

-- "ends every thread .. on m"
unfoldable pub slot_reset : ℕ → ℕ → ℕ
slot_reset m slot = pick (is_on slot m) 0 slot

unfoldable pub slots_reset : List ℕ → ℕ → List ℕ
slots_reset slots m = map (slot_reset m) slots

-- "a boot thread has agent 0"
unfoldable pub boot_thread : Machine → ℕ → ℕ → ℕ
boot_thread machine m serial = pack_slot (thread serial 0 m machine.boot 0)

-- "frees every lock on m"; the boot thread of a protected machine takes the static registers (2)
unfoldable pub lock_reset : ℕ → Bool → ℕ → ℕ → ℕ → ℕ
lock_reset m protected serial lock location =
    pick (eqb (location_in location).machine m)
    (pick (also protected (eqb (location_in location).kind 2)) (held_by serial) 0)
    lock

unfoldable pub locks_reset : List ℕ → List ℕ → ℕ → Bool → ℕ → List ℕ
locks_reset locks locations m protected serial = each2 (lock_reset m protected serial) locks locations

-- "A boot thread .. runs the boot program in the lowest free slot"; the free slot is looked for after the endings
abbrev pub slots_booted : List ℕ → Machine → ℕ → ℕ → List ℕ
slots_booted slots machine m serial = with_slot (slots_reset slots m) (lowest_free (slots_reset slots m)) (boot_thread machine m serial)

-- the frame after a reset of machine m
unfoldable pub frame_reset : Frame → Machine → List ℕ → ℕ → Frame
frame_reset f machine locations m = record {
  slots = slots_booted f.slots machine m f.serial;
  locks = locks_reset f.locks locations m machine.protected f.serial;
  steps = one_more f.steps;
  serial = one_more f.serial;
  nonce = f.nonce;
}
