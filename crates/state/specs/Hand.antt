-- "Code 16 + 12s + r hands the value sent by slot s to slot r, both moving."
use Rattle.std.specs.Prelude.{ℕ, List}
use Rattle.state.specs.Control.{one_more}
use Rattle.state.specs.Moves.{with_slot, moved_on}
use Rattle.state.specs.declared.slot.Slot.{Slot}
use Rattle.state.specs.declared.control.Frame.{Frame}

-- the frame after thread q in slot i has handed to thread r in slot j
unfoldable pub frame_handed : Frame → List ℕ → ℕ → Slot → ℕ → Slot → Frame
frame_handed f lengths i q j r = record {
  slots = with_slot (with_slot f.slots i (moved_on lengths q)) j (moved_on lengths r);
  locks = f.locks;
  steps = one_more f.steps;
  serial = f.serial;
  nonce = f.nonce;
}
