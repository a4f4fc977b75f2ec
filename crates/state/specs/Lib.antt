-- What the contracts of this crate cite, beside document 01, sections 'Programs, machines, threads', 'Step codes' and
-- 'Turned down'. Labels stand in a configuration's values and variables alone. To be read in this order. Hand is cited by
-- the crate above, FrameSound by the theorems alone.
pub mod Slot
pub mod Lock
pub mod Code
pub mod Control
pub mod Reason
pub mod Refusal
pub mod Early
pub mod Seek
pub mod Each
pub mod Moves
pub mod Ended
pub mod Hand
pub mod Launch
pub mod Reset
pub mod FrameSound
