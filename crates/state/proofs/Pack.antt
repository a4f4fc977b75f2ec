-- What is packed into a number is read out of it again, slot and lock.
use Prim.Native.Nat.{ℕ, ◌+◌, ◌*◌, ◌/◌, ◌%◌, ◌<◌, ◌≤◌}
use mathlib.Core.Path.{◌≡◌, refl}
use mathlib.Core.Bool.{true}
use native.Mathlib.Omega.{arith}
use Rattle.terms.specs.Line.{bit_of}
use Rattle.terms.proofs.Pack.{bit_small, bit_read}
use Rattle.state.specs.Slot.{no_thread, pack_slot, slot_in}
use Rattle.state.specs.Lock.{lock, no_holder, pack_lock, lock_in, held_by}
use Rattle.state.specs.declared.slot.Slot.{Slot}
use Rattle.state.specs.declared.lock.Lock.{Lock}

-- the fields fit into their places of a number
pub record SmallSlot (s : Slot) : Type 0 where
  pub serial : s.serial < 65536
  pub agent : s.agent < 65536
  pub machine : s.machine < 256
  pub program : s.program < 256
  pub position : s.position < 256

-- what is read out of a number always fits
pub slot_small : (n : ℕ) → SmallSlot (slot_in n)
unfolding slot_in
slot_small n = record { serial = omega arith; agent = omega arith; machine = omega arith; program = omega arith; position = omega arith }

pub slot_packed : (s : Slot) → SmallSlot s → slot_in (pack_slot s) ≡ s
unfolding pack_slot slot_in
slot_packed s h =
    let t : ℕ = bit_of s.live in
    let b : t ≤ 1 = bit_small s.live in
    let n : ℕ = t * 72057594037927936 + s.serial * 1099511627776 + s.agent * 16777216 + s.machine * 65536 + s.program * 256 + s.position in
    let l : n / 72057594037927936 % 2 ≡ t = omega arith in
    let e : n / 1099511627776 % 65536 ≡ s.serial = omega arith in
    let a : n / 16777216 % 65536 ≡ s.agent = omega arith in
    let m : n / 65536 % 256 ≡ s.machine = omega arith in
    let p : n / 256 % 256 ≡ s.program = omega arith in
    let k : n % 256 ≡ s.position = omega arith in
    rw (l, e, a, m, p, k, bit_read s.live)

-- the number 0 is the free slot
pub slot_none : slot_in 0 ≡ no_thread
unfolding slot_in
slot_none = refl

pub lock_packed : (l : Lock) → l.serial < 65536 → lock_in (pack_lock l) ≡ l
unfolding pack_lock lock_in
lock_packed l h =
    let t : ℕ = bit_of l.held in
    let b : t ≤ 1 = bit_small l.held in
    let n : ℕ = t * 65536 + l.serial in
    let e : n / 65536 % 2 ≡ t = omega arith in
    let s : n % 65536 ≡ l.serial = omega arith in
    rw (e, s, bit_read l.held)

pub lock_held : (s : ℕ) → s < 65536 → lock_in (held_by s) ≡ lock true s
unfolding held_by
lock_held s h = lock_packed (lock true s) h

-- the number 0 is the free lock
pub lock_none : lock_in 0 ≡ no_holder
unfolding lock_in
lock_none = refl
