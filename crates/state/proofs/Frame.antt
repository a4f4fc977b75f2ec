-- The frame's part of what keeps a configuration sound: an action, a jump, a hand-over, a late launch and a reset of a
-- sound frame give a sound frame. And what a late launch and a reset do to each lock.
use Prim.Native.Nat.{ℕ, ◌+◌, ◌<◌, ◌≤◌}
use mathlib.Core.Bool.{Bool, true, false}
use mathlib.Core.List.{List}
use mathlib.Core.Path.{◌≡◌, refl, ◌∙◌}
use native.Mathlib.Omega.{arith}
use lib.ListN.{length, get_or}
use lib.Seq.{get_or-set_same, get_or-set_other}
use lib.Dec.{eqb, ltb}
use borrow.Author.Tests.{lt-ltb, ltb-true}
use Rattle.terms.specs.Base.{pick, also}
use Rattle.model.specs.Records.{machine_at, location_in}
use Rattle.model.specs.declared.records.Model.{Model}
use Rattle.model.specs.declared.records.Action.{Action}
use Rattle.state.specs.Slot.{thread, pack_slot, slot_in, slot_at, lowest_free}
use Rattle.state.specs.Control.{one_more}
use Rattle.state.specs.Lock.{held_by}
use Rattle.state.specs.Moves.{with_slot, moved_on, jumped_to, nonce_after, frame_moved}
use Rattle.state.specs.Launch.{is_dynamic, lock_launched, locks_launched, frame_launched}
use Rattle.state.specs.Reset.{slots_reset, boot_thread, lock_reset, locks_reset, frame_reset}
use Rattle.state.specs.Hand.{frame_handed}
use Rattle.state.specs.FrameSound.{most_on, SlotsSound, FrameSound, Grounds}
use Rattle.state.specs.declared.control.Frame.{Frame}
use Rattle.state.specs.declared.slot.Slot.{Slot}
use Rattle.state.proofs.Pack.{SmallSlot, slot_packed}
use Rattle.state.proofs.Live.{zero_free}
use Rattle.state.proofs.Threads.{never, moved_slots, jumped_slots, launched_slots, reset_slots, ended_slots, twelve_suffice}
use Rattle.state.proofs.Holds.{each_at, locked_sound, launched_locks, reset_locks}

-- a live thread stands in one of the twelve slots
place_by : (b : Bool) (l : List ℕ) (i : ℕ) → ltb i 12 ≡ b → (pick b (slot_in (get_or l i 0)) (slot_in 0)).live ≡ true → i < 12
place_by true l i e h = ltb-true i 12 e
place_by false l i e h = absurd (never (slot_in 0).live h zero_free)

pub live_place : (l : List ℕ) (i : ℕ) → (slot_at l i).live ≡ true → i < 12
unfolding slot_at
live_place l i h = place_by (ltb i 12) l i refl h

pub slot_there : (l : List ℕ) (i : ℕ) → i < 12 → slot_at l i ≡ slot_in (get_or l i 0)
unfolding slot_at
slot_there l i h = rw (lt-ltb i 12 h)

pub one_more_lem : (n : ℕ) → n < 65535 → one_more n ≡ n + 1
unfolding one_more
one_more_lem n h = rw (lt-ltb n 65535 h)

nonce_by : (b : Bool) (n s : ℕ) → n ≤ s → s < 60000 → pick b (one_more n) n ≤ s + 1
nonce_by true n s h p = omega (arith, one_more_lem n (omega arith))
nonce_by false n s h p = omega arith

nonce_kept : (op n s : ℕ) → n ≤ s → s < 60000 → nonce_after op n ≤ s + 1
unfolding nonce_after
nonce_kept op n s h p = nonce_by (eqb op 18) n s h p

module _ (m : Model) (g : Grounds m) (f : Frame) (s : FrameSound m f) (some : f.steps < 60000) where
  one_step : one_more f.steps ≡ f.steps + 1
  one_step = one_more_lem f.steps (omega arith)

  one_serial : one_more f.serial ≡ f.serial + 1
  one_serial = one_more_lem f.serial (omega (arith, s.serial))

  -- an action that leaves its slot as n
  acted : (i n : ℕ) (a : Action) (serial : ℕ) → serial < f.serial → SlotsSound m (most_on m) f.serial (with_slot f.slots i n)
      → (a.op ≡ 3 → a.loc < m.location_count) → FrameSound m (frame_moved f i n a serial)
  unfolding frame_moved
  acted i n a serial h t p = record {
    slots = t;
    locks = locked_sound m f.serial f.locks a serial s.locks h (omega (arith, s.serial)) p;
    steps = omega (arith, one_step);
    serial = omega (arith, one_step, s.serial);
    nonce = omega (arith, one_step, nonce_kept a.op f.nonce f.steps s.nonce some);
  }

  module _ (i : ℕ) (live : (slot_at f.slots i).live ≡ true) where
    inside : i < 12
    inside = live_place f.slots i live

    there_live : (slot_in (get_or f.slots i 0)).live ≡ true
    there_live = rw (slot_there f.slots i inside) at live

    pub moved_keeps : (a : Action) → (a.op ≡ 3 → a.loc < m.location_count)
        → FrameSound m (frame_moved f i (moved_on m.lengths (slot_at f.slots i)) a (slot_at f.slots i).serial)
    moved_keeps a p =
        rw (slot_there f.slots i inside)
        (acted i (moved_on m.lengths (slot_in (get_or f.slots i 0))) a (slot_in (get_or f.slots i 0)).serial ((s.slots.each i).thread there_live).serial
        (moved_slots m g (most_on m) f.serial (omega (arith, s.serial)) f.slots s.slots i inside there_live) p)

    pub jumped_keeps : (a : Action) (p : ℕ) → p < m.programs → (a.op ≡ 3 → a.loc < m.location_count)
        → FrameSound m (frame_moved f i (jumped_to (slot_at f.slots i) p) a (slot_at f.slots i).serial)
    jumped_keeps a p u w =
        rw (slot_there f.slots i inside)
        (acted i (jumped_to (slot_in (get_or f.slots i 0)) p) a (slot_in (get_or f.slots i 0)).serial ((s.slots.each i).thread there_live).serial
        (jumped_slots m g (most_on m) f.serial (omega (arith, s.serial)) f.slots s.slots i inside there_live p u) w)

    pub launched_keeps : FrameSound m (frame_launched f m.machines m.locations i (slot_at f.slots i))
    unfolding frame_launched
    launched_keeps =
        rw (slot_there f.slots i inside, one_step, one_serial)
        (record {
          slots = launched_slots m g (most_on m) f.serial (omega (arith, s.serial)) f.slots s.slots i inside there_live;
          locks = launched_locks m g f.serial f.locks (slot_in (get_or f.slots i 0)).machine (omega (arith, s.serial)) s.locks;
          steps = omega arith;
          serial = omega (arith, s.serial);
          nonce = omega (arith, s.nonce);
        })

    -- hand-over: the other slot is as it was when its turn comes
    other_there : (j n : ℕ) → (j ≡ i → ⊥) → get_or (with_slot f.slots i n) j 0 ≡ get_or f.slots j 0
    unfolding with_slot
    other_there j n d = rw (lt-ltb i 12 inside) (get_or-set_other f.slots i j n 0 d)

    both_slots : (j : ℕ) → (j ≡ i → ⊥) → j < 12 → (slot_in (get_or f.slots j 0)).live ≡ true
        → SlotsSound m (most_on m) f.serial
        (with_slot (with_slot f.slots i (moved_on m.lengths (slot_in (get_or f.slots i 0)))) j (moved_on m.lengths (slot_in (get_or f.slots j 0))))
    both_slots j d h e =
        let n : ℕ = moved_on m.lengths (slot_in (get_or f.slots i 0)) in
        let c : f.serial ≤ 65535 = omega (arith, s.serial) in
        let t : SlotsSound m (most_on m) f.serial (with_slot f.slots i n) = moved_slots m g (most_on m) f.serial c f.slots s.slots i inside there_live in
        let o : get_or (with_slot f.slots i n) j 0 ≡ get_or f.slots j 0 = other_there j n d in
        rw o at (moved_slots m g (most_on m) f.serial c (with_slot f.slots i n) t j h (rw o e))

    pub handed_keeps : (j : ℕ) → (j ≡ i → ⊥) → (slot_at f.slots j).live ≡ true
        → FrameSound m (frame_handed f m.lengths i (slot_at f.slots i) j (slot_at f.slots j))
    unfolding frame_handed
    handed_keeps j d e =
        let h : j < 12 = live_place f.slots j e in
        rw (slot_there f.slots i inside, slot_there f.slots j h, one_step)
        (record {
          slots = both_slots j d h (rw (slot_there f.slots j h) at e);
          locks = s.locks;
          steps = omega arith;
          serial = omega (arith, s.serial);
          nonce = omega (arith, s.nonce);
        })

  pub reset_keeps : (k : ℕ) → k < m.machine_count → FrameSound m (frame_reset f (machine_at m.machines k) m.locations k)
  unfolding frame_reset
  reset_keeps k h =
      rw (one_step, one_serial)
      (record {
        slots = reset_slots m g f.serial (omega (arith, s.serial)) f.slots s.slots k h;
        locks = reset_locks m g f.serial f.locks k (machine_at m.machines k).protected (omega (arith, s.serial)) s.locks;
        steps = omega arith;
        serial = omega (arith, s.serial);
        nonce = omega (arith, s.nonce);
      })

-- M4: "Twelve slots always suffice": the boot thread of a reset finds a free slot
pub reset_finds : (m : Model) → Grounds m → (f : Frame) → FrameSound m f → (k : ℕ) → lowest_free (slots_reset f.slots k) < 12
reset_finds m g f s k = twelve_suffice m g f.serial (slots_reset f.slots k) (ended_slots m (most_on m) f.serial f.slots s.slots k)

-- and there it stands, with the next serial and agent 0, before its program's first action
pub reset_boots : (m : Model) → Grounds m → (f : Frame) → FrameSound m f → (k : ℕ) → k < m.machine_count
    → slot_at (frame_reset f (machine_at m.machines k) m.locations k).slots (lowest_free (slots_reset f.slots k))
    ≡ thread f.serial 0 k (machine_at m.machines k).boot 0
unfolding frame_reset with_slot slot_at boot_thread
reset_boots m g f s k u =
    let r : List ℕ = slots_reset f.slots k in
    let t : Slot = thread f.serial 0 k (machine_at m.machines k).boot 0 in
    let c : SmallSlot t = record {
      serial = omega (arith, s.serial, s.steps);
      agent = omega arith;
      machine = omega (arith, g.machines);
      program = omega (arith, g.boot k u, g.programs);
      position = omega arith;
    } in
    let h : lowest_free r < 12 = reset_finds m g f s k in
    let e : lowest_free r < length r = omega (arith, (ended_slots m (most_on m) f.serial f.slots s.slots k).long) in
    rw (lt-ltb (lowest_free r) 12 h, get_or-set_same r (lowest_free r) (pack_slot t) 0 e, slot_packed t c)

-- "All other locks stay": after a late launch a lock of no dynamic register of the machine is as it was
pub launch_leaves : (l r : List ℕ) (k serial i : ℕ) → i < length l → is_dynamic (get_or r i 0) k ≡ false → get_or (locks_launched l r k serial) i 0 ≡ get_or l i 0
unfolding locks_launched lock_launched
launch_leaves l r k serial i h e = each_at (lock_launched k serial) l r i h ∙ rw e

pub launch_takes : (l r : List ℕ) (k serial i : ℕ) → i < length l → is_dynamic (get_or r i 0) k ≡ true → get_or (locks_launched l r k serial) i 0 ≡ held_by serial
unfolding locks_launched lock_launched
launch_takes l r k serial i h e = each_at (lock_launched k serial) l r i h ∙ rw e

-- "frees every lock on m", but for the static registers of a protected machine; the locks of other machines stay
module _ (l r : List ℕ) (k : ℕ) (p : Bool) (serial i : ℕ) (h : i < length l) where
  pub reset_leaves : eqb (location_in (get_or r i 0)).machine k ≡ false → get_or (locks_reset l r k p serial) i 0 ≡ get_or l i 0
  unfolding locks_reset lock_reset
  reset_leaves e = each_at (lock_reset k p serial) l r i h ∙ rw e

  pub reset_frees : eqb (location_in (get_or r i 0)).machine k ≡ true → also p (eqb (location_in (get_or r i 0)).kind 2) ≡ false
      → get_or (locks_reset l r k p serial) i 0 ≡ 0
  unfolding locks_reset lock_reset
  reset_frees e f = each_at (lock_reset k p serial) l r i h ∙ rw (e, f)

  pub reset_takes : eqb (location_in (get_or r i 0)).machine k ≡ true → also p (eqb (location_in (get_or r i 0)).kind 2) ≡ true
      → get_or (locks_reset l r k p serial) i 0 ≡ held_by serial
  unfolding locks_reset lock_reset
  reset_takes e f = each_at (lock_reset k p serial) l r i h ∙ rw (e, f)
