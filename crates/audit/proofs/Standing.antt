-- The test of a configuration says of its frame what the theorems ask for: slots, locks and counters, one by one.
use Prim.Native.Nat.{ℕ, ◌+◌, ◌<◌, ◌≤◌}
use mathlib.Core.Path.{◌≡◌, refl, sym}
use mathlib.Core.Bool.{Bool, true, false}
use mathlib.Core.List.{List}
use native.Mathlib.Omega.{arith}
use lib.ListN.{length, get_or, get_or-eq_default}
use lib.Dec.{ltb, leb, eqb}
use borrow.Author.Tests.{ltb-true, ltb-false, leb-true, eqb-true, eq-eqb, not-true}
use Rattle.terms.specs.Base.{also}
use Rattle.terms.proofs.Meaning.{also_left, also_right, also_both}
use Rattle.model.specs.declared.records.Model.{Model}
use Rattle.model.proofs.Tests.{both_pass, pick_yes, pick_no}
use Rattle.state.specs.Slot.{slot_in, pack_slot}
use Rattle.state.specs.Lock.{lock_in, pack_lock}
use Rattle.state.specs.FrameSound.{live_on, most_on, ThreadSound, SlotSound, LockSound, FrameSound}
use Rattle.state.specs.declared.slot.Slot.{Slot}
use Rattle.state.specs.declared.control.Frame.{Frame}
use Rattle.state.specs.declared.control.Control.{Control}
use Rattle.state.proofs.Threads.{none_sound, never, zero_live}
use Rattle.state.proofs.Holds.{free_lock}
use Rattle.state.proofs.Frame.{slot_there}
use Rattle.audit.specs.Configuration.{counters_sound, thread_fits, slot_sound, slots_sound, lock_sound, locks_sound, same_serial, new_serial, serials_differ, machine_fits, threads_fit, table_sound, vars_sound, values_sound, sound_control}
use Rattle.terms.proofs.Each.{each_at}

module _ (m : Model) (next : ℕ) where
  thread_right : (s : Slot) → thread_fits s next m.lengths m.programs m.machine_count ≡ true → ThreadSound m next s
  unfolding thread_fits
  thread_right s e =
      let a = both_pass _ _ e in let b = both_pass _ _ a.1 in let d = both_pass _ _ b.1 in
      record { serial = ltb-true _ _ a.0; machine = ltb-true _ _ b.0; program = ltb-true _ _ d.0; position = ltb-true _ _ d.1 }

  slot_right : (n : ℕ) → slot_sound n next m.lengths m.programs m.machine_count ≡ true → SlotSound m next n
  unfolding slot_sound
  slot_right n e =
      let fits = thread_fits (slot_in n) next m.lengths m.programs m.machine_count in
      let exact = eqb (pack_slot (slot_in n)) n in
      let no : ((slot_in n).live ≡ false → eqb n 0 ≡ true) = λ h. pick_no (slot_in n).live (also exact fits) (eqb n 0) h e in
      let yes : ((slot_in n).live ≡ true → also exact fits ≡ true) = λ h. pick_yes (slot_in n).live (also exact fits) (eqb n 0) h e in
      record {
        free = λ h. eqb-true n 0 (no h);
        packed = λ h. eqb-true (pack_slot (slot_in n)) n (also_left exact fits (yes h));
        thread = λ h. thread_right (slot_in n) (also_right exact fits (yes h));
      }

  lock_right : (i n : ℕ) → lock_sound n next (ltb i m.location_count) ≡ true → LockSound m next i n
  unfolding lock_sound
  lock_right i n e =
      let exact = eqb (pack_lock (lock_in n)) n in let listed = ltb i m.location_count in let below = ltb (lock_in n).serial next in
      let no : ((lock_in n).held ≡ false → eqb n 0 ≡ true) = λ h. pick_no (lock_in n).held (also exact (also listed below)) (eqb n 0) h e in
      let yes : ((lock_in n).held ≡ true → also exact (also listed below) ≡ true) =
      λ h. pick_yes (lock_in n).held (also exact (also listed below)) (eqb n 0) h e in
      record {
        free = λ h. eqb-true n 0 (no h);
        packed = λ h. eqb-true (pack_lock (lock_in n)) n (also_left exact (also listed below) (yes h));
        listed = λ h. ltb-true i m.location_count (also_left listed below (also_right exact (also listed below) (yes h)));
        serial = λ h. ltb-true (lock_in n).serial next (also_right listed below (also_right exact (also listed below) (yes h)));
      }

-- "next serial at most 8 + steps, next nonce at most steps"
pub steps_right : (f : Frame) → counters_sound f ≡ true → f.steps ≤ 60000
unfolding counters_sound
steps_right f e = leb-true _ _ (both_pass _ _ e).0

pub serial_right : (f : Frame) → counters_sound f ≡ true → f.serial ≤ 8 + f.steps
unfolding counters_sound
serial_right f e =
    let a = leb f.steps 60000 in let b = leb f.serial (8 + f.steps) in let d = leb f.nonce f.steps in
    leb-true _ _ (also_left b d (also_right a (also b d) e))

pub nonce_right : (f : Frame) → counters_sound f ≡ true → f.nonce ≤ f.steps
unfolding counters_sound
nonce_right f e =
    let a = leb f.steps 60000 in let b = leb f.serial (8 + f.steps) in let d = leb f.nonce f.steps in
    leb-true _ _ (also_right b d (also_right a (also b d) e))

module _ (m : Model) (next : ℕ) (l : List ℕ) where
  -- each slot, a free one past the twelve
  pub slots_right : length l ≡ 12 → slots_sound l next m.lengths m.programs m.machine_count ≡ true
      → (i : ℕ) → SlotSound m next (get_or l i 0)
  unfolding slots_sound
  slots_right h e i = by (ltb i 12) refl
    where
      by : (b : Bool) → ltb i 12 ≡ b → SlotSound m next (get_or l i 0)
      by true t = slot_right m next (get_or l i 0) (each_at 12 _ e i (ltb-true i 12 t))
      by false t = rw (get_or-eq_default l 0 {n = i} (omega (arith, h, ltb-false i 12 t))) (none_sound m next)

  -- each lock, a free one past the thirty-two
  pub locks_right : length l ≡ 32 → locks_sound l next m.location_count ≡ true → (i : ℕ) → LockSound m next i (get_or l i 0)
  unfolding locks_sound
  locks_right h e i = by (ltb i 32) refl
    where
      by : (b : Bool) → ltb i 32 ≡ b → LockSound m next i (get_or l i 0)
      by true t = lock_right m next i (get_or l i 0) (each_at 32 _ e i (ltb-true i 32 t))
      by false t = rw (get_or-eq_default l 0 {n = i} (omega (arith, h, ltb-false i 32 t))) (free_lock m next i)

-- "live ones different"
module _ (l : List ℕ) where
  same : (i j : ℕ) → (slot_in (get_or l i 0)).live ≡ true → (slot_in (get_or l j 0)).live ≡ true
      → (slot_in (get_or l i 0)).serial ≡ (slot_in (get_or l j 0)).serial → same_serial (slot_in (get_or l i 0)) (slot_in (get_or l j 0)) ≡ true
  unfolding same_serial
  same i j a b e = also_both (also_both a b) (eq-eqb _ _ e)

  differ_right : serials_differ l ≡ true → (i j : ℕ) → i < j → j < 12 → same_serial (slot_in (get_or l i 0)) (slot_in (get_or l j 0)) ≡ false
  unfolding serials_differ new_serial
  differ_right e i j h g =
      rw (← (slot_there l i (omega arith)), ← (slot_there l j g)) (not-true _ (each_at j _ (each_at 12 _ e j g) i h))

  pub serials_right : serials_differ l ≡ true → (i j : ℕ) → i < 12 → j < 12 → (slot_in (get_or l i 0)).live ≡ true → (slot_in (get_or l j 0)).live ≡ true
      → (slot_in (get_or l i 0)).serial ≡ (slot_in (get_or l j 0)).serial → i ≡ j
  serials_right d i j h g a b e = by (ltb i j) (ltb j i) refl refl
    where
      by : (x y : Bool) → ltb i j ≡ x → ltb j i ≡ y → i ≡ j
      by true y p q = absurd (never _ (same i j a b e) (differ_right d i j (ltb-true i j p) g))
      by false true p q = absurd (never _ (same j i b a (sym e)) (differ_right d j i (ltb-true j i q) h))
      by false false p q = omega (arith, ltb-false i j p, ltb-false j i q)

-- "live threads per machine at most the listed number, or 1 if none was listed"
pub fit_right : (m : Model) (l : List ℕ) → threads_fit l m.threads m.thread_count ≡ true
    → (k : ℕ) → k < 4 → live_on k l ≤ most_on m k
unfolding threads_fit machine_fits
fit_right m l e k h = leb-true (live_on k l) (most_on m k) (each_at 4 _ e k h)

-- a live thread stands in one of the twelve slots
live_below : (l : List ℕ) → length l ≡ 12 → (i : ℕ) → (slot_in (get_or l i 0)).live ≡ true → i < 12
live_below l h i e = by (ltb i 12) refl
  where
    by : (b : Bool) → ltb i 12 ≡ b → i < 12
    by true t = ltb-true i 12 t
    by false t = absurd (zero_live (rw (get_or-eq_default l 0 {n = i} (omega (arith, h, ltb-false i 12 t))) at e))

-- the tests of the frame say that it is sound
pub frame_right : (m : Model) (f : Frame) → length f.slots ≡ 12 → length f.locks ≡ 32
    → counters_sound f ≡ true
    → slots_sound f.slots f.serial m.lengths m.programs m.machine_count ≡ true
    → serials_differ f.slots ≡ true
    → locks_sound f.locks f.serial m.location_count ≡ true
    → threads_fit f.slots m.threads m.thread_count ≡ true
    → FrameSound m f
frame_right m f h g counters slots differ locks fit = record {
  slots = record {
    long = h;
    each = slots_right m f.serial f.slots h slots;
    differ = λ i j a b e. serials_right f.slots differ i j (live_below f.slots h i a) (live_below f.slots h j b) a b e;
    fit = fit_right m f.slots fit;
  };
  locks = record { long = g; each = locks_right m f.serial f.locks g locks };
  steps = steps_right f counters;
  serial = serial_right f counters;
  nonce = nonce_right f counters;
}

-- a configuration that passes the test has a sound frame
pub control_right : (m : Model) (l : List ℕ) (s : Control) → length s.frame.slots ≡ 12 → length s.frame.locks ≡ 32
    → sound_control m l s ≡ true → FrameSound m s.frame
unfolding sound_control
control_right m l s h g e =
    let f = s.frame in
    let p1 = table_sound m l s.count f.nonce in
    let p2 = counters_sound f in
    let p3 = slots_sound f.slots f.serial m.lengths m.programs m.machine_count in
    let p4 = serials_differ f.slots in
    let p5 = vars_sound s.vars f.slots l s.count in
    let p6 = locks_sound f.locks f.serial m.location_count in
    let p7 = values_sound s.values l s.count m.location_count in
    let p8 = threads_fit f.slots m.threads m.thread_count in
    let q7 = also p7 p8 in let q6 = also p6 q7 in let q5 = also p5 q6 in let q4 = also p4 q5 in let q3 = also p3 q4 in
    let e2 = also_right p1 (also p2 q3) e in
    let e3 = also_right p2 q3 e2 in
    let e4 = also_right p3 q4 e3 in
    let e5 = also_right p4 q5 e4 in
    let e6 = also_right p5 q6 e5 in
    let e7 = also_right p6 q7 e6 in
    frame_right m f h g (also_left p2 q3 e2) (also_left p3 q4 e3) (also_left p4 q5 e4) (also_left p6 q7 e6) (also_right p7 p8 e7)
