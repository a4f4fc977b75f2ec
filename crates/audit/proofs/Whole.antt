-- The test that the code runs over a configuration says exactly that the configuration is sound. So what is proved of
-- sound configurations holds of every one that the code has let through, and no sound one is turned away.
use Prim.Native.Nat.{ℕ, ◌<◌, ◌≤◌}
use mathlib.Core.Path.{◌≡◌, refl}
use mathlib.Core.Bool.{Bool, true, false, not}
use mathlib.Core.List.{List}
use native.Mathlib.Omega.{arith}
use lib.ListN.{get_or, get_or-eq_default}
use lib.Dec.{ltb, eqb}
use borrow.Author.Tests.{ltb-true, ltb-false, eqb-true, lt-ltb, le-leb, eq-eqb}
use Rattle.terms.specs.Base.{also}
use Rattle.terms.proofs.Meaning.{also_left, also_right, also_both}
use Rattle.model.specs.Records.{length_at}
use Rattle.model.specs.declared.records.Model.{Model}
use Rattle.model.proofs.Tests.{pass_by}
use Rattle.state.specs.Slot.{slot_in, pack_slot, slot_at}
use Rattle.state.specs.Lock.{lock_in, pack_lock}
use Rattle.state.specs.FrameSound.{live_on, most_on, ThreadSound, SlotSound, SlotsSound, LockSound, FrameSound, Grounds}
use Rattle.state.specs.declared.slot.Slot.{Slot}
use Rattle.state.specs.declared.control.Frame.{Frame}
use Rattle.state.specs.declared.control.Control.{Control}
use Rattle.state.proofs.Frame.{slot_there}
use Rattle.audit.specs.Sound.{SoundModel}
use Rattle.audit.specs.Configuration.{table_sound, counters_sound, thread_fits, slot_sound, slots_sound, same_serial, new_serial, serials_differ, vars_sound, lock_sound, locks_sound, values_sound, machine_fits, threads_fit, sound_control}
use Rattle.terms.proofs.Each.{at_each}
use Rattle.audit.proofs.Standing.{control_right}
use Rattle.audit.specs.Whole.{Arrays, Lengths, SoundConfig}
use Rattle.audit.proofs.Parts.{terms_right, terms_pass, values_right, values_pass, vars_right, vars_pass}

-- what the frame's theorems ask of a model, a sound one gives
module _ {m : Model} (M : SoundModel m) (A : Arrays m) where
  short_by : (p : ℕ) (b : Bool) → ltb p m.programs ≡ b → length_at m.lengths p ≤ 16
  short_by p true e = (M.programs p (ltb-true p m.programs e)).most
  short_by p false e = omega (arith, M.zeros.lengths p (ltb-false p m.programs e))

  past_by : (i : ℕ) → m.location_count ≤ i → (b : Bool) → ltb i 32 ≡ b → get_or m.locations i 0 ≡ 0
  past_by i h true e = M.zeros.locations i h (ltb-true i 32 e)
  past_by i h false e = get_or-eq_default m.locations 0 {n = i} (omega (arith, A.locations, ltb-false i 32 e))

  pub sound_grounds : Grounds m
  sound_grounds = record {
    machines = M.most_machines;
    programs = M.most_programs;
    threads = M.most_threads;
    some = λ p h. omega (arith, (M.programs p h).some);
    short = λ p. short_by p (ltb p m.programs) refl;
    boot = λ k h. (M.machines k h).boot;
    launch = λ k h. (M.machines k h).launch;
    placed = λ i h. (M.threads i h).machine;
    runs = λ i h. (M.threads i h).program;
    eight = A.threads;
    past = λ i h. past_by i h (ltb i 32) refl;
  }

-- the frame passes its tests
module _ (m : Model) (next : ℕ) where
  thread_pass : (s : Slot) → ThreadSound m next s → thread_fits s next m.lengths m.programs m.machine_count ≡ true
  unfolding thread_fits
  thread_pass s t =
      also_both (lt-ltb _ _ t.serial) (also_both (lt-ltb _ _ t.machine) (also_both (lt-ltb _ _ t.program) (lt-ltb _ _ t.position)))

  slot_pass : (n : ℕ) → SlotSound m next n → slot_sound n next m.lengths m.programs m.machine_count ≡ true
  unfolding slot_sound
  slot_pass n s =
      pass_by (slot_in n).live (also (eqb (pack_slot (slot_in n)) n) (thread_fits (slot_in n) next m.lengths m.programs m.machine_count)) (eqb n 0)
      (λ e. also_both (eq-eqb _ _ (s.packed e)) (thread_pass (slot_in n) (s.thread e))) (λ e. eq-eqb _ _ (s.free e))

  lock_pass : (i n : ℕ) → LockSound m next i n → lock_sound n next (ltb i m.location_count) ≡ true
  unfolding lock_sound
  lock_pass i n s =
      pass_by (lock_in n).held (also (eqb (pack_lock (lock_in n)) n) (also (ltb i m.location_count) (ltb (lock_in n).serial next))) (eqb n 0)
      (λ e. also_both (eq-eqb _ _ (s.packed e)) (also_both (lt-ltb _ _ (s.listed e)) (lt-ltb _ _ (s.serial e)))) (λ e. eq-eqb _ _ (s.free e))

  slots_pass : (l : List ℕ) → ((i : ℕ) → SlotSound m next (get_or l i 0)) → slots_sound l next m.lengths m.programs m.machine_count ≡ true
  unfolding slots_sound
  slots_pass l f = at_each 12 _ (λ i h. slot_pass (get_or l i 0) (f i))

  locks_pass : (l : List ℕ) → ((i : ℕ) → LockSound m next i (get_or l i 0)) → locks_sound l next m.location_count ≡ true
  unfolding locks_sound
  locks_pass l f = at_each 32 _ (λ i h. lock_pass i (get_or l i 0) (f i))

-- "live ones different"
other_by : (b : Bool) → (b ≡ true → ⊥) → not b ≡ true
other_by true f = absurd (f refl)
other_by false f = refl

same_told : (p q : Slot) → same_serial p q ≡ true → (p.live ≡ true) × (q.live ≡ true) × (p.serial ≡ q.serial)
unfolding same_serial
same_told p q e =
    let a = also_left (also p.live q.live) (eqb p.serial q.serial) e in
    (also_left p.live q.live a, also_right p.live q.live a, eqb-true _ _ (also_right (also p.live q.live) (eqb p.serial q.serial) e))

differ_pass : (m : Model) (most : ℕ → ℕ) (next : ℕ) (l : List ℕ) → SlotsSound m most next l → serials_differ l ≡ true
unfolding serials_differ new_serial
differ_pass m most next l s = at_each 12 _ (λ i h. at_each i _ (λ j g. other_by _ (apart i j h g)))
  where
    apart : (i j : ℕ) → i < 12 → j < i → same_serial (slot_at l j) (slot_at l i) ≡ true → ⊥
    apart i j h g e =
        let t = same_told (slot_in (get_or l j 0)) (slot_in (get_or l i 0)) (rw (slot_there l i h, slot_there l j (omega arith)) at e) in
        let z : j ≡ i = s.differ j i t.0 t.1 t.2 in
        omega arith

-- "live threads per machine at most the listed number, or 1 if none was listed"
fit_pass : (m : Model) (l : List ℕ) → ((k : ℕ) → k < 4 → live_on k l ≤ most_on m k) → threads_fit l m.threads m.thread_count ≡ true
unfolding threads_fit machine_fits
fit_pass m l f = at_each 4 _ (λ k h. le-leb (live_on k l) (most_on m k) (f k h))

counters_pass : (m : Model) (f : Frame) → FrameSound m f → counters_sound f ≡ true
unfolding counters_sound
counters_pass m f s = also_both (le-leb _ _ s.steps) (also_both (le-leb _ _ s.serial) (le-leb _ _ s.nonce))

-- what passes the test is sound
pub test_control : {m : Model} {l : List ℕ} {s : Control} → SoundModel m → Arrays m → Lengths l s → sound_control m l s ≡ true → SoundConfig m l s
unfolding sound_control
test_control {m} {l} {s} M A L e =
    let f = s.frame in
    let p1 = table_sound m l s.count f.nonce in
    let p2 = counters_sound f in
    let p3 = slots_sound f.slots f.serial m.lengths m.programs m.machine_count in
    let p4 = serials_differ f.slots in
    let p5 = vars_sound s.vars f.slots l s.count in
    let p6 = locks_sound f.locks f.serial m.location_count in
    let p7 = values_sound s.values l s.count m.location_count in
    let p8 = threads_fit f.slots m.threads m.thread_count in
    let q7 = also p7 p8 in let q6 = also p6 q7 in let q5 = also p5 q6 in let q4 = also p4 q5 in let q3 = also p3 q4 in
    let e2 = also_right p1 (also p2 q3) e in
    let e3 = also_right p2 q3 e2 in
    let e4 = also_right p3 q4 e3 in
    let e5 = also_right p4 q5 e4 in
    let e6 = also_right p5 q6 e5 in
    let e7 = also_right p6 q7 e6 in
    let T = terms_right m l s.count f.nonce L.lines (also_left p1 (also p2 q3) e) in
    record {
      frame = control_right m l s L.slots L.locks e;
      terms = T;
      values = values_right T.table T.long m s.values L.values M.most_locations (also_left p7 p8 e7);
      vars = vars_right T.table T.long f.slots s.vars L.vars (also_left p5 q6 e5);
    }

-- what is sound passes the test
pub control_test : {m : Model} {l : List ℕ} {s : Control} → Arrays m → SoundConfig m l s → sound_control m l s ≡ true
unfolding sound_control
control_test {m} {l} {s} A S =
    let f = s.frame in
    let F = S.frame in
    let T = S.terms in
    also_both (terms_pass m l s.count f.nonce T.long T)
    (also_both (counters_pass m f F)
    (also_both (slots_pass m f.serial f.slots F.slots.each)
    (also_both (differ_pass m (most_on m) f.serial f.slots F.slots)
    (also_both (vars_pass T.table T.long f.slots s.vars S.vars)
    (also_both (locks_pass m f.serial f.locks F.locks.each)
    (also_both (values_pass T.table T.long m s.values S.values)
    (fit_pass m f.slots F.slots.fit)))))))
