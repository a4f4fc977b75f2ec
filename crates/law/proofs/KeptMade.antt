-- The configuration after a step whose work is done is sound: an action, a jump, a late launch, a hand-over and a reset,
-- each part by part.
use Prim.Native.Nat.{ℕ, ◌<◌}
use mathlib.Core.Path.{◌≡◌, refl, ◌∙◌}
use mathlib.Core.Bool.{Bool, true, false}
use mathlib.Core.List.{List}
use native.Mathlib.Omega.{arith}
use lib.ListN.{length, get_or, length-set}
use lib.Dec.{eqb}
use borrow.Author.Tests.{lt-ltb, ne_eqb, eqb-true}
use Rattle.terms.specs.Base.{pick}
use Rattle.terms.specs.Promise.{Grows}
use Rattle.model.specs.Records.{length_at, machine_at}
use Rattle.model.specs.declared.records.Action.{Action}
use Rattle.model.specs.declared.records.Model.{Model}
use Rattle.state.specs.Slot.{slot_in, slot_at, lowest_free}
use Rattle.state.specs.Moves.{with_slot, moved_on, jumped_to, nonce_after, frame_moved}
use Rattle.state.specs.Early.{next_action}
use Rattle.state.specs.Hand.{frame_handed}
use Rattle.state.specs.Launch.{thread_launched, frame_launched}
use Rattle.state.specs.Reset.{slots_reset, boot_thread, frame_reset}
use Rattle.state.specs.FrameSound.{FrameSound, ThreadSound, Grounds}
use Rattle.state.specs.declared.slot.Slot.{Slot}
use Rattle.state.specs.declared.control.Frame.{Frame}
use Rattle.state.specs.declared.control.Control.{Control}
use Rattle.state.proofs.Live.{free_there}
use Rattle.state.proofs.Frame.{live_place, slot_there, moved_keeps, jumped_keeps, launched_keeps, handed_keeps, reset_keeps, reset_finds}
use Rattle.rules.specs.Effect.{bound_by, bound}
use Rattle.rules.specs.Made.{Config, jumped_on, acted_on, launched_on, reset_on, handed_on, advanced_on, config_of, control, layout_of}
use Rattle.audit.specs.Sound.{SoundModel, FitAction}
use Rattle.audit.specs.Whole.{Arrays, SoundTerms, Stored, SoundVars, SoundConfig}
use Rattle.audit.proofs.Whole.{sound_grounds}
use Rattle.law.proofs.KeptFresh.{start_packed}
use Rattle.law.proofs.KeptWant.{stored_none}
use Rattle.law.proofs.KeptWork.{next_fit}
use Rattle.law.proofs.KeptValues.{pick_stored, lock_listed, values_more, values_stored, values_launched_lem, values_reset_lem}
use Rattle.law.proofs.KeptVars.{vars_more, vars_cleared, vars_bound, vars_reset_lem, slot_other}

-- the slot of a live thread
pub live_sound : {m : Model} {f : Frame} → FrameSound m f → (i : ℕ) → (slot_at f.slots i).live ≡ true → ThreadSound m f.serial (slot_at f.slots i)
live_sound {f = f} F i e =
    let h : i < 12 = live_place f.slots i e in
    let z : slot_at f.slots i ≡ slot_in (get_or f.slots i 0) = slot_there f.slots i h in
    rw z ((F.slots.each i).thread (rw z at e))

pub nonce_same : (op n : ℕ) → (op ≡ 18 → ⊥) → nonce_after op n ≡ n
unfolding nonce_after
nonce_same op n f = rw (ne_eqb op 18 f)

bound_stored : {l : List ℕ} {c : ℕ} (op : ℕ) {r : ℕ} → Stored l c 0 → Stored l c r → Stored l c (bound_by 0 op r)
unfolding bound_by
bound_stored op z s = pick_stored (eqb op 2) z s

jumped_start : (q : Slot) (p : ℕ) → (slot_in (jumped_to q p)).position ≡ 0
unfolding jumped_to
jumped_start q p = start_packed q.serial q.agent q.machine p

launched_start : (machines : List ℕ) (q : Slot) (serial : ℕ) → (slot_in (thread_launched machines q serial)).position ≡ 0
unfolding thread_launched
launched_start machines q serial = start_packed serial q.agent q.machine (machine_at machines q.machine).launch

module _ {m : Model} (M : SoundModel m) (A : Arrays m) {l : List ℕ} {s : Control} (C : SoundConfig m l s) (few : s.frame.steps < 60000) where
  abbrev f : Frame
  f = s.frame

  grounds : Grounds m
  grounds = sound_grounds M A

  twelve : length f.slots ≡ 12
  twelve = C.frame.slots.long

  -- one thread moves
  module _ (i : ℕ) (live : (slot_at f.slots i).live ≡ true)
      {k : List ℕ} {d x r p : ℕ} (g : Grows l s.count k d) (sx : Stored k d x) (sr : Stored k d r) (pp : p < m.programs) where
    abbrev q : Slot
    q = slot_at f.slots i

    abbrev a : Action
    a = next_action m.actions q

    inside : i < 12
    inside = live_place f.slots i live

    fit : FitAction m q.position (length_at m.lengths q.program) a
    fit = next_fit M (live_sound C.frame i live)

    jumped_sound : SoundTerms m k d (nonce_after a.op f.nonce) → SoundConfig m k (control (jumped_on 0 (config_of s) i q a p) d)
    unfolding jumped_on frame_moved
    jumped_sound T = record {
      frame = jumped_keeps m grounds f C.frame few i live a p pp (lock_listed fit);
      terms = T;
      values = values_more g C.values;
      vars = vars_cleared f.slots s.vars (vars_more g C.vars) twelve i (jumped_to q p) inside (jumped_start q p);
    }

    launched_sound : SoundTerms m k d f.nonce → SoundConfig m k (control (launched_on 0 2 m.machines m.locations (config_of s) i q) d)
    unfolding launched_on frame_launched
    launched_sound T = record {
      frame = launched_keeps m grounds f C.frame few i live;
      terms = T;
      values = values_launched_lem grounds M.most_locations T.table T.long s.values q.machine (values_more g C.values);
      vars = vars_cleared f.slots s.vars (vars_more g C.vars) twelve i (thread_launched m.machines q f.serial) inside
          (launched_start m.machines q f.serial);
    }

    acted_sound : SoundTerms m k d (nonce_after a.op f.nonce) → SoundConfig m k (control (acted_on 0 m.lengths (config_of s) i q a x r) d)
    unfolding acted_on frame_moved
    acted_sound T = record {
      frame = moved_keeps m grounds f C.frame few i live a (lock_listed fit);
      terms = T;
      values = values_stored s.values a x r fit (values_more g C.values) sx sr;
      vars = vars_bound f.slots s.vars (vars_more g C.vars) twelve i inside live (bound_by 0 a.op r)
          (bound_stored a.op (stored_none T.table T.long) sr) m.lengths grounds.short;
    }

    pick_sound : (b : Bool) (c e : Config ℕ) → (b ≡ true → SoundConfig m k (control c d)) → SoundConfig m k (control e d)
        → SoundConfig m k (control (pick b c e) d)
    pick_sound true c e u v = u refl
    pick_sound false c e u v = v

    no_nonce : eqb a.op 20 ≡ true → nonce_after a.op f.nonce ≡ f.nonce
    no_nonce e = nonce_same a.op f.nonce (λ z. omega (arith, z, eqb-true a.op 20 e))

    pub advanced_sound : SoundTerms m k d (nonce_after a.op f.nonce) → SoundConfig m k (control (advanced_on 0 2 (layout_of m) (config_of s) i x r p) d)
    unfolding advanced_on
    advanced_sound T =
        pick_sound (eqb a.op 19) _ _ (λ e. jumped_sound T)
        (pick_sound (eqb a.op 20) _ _ (λ e. launched_sound (rw (no_nonce e) at T)) (acted_sound T))

  -- a hand-over
  module _ (i j : ℕ) (live : (slot_at f.slots i).live ≡ true) (other : (slot_at f.slots j).live ≡ true) (two : j ≡ i → ⊥)
      {k : List ℕ} {d x : ℕ} (g : Grows l s.count k d) (T : SoundTerms m k d f.nonce) (sx : Stored k d x) where
    abbrev n : ℕ
    n = moved_on m.lengths (slot_at f.slots i)

    hand_in : i < 12
    hand_in = live_place f.slots i live

    hand_to : j < 12
    hand_to = live_place f.slots j other

    sent : SoundVars k d (with_slot f.slots i n) (bound 0 m.lengths s.vars i (slot_at f.slots i) 0)
    sent = vars_bound f.slots s.vars (vars_more g C.vars) twelve i hand_in live 0 (stored_none T.table T.long) m.lengths grounds.short

    sent_long : length (with_slot f.slots i n) ≡ 12
    unfolding with_slot
    sent_long = rw (lt-ltb i 12 hand_in) (length-set f.slots i n ∙ twelve)

    there : slot_at (with_slot f.slots i n) j ≡ slot_at f.slots j
    there = slot_other f.slots twelve i n hand_in j two

    taken : SoundVars k d (with_slot (with_slot f.slots i n) j (moved_on m.lengths (slot_at f.slots j)))
        (bound 0 m.lengths (bound 0 m.lengths s.vars i (slot_at f.slots i) 0) j (slot_at f.slots j) x)
    taken =
        rw there at
        (vars_bound (with_slot f.slots i n) (bound 0 m.lengths s.vars i (slot_at f.slots i) 0) sent sent_long j hand_to (rw there other)
        x sx m.lengths grounds.short)

    pub handed_sound : SoundConfig m k (control (handed_on 0 m.lengths (config_of s) i j x) d)
    unfolding handed_on frame_handed
    handed_sound = record {
      frame = handed_keeps m grounds f C.frame few i live j two other;
      terms = T;
      values = values_more g C.values;
      vars = taken;
    }

  -- a reset
  boot_start : (k : ℕ) → (slot_in (boot_thread (machine_at m.machines k) k f.serial)).position ≡ 0
  unfolding boot_thread
  boot_start k = start_packed f.serial 0 k (machine_at m.machines k).boot

  pub reset_sound : (k : ℕ) → k < m.machine_count → SoundConfig m l (control (reset_on 0 1 m.machines m.locations (config_of s) k) s.count)
  unfolding reset_on frame_reset
  reset_sound k h =
      let T = C.terms in
      record {
        frame = reset_keeps m grounds f C.frame few k h;
        terms = T;
        values = values_reset_lem grounds M.most_locations T.table T.long s.values k C.values;
        vars = vars_reset_lem f.slots s.vars C.vars k (lowest_free (slots_reset f.slots k)) (boot_thread (machine_at m.machines k) k f.serial) twelve
            (reset_finds m grounds f C.frame k) (boot_start k) (free_there (slots_reset f.slots k));
      }
