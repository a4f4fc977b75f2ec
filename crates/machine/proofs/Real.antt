-- The event of every step is shown as what it is, where all ops are known; those of a sound model are.
use Prim.Native.Nat.{ℕ, ◌+◌, ◌*◌, ◌/◌, ◌%◌, ◌<◌, ◌≤◌}
use mathlib.Core.Path.{◌≡◌, refl}
use mathlib.Core.Bool.{Bool, true, false}
use mathlib.Core.List.{List}
use native.Mathlib.Omega.{arith}
use lib.ListN.{length}
use lib.Dec.{ltb, leb, eqb}
use borrow.Author.Tests.{ltb-true, ltb-false, leb-false, eqb-false, lt-ltb, le-ltb}
use Rattle.model.specs.Fields.{in_form}
use Rattle.model.specs.Records.{action_in, action_number, action_at, length_at}
use Rattle.model.specs.declared.records.Action.{Action}
use Rattle.model.specs.declared.records.Model.{Model}
use Rattle.state.specs.Slot.{slot_at}
use Rattle.state.specs.Code.{way_of}
use Rattle.state.specs.Early.{next_action}
use Rattle.state.specs.declared.slot.Slot.{Slot}
use Rattle.state.specs.declared.code.Way.{Way}
use Rattle.state.specs.declared.code.Way.TheVariants as W
use Rattle.state.specs.declared.control.Frame.{Frame}
use Rattle.state.proofs.Threads.{never}
use Rattle.rules.specs.Happened.{advance_shown, advance_event, hand_event, happened_by, happened_on}
use Rattle.rules.specs.Made.{Layout}
use Rattle.rules.specs.declared.work.Labels.{Labels}
use Rattle.audit.specs.Sound.{SoundModel}
use Rattle.machine.specs.Recorded.{is_real, ShortPath}

-- every action is one of 0 to 20
abbrev pub KnownOps : List ℕ → Type 0
KnownOps actions = (p k : ℕ) → (action_at actions p k).op < 21

-- the event of a step
module _ (g : Layout) (ops : KnownOps g.actions) where
  next_op : (q : Slot) → (next_action g.actions q).op < 21
  unfolding next_action
  next_op q = ops q.program q.position

  shown_real : (f : Frame) (q : Slot) (a : Action) (r : Labels) → a.op < 21 → is_real (advance_shown f g.lengths q a r).event ≡ true
  shown_real f q a r h = by (eqb a.op 19) (eqb a.op 20) refl refl
    where
      by : (x y : Bool) → eqb a.op 19 ≡ x → eqb a.op 20 ≡ y → is_real (advance_shown f g.lengths q a r).event ≡ true
      by true y e d = rw e
      by false true e d = rw (e, d)
      by false false e d = rw (e, d) (lt-ltb a.op 19 (low a.op h (eqb-false a.op 19 e) (eqb-false a.op 20 d)))
        where
          low : (n : ℕ) → n < 21 → (n ≡ 19 → ⊥) → (n ≡ 20 → ⊥) → n < 19
          low n s t u = omega arith

  way_real : (w : Way) (f : Frame) (r : Labels) → is_real (happened_by w f g.actions g.lengths r).event ≡ true
  unfolding advance_event hand_event
  way_real W.Nothing f r = refl
  way_real (W.Advance i) f r = shown_real f (slot_at f.slots i) (next_action g.actions (slot_at f.slots i)) r (next_op (slot_at f.slots i))
  way_real (W.Hand i j) f r = refl
  way_real (W.Reset m) f r = refl

  pub happened_real : (f : Frame) (code : ℕ) (r : Labels) → is_real (happened_on f g.actions g.lengths code r).event ≡ true
  unfolding happened_on
  happened_real f code r = way_real (way_of code) f r

-- a sound model has known ops alone, in every place of its array
module _ (m : Model) (sound : SoundModel m) where
  form_op : (a : Action) → in_form a ≡ true → a.op < 21
  unfolding in_form
  form_op a e = by (leb 21 a.op) refl
    where
      by : (b : Bool) → leb 21 a.op ≡ b → a.op < 21
      by true t = absurd (never false (rw t at e) refl)
      by false t = leb-false 21 a.op t

  zero_op : (action_in 0).op < 21
  unfolding action_in
  zero_op = omega arith

  in_array : (p k : ℕ) → p * 16 + k < 512 → action_at m.actions p k ≡ action_in (action_number m.actions p k)
  unfolding action_at
  in_array p k h = refl

  number_zero : (p k : ℕ) → p * 16 + k < 512 → action_number m.actions p k ≡ 0 → (action_at m.actions p k).op < 21
  number_zero p k h e = rw (in_array p k h, e) zero_op

  place_op : (p k : ℕ) → p < 32 → k < 16 → (action_at m.actions p k).op < 21
  place_op p k h g = by (ltb k (length_at m.lengths p)) (ltb p m.programs) refl refl
    where
      by : (b d : Bool) → ltb k (length_at m.lengths p) ≡ b → ltb p m.programs ≡ d → (action_at m.actions p k).op < 21
      by true true t u =
          form_op (action_at m.actions p k) ((sound.programs p (ltb-true p m.programs u)).actions k (ltb-true k (length_at m.lengths p) t)).form
      by true false t u =
          let z : length_at m.lengths p ≡ 0 = sound.zeros.lengths p (ltb-false p m.programs u) in
          absurd (omega (arith, z, ltb-true k (length_at m.lengths p) t))
      by false d t u = number_zero p k (omega arith) (sound.zeros.actions p k h (ltb-false k (length_at m.lengths p) t) g)

  same_place : (p k q j : ℕ) → q * 16 + j ≡ p * 16 + k → action_at m.actions p k ≡ action_at m.actions q j
  unfolding action_at action_number
  same_place p k q j e = rw e

  past_array : (p k : ℕ) → 512 ≤ p * 16 + k → (action_at m.actions p k).op < 21
  unfolding action_at action_number
  past_array p k h = rw (le-ltb (p * 16 + k) 512 h) zero_op

  pub known_ops : KnownOps m.actions
  known_ops p k = by (ltb (p * 16 + k) 512) refl
    where
      by : (b : Bool) → ltb (p * 16 + k) 512 ≡ b → (action_at m.actions p k).op < 21
      by true t =
          let h : p * 16 + k < 512 = ltb-true (p * 16 + k) 512 t in
          let q : ℕ = (p * 16 + k) / 16 in let j : ℕ = (p * 16 + k) % 16 in
          let e : q * 16 + j ≡ p * 16 + k = omega arith in
          rw (same_place p k q j e) (place_op q j (omega arith) (omega arith))
      by false t = past_array p k (ltb-false (p * 16 + k) 512 t)

  pub short_path : length m.claim.path ≡ 4 → ShortPath m.claim
  short_path h = record { short = sound.claim.most; long = h }
