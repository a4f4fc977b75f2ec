-- M3, a step: whatever a code asks of a sound configuration, the configuration after the step is sound, the term table
-- included. A refused step leaves it as it came.
use Prim.Native.Nat.{ℕ, ◌<◌}
use mathlib.Core.Path.{◌≡◌, refl, sym, ◌∙◌, subst}
use mathlib.Core.Bool.{Bool, true, false}
use mathlib.Core.List.{List}
use native.Mathlib.Omega.{arith}
use lib.Dec.{eqb}
use borrow.Author.Tests.{eqb-true}
use Rattle.terms.specs.Base.{pick, Held, held}
use Rattle.model.specs.declared.records.Model.{Model}
use Rattle.state.specs.Slot.{slot_at}
use Rattle.state.specs.Code.{way_of}
use Rattle.state.specs.Early.{Sight, sight_of, next_action, refusal_of, early_of}
use Rattle.state.specs.Moves.{nonce_after}
use Rattle.state.specs.declared.code.Way.{Way}
use Rattle.state.specs.declared.code.Way.TheVariants as W
use Rattle.state.specs.declared.control.Control.{Control}
use Rattle.state.proofs.Turned.{LetAdvance, LetHand, LetReset, let_advance, let_hand, let_reset, early_way}
use Rattle.rules.specs.Effect.{place_of}
use Rattle.rules.specs.Work.{labels, no_labels, work_advance, work_by, work_on}
use Rattle.rules.specs.Made.{made_on, control_after, layout_of}
use Rattle.rules.specs.Step.{stepped, refused_step, go_worked, go_on, step_on}
use Rattle.rules.specs.Worked.{Worked}
use Rattle.rules.specs.declared.event.Happening.{Happening}
use Rattle.rules.specs.Reply.{Reply, Stepped}
use Rattle.rules.specs.Reply as R
use Rattle.rules.proofs.Back.{StepKept, step_kept}
use Rattle.audit.specs.Sound.{SoundModel}
use Rattle.audit.specs.Whole.{Arrays, SoundConfig}
use Rattle.law.proofs.KeptWork.{next_fit, WorkFine, action_work}
use Rattle.law.proofs.KeptMade.{live_sound, nonce_same, advanced_sound, handed_sound, reset_sound}

-- a step is refused, or what it leads to is sound
data StepFine (m : Model) : Held Stepped → Type 0 where
  refused : {n : ℕ} {t : Control} {k : List ℕ} → StepFine m (held (refused_step n t) k)
  permitted : {h : Happening} {t : Control} {k : List ℕ} → SoundConfig m k t → StepFine m (held (stepped (R.Permitted h) t) k)

module _ {m : Model} (M : SoundModel m) (A : Arrays m) {l : List ℕ} {s : Control} (C : SoundConfig m l s) (code : ℕ) where
  abbrev seen : Sight
  seen = sight_of s.frame m.actions m.locations m.machine_count

  -- the work on the table for the thread in slot i
  thread_work : (i : ℕ) → (slot_at s.frame.slots i).live ≡ true → s.frame.steps < 60000
      → WorkFine m l s.count (nonce_after (next_action m.actions (slot_at s.frame.slots i)).op s.frame.nonce) (work_advance l s m.actions i)
  unfolding work_advance
  thread_work i live few =
      action_work M C few (next_action m.actions (slot_at s.frame.slots i)) _ _ (next_fit M (live_sound C.frame i live)) (place_of i 0)

  advance_by : (i : ℕ) → way_of code ≡ W.Advance i → LetAdvance seen i → {w : Held Worked}
      → WorkFine m l s.count (nonce_after (next_action m.actions (slot_at s.frame.slots i)).op s.frame.nonce) w
      → StepFine m (go_worked w s (layout_of m) code)
  unfolding control_after made_on
  advance_by i e L WorkFine.refused = refused
  advance_by i e L (WorkFine.done {x = x} {y = y} {r = r} {p = p} {d = d} {k = k} T g sx sr pp) =
      permitted {t = control_after s (layout_of m) code (labels x y r p d)} {k = k} (rw e (advanced_sound M A C L.steps i L.live g sx sr pp T))

  hand_by : (i j : ℕ) → way_of code ≡ W.Hand i j → LetHand seen i j → {w : Held Worked}
      → WorkFine m l s.count (nonce_after (next_action m.actions (slot_at s.frame.slots i)).op s.frame.nonce) w
      → StepFine m (go_worked w s (layout_of m) code)
  unfolding control_after made_on
  hand_by i j e L WorkFine.refused = refused
  hand_by i j e L (WorkFine.done {x = x} {y = y} {r = r} {p = p} {d = d} {k = k} T g sx sr pp) =
      let z = nonce_same (next_action m.actions (slot_at s.frame.slots i)).op s.frame.nonce (λ u. omega (arith, u, L.sends)) in
      permitted {t = control_after s (layout_of m) code (labels x y r p d)} {k = k}
      (rw e (handed_sound M A C L.steps i j L.sender L.receiver (λ u. L.two (sym u)) g (rw z at T) sx))

  reset_by : (k : ℕ) → way_of code ≡ W.Reset k → LetReset seen k → StepFine m (go_worked (work_by (W.Reset k) l s m.actions) s (layout_of m) code)
  unfolding control_after made_on
  reset_by k e L = permitted {t = control_after s (layout_of m) code (no_labels s.count)} {k = l} (rw e (reset_sound M A C L.steps k L.machine))

  way_fine : (w : Way) → way_of code ≡ w → refusal_of seen w ≡ 0 → StepFine m (go_worked (work_by w l s m.actions) s (layout_of m) code)
  way_fine W.Nothing e z = refused
  way_fine (W.Advance i) e z =
      let L : LetAdvance seen i = let_advance seen i z in
      advance_by i e L (thread_work i L.live L.steps)
  way_fine (W.Hand i j) e z =
      let L : LetHand seen i j = let_hand seen i j z in
      hand_by i j e L (thread_work i L.sender L.steps)
  way_fine (W.Reset k) e z = reset_by k e (let_reset seen k z)

  go_fine : early_of seen code ≡ 0 → StepFine m (go_on l s (layout_of m) code)
  unfolding go_on work_on
  go_fine z = way_fine (way_of code) refl (sym (early_way seen code (way_of code) refl) ∙ z)

  early_by : (b : Bool) → eqb (early_of seen code) 0 ≡ b → StepFine m (pick b (go_on l s (layout_of m) code) (held (refused_step (early_of seen code) s) l))
  early_by true e = go_fine (eqb-true (early_of seen code) 0 e)
  early_by false e = refused

  step_fine : StepFine m (step_on l s (layout_of m) m.machine_count code)
  unfolding step_on
  step_fine = early_by (eqb (early_of seen code) 0) refl

  after_by_lem : {w : Held Stepped} → StepKept l s w → StepFine m w → SoundConfig m w.table w.out.control
  after_by_lem StepKept.refused f = C
  after_by_lem (StepKept.permitted g) (permitted t) = t

  -- the configuration after any step
  pub step_sound : SoundConfig m (step_on l s (layout_of m) m.machine_count code).table (step_on l s (layout_of m) m.machine_count code).out.control
  step_sound = after_by_lem (step_kept l s C.terms.table.room C.terms.table.zeros (layout_of m) m.machine_count code) step_fine

-- M3: a permitted step keeps soundness, and so does a refused one
pub step_keeps : {m : Model} → SoundModel m → Arrays m → {l : List ℕ} {s : Control} → SoundConfig m l s → (code : ℕ) {r : Reply} {t : Control} {k : List ℕ}
    → step_on l s (layout_of m) m.machine_count code ≡ held (stepped r t) k → SoundConfig m k t
step_keeps {m} M A C code e = subst (λ (w : Held Stepped). SoundConfig m w.table w.out.control) e (step_sound M A C code)
