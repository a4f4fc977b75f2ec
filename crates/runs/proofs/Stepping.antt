-- What a step gives, as far as a run asks: a refused one leaves table and configuration as they came; a permitted one only
-- adds terms, counts as one step more, and its event is shown as what it is.
use Prim.Native.Nat.{ℕ, ◌+◌, ◌<◌, ◌≤◌}
use mathlib.Core.Path.{◌≡◌, refl, ◌∙◌}
use mathlib.Core.Bool.{Bool, true, false}
use mathlib.Core.List.{List}
use native.Mathlib.Omega.{arith}
use lib.Dec.{eqb}
use borrow.Author.Tests.{leb-false, eqb-true}
use Rattle.terms.specs.Base.{pick, Held, held}
use Rattle.terms.proofs.Back.{Grown, ZeroPast}
use Rattle.model.specs.declared.records.Action.{Action}
use Rattle.state.specs.Slot.{slot_at}
use Rattle.state.specs.Code.{way_of}
use Rattle.state.specs.Control.{one_more}
use Rattle.state.specs.Moves.{frame_moved}
use Rattle.state.specs.Launch.{frame_launched}
use Rattle.state.specs.Reset.{frame_reset}
use Rattle.state.specs.Hand.{frame_handed}
use Rattle.state.specs.Early.{Sight, sight_of, next_action, not_code, reasons, early_of}
use Rattle.state.specs.Reason.{NoneHolds, next}
use Rattle.state.specs.declared.slot.Slot.{Slot}
use Rattle.state.specs.declared.code.Way.{Way}
use Rattle.state.specs.declared.code.Way.TheVariants as W
use Rattle.state.specs.declared.control.Control.{Control}
use Rattle.state.proofs.Threads.{never}
use Rattle.state.proofs.Turned.{lets_iff}
use Rattle.state.proofs.Frame.{one_more_lem}
use Rattle.rules.specs.Made.{Layout, Config, config_of, jumped_on, acted_on, launched_on, reset_on, handed_on, advanced_by, advanced_on, made_by, made_on, control_after}
use Rattle.rules.specs.Step.{stepped, refused_step, go_worked, go_on, step_on}
use Rattle.rules.specs.declared.event.Happening.{Happening}
use Rattle.rules.specs.declared.work.Labels.{Labels}
use Rattle.rules.specs.Worked.{Worked}
use Rattle.rules.specs.Reply as R
use Rattle.rules.specs.Reply.{Stepped}
use Rattle.rules.proofs.Back as B
use Rattle.machine.specs.Recorded.{is_real}
use Rattle.machine.proofs.Real.{KnownOps, happened_real}

-- the steps counted
module _ (g : Layout) (c : Config ℕ) where
  advanced_steps : (i : ℕ) (q : Slot) (a : Action) (x r p : ℕ) → (advanced_by 0 2 g c i q a x r p).frame.steps ≡ one_more c.frame.steps
  unfolding jumped_on launched_on acted_on frame_moved frame_launched
  advanced_steps i q a x r p = by (eqb a.op 19) (eqb a.op 20)
    where
      by : (y z : Bool)
          → (pick y (jumped_on 0 c i q a p) (pick z (launched_on 0 2 g.machines g.locations c i q) (acted_on 0 g.lengths c i q a x r))).frame.steps
          ≡ one_more c.frame.steps
      by true z = refl
      by false true = refl
      by false false = refl

  way_steps : (w : Way) (x r p : ℕ) → not_code w ≡ false → (made_by w 0 1 2 g c x r p).frame.steps ≡ one_more c.frame.steps
  unfolding advanced_on handed_on reset_on frame_handed frame_reset
  way_steps W.Nothing x r p h = absurd (never true refl h)
  way_steps (W.Advance i) x r p h = advanced_steps i (slot_at c.frame.slots i) (next_action g.actions (slot_at c.frame.slots i)) x r p
  way_steps (W.Hand i j) x r p h = refl
  way_steps (W.Reset m) x r p h = refl

after_steps : (s : Control) (g : Layout) (code : ℕ) (r : Labels) → not_code (way_of code) ≡ false
    → (control_after s g code r).frame.steps ≡ one_more s.frame.steps
unfolding control_after made_on
after_steps s g code r h = way_steps g (config_of s) (way_of code) r.x r.result r.program h

-- what refusals 1 to 7 have let through
pub let_code : (g : Sight) (w : Way) → NoneHolds (reasons g w) → not_code w ≡ false
let_code g w (next p rest) = p

pub let_steps : (g : Sight) (w : Way) → NoneHolds (reasons g w) → g.steps < 60000
let_steps g w (next p (next q (next r (next s rest)))) = leb-false 60000 g.steps s

-- a step from table l and configuration s
pub data Stepping (l : List ℕ) (s : Control) : Held Stepped → Type 0 where
  refused : {n : ℕ} → Stepping l s (held (refused_step n s) l)
  permitted : {m : List ℕ} {h : Happening} {t : Control} → Grown l s.count m t.count → is_real h.event ≡ true
      → s.frame.steps < 60000 → t.frame.steps ≡ s.frame.steps + 1 → Stepping l s (held (stepped (R.Permitted h) t) m)

module _ (l : List ℕ) (s : Control) (small : s.count ≤ 512) (zeros : ZeroPast l s.count) (g : Layout) (ops : KnownOps g.actions) where
  worked_step : {w : Held Worked} (code : ℕ) → not_code (way_of code) ≡ false → s.frame.steps < 60000
      → B.WorkKept l s.count w → Stepping l s (go_worked w s g code)
  unfolding control_after
  worked_step code h n B.refused = refused
  worked_step code h n (B.done {m} {r} grown) =
      permitted grown (happened_real g ops s.frame code r) n (after_steps s g code r h ∙ one_more_lem s.frame.steps (omega (arith, n)))

  go_step : (code : ℕ) → not_code (way_of code) ≡ false → s.frame.steps < 60000 → Stepping l s (go_on l s g code)
  unfolding go_on
  go_step code h n = worked_step code h n (B.work_kept l s small zeros g.actions code)

  early_step : (k code n : ℕ) (b : Bool) → early_of (sight_of s.frame g.actions g.locations k) code ≡ n → eqb n 0 ≡ b
      → Stepping l s (pick b (go_on l s g code) (held (refused_step n s) l))
  early_step k code n false e t = refused
  early_step k code n true e t =
      let v = sight_of s.frame g.actions g.locations k in
      let o = (lets_iff v code).0 (e ∙ eqb-true n 0 t) in
      go_step code (let_code v (way_of code) o) (let_steps v (way_of code) o)

  pub step_gives : (k code : ℕ) → Stepping l s (step_on l s g k code)
  unfolding step_on
  step_gives k code =
      let n = early_of (sight_of s.frame g.actions g.locations k) code in
      early_step k code n (eqb n 0) refl refl
