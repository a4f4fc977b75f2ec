-- A refused step leaves table and configuration as they came, and a permitted one only adds terms behind the old ones:
-- for every table of at most 512 terms that is zero past them, which a sound one is.
use Prim.Native.Nat.{ℕ, ◌≤◌}
use mathlib.Core.Path.{◌≡◌, refl}
use mathlib.Core.Bool.{Bool, true, false}
use mathlib.Core.List.{List}
use native.Mathlib.Omega.{arith}
use lib.Dec.{eqb}
use Rattle.terms.specs.Base.{pick, Held, held}
use Rattle.terms.specs.Table.{add_to}
use Rattle.terms.specs.Subst.{take_operands}
use Rattle.terms.specs.declared.term.Term.{Term}
use Rattle.terms.specs.Outcome.{Outcome}
use Rattle.terms.specs.Outcome as O
use Rattle.terms.specs.Taken.{Taken}
use Rattle.terms.specs.Taken as T
use Rattle.terms.proofs.Back.{Grown, ZeroPast, grown_same, grown_then, cut_back, add_grows, operands_grow}
use Rattle.model.specs.declared.records.Action.{Action}
use Rattle.state.specs.Code.{way_of}
use Rattle.state.specs.Slot.{slot_at}
use Rattle.state.specs.Control.{value_at}
use Rattle.state.specs.Early.{sight_of, next_action, early_of}
use Rattle.state.specs.declared.code.Way.{Way}
use Rattle.state.specs.declared.code.Way.TheVariants as W
use Rattle.state.specs.declared.control.Control.{Control}
use Rattle.rules.specs.Want.{want_of}
use Rattle.rules.specs.Effect.{place_of}
use Rattle.rules.specs.Work.{result_by, meet_new, meet_by, meet_want, given_at, try_by, try_action, worked_by, work_advance, work_by, work_on}
use Rattle.rules.specs.Made.{Layout, control_after}
use Rattle.rules.specs.Step.{stepped, refused_step, go_worked, go_on, step_on}
use Rattle.rules.specs.Asked.{Want, Refuse, Keep, Make}
use Rattle.rules.specs.declared.event.Happening.{Happening}
use Rattle.rules.specs.declared.work.Labels.{Labels}
use Rattle.rules.specs.Worked.{Worked, Refused, Done}
use Rattle.rules.specs.Out.{Out, Tried}
use Rattle.rules.specs.Out as U
use Rattle.rules.specs.Reply as R
use Rattle.rules.specs.Reply.{Stepped}

-- meeting a want, whatever comes of it
result_count : (o : Outcome) (x y c : ℕ) → (result_by o x y c).count ≡ c
result_count (O.Listed i) x y c = refl
result_count (O.New i) x y c = refl
result_count O.Deep x y c = refl
result_count O.Full x y c = refl

new_grows : (l : List ℕ) (c x y : ℕ) (e : Term) → Grown l c (meet_new l c x y e).table (meet_new l c x y e).out.count
unfolding meet_new
new_grows l c x y e = rw (result_count (add_to l c e).out.outcome x y (add_to l c e).out.count) (add_grows l c e)

want_grows : (w : Want) (l : List ℕ) (c x y : ℕ) → Grown l c (meet_by w l c x y).table (meet_by w l c x y).out.count
want_grows Refuse l c x y = grown_same
want_grows (Keep r) l c x y = grown_same
want_grows (Make e) l c x y = new_grows l c x y e

meet_grows : (l : List ℕ) (c x y : ℕ) (w : Want) → Grown l c (meet_want l c x y w).table (meet_want l c x y w).out.count
unfolding meet_want
meet_grows l c x y w = want_grows w l c x y

taken_grows : (t : Taken) (c : ℕ) (l : List ℕ) (a : Action) (v n : ℕ) → Grown l c (try_by t c l a v n).table (try_by t c l a v n).out.count
taken_grows T.Deep c l a v n = grown_same
taken_grows T.Full c l a v n = grown_same
taken_grows (T.Labels x y) c l a v n = meet_grows l c x y (want_of a (given_at l x y v n))

-- an action's operands and result, whatever comes of them
pub try_grows : {l : List ℕ} {c : ℕ} → c ≤ 512 → ZeroPast l c → (vars : List ℕ) (o : ℕ) (a : Action) (v n : ℕ)
    → Grown l c (try_action l c vars o a v n).table (try_action l c vars o a v n).out.count
unfolding try_action
try_grows {l} {c} small zeros vars o a v n =
    let r = take_operands l c vars o a.x a.y in
    grown_then (operands_grow small zeros vars o a.x a.y) (taken_grows r.out.taken r.out.count r.table a v n)

-- the table after the work of a step: as it came where that was refused, else grown to the new count
pub data WorkKept (l : List ℕ) (c : ℕ) : Held Worked → Type 0 where
  refused : {n : ℕ} → WorkKept l c (held (Refused n) l)
  done : {m : List ℕ} {r : Labels} → Grown l c m r.count → WorkKept l c (held (Done r) m)

-- table and configuration after a step
pub data StepKept (l : List ℕ) (s : Control) : Held Stepped → Type 0 where
  refused : {n : ℕ} → StepKept l s (held (refused_step n s) l)
  permitted : {m : List ℕ} {h : Happening} {t : Control} → Grown l s.count m t.count → StepKept l s (held (stepped (R.Permitted h) t) m)

module _ (l : List ℕ) (s : Control) (small : s.count ≤ 512) (zeros : ZeroPast l s.count) where
  out_kept : (o : Out) (r : Tried) (m : List ℕ) → Grown l s.count m r.count → WorkKept l s.count (worked_by o r m s.count)
  out_kept (U.Refused n) r m g = rw (cut_back small zeros g) refused
  out_kept (U.Label v) r m g = done g

  advance_kept : (actions : List ℕ) (i : ℕ) → WorkKept l s.count (work_advance l s actions i)
  unfolding work_advance
  advance_kept actions i =
      let a = next_action actions (slot_at s.frame.slots i) in
      let v = value_at 0 s.values a.loc in
      let r = try_action l s.count s.vars (place_of i 0) a v s.frame.nonce in
      out_kept r.out.out r.out r.table (try_grows small zeros s.vars (place_of i 0) a v s.frame.nonce)

  way_kept : (w : Way) (actions : List ℕ) → WorkKept l s.count (work_by w l s actions)
  way_kept W.Nothing actions = refused
  way_kept (W.Advance i) actions = advance_kept actions i
  way_kept (W.Hand i j) actions = advance_kept actions i
  way_kept (W.Reset m) actions = done grown_same

  pub work_kept : (actions : List ℕ) (code : ℕ) → WorkKept l s.count (work_on l s actions code)
  unfolding work_on
  work_kept actions code = way_kept (way_of code) actions

  worked_kept : {w : Held Worked} (g : Layout) (code : ℕ) → WorkKept l s.count w → StepKept l s (go_worked w s g code)
  unfolding control_after
  worked_kept g code refused = refused
  worked_kept g code (done grown) = permitted grown

  pub go_kept : (g : Layout) (code : ℕ) → StepKept l s (go_on l s g code)
  unfolding go_on
  go_kept g code = worked_kept g code (work_kept g.actions code)

  early_kept : (b : Bool) (n : ℕ) (g : Layout) (code : ℕ) → StepKept l s (pick b (go_on l s g code) (held (refused_step n s) l))
  early_kept true n g code = go_kept g code
  early_kept false n g code = refused

  pub step_kept : (g : Layout) (k code : ℕ) → StepKept l s (step_on l s g k code)
  unfolding step_on
  step_kept g k code =
      let n = early_of (sight_of s.frame g.actions g.locations k) code in
      early_kept (eqb n 0) n g code

  -- "A refused step gives its number, no event, and the configuration, term table included, as it came."
  refused_worked : {w : Held Worked} (n : ℕ) → WorkKept l s.count w → w.out ≡ Refused n → w.table ≡ l
  refused_worked n refused e = refl
  refused_worked n (done g) e = let z : ◌≡◌ {A = ℕ} 0 1 = cc in absurd (omega arith)

  pub work_back : (actions : List ℕ) (code n : ℕ) → (work_on l s actions code).out ≡ Refused n → (work_on l s actions code).table ≡ l
  work_back actions code n e = refused_worked n (work_kept actions code) e

  refused_stepped : {w : Held Stepped} (n : ℕ) → StepKept l s w → w.out.reply ≡ R.Refused n → w ≡ held (refused_step n s) l
  refused_stepped n refused e = rw e
  refused_stepped n (permitted g) e = let z : ◌≡◌ {A = ℕ} 0 1 = cc in absurd (omega arith)

  pub step_back : (g : Layout) (k code n : ℕ) → (step_on l s g k code).out.reply ≡ R.Refused n → step_on l s g k code ≡ held (refused_step n s) l
  step_back g k code n e = refused_stepped n (step_kept g k code) e
