-- What holds along every schedule: a configuration's table has at most 512 terms and is zero past them, it only grows from step
-- to step, and each step adds one event. So the table of a longer schedule, cut back, is that of the shorter one.
use Prim.Native.Nat.{ℕ, suc, ◌<◌, ◌≤◌}
use mathlib.Core.Bool.{Bool, true, false}
use mathlib.Core.List.{List, [], ◌∷◌, ◌++◌}
use mathlib.Core.Path.{◌≡◌, refl, ap, ◌∙◌, subst}
use native.Mathlib.Omega.{arith}
use lib.ListN.{length, length-append}
use lib.Dec.{eqb}
use borrow.Author.Tests.{eqb-true, eqb-false, eq-eqb, ne_eqb}
use Rattle.terms.specs.Base.{pick, Held, held}
use Rattle.terms.proofs.Back.{Grown, ZeroPast, grown_same, grown_zero}
use Rattle.model.specs.Fields.{either}
use Rattle.model.specs.declared.records.Model.{Model}
use Rattle.state.specs.Code.{is_code}
use Rattle.state.specs.Early.{Sight, sight_of, early_of}
use Rattle.state.specs.declared.control.Control.{Control}
use Rattle.state.proofs.Codes.{one_iff}
use Rattle.state.proofs.Turned.{early_seven}
use Rattle.rules.specs.Work.{work_on}
use Rattle.rules.specs.Happened.{happened_on}
use Rattle.rules.specs.Made.{control_after, layout_of}
use Rattle.rules.specs.Step.{stepped, refused_step, go_worked, go_on, step_on}
use Rattle.rules.specs.declared.event.Happening.{Happening}
use Rattle.rules.specs.Reply as R
use Rattle.rules.specs.Reply.{Stepped}
use Rattle.rules.specs.declared.work.Labels.{Labels}
use Rattle.rules.specs.Worked.{Worked}
use Rattle.rules.specs.Worked as W
use Rattle.rules.proofs.Back.{StepKept, refused, permitted, step_kept}
use Rattle.machine.specs.Claim.{breaks_claim}
use Rattle.walk.specs.Machine.{Outcome}
use Rattle.walk.specs.Machine as O
use Rattle.walk.specs.Place.{at, landed, went_on, unbroken}
use Rattle.walk.proofs.Fit.{both_true}
use Rattle.law.specs.Machines.{LabelsConf, conf, tried_labels}
use Rattle.tries.specs.Labels.{judge_of, try_code, labels}
use Rattle.tries.proofs.Codes.{code_low}

-- Refusals 1 to 7

abbrev pub sight_at : Model → LabelsConf → Sight
sight_at m c = sight_of c.control.frame m.actions m.locations m.machine_count

-- what they turn down is refused, and not for size
pub try_early : (m : Model) (c : LabelsConf) (k : ℕ) → (early_of (sight_at m c) k ≡ 0 → ⊥) → try_code m c k ≡ O.refused
unfolding try_code step_on
try_early m c k f =
    let n : ℕ = early_of (sight_at m c) k in
    let l : n ≤ 7 = early_seven (sight_at m c) k in
    rw (ne_eqb n 0 f, ne_eqb n 8 (λ e. omega arith), ne_eqb n 9 (λ e. omega arith))

-- what they let through goes by its work on the table
abbrev pub work_at : Model → LabelsConf → ℕ → Held Worked
work_at m c k = work_on c.table c.control m.actions k

abbrev pub event_at : Model → LabelsConf → ℕ → Labels → Happening
event_at m c k l = happened_on c.control.frame m.actions m.lengths k l

abbrev pub conf_at : Model → LabelsConf → ℕ → Labels → LabelsConf
conf_at m c k l = conf (work_at m c k).table (control_after c.control (layout_of m) k l) (c.events ++ (event_at m c k l ∷ []))

try_late : (m : Model) (c : LabelsConf) (k : ℕ) → early_of (sight_at m c) k ≡ 0 → try_code m c k ≡ tried_labels (judge_of m) c.events
    (go_worked (work_at m c k) c.control (layout_of m) k)
unfolding try_code step_on go_on
try_late m c k e = rw (eq-eqb _ _ e)

pub try_refused : (m : Model) (c : LabelsConf) (k n : ℕ) → early_of (sight_at m c) k ≡ 0 → (work_at m c k).out ≡ W.Refused n →
    try_code m c k ≡ pick (either (eqb n 8) (eqb n 9)) O.too_big O.refused
try_refused m c k n e f = try_late m c k e ∙ rw f

pub try_done : (m : Model) (c : LabelsConf) (k : ℕ) (l : Labels) → early_of (sight_at m c) k ≡ 0 → (work_at m c k).out ≡ W.Done l →
    try_code m c k ≡ pick (breaks_claim m.claim c.events (event_at m c k l)) O.breaks (O.goes (conf_at m c k l))
try_done m c k l e f = try_late m c k e ∙ rw f

-- A step by what came of it: refused, and the schedule does not go on; or permitted, with its event
pub data Went (m : Model) (c : LabelsConf) (k : ℕ) : Held Stepped → Type 0 where
  no : (n : ℕ) (s : Control) (t : List ℕ) → went_on (try_code m c k) ≡ false → Went m c k (held (stepped (R.Refused n) s) t)
  yes : (b : Labels) → try_code m c k ≡ pick (breaks_claim m.claim c.events (event_at m c k b)) O.breaks (O.goes (conf_at m c k b)) →
      Went m c k (held (stepped (R.Permitted (event_at m c k b)) (control_after c.control (layout_of m) k b)) (work_at m c k).table)

not_size : (b : Bool) → went_on {C = LabelsConf} (pick b O.too_big O.refused) ≡ false
not_size true = refl
not_size false = refl

pub step_went : (m : Model) (c : LabelsConf) (k : ℕ) → Went m c k (step_on c.table c.control (layout_of m) m.machine_count k)
unfolding step_on go_on
step_went m c k = go (eqb (early_of (sight_at m c) k) 0) refl (work_at m c k).out refl
  where
    go : (b : Bool) → eqb (early_of (sight_at m c) k) 0 ≡ b → (w : Worked) → (work_at m c k).out ≡ w →
        Went m c k (pick b (go_on c.table c.control (layout_of m) k) (held (refused_step (early_of (sight_at m c) k) c.control) c.table))
    go true e (W.Refused n) f = rw f (no n c.control (work_at m c k).table
        (ap went_on (try_refused m c k n (eqb-true _ _ e) f) ∙ not_size (either (eqb n 8) (eqb n 9))))
    go true e (W.Done b) f = rw f (yes b (try_done m c k b (eqb-true _ _ e) f))
    go false e w f = no (early_of (sight_at m c) k) c.control c.table (ap went_on (try_early m c k (eqb-false _ _ e)))

-- what goes on is a code
pub went_code : (m : Model) (c : LabelsConf) (k : ℕ) (d : LabelsConf) → try_code m c k ≡ O.goes d → k < 164
went_code m c k d e = go (is_code k) refl
  where
    go : (b : Bool) → is_code k ≡ b → k < 164
    go true f = code_low k f
    go false f =
        let one : early_of (sight_at m c) k ≡ 1 = (one_iff (sight_at m c) k).1 f in
        let g : try_code m c k ≡ O.refused = try_early m c k (λ h. omega arith) in
        absurd (let z : ◌≡◌ {A = ℕ} 0 1 = cc in omega arith)

-- Tables

pub record Sane (c : LabelsConf) : Type 0 where
  pub small : c.control.count ≤ 512
  pub zeros : ZeroPast c.table c.control.count

pub data Kept (c : LabelsConf) : Outcome LabelsConf → Type 0 where
  was_refused : Kept c O.refused
  was_big : Kept c O.too_big
  was_bad : Kept c O.breaks
  went : {d : LabelsConf} (h : Happening) → Grown c.table c.control.count d.table d.control.count → d.events ≡ c.events ++ (h ∷ []) →
      Kept c (O.goes d)

size_kept : (c : LabelsConf) (b : Bool) → Kept c (pick b O.too_big O.refused)
size_kept c true = was_big
size_kept c false = was_refused

claim_kept : (c d : LabelsConf) (h : Happening) (b : Bool) → Grown c.table c.control.count d.table d.control.count →
    d.events ≡ c.events ++ (h ∷ []) →
    Kept c (pick b O.breaks (O.goes d))
claim_kept c d h true g e = was_bad
claim_kept c d h false g e = went h g e

by_kept : (m : Model) (c : LabelsConf) {w : Held Stepped} → StepKept c.table c.control w → Kept c (tried_labels (judge_of m) c.events w)
by_kept m c (refused {n = n}) = size_kept c (either (eqb n 8) (eqb n 9))
by_kept m c (permitted {m = l} {h = h} {t = t} g) = claim_kept c (conf l t (c.events ++ (h ∷ []))) h (breaks_claim m.claim c.events h) g refl

pub try_kept : (m : Model) (c : LabelsConf) → Sane c → (k : ℕ) → Kept c (try_code m c k)
unfolding try_code
try_kept m c s k = by_kept m c (step_kept c.table c.control s.small s.zeros (layout_of m) m.machine_count k)

landed_grows : (c : LabelsConf) {o : Outcome LabelsConf} → Kept c o → Grown c.table c.control.count (landed c o).table (landed c o).control.count
landed_grows c was_refused = grown_same
landed_grows c was_big = grown_same
landed_grows c was_bad = grown_same
landed_grows c (went h g e) = g

landed_sane : (c : LabelsConf) {o : Outcome LabelsConf} → Sane c → Kept c o → Sane (landed c o)
landed_sane c s k =
    let g = landed_grows c k in
    record { small = g.fits s.small; zeros = grown_zero s.zeros g }

went_events : (c : LabelsConf) {o : Outcome LabelsConf} → Kept c o → went_on o ≡ true → length (landed c o).events ≡ suc (length c.events)
went_events c was_refused e = absurd (let z : ◌≡◌ {A = ℕ} 0 1 = cc in omega arith)
went_events c was_big e = absurd (let z : ◌≡◌ {A = ℕ} 0 1 = cc in omega arith)
went_events c was_bad e = absurd (let z : ◌≡◌ {A = ℕ} 0 1 = cc in omega arith)
went_events c (went h g f) e = rw (f, length-append c.events (h ∷ [])) (omega arith)

-- a property of the events that a longer run passes on to the shorter one
landed_events : (P : List Happening → Type 0) → ((hs : List Happening) (h : Happening) → P (hs ++ (h ∷ [])) → P hs) →
    (c : LabelsConf) {o : Outcome LabelsConf} → Kept c o →
    P (landed c o).events → P c.events
landed_events P f c was_refused p = p
landed_events P f c was_big p = p
landed_events P f c was_bad p = p
landed_events P f c (went h g e) p = f c.events h (subst P e p)

-- along every schedule
module _ (m : Model) (start : Sane (labels m).fresh) where
  pub at_sane : (up : List ℕ) → Sane (at (labels m) up)
  unfolding at
  at_sane [] = start
  at_sane (k ∷ up) = landed_sane (at (labels m) up) (at_sane up) (try_kept m (at (labels m) up) (at_sane up) k)

  pub at_grows : (k : ℕ) (up : List ℕ) →
      Grown (at (labels m) up).table (at (labels m) up).control.count (at (labels m) (k ∷ up)).table (at (labels m) (k ∷ up)).control.count
  unfolding at
  at_grows k up = landed_grows (at (labels m) up) (try_kept m (at (labels m) up) (at_sane up) k)

  pub at_long : (up : List ℕ) → unbroken (labels m) up ≡ true → length (at (labels m) up).events ≡ length up
  unfolding at unbroken
  at_long [] e = refl
  at_long (k ∷ up) e =
      let b = both_true _ _ e in
      went_events (at (labels m) up) (try_kept m (at (labels m) up) (at_sane up) k) b.1 ∙ ap suc (at_long up b.0)

  pub at_events : (P : List Happening → Type 0) → ((hs : List Happening) (h : Happening) → P (hs ++ (h ∷ [])) → P hs) → (k : ℕ) (up : List ℕ) →
      P (at (labels m) (k ∷ up)).events → P (at (labels m) up).events
  unfolding at
  at_events P f k up p = landed_events P f (at (labels m) up) (try_kept m (at (labels m) up) (at_sane up) k) p
