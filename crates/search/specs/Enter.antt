-- "Place schedules must be permitted, unbroken and shorter than the bound, the next code a code or 164": the steps of the
-- schedule are made from the fresh configuration, and the configuration of each shorter schedule is kept.
use Rattle.std.specs.Prelude.{ℕ, zero, suc, ◌+◌, Bool, true, false, not, List, [], get_or, set, replicate, eqb, leb, Result, Ok, Err}
use Rattle.terms.specs.Base.{pick, Held, held}
use Rattle.model.specs.declared.records.Claim.{Claim}
use Rattle.model.specs.declared.records.Model.{Model}
use Rattle.state.specs.Code.{is_code}
use Rattle.state.specs.Control.{fresh_control}
use Rattle.state.specs.Refusal.{number_of}
use Rattle.state.specs.declared.refusal.Refusal.{Refusal}
use Rattle.state.specs.declared.control.Control.{Control}
use Rattle.rules.specs.Event.{record_of, record_put}
use Rattle.rules.specs.Step.{step_on}
use Rattle.rules.specs.declared.event.Happening.{Happening}
use Rattle.rules.specs.Reply.{Reply, Refused, Permitted, Stepped}
use Rattle.rules.specs.Made.{layout_of}
use Rattle.machine.specs.Judge.{breaks_on}
use Rattle.machine.specs.Recorded.{Left, left}
use Rattle.search.specs.Place.{start_place, at_code, level_of, code_in, pushed}
use Rattle.search.specs.declared.place.Place.{Place}

-- shorter than the bound, and a code, or 164, to try next
unfoldable pub in_bounds : Place → ℕ → Bool
in_bounds p bound = pick (leb bound p.length) false (pick (eqb p.next 164) true (is_code p.next))

-- stands for a configuration past the stack, where none is looked for
abbrev pub no_control : Control
no_control = record { frame = record { slots = []; locks = []; steps = 0; serial = 0; nonce = 0 }; values = []; vars = []; count = 0 }

-- the configuration at a schedule's length
abbrev pub control_at : List Control → ℕ → Control
control_at stack n = get_or stack (level_of n) no_control

-- whether a step went on unbroken, and the configuration that it leaves
pub record Gone : Type 0 where
  pub good : Bool
  pub control : Control

abbrev pub gone : Bool → Control → Gone
gone good s = record { good = good; control = s }

-- a step that was permitted leaves its record at place i
abbrev pub recorded : List ℕ → ℕ → Claim → Held Bool
recorded l i c = held (not (breaks_on l i c)) l

abbrev pub goes_by : Reply → List ℕ → ℕ → Claim → Held Bool
goes_by (Refused n) l i c = held false l
goes_by (Permitted h) l i c = recorded (record_put l i (record_of h)) i c

-- whether step i was permitted and leaves the claim unbroken
unfoldable pub goes_on : List ℕ → ℕ → Reply → Claim → Held Bool
goes_on l i r c = goes_by r l i c

abbrev pub went_by : Held Bool → Control → Held Gone
went_by h s = held (gone h.out s) h.table

abbrev pub went_on : List ℕ → ℕ → Stepped → Claim → Held Gone
went_on l i r c = went_by (goes_on l i r.reply c) r.control

-- a step's reply as the code has it
abbrev pub reply_of : Result Happening Refusal → Reply
reply_of (Ok h) = Permitted h
reply_of (Err r) = Refused (number_of r)

-- whether the place is good, the configurations on the way, and the place itself, zero past its length
pub record Entered : Type 0 where
  pub good : Bool
  pub stack : List Control
  pub place : Place

abbrev pub entry : Bool → List Control → Place → Entered
entry good stack p = record { good = good; stack = stack; place = p }

-- Ok is the place entered, Err how far it was
abbrev pub entry_of : Result Place Place → List Control → Entered
entry_of (Ok p) stack = entry true stack p
entry_of (Err p) stack = entry false stack p

-- the configurations on the way so far, the place of the schedule so far, the term table and the records
pub record Climb : Type 0 where
  pub stack : List Control
  pub place : Place
  pub table : List ℕ
  pub records : List ℕ

abbrev pub climb : List Control → Place → List ℕ → List ℕ → Climb
climb stack p t l = record { stack = stack; place = p; table = t; records = l }

abbrev pub entered : Bool → Place → Climb → Left Entered
entered good p x = left (entry good x.stack p) x.table x.records

-- one step further up
abbrev pub climb_by : Held Gone → List ℕ → ℕ → ℕ → Climb → Climb
climb_by g t i code x = climb (set x.stack (level_of i + 1) g.out.control) (pushed x.place code) t g.table

abbrev pub on_good : Bool → (Climb → Left Entered) → Climb → Left Entered
on_good true rest x = rest x
on_good false rest x = entered false x.place x

abbrev pub enter_went : Held Gone → List ℕ → (Climb → Left Entered) → ℕ → ℕ → Climb → Left Entered
enter_went g t rest i code x = on_good g.out.good rest (climb_by g t i code x)

abbrev pub enter_step : Held Stepped → (Climb → Left Entered) → Claim → ℕ → ℕ → Climb → Left Entered
enter_step r rest c i code x = enter_went (went_on x.records i r.out c) r.table rest i code x

-- the n steps from step i on
unfoldable pub enter_in : ℕ → Model → Place → ℕ → Climb → Left Entered
enter_in zero m p i x = entered true (at_code x.place p.next) x
enter_in (suc n) m p i x =
    enter_step
    (step_on x.table (control_at x.stack i) (layout_of m) m.machine_count (code_in p.codes i))
    (λ y. enter_in n m p (i + 1) y)
    m.claim
    i
    (code_in p.codes i)
    x

-- all steps of the schedule, from the fresh configuration on
unfoldable pub enter_on : List ℕ → List ℕ → Model → Place → Left Entered
enter_on t l m p = enter_in p.length m p 0 (climb (replicate 25 (fresh_control m)) start_place t l)
