-- A run: codes are tried one after the other. "A refused step leaves the run going. A permitted step whose event finds the
-- table full stops the run with 12, before that step is made. Records past those written stay as lent."
use Rattle.std.specs.Prelude.{ℕ, ◌+◌, List, [], ◌∷◌, length, take, set, eqb, ltb, leb}
use Rattle.terms.specs.Base.{pick, filled, Held, held}
use Rattle.terms.specs.Table.{cut_to}
use Rattle.model.specs.declared.records.Model.{Model}
use Rattle.state.specs.Control.{one_more}
use Rattle.state.specs.declared.control.Control.{Control}
use Rattle.rules.specs.Event.{record_of, room_in, record_put}
use Rattle.rules.specs.Made.{Layout, layout_of}
use Rattle.rules.specs.Step.{step_on}
use Rattle.rules.specs.declared.event.Happening.{Happening}
use Rattle.rules.specs.Reply.{Reply, Refused, Permitted, Stepped}
use Rattle.machine.specs.Recorded.{Left, left}
use Rattle.machine.specs.Step.{is_sound}
use Rattle.runs.specs.declared.run.Ran.{Ran}

-- the answer to one code, 0 where it is permitted, the configuration then, and the number of events recorded
pub record Outcome : Type 0 where
  pub number : ℕ
  pub control : Control
  pub events : ℕ

abbrev pub outcome : ℕ → Control → ℕ → Outcome
outcome number s events = record { number = number; control = s; events = events }

abbrev pub ran : Control → ℕ → ℕ → Ran
ran s events tried = record { control = s; events = events; tried = tried }

-- a permitted step from s to next, made on table l: the table of records is full, and the step's terms are taken back; or
-- its event is recorded
unfoldable pub permitted_on : List ℕ → List ℕ → Control → Control → Happening → ℕ → Left Outcome
permitted_on l rs s next h events =
    pick (leb (room_in rs) events)
    (left (outcome 12 s events) (cut_to l s.count next.count) rs)
    (left (outcome 0 next (one_more events)) l (record_put rs events (record_of h)))

abbrev pub turn_by : Reply → List ℕ → List ℕ → Control → Control → ℕ → Left Outcome
turn_by (Refused n) l rs s next events = left (outcome n s events) l rs
turn_by (Permitted h) l rs s next events = permitted_on l rs s next h events

-- what a tried step makes of the run
unfoldable pub turn_on : List ℕ → List ℕ → Control → Stepped → ℕ → Left Outcome
turn_on l rs s r events = turn_by r.reply l rs s r.control events

abbrev pub turn_from : Held Stepped → List ℕ → Control → ℕ → Left Outcome
turn_from w rs s events = turn_on w.table rs s w.out events

-- one code; g is what the steps read of a model, k its number of machines
unfoldable pub one_turn : Layout → ℕ → List ℕ → List ℕ → Control → ℕ → ℕ → Left Outcome
one_turn g k l rs s events code = turn_from (step_on l s g k code) rs s events

-- the end of a run, and the three lent tables as they are left
pub record Course : Type 0 where
  pub ran : Ran
  pub table : List ℕ
  pub answers : List ℕ
  pub records : List ℕ

abbrev pub course : Ran → List ℕ → List ℕ → List ℕ → Course
course r l ans rs = record { ran = r; table = l; answers = ans; records = rs }

-- code number i is answered; the run stops, or goes on with the codes left
abbrev pub go_by : Left Outcome → List ℕ → ℕ → (Left Outcome → List ℕ → Course) → Course
go_by u ans i more =
    pick (eqb u.out.number 12)
    (course (ran u.out.control u.out.events (i + 1)) u.table (set ans i u.out.number) u.records)
    (more u (set ans i u.out.number))

-- the codes left are tried, the next being number i
unfoldable pub steps_from : List ℕ → ℕ → Layout → ℕ → List ℕ → List ℕ → List ℕ → Control → ℕ → Course
steps_from [] i g k l ans rs s events = course (ran s events i) l ans rs
steps_from (code ∷ codes) i g k l ans rs s events =
    go_by (one_turn g k l rs s events code) ans i
    (λ u answered. steps_from codes (i + 1) g k u.table answered u.records u.out.control u.out.events)

unfoldable pub shorter : ℕ → ℕ → ℕ
shorter m n = pick (ltb m n) m n

-- as many codes are tried as there are answers for
abbrev pub tried_of : List ℕ → List ℕ → List ℕ
tried_of codes ans = take (shorter (length codes) (length ans)) codes

unfoldable pub steps_on : Layout → ℕ → List ℕ → Control → List ℕ → List ℕ → List ℕ → Course
steps_on g k l s codes ans rs = steps_from (tried_of codes ans) 0 g k l ans rs s 0

-- each code is refused by 11
abbrev pub refused_all : ℕ → Control → List ℕ → Held Ran
refused_all n s ans = held (ran s 0 n) (filled 11 n 0 ans)

unfoldable pub all_refused : Control → List ℕ → List ℕ → Held Ran
all_refused s codes ans = refused_all (shorter (length codes) (length ans)) s ans

-- nothing else is touched
abbrev pub untouched : Held Ran → List ℕ → List ℕ → Course
untouched r l rs = course r.out l r.table rs

-- a configuration is checked once, as steps keep it sound; in an unsound one every step is refused by 11
unfoldable pub run_on : List ℕ → Model → Control → List ℕ → List ℕ → List ℕ → Course
run_on l m s codes ans rs =
    pick (is_sound m l s)
    (steps_on (layout_of m) m.machine_count l s codes ans rs)
    (untouched (all_refused s codes ans) l rs)
