-- The event of a permitted step and its record, twelve plain numbers. "Each permitted step gives one event: its kind and
-- its data".
use Rattle.std.specs.Prelude.{ℕ, ◌+◌, ◌*◌, ◌/◌, List, [], ◌∷◌, length, get_or, ltb}
use Rattle.std.proofs.lemmas.List.Edits.{sets}
use Rattle.terms.specs.Base.{pick}
use Rattle.state.specs.Ended.{endings_of, first_ended, second_ended}
use Rattle.state.specs.declared.ended.Ended.{Ended}
use Rattle.rules.specs.declared.event.Deed.{Deed}
use Rattle.rules.specs.declared.event.Event.{Event}
use Rattle.rules.specs.declared.event.Event.TheVariants.{Jump, Launch, Reset, HandOver, Action}
use Rattle.rules.specs.declared.event.Happening.{Happening}
use Rattle.rules.specs.declared.event.Record.{Record}

-- "the mover's (sender's) serial, loc field and labels of ground x, y and result .., 0 where none"
abbrev pub deed : ℕ → ℕ → ℕ → ℕ → ℕ → Deed
deed serial loc x y result = record { serial = serial; loc = loc; x = x; y = y; result = result }

-- "all but a reset"
abbrev pub no_deed : Deed
no_deed = deed 0 0 0 0 0

abbrev pub happening : Event → Ended → Happening
happening e n = record { event = e; ended = n }

-- op (19 jump, 20 launch, 21 reset, 22 hand-over), serial, loc, x, y, result, program, machine, other thread, number of
-- endings, and their programs
unfoldable pub numbered : ℕ → Deed → ℕ → ℕ → ℕ → Ended → Record
numbered op d program machine thread n = record {
  numbers =
      op ∷ d.serial ∷ d.loc ∷ d.x ∷ d.y ∷ d.result ∷ program ∷ machine ∷ thread
      ∷ endings_of n ∷ first_ended n ∷ second_ended n ∷ [];
}

-- "a jump its program, a launch its new thread, a launch or reset its machine, a reset its new thread, a hand-over both
-- serials"
abbrev pub record_by : Event → Ended → Record
record_by (Jump d program) n = numbered 19 d program 0 0 n
record_by (Launch d machine thread) n = numbered 20 d 0 machine thread n
record_by (Reset machine thread) n = numbered 21 no_deed 0 machine thread n
record_by (HandOver d receiver) n = numbered 22 d 0 0 receiver n
record_by (Action d op) n = numbered op d 0 0 0 n

unfoldable pub record_of : Happening → Record
record_of h = record_by h.event h.ended

-- how many records a lent table has room for
unfoldable pub room_in : List ℕ → ℕ
room_in l = length l / 12

-- a number of record i, 0 where there is none
unfoldable pub number_at : List ℕ → ℕ → ℕ → ℕ
number_at l i field = get_or l (i * 12 + field) 0

-- the table with a record put at place i; where there is no room it stays as it is
unfoldable pub record_put : List ℕ → ℕ → Record → List ℕ
record_put l i r = pick (ltb (length l) (i * 12 + 12)) l (sets l (i * 12) r.numbers)
