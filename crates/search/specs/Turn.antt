-- One turn of the walk: the codes that refusals 1 to 7 turn down are passed together and counted as tries, then one code is
-- tried. The table is cut back to the schedule's own terms before the try.
use Rattle.std.specs.Prelude.{ℕ, ◌+◌, ◌-◌, ◌%◌, Bool, true, false, Option, None, Some, is_none, List, eqb, ltb, leb}
use Rattle.terms.specs.Base.{pick, Held, held}
use Rattle.terms.specs.Table.{cut_to}
use Rattle.model.specs.declared.records.Model.{Model}
use Rattle.state.specs.Code.{codes_below, code_from, code_after}
use Rattle.state.specs.Early.{sight_of}
use Rattle.state.specs.Seek.{seek_from}
use Rattle.state.specs.declared.control.Control.{Control}
use Rattle.rules.specs.Happened.{ended_on}
use Rattle.rules.specs.Work.{no_labels, work_on}
use Rattle.rules.specs.declared.work.Labels.{Labels}
use Rattle.rules.specs.Worked.{Worked}
use Rattle.rules.specs.Worked as W
use Rattle.machine.specs.Judge.{broken_by}
use Rattle.search.specs.Place.{at_code, pushed, settled}
use Rattle.search.specs.Answer.{room_for, schedule_put}
use Rattle.search.specs.declared.place.Place.{Place}
use Rattle.search.specs.declared.answer.Kind.{Kind}
use Rattle.search.specs.declared.answer.Kind.TheVariants.{Found, Stop, End}
use Rattle.search.specs.declared.turn.Walk.{Walk}
use Rattle.search.specs.declared.turn.Turned.{Turned}
use Rattle.search.specs.declared.turn.Step.{Step}
use Rattle.search.specs.declared.turn.Next.{Next}
use Rattle.search.specs.declared.turn.Next.TheVariants.{Nothing, Last, Longer}
use Rattle.search.specs.declared.turn.Task.{Task}

-- what a walk answers, none while it goes on
abbrev pub answer_if : Bool → Kind → Option Kind
answer_if true kind = None
answer_if false kind = Some kind

-- whether it goes on, and what it answers where it does not
abbrev pub goes : Walk → Bool
goes w = is_none w.answer

abbrev pub kind_or : Option Kind → Kind
kind_or (Some kind) = kind
kind_or None = Found

abbrev pub answered : Walk → Kind
answered w = kind_or w.answer

-- the walk: place, budget left, tries refused for size, schedules found, terms in the table, whether it goes on, and what
-- it answers where it does not
abbrev pub walk : Place → ℕ → ℕ → ℕ → ℕ → Bool → Kind → Walk
walk p left sized found filled going kind =
    record { place = p; left = left; sized = sized; found = found; filled = filled; answer = answer_if going kind }

-- how many codes stand from one number up to another
unfoldable pub between : ℕ → ℕ → ℕ
between from to = codes_below to - codes_below from

-- where that many codes more lead
unfoldable pub reached : ℕ → ℕ → ℕ
reached next n = code_from (codes_below next + n % 256)

-- one more, as long as the number fits its type
unfoldable pub one_try_more : ℕ → ℕ
one_try_more n = pick (ltb n 4294967295) (n + 1) n

-- closed at a place, after n tries more
unfoldable pub closed : Walk → Place → ℕ → Kind → Walk
closed w p n kind = walk p (w.left - n) w.sized w.found w.filled false kind

-- gone on to a code of the same schedule, or back from it where none is left, after n tries more
unfoldable pub past : Walk → ℕ → ℕ → Walk
past w next n = walk (settled (at_code w.place next)) (w.left - n) w.sized w.found w.filled true End

unfoldable pub one_sized : Walk → Walk
one_sized v = walk v.place v.left (one_try_more v.sized) v.found v.filled true End

-- "the tries refused by 8 or 9" are counted
unfoldable pub refused_by : Walk → ℕ → Walk
refused_by v n = pick (eqb n 8) (one_sized v) (pick (eqb n 9) (one_sized v) v)

abbrev pub stands_at : Walk → ℕ → Place → ℕ → Bool → Walk
stands_at v found p filled going = walk p v.left v.sized found filled going Found

-- what a listing answers that has found n: it is full, or it goes on
unfoldable pub found_all : ℕ → List ℕ → Option Kind
found_all n room = answer_if (ltb n (room_for room)) Found

-- a bad schedule goes to the lent room; the walk goes on while there is room for another
abbrev pub found_in : List ℕ → Walk → ℕ → ℕ → Held Walk
found_in room v n filled = held (stands_at v n v.place filled (ltb n (room_for room))) room

unfoldable pub found_on : List ℕ → Walk → Place → ℕ → Held Walk
found_on room v q filled = found_in (schedule_put room v.found q) v (one_try_more v.found) filled

-- a turn's outcome where a code was permitted and breaks nothing: the walk after it, and the step, which is the last where the
-- schedule is as long as the bound with it; else a longer schedule is entered by it
abbrev pub step_if : Bool → ℕ → Labels → Next
step_if true code l = Longer (record { code = code; labels = l })
step_if false code l = Last (record { code = code; labels = l })

abbrev pub turned : Walk → Bool → ℕ → Labels → Turned
turned w enters code l = record { walk = w; next = step_if enters code l }

abbrev pub is_longer : Next → Bool
is_longer Nothing = false
is_longer (Last s) = false
is_longer (Longer s) = true

abbrev pub enters : Turned → Bool
enters r = is_longer r.next

abbrev pub step_in : Next → Step
step_in Nothing = record { code = 0; labels = no_labels 0 }
step_in (Last s) = s
step_in (Longer s) = s

abbrev pub step_of : Turned → Step
step_of r = step_in r.next

-- no step comes of any other turn
abbrev pub still : Walk → Turned
still w = record { walk = w; next = Nothing }

-- a permitted code that breaks nothing: the longer schedule is entered where it is shorter than the bound
unfoldable pub entering : Walk → ℕ → ℕ → Labels → ℕ → Turned
entering v n code b bound = turned (stands_at v v.found v.place b.count true) (ltb (n + 1) bound) code b

-- an answer, and the term table, the records and the room as they are left
pub record Lent (A : Type 0) : Type 0 where
  pub out : A
  pub table : List ℕ
  pub records : List ℕ
  pub room : List ℕ

abbrev pub lent : {A : Type 0} → A → List ℕ → List ℕ → List ℕ → Lent A
lent r t l room = record { out = r; table = t; records = l; room = room }

abbrev pub lent_found : Held Walk → List ℕ → List ℕ → Lent Turned
lent_found r t l = lent (still r.out) t l r.table

-- the code was tried: refused by 8, 9 or 10, or permitted; v is the walk gone past it
abbrev pub tried_by : Worked → List ℕ → List ℕ → List ℕ → Control → Walk → Place → Model → ℕ → Task → Lent Turned
tried_by (W.Refused n) t l room s v p m code k = lent (still (refused_by v n)) t l room
tried_by (W.Done b) t l room s v p m code k =
    pick (broken_by l p.length (ended_on s.frame.slots m.actions m.lengths code) m.claim)
    (lent_found (found_on room v (pushed p code) b.count) t l)
    (lent (entering v p.length code b k.bound) t l room)

abbrev pub tried_with : Held Worked → List ℕ → List ℕ → Control → Walk → Place → Model → ℕ → Task → Lent Turned
tried_with r l room s v p m code k = tried_by r.out r.table l room s v p m code k

-- n codes are passed on the way to the code that is let through, or to 164: the budget is out on the way, none is let
-- through, the budget is out there, or that code is tried
abbrev pub passing : ℕ → ℕ → List ℕ → List ℕ → List ℕ → Control → Walk → Model → Task → Lent Turned
passing n code t l room s w m k =
    pick (ltb w.left n) (lent (still (closed w (at_code w.place (reached w.place.next w.left)) w.left Stop)) t l room)
    (pick (leb 164 code) (lent (still (past w code n)) t l room)
    (pick (eqb w.left n) (lent (still (closed w (at_code w.place code) n Stop)) t l room)
    (tried_with
    (work_on (cut_to t s.count w.filled) s m.actions code)
    l
    room
    s
    (past w (code_after code) (n + 1))
    w.place
    m
    code
    k)))

abbrev pub seeking : ℕ → List ℕ → List ℕ → List ℕ → Control → Walk → Model → Task → Lent Turned
seeking code t l room s w m k = passing (between w.place.next code) code t l room s w m k

-- a turn at configuration s: the end, where no pair is left
unfoldable pub turn_on : List ℕ → List ℕ → List ℕ → Control → Walk → Model → Task → Lent Turned
turn_on t l room s w m k =
    pick (leb 164 w.place.next) (lent (still (closed w w.place 0 End)) t l room)
    (seeking (seek_from (sight_of s.frame m.actions m.locations m.machine_count) w.place.next) t l room s w m k)
