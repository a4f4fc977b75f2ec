-- The walk from a place, within a budget, turn after turn; a listing, which fills lent room with the bad schedules met; and
-- a search, which is a listing with room for one.
use Rattle.std.specs.Prelude.{ℕ, zero, suc, ◌+◌, ◌-◌, Bool, true, false, not, List, [], map, get_or, set, replicate, eqb, ltb, leb}
use Rattle.terms.specs.Base.{pick, Held, held}
use Rattle.model.specs.declared.records.Model.{Model}
use Rattle.state.specs.declared.control.Control.{Control}
use Rattle.rules.specs.Event.{record_of, record_put}
use Rattle.rules.specs.Happened.{happened_on}
use Rattle.rules.specs.Made.{control_after, layout_of}
use Rattle.rules.specs.declared.event.Happening.{Happening}
use Rattle.audit.specs.Models.{sound_model}
use Rattle.quiet.specs.Quiet.{deepest, all_fit, all_near, calm, shallow, outline_of}
use Rattle.quiet.specs.declared.quiet.Outline.{Outline}
use Rattle.machine.specs.Recorded.{Left}
use Rattle.search.specs.Place.{level_of, pushed, settled}
use Rattle.search.specs.Answer.{listed, refused_listing, room_for, answer_of}
use Rattle.search.specs.Enter.{in_bounds, control_at, enter_on}
use Rattle.search.specs.Turn.{goes, answered, walk, stands_at, enters, step_of, turned, Lent, lent, turn_on}
use Rattle.search.specs.declared.place.Place.{Place}
use Rattle.search.specs.declared.answer.Kind.TheVariants.{Found, End}
use Rattle.search.specs.declared.answer.Answer.{Answer}
use Rattle.search.specs.declared.answer.Listing.{Listing}
use Rattle.search.specs.Enter.{Entered}
use Rattle.search.specs.declared.turn.Walk.{Walk}
use Rattle.search.specs.declared.turn.Step.{Step}
use Rattle.search.specs.declared.turn.Turned.{Turned}
use Rattle.search.specs.declared.turn.Task.{Task}

-- what changes in a walk: the walk, the configuration of each shorter schedule, the depth of its deepest term, the term table,
-- the records, the room
pub record Scene : Type 0 where
  pub walk : Walk
  pub stack : List Control
  pub deeps : List ℕ
  pub table : List ℕ
  pub records : List ℕ
  pub room : List ℕ

abbrev pub scene : Walk → List Control → List ℕ → List ℕ → List ℕ → List ℕ → Scene
scene w stack deeps t l room = record { walk = w; stack = stack; deeps = deeps; table = t; records = l; room = room }

-- nothing is entered from a schedule that is one longer than n, and there is budget for all its codes
unfoldable pub at_last : ℕ → ℕ → ℕ → Bool
at_last left n bound = pick (ltb left 160) false (leb bound (n + 2))

-- such a schedule, with these slots and count: no code can break the claim, and there is room
unfoldable pub quiet_at : ℕ → ℕ → Task → List ℕ → List ℕ → ℕ → Bool
quiet_at left n k slots lengths count = pick (at_last left n k.bound) (calm slots lengths count k.outline) false

-- its codes are all plain, by the depths of its terms, or of the operands of its next actions, or by what those come to
unfoldable pub passes_soon : Bool → ℕ → Outline → List ℕ → List ℕ → List ℕ → Bool
passes_soon quiet deep g t slots actions = pick (not quiet) false (pick (shallow deep g) true (all_near t slots actions deep))

unfoldable pub passes_late : Bool → List ℕ → List ℕ → List ℕ → List ℕ → List ℕ → Bool
passes_late quiet t slots values vars actions = pick quiet (all_fit t slots values vars actions) false

-- all codes of a schedule are passed
unfoldable pub spent_all : Walk → Walk
spent_all w = walk w.place (w.left - 160) w.sized w.found w.filled true End

-- the schedule that is one longer, its configuration kept on the stack: its 160 codes are passed at once where they are all
-- plain; else the walk stands at it, and its last event h is recorded
abbrev pub entered_late : Bool → Lent Turned → Place → Happening → List Control → List ℕ → Scene
entered_late late r p h stack deeps =
    pick late (scene (spent_all r.out.walk) stack deeps r.table r.records r.room)
    (scene
    (stands_at r.out.walk r.out.walk.found (pushed p (step_of r.out).code) (step_of r.out).labels.count true)
    stack
    deeps
    r.table
    (record_put r.records p.length (record_of h))
    r.room)

-- the schedule with configuration c, deepest term d and last event h is entered from the one at a level; its codes are passed
-- without keeping c where that is plain from its slots and depths alone
abbrev pub entered_by : Model → Task → Bool → Lent Turned → Place → Happening → Control → ℕ → ℕ → List Control → List ℕ → Scene
entered_by m k quiet r p h c d level stack deeps =
    pick (passes_soon quiet d k.outline r.table c.frame.slots m.actions)
    (scene (spent_all r.out.walk) stack deeps r.table r.records r.room)
    (entered_late
    (passes_late quiet r.table c.frame.slots c.values c.vars m.actions)
    r
    p
    h
    (set stack (level + 1) c)
    (set deeps (level + 1) d))

abbrev pub entered_from : Model → Task → Lent Turned → Place → Happening → Control → ℕ → ℕ → List Control → List ℕ → Scene
entered_from m k r p h c d level stack deeps =
    entered_by m k (quiet_at r.out.walk.left p.length k c.frame.slots m.lengths c.count) r p h c d level stack deeps

-- where a schedule is entered from the place p its configuration is the step made from s, whose deepest term is at depth d
abbrev pub longer_by : Model → Task → Lent Turned → Place → Control → ℕ → ℕ → List Control → List ℕ → Scene
longer_by m k r p s d level stack deeps =
    entered_from
    m
    k
    r
    p
    (happened_on s.frame m.actions m.lengths (step_of r.out).code (step_of r.out).labels)
    (control_after s (layout_of m) (step_of r.out).code (step_of r.out).labels)
    (deepest r.table d s.count (step_of r.out).labels.count)
    level
    stack
    deeps

abbrev pub scene_after : Model → Task → Lent Turned → Place → Control → ℕ → ℕ → List Control → List ℕ → Scene
scene_after m k r p s d level stack deeps =
    pick (enters r.out) (longer_by m k r p s d level stack deeps) (scene r.out.walk stack deeps r.table r.records r.room)

abbrev pub scene_from : Model → Task → Scene → Control → ℕ → ℕ → Scene
scene_from m k x s d level =
    scene_after m k (turn_on x.table x.records x.room s x.walk m k) x.walk.place s d level x.stack x.deeps

abbrev pub deep_at : List ℕ → ℕ → ℕ
deep_at deeps n = get_or deeps (level_of n) 0

-- the schedule that is one longer than that of place p, with no room: v is the walk after the turn that found the step
unfoldable pub longer : Model → Task → List ℕ → List ℕ → Place → Walk → Step → List Control → List ℕ → Scene
longer m k t l p v f stack deeps =
    longer_by m k (lent (turned v true f.code f.labels) t l []) p (control_at stack p.length) (deep_at deeps p.length) (level_of p.length) stack deeps

-- one turn
unfoldable pub turned_on : Model → Task → Scene → Scene
turned_on m k x =
    scene_from m k x (control_at x.stack x.walk.place.length) (deep_at x.deeps x.walk.place.length) (level_of x.walk.place.length)

abbrev pub going_on : Bool → Scene → (Scene → Scene) → Scene
going_on true x rest = rest x
going_on false x rest = x

-- at most n turns
unfoldable pub walk_in : ℕ → Model → Task → Scene → Scene
walk_in zero m k x = x
walk_in (suc n) m k x = going_on (goes x.walk) x (λ y. walk_in n m k (turned_on m k y))

-- every turn that leaves the walk going spends of the budget
unfoldable pub walk_on : Model → Task → Scene → Scene
walk_on m k x = walk_in (x.walk.left + 1) m k x

-- the walk before its first turn
unfoldable pub first_walk : Entered → ℕ → Bool → Walk
first_walk e budget going =
    walk (settled e.place) budget 0 0 (control_at e.stack e.place.length).count going Found

abbrev pub lent_scene : Scene → Lent Walk
lent_scene x = lent x.walk x.table x.records x.room

-- the depth of the deepest term of each configuration
unfoldable pub deeps_of : List ℕ → List Control → List ℕ
deeps_of t stack = map (λ (s : Control). deepest t 0 0 s.count) stack

-- the walk from a place that was entered
unfoldable pub walk_from : List ℕ → List ℕ → List ℕ → Model → Entered → ℕ → Task → Lent Walk
walk_from t l room m e budget k =
    lent_scene (walk_on m k (scene (first_walk e budget (ltb 0 (room_for room))) e.stack (deeps_of t e.stack) t l room))

abbrev pub task : Model → ℕ → Task
task m bound = record { bound = bound; outline = outline_of m }

-- "Bound 1 to 24, else 41"
unfoldable pub bound_fits : ℕ → Bool
bound_fits bound = pick (eqb bound 0) false (leb bound 24)

-- a walk that is over as a listing, with the tables as the walk left them
abbrev pub walked : Lent Walk → ℕ → Lent Listing
walked r budget = lent (listed (answered r.out) r.out.found (budget - r.out.left) r.out.sized r.out.place) r.table r.records r.room

abbrev pub listing_walked : Lent Walk → ℕ → Held Listing
listing_walked r budget = held (walked r budget).out r.room

abbrev pub listing_entered : Left Entered → Model → ℕ → ℕ → List ℕ → Held Listing
listing_entered e m bound budget room =
    pick e.out.good (listing_walked (walk_from e.table e.records room m e.out budget (task m bound)) budget)
    (held (refused_listing 40) room)

-- "Order: 11, 41, 40; all answer fields are then zero"; the room takes the bad schedules met, in order, and stays as lent past them
unfoldable pub listing_on : Model → ℕ → Place → ℕ → List ℕ → Held Listing
listing_on m bound p budget room =
    pick (not (sound_model m)) (held (refused_listing 11) room)
    (pick (not (bound_fits bound)) (held (refused_listing 41) room)
    (pick (not (in_bounds p bound)) (held (refused_listing 40) room)
    (listing_entered (enter_on m.lines (replicate 288 0) m p) m bound budget room)))

-- the first bad schedule from a place
unfoldable pub search_on : Model → ℕ → Place → ℕ → Answer
search_on m bound p budget = answer_of (listing_on m bound p budget (replicate 25 0))
