-- What a step does with the table: "the operands (8, then 9); 10; the result (8, then 9)". A refusal cuts the table back.
use Rattle.std.specs.Prelude.{ℕ, ◌%◌, List, Result, Ok, Err, eqb}
use Rattle.terms.specs.Base.{pick, Held, held}
use Rattle.terms.specs.Line.{term_at}
use Rattle.terms.specs.Table.{add_to, cut_to}
use Rattle.terms.specs.Subst.{take_operands}
use Rattle.terms.specs.declared.term.Term.{Term}
use Rattle.terms.specs.Outcome.{Added, Outcome}
use Rattle.terms.specs.Outcome as O
use Rattle.terms.specs.Taken.{Taken, Operands}
use Rattle.terms.specs.Taken as T
use Rattle.model.specs.declared.records.Action.{Action}
use Rattle.state.specs.Slot.{slot_at}
use Rattle.state.specs.Code.{way_of}
use Rattle.state.specs.Control.{value_at}
use Rattle.state.specs.Early.{next_action}
use Rattle.state.specs.Refusal.{number_of}
use Rattle.state.specs.declared.refusal.Refusal.{Refusal}
use Rattle.state.specs.declared.code.Way.{Way}
use Rattle.state.specs.declared.code.Way.TheVariants as W
use Rattle.state.specs.declared.control.Control.{Control}
use Rattle.rules.specs.Want.{operands_given, want_of}
use Rattle.rules.specs.Effect.{place_of}
use Rattle.rules.specs.Asked.{Want, Refuse, Keep, Make}
use Rattle.rules.specs.Worked.{Worked, Refused, Done}
use Rattle.rules.specs.Out.{Out, Tried}
use Rattle.rules.specs.Out as U
use Rattle.rules.specs.declared.want.Given.{Given}
use Rattle.rules.specs.declared.work.Labels.{Labels}
use Rattle.rules.specs.declared.work.Met.{Met}

-- the labels of ground x, y and of the result, the program of a jump, and the terms then in the table
abbrev pub labels : ℕ → ℕ → ℕ → ℕ → ℕ → Labels
labels x y r p c = record { x = x; y = y; result = r; program = p; count = c }

-- a refusal, or the labels of x, y and of the result, beside the terms entered by then
abbrev pub refused_by : ℕ → ℕ → Tried
refused_by n c = record { out = U.Refused n; x = 0; y = 0; count = c }

abbrev pub labelled_by : ℕ → ℕ → ℕ → ℕ → Tried
labelled_by x y r c = record { out = U.Label r; x = x; y = y; count = c }

-- the same as the code answers it, beside the terms entered by then
abbrev pub tried_in : Result Met Refusal → ℕ → Tried
tried_in (Ok m) c = labelled_by m.x m.y m.result c
tried_in (Err r) c = refused_by (number_of r) c

-- the result is a new term or an old one, too deep (8), or has no room (9)
abbrev pub result_by : Outcome → ℕ → ℕ → ℕ → Tried
result_by (O.Listed i) x y c = labelled_by x y i c
result_by (O.New i) x y c = labelled_by x y i c
result_by O.Deep x y c = refused_by 8 c
result_by O.Full x y c = refused_by 9 c

abbrev pub as_result : Held Added → ℕ → ℕ → Held Tried
as_result r x y = held (result_by r.out.outcome x y r.out.count) r.table

unfoldable pub meet_new : List ℕ → ℕ → ℕ → ℕ → Term → Held Tried
meet_new l c x y e = as_result (add_to l c e) x y

-- what the action wants is met, or does not fit (10)
abbrev pub meet_by : Want → List ℕ → ℕ → ℕ → ℕ → Held Tried
meet_by Refuse l c x y = held (refused_by 10 c) l
meet_by (Keep r) l c x y = held (labelled_by x y r c) l
meet_by (Make e) l c x y = meet_new l c x y e

unfoldable pub meet_want : List ℕ → ℕ → ℕ → ℕ → Want → Held Tried
meet_want l c x y w = meet_by w l c x y

unfoldable pub given_at : List ℕ → ℕ → ℕ → ℕ → ℕ → Given
given_at l x y v n = operands_given x y (term_at l x) (term_at l y) v n

-- the operands are taken, or one is too deep (8), or there is no room for both (9)
abbrev pub try_by : Taken → ℕ → List ℕ → Action → ℕ → ℕ → Held Tried
try_by T.Deep c l a v n = held (refused_by 8 c) l
try_by T.Full c l a v n = held (refused_by 9 c) l
try_by (T.Labels x y) c l a v n = meet_want l c x y (want_of a (given_at l x y v n))

abbrev pub try_taken : Held Operands → Action → ℕ → ℕ → Held Tried
try_taken r a v n = try_by r.out.taken r.out.count r.table a v n

-- action a of the thread whose variables stand from place o on; its location has value v, the next nonce is n
unfoldable pub try_action : List ℕ → ℕ → List ℕ → ℕ → Action → ℕ → ℕ → Held Tried
try_action l c vars o a v n = try_taken (take_operands l c vars o a.x a.y) a v n

-- the program that a code term names, 0 of any other term
unfoldable pub code_at : List ℕ → ℕ → ℕ
code_at l i = pick (eqb (term_at l i).kind 8) ((term_at l i).a % 256) 0

-- what the work came to, as the code answers it
abbrev pub worked_in : Result Labels Refusal → Worked
worked_in (Ok l) = Done l
worked_in (Err r) = Refused (number_of r)

-- "A refused step gives .. the configuration, term table included, as it came"; "All new terms of a permitted step stay"
abbrev pub worked_by : Out → Tried → List ℕ → ℕ → Held Worked
worked_by (U.Refused n) r l c = held (Refused n) (cut_to l c r.count)
worked_by (U.Label v) r l c = held (Done (labels r.x r.y v (code_at l r.x) r.count)) l

abbrev pub work_tried : Held Tried → ℕ → Held Worked
work_tried r c = worked_by r.out.out r.out r.table c

abbrev pub work_of : List ℕ → Control → ℕ → Action → Held Worked
work_of l s i a =
    work_tried (try_action l s.count s.vars (place_of i 0) a (value_at 0 s.values a.loc) s.frame.nonce) s.count

-- the next action of the thread in slot i: the mover, or the sender
unfoldable pub work_advance : List ℕ → Control → List ℕ → ℕ → Held Worked
work_advance l s actions i = work_of l s i (next_action actions (slot_at s.frame.slots i))

-- a reset has no operands
abbrev pub no_labels : ℕ → Labels
no_labels c = labels 0 0 0 0 c

abbrev pub work_by : Way → List ℕ → Control → List ℕ → Held Worked
work_by W.Nothing l s actions = held (Refused 1) l
work_by (W.Advance i) l s actions = work_advance l s actions i
work_by (W.Hand i j) l s actions = work_advance l s actions i
work_by (W.Reset m) l s actions = held (Done (no_labels s.count)) l

-- the table's part of a step that refusals 1 to 7 let through
unfoldable pub work_on : List ℕ → Control → List ℕ → ℕ → Held Worked
work_on l s actions code = work_by (way_of code) l s actions
