-- The event of a step whose work is done, with the programs of the threads that end by it.
use Rattle.std.specs.Prelude.{ℕ, List, eqb}
use Rattle.terms.specs.Base.{pick}
use Rattle.model.specs.declared.records.Action.{Action}
use Rattle.state.specs.Slot.{slot_at}
use Rattle.state.specs.Code.{way_of}
use Rattle.state.specs.Early.{next_action}
use Rattle.state.specs.Ended.{ended_one, ended_both}
use Rattle.state.specs.declared.slot.Slot.{Slot}
use Rattle.state.specs.declared.code.Way.{Way}
use Rattle.state.specs.declared.code.Way.TheVariants as W
use Rattle.state.specs.declared.control.Frame.{Frame}
use Rattle.state.specs.declared.ended.Ended.{Ended}
use Rattle.state.specs.declared.ended.Ended.TheVariants.{Nobody}
use Rattle.rules.specs.Event.{deed, no_deed, happening}
use Rattle.rules.specs.declared.event.Deed.{Deed}
use Rattle.rules.specs.declared.event.Event.{Event}
use Rattle.rules.specs.declared.event.Event.TheVariants as E
use Rattle.rules.specs.declared.event.Happening.{Happening}
use Rattle.rules.specs.declared.work.Labels.{Labels}

-- no thread ended as an accept
abbrev pub alone_of : Event → Happening
alone_of e = happening e Nobody

abbrev pub deed_of : Slot → Action → Labels → ℕ → Deed
deed_of q a l r = deed q.serial a.loc l.x l.y r

-- a jump (19) its program, a launch (20) its machine and its new thread; an ordinary action may end its thread
abbrev pub advance_shown : Frame → List ℕ → Slot → Action → Labels → Happening
advance_shown f lengths q a l =
    pick (eqb a.op 19) (alone_of (E.Jump (deed_of q a l l.result) l.program))
    (pick (eqb a.op 20) (alone_of (E.Launch (deed_of q a l l.result) q.machine f.serial))
    (happening (E.Action (deed_of q a l l.result) a.op) (ended_one lengths q)))

abbrev pub advance_of : Frame → List ℕ → List ℕ → Slot → Labels → Happening
advance_of f actions lengths q l = advance_shown f lengths q (next_action actions q) l

unfoldable pub advance_event : Frame → List ℕ → List ℕ → ℕ → Labels → Happening
advance_event f actions lengths i l = advance_of f actions lengths (slot_at f.slots i) l

-- a hand-over both serials: the sender's deed shows the value as x, and no result
abbrev pub hand_shown : List ℕ → List ℕ → Slot → Slot → Labels → Happening
hand_shown actions lengths q r l = happening (E.HandOver (deed_of q (next_action actions q) l 0) r.serial) (ended_both lengths q r)

unfoldable pub hand_event : Frame → List ℕ → List ℕ → ℕ → ℕ → Labels → Happening
hand_event f actions lengths i j l = hand_shown actions lengths (slot_at f.slots i) (slot_at f.slots j) l

-- a reset its machine and its new thread
abbrev pub happened_by : Way → Frame → List ℕ → List ℕ → Labels → Happening
happened_by W.Nothing f actions lengths l = alone_of (E.Action no_deed 0)
happened_by (W.Advance i) f actions lengths l = advance_event f actions lengths i l
happened_by (W.Hand i j) f actions lengths l = hand_event f actions lengths i j l
happened_by (W.Reset m) f actions lengths l = alone_of (E.Reset m f.serial)

unfoldable pub happened_on : Frame → List ℕ → List ℕ → ℕ → Labels → Happening
happened_on f actions lengths code l = happened_by (way_of code) f actions lengths l

-- the endings alone
unfoldable pub ended_advance : List ℕ → List ℕ → Slot → Ended
ended_advance actions lengths q =
    pick (eqb (next_action actions q).op 19) Nobody
    (pick (eqb (next_action actions q).op 20) Nobody
    (ended_one lengths q))

abbrev pub ended_by : Way → List ℕ → List ℕ → List ℕ → Ended
ended_by W.Nothing slots actions lengths = Nobody
ended_by (W.Advance i) slots actions lengths = ended_advance actions lengths (slot_at slots i)
ended_by (W.Hand i j) slots actions lengths = ended_both lengths (slot_at slots i) (slot_at slots j)
ended_by (W.Reset m) slots actions lengths = Nobody

unfoldable pub ended_on : List ℕ → List ℕ → List ℕ → ℕ → Ended
ended_on slots actions lengths code = ended_by (way_of code) slots actions lengths
