-- The two parts in which a step is made in place, put together, are the configuration after it; work and event of a step
-- read only so much of the configuration; and who ends by a step is said without its event.
use Prim.Native.Nat.{ℕ}
use mathlib.Core.Bool.{Bool, true, false}
use mathlib.Core.List.{List, []}
use mathlib.Core.Path.{◌≡◌, refl}
use lib.Dec.{eqb}
use Rattle.terms.specs.Base.{pick}
use Rattle.model.specs.declared.records.Action.{Action}
use Rattle.state.specs.Slot.{slot_at}
use Rattle.state.specs.Code.{way_of}
use Rattle.state.specs.Early.{next_action}
use Rattle.state.specs.Moves.{nonce_after, frame_moved}
use Rattle.state.specs.Launch.{frame_launched}
use Rattle.state.specs.Hand.{frame_handed}
use Rattle.state.specs.Reset.{frame_reset}
use Rattle.state.specs.declared.slot.Slot.{Slot}
use Rattle.state.specs.declared.code.Way.{Way}
use Rattle.state.specs.declared.code.Way.TheVariants as W
use Rattle.state.specs.declared.control.Frame.{Frame}
use Rattle.state.specs.declared.control.Control.{Control}
use Rattle.state.specs.declared.ended.Ended.TheVariants.{Nobody}
use Rattle.rules.specs.Work.{work_advance, work_by, work_on}
use Rattle.rules.specs.Happened.{advance_shown, advance_event, hand_event, happened_by, happened_on, ended_advance, ended_by, ended_on}
use Rattle.rules.specs.Made.{Layout, Config, config_of, control, jumped_on, acted_on, launched_on, reset_on, handed_on, advanced_on, made_by, made_on, control_after}
use Rattle.rules.specs.Parts.{Counters, Rest, rest, rest_of, control_with, slots_acted, slots_advanced, slots_handed, slots_by, slots_made, moved, started, rest_acted, rest_advanced, rest_handed, rest_reset, rest_by, rest_made}
use Rattle.rules.specs.declared.event.Happening.{Happening}
use Rattle.rules.specs.declared.work.Labels.{Labels}

-- three cases of an action, of a configuration and of its two parts
three : (b d : Bool) (n : ℕ) {c k e : Config ℕ} {s t u : List ℕ} {p q r : Rest}
    → control c n ≡ control_with s p n → control k n ≡ control_with t q n → control e n ≡ control_with u r n
    → control (pick b c (pick d k e)) n ≡ control_with (pick b s (pick d t u)) (pick b p (pick d q r)) n
three true d n x y z = x
three false true n x y z = y
three false false n x y z = z

module _ (s : Control) (g : Layout) (l : Labels) where
  acted_parts : (i : ℕ) (q : Slot) (a : Action)
      → control (pick (eqb a.op 19) (jumped_on 0 (config_of s) i q a l.program)
      (pick (eqb a.op 20) (launched_on 0 2 g.machines g.locations (config_of s) i q)
      (acted_on 0 g.lengths (config_of s) i q a l.x l.result))) l.count
      ≡ control_with (slots_acted s.frame.slots g.lengths g.machines s.frame.serial i l.program q a)
      (rest_acted (rest_of s) g.lengths g.locations i l q a) l.count
  unfolding jumped_on launched_on acted_on frame_moved frame_launched moved started
  acted_parts i q a = three (eqb a.op 19) (eqb a.op 20) l.count refl refl refl

  way_parts : (w : Way)
      → control (made_by w 0 1 2 g (config_of s) l.x l.result l.program) l.count
      ≡ control_with (slots_by w s.frame.slots g.actions g.lengths g.machines s.frame.serial l.program)
      (rest_by w s.frame.slots (rest_of s) g l) l.count
  unfolding advanced_on slots_advanced rest_advanced handed_on frame_handed slots_handed rest_handed reset_on frame_reset rest_reset moved nonce_after started
  way_parts W.Nothing = refl
  way_parts (W.Advance i) = acted_parts i (slot_at s.frame.slots i) (next_action g.actions (slot_at s.frame.slots i))
  way_parts (W.Hand i j) = refl
  way_parts (W.Reset m) = refl

  pub made_parts : (code : ℕ)
      → control_after s g code l
      ≡ control_with (slots_made s.frame.slots g.actions g.lengths g.machines s.frame.serial code l.program)
      (rest_made s.frame.slots (rest_of s) g code l) l.count
  unfolding control_after made_on slots_made rest_made
  made_parts code = way_parts (way_of code)

-- the same of a configuration that stands in rows
pub made_rows : (slots locks values vars : List ℕ) (c : Counters) (n : ℕ) (g : Layout) (l : Labels) (code : ℕ)
    → control_after (control_with slots (rest c locks values vars) n) g code l
    ≡ control_with (slots_made slots g.actions g.lengths g.machines c.serial code l.program)
    (rest_made slots (rest c locks values vars) g code l) l.count
made_rows slots locks values vars c n g l code = made_parts (control_with slots (rest c locks values vars) n) g l code

-- all that the work of a step reads of a configuration: no locks, and of the counters the nonce alone
abbrev pub lent_control : List ℕ → List ℕ → List ℕ → ℕ → ℕ → Control
lent_control slots values vars count nonce = record {
  frame = record { slots = slots; locks = []; steps = 0; serial = 0; nonce = nonce };
  values = values;
  vars = vars;
  count = count;
}

-- all that its event reads of a frame
abbrev pub lent_frame : List ℕ → ℕ → Frame
lent_frame slots serial = record { slots = slots; locks = []; steps = 0; serial = serial; nonce = 0 }

-- what the work of a step reads
work_by_lent : (w : Way) (t : List ℕ) (s : Control) (actions : List ℕ)
    → work_by w t s actions ≡ work_by w t (lent_control s.frame.slots s.values s.vars s.count s.frame.nonce) actions
unfolding work_advance
work_by_lent W.Nothing t s actions = refl
work_by_lent (W.Advance i) t s actions = refl
work_by_lent (W.Hand i j) t s actions = refl
work_by_lent (W.Reset m) t s actions = refl

pub work_lent_lem : (t : List ℕ) (s : Control) (actions : List ℕ) (code : ℕ)
    → work_on t s actions code ≡ work_on t (lent_control s.frame.slots s.values s.vars s.count s.frame.nonce) actions code
unfolding work_on
work_lent_lem t s actions code = work_by_lent (way_of code) t s actions

-- what its event reads
happened_by_lent : (w : Way) (f : Frame) (actions lengths : List ℕ) (l : Labels)
    → happened_by w f actions lengths l ≡ happened_by w (lent_frame f.slots f.serial) actions lengths l
unfolding advance_event hand_event
happened_by_lent W.Nothing f actions lengths l = refl
happened_by_lent (W.Advance i) f actions lengths l = refl
happened_by_lent (W.Hand i j) f actions lengths l = refl
happened_by_lent (W.Reset m) f actions lengths l = refl

pub happened_lent : (f : Frame) (actions lengths : List ℕ) (code : ℕ) (l : Labels)
    → happened_on f actions lengths code l ≡ happened_on (lent_frame f.slots f.serial) actions lengths code l
unfolding happened_on
happened_lent f actions lengths code l = happened_by_lent (way_of code) f actions lengths l

-- who ends by a step, asked alone, is what its event says
ends_three : (b d : Bool) (x y z : Happening) → x.ended ≡ Nobody → y.ended ≡ Nobody
    → (pick b x (pick d y z)).ended ≡ pick b Nobody (pick d Nobody z.ended)
ends_three true d x y z p q = p
ends_three false true x y z p q = q
ends_three false false x y z p q = refl

advance_ended : (f : Frame) (actions lengths : List ℕ) (q : Slot) (l : Labels)
    → (advance_shown f lengths q (next_action actions q) l).ended ≡ ended_advance actions lengths q
unfolding ended_advance
advance_ended f actions lengths q l =
    ends_three (eqb (next_action actions q).op 19) (eqb (next_action actions q).op 20) _ _ _ refl refl

ended_by_lem : (w : Way) (f : Frame) (actions lengths : List ℕ) (l : Labels)
    → (happened_by w f actions lengths l).ended ≡ ended_by w f.slots actions lengths
unfolding advance_event hand_event
ended_by_lem W.Nothing f actions lengths l = refl
ended_by_lem (W.Advance i) f actions lengths l = advance_ended f actions lengths (slot_at f.slots i) l
ended_by_lem (W.Hand i j) f actions lengths l = refl
ended_by_lem (W.Reset m) f actions lengths l = refl

pub happened_ended : (f : Frame) (actions lengths : List ℕ) (code : ℕ) (l : Labels)
    → (happened_on f actions lengths code l).ended ≡ ended_on f.slots actions lengths code
unfolding happened_on ended_on
happened_ended f actions lengths code l = ended_by_lem (way_of code) f actions lengths l
