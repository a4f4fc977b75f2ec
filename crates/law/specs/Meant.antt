-- What the machine's tables and answers mean: the term of every label written out. With that the theorem is one equation,
-- `step_is_rules` of proofs/Law.antt: what the machine answers means what the rules answer.
use Rattle.std.specs.Prelude.{ℕ, ◌≡◌, List, map, length}
use Rattle.terms.specs.Base.{Held}
use Rattle.terms.specs.Meaning.{trees, tree_of}
use Rattle.model.specs.declared.records.Model.{Model}
use Rattle.state.specs.declared.control.Control.{Control}
use Rattle.rules.specs.Event.{deed, no_deed, happening}
use Rattle.rules.specs.declared.event.Deed.{Deed}
use Rattle.rules.specs.declared.event.Event.{Event}
use Rattle.rules.specs.declared.event.Event.TheVariants.{Jump, Launch, Reset, HandOver, Action}
use Rattle.rules.specs.declared.event.Happening.{Happening}
use Rattle.rules.specs.Reply.{Reply, Refused, Permitted, Stepped}
use Rattle.law.specs.Out.{Out, ok, refuse}
use Rattle.law.specs.Rules.{State, Made}

-- what the types of the arrays say, as far as the theorem needs it: less than Arrays and Lengths of `audit` say
pub record Sized (m : Model) (l : List ℕ) (s : Control) : Type 0 where
  pub lines : length m.lines ≡ 512
  pub table : length l ≡ 512
  pub values : length s.values ≡ 32
  pub vars : length s.vars ≡ 192

-- the state that a configuration stands for
unfoldable pub meant : List ℕ → Control → State
meant l s = record {
  known = trees l s.count;
  config = record {
    frame = s.frame;
    values = map (tree_of l s.count) s.values;
    vars = map (tree_of l s.count) s.vars;
  };
}

-- what an event shows of the mover; a reset shows nothing
abbrev pub deed_in : Event → Deed
deed_in (Jump d program) = d
deed_in (Launch d machine thread) = d
deed_in (Reset machine thread) = no_deed
deed_in (HandOver d receiver) = d
deed_in (Action d op) = d

-- the event with its labels taken out
abbrev pub bare_deed : Deed → Deed
bare_deed d = deed d.serial d.loc 0 0 0

abbrev pub bare_event : Event → Event
bare_event (Jump d program) = Jump (bare_deed d) program
bare_event (Launch d machine thread) = Launch (bare_deed d) machine thread
bare_event (Reset machine thread) = Reset machine thread
bare_event (HandOver d receiver) = HandOver (bare_deed d) receiver
bare_event (Action d op) = Action (bare_deed d) op

unfoldable pub bare : Happening → Happening
bare h = happening (bare_event h.event) h.ended

-- a step that was made, from table and control after it, and its event
unfoldable pub meant_made : List ℕ → Control → Happening → Made
meant_made l s h = record {
  state = meant l s;
  happening = bare h;
  x = tree_of l s.count (deed_in h.event).x;
  y = tree_of l s.count (deed_in h.event).y;
  result = tree_of l s.count (deed_in h.event).result;
}

abbrev pub answer_by : Reply → Control → List ℕ → Out Made
answer_by (Refused n) s l = refuse n
answer_by (Permitted h) s l = ok (meant_made l s h)

-- the machine's answer to a step, with the table that it leaves
unfoldable pub answer : Held Stepped → Out Made
answer w = answer_by w.out.reply w.out.control w.table
