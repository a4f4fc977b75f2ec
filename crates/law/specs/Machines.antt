-- The two machines that a search can go through: the rules, with limits or without, and the machine on labels. Both are
-- judged by the same claim, which looks at events alone: `judge es h` says that event h, after the events es, breaks it.
use Rattle.std.specs.Prelude.{ℕ, Bool, List, [], ◌∷◌, ◌++◌, map, ◌≡◌, eqb}
use Rattle.walk.specs.Machine.{Machine, Outcome, refused, too_big, goes, breaks}
use Rattle.terms.specs.Base.{pick, Held}
use Rattle.model.specs.Fields.{either}
use Rattle.model.specs.declared.records.Model.{Model}
use Rattle.state.specs.Control.{fresh_control}
use Rattle.state.specs.declared.control.Control.{Control}
use Rattle.rules.specs.Step.{step_on}
use Rattle.rules.specs.declared.event.Happening.{Happening}
use Rattle.rules.specs.Reply.{Reply, Refused, Permitted, Stepped}
use Rattle.law.specs.Out.{Out, ok, refuse}
use Rattle.rules.specs.Made.{layout_of}
use Rattle.law.specs.Rules.{State, Made, fresh_state, step_r}
use Rattle.law.specs.Meant.{bare}
use Rattle.law.specs.Like.{Like}

-- "refused by 8 or 9", or by another number
abbrev pub refused_as : {C : Type 0} → ℕ → Outcome C
refused_as n = pick (either (eqb n 8) (eqb n 9)) too_big refused

-- a state of the rules, and the events so far
pub record RulesConf : Type 0 where
  pub state : State
  pub events : List Happening

abbrev pub tried_rules : (List Happening → Happening → Bool) → List Happening → Out Made → Outcome RulesConf
tried_rules judge es (refuse n) = refused_as n
tried_rules judge es (ok r) = pick (judge es r.happening) breaks (goes (record { state = r.state; events = es ++ (r.happening ∷ []) }))

-- the rules, `lim`: with limits
abbrev pub rules : Bool → (List Happening → Happening → Bool) → List ℕ → Model → Machine
rules lim judge codes m = record {
  Conf = RulesConf;
  fresh = record { state = fresh_state m; events = [] };
  try = λ c k. tried_rules judge c.events (step_r lim m c.state k);
  codes = codes;
  none = 164;
}

-- a term table, the control beside it, and the events so far, the first first: where a run or a search stands
pub record LabelsConf : Type 0 where
  pub table : List ℕ
  pub control : Control
  pub events : List Happening

abbrev pub conf : List ℕ → Control → List Happening → LabelsConf
conf l s hs = record { table = l; control = s; events = hs }

abbrev pub tried_by : (List Happening → Happening → Bool) → List Happening → Reply → Control → List ℕ → Outcome LabelsConf
tried_by judge es (Refused n) s l = refused_as n
tried_by judge es (Permitted h) s l = pick (judge es h) breaks (goes (conf l s (es ++ (h ∷ []))))

abbrev pub tried_labels : (List Happening → Happening → Bool) → List Happening → Held Stepped → Outcome LabelsConf
tried_labels judge es w = tried_by judge es w.out.reply w.out.control w.table

-- the machine on labels
abbrev pub labels : (List Happening → Happening → Bool) → List ℕ → Model → Machine
labels judge codes m = record {
  Conf = LabelsConf;
  fresh = conf m.lines (fresh_control m) [];
  try = λ c k. tried_labels judge c.events (step_on c.table c.control (layout_of m) m.machine_count k);
  codes = codes;
  none = 164;
}

-- a configuration of the one stands for a configuration of the other, and the events are the same but for their labels
pub record Stand (m : Model) (c : LabelsConf) (d : RulesConf) : Type 0 where
  pub like : Like m c.table c.control d.state
  pub events : map bare c.events ≡ d.events

-- the claim looks at no label
abbrev pub Blind : (List Happening → Happening → Bool) → Type 0
Blind judge = (es : List Happening) (h : Happening) → judge (map bare es) (bare h) ≡ judge es h
