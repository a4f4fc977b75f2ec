-- A run read as the step folded over its codes. "A refused step leaves the run going. A permitted step whose event finds
-- the table full stops the run with 12, before that step is made."
use Rattle.std.specs.Prelude.{ℕ, ◌+◌, ◌*◌, ◌≤◌, ◌≡◌, List, [], ◌∷◌, ◌++◌, length, get_or, eqb, leb}
use Rattle.std.proofs.lemmas.List.Edits.{sets}
use Rattle.terms.specs.Base.{pick, Held}
use Rattle.state.specs.declared.control.Control.{Control}
use Rattle.rules.specs.Reply.{Reply, Refused, Permitted, Stepped}
use Rattle.law.specs.Machines.{LabelsConf, conf}
use Rattle.machine.specs.Recorded.{Holds}
use Rattle.runs.specs.Run.{Course}

-- the answer to a code, 0 where it is permitted, and where the run stands then
pub record Answered : Type 0 where
  pub number : ℕ
  pub at : LabelsConf

abbrev pub answered : ℕ → LabelsConf → Answered
answered n c = record { number = n; at = c }

-- a step from c, for a table of records with room for so many events
abbrev pub replied : Reply → ℕ → LabelsConf → List ℕ → Control → Answered
replied (Refused n) room c l s = answered n c
replied (Permitted h) room c l s =
    pick (leb room (length c.events)) (answered 12 c) (answered 0 (conf l s (c.events ++ (h ∷ []))))

abbrev pub after_step : ℕ → LabelsConf → Held Stepped → Answered
after_step room c w = replied w.out.reply room c w.table w.out.control

-- the answers to some codes, and where the run stands after them
pub record Folded : Type 0 where
  pub answers : List ℕ
  pub at : LabelsConf

abbrev pub folded : List ℕ → LabelsConf → Folded
folded ns c = record { answers = ns; at = c }

abbrev pub with_answer : ℕ → Folded → Folded
with_answer n f = folded (n ∷ f.answers) f.at

abbrev pub fold_by : Answered → (LabelsConf → Folded) → Folded
fold_by a more = pick (eqb a.number 12) (folded (a.number ∷ []) a.at) (with_answer a.number (more a.at))

-- a step takes term table, configuration and code
unfoldable pub fold_steps : (List ℕ → Control → ℕ → Held Stepped) → ℕ → LabelsConf → List ℕ → Folded
fold_steps step room c [] = folded [] c
fold_steps step room c (code ∷ codes) =
    fold_by (after_step room c (step c.table c.control code)) (λ d. fold_steps step room d codes)

-- a course of the run, i codes being answered before it, is what the fold gives; rs is the table of records as lent
pub record Folds (rs ans : List ℕ) (i : ℕ) (c : Course) (f : Folded) : Type 0 where
  pub table : c.table ≡ f.at.table
  pub control : c.ran.control ≡ f.at.control
  pub events : c.ran.events ≡ length f.at.events
  pub tried : c.ran.tried ≡ i + length f.answers
  pub answers : c.answers ≡ sets ans i f.answers
  pub long : length c.records ≡ length rs
  pub records : Holds c.records f.at.events
  pub past : (p : ℕ) → length f.at.events * 12 ≤ p → get_or c.records p 0 ≡ get_or rs p 0
  pub few : length f.at.events ≤ 60000
