-- "Second reading, by the same rule: code programs and A's locations (23), their kinds (25), equal programs (24, line of the
-- later one's last action)": by line, then by number.
use Rattle.std.specs.Prelude.{ℕ, zero, suc, ◌+◌, ◌-◌, ◌≤◌, Bool, not, List, ◌≡◌, eqb, ltb, Option, Some, None, Result, Ok, Err}
use Rattle.terms.specs.Base.{pick, also}
use Rattle.terms.specs.Line.{term_at}
use Rattle.model.specs.Records.{action_at, length_at, location_at}
use Rattle.model.specs.Fields.{kind_fits}
use Rattle.model.specs.First.{first_from}
use Rattle.model.specs.declared.records.Action.{Action}
use Rattle.audit.specs.Models.{names_program}
use Rattle.audit.specs.Programs.{new_program}
use Rattle.reader.specs.ALine.{location_past}
use Rattle.reader.specs.declared.draft.Draft.{Draft}
use Rattle.reader.specs.declared.refusal.Fault.{Fault}
use Rattle.reader.specs.declared.second.Place.{Place}
use Rattle.reader.specs.Refused.{number_of}

-- number 0, or a refusal with its line
pub record Second : Type 0 where
  pub number : ℕ
  pub line : ℕ

abbrev pub refusal : ℕ → ℕ → Second
refusal n line = record { number = n; line = line }

-- what the code's answer says
abbrev pub second_in : {A : Type 0} → Result A Fault → Second
second_in (Ok a) = refusal 0 0
second_in (Err f) = refusal (number_of f.refusal) f.line

-- the first label that is the code of a program not listed; the count where there is none
unfoldable pub first_bad_code : List ℕ → ℕ → ℕ → ℕ
first_bad_code l count programs = first_from count 0 (λ i. not (names_program (term_at l i) programs))

-- the first of some, where there is one below the count
abbrev pub below : ℕ → ℕ → Option ℕ
below e count = pick (ltb e count) (Some e) None

-- E lines stand from line 2 on, label 3 first, and A lines right after them
unfoldable pub line_of_label : ℕ → ℕ
line_of_label label = pick (ltb label 3) 2 (label - 3 + 2)

pub record LabelLine (label r : ℕ) : Type 0 where
  pub is : r ≡ line_of_label label
  pub small : r ≤ label + 2

-- "a program's actions, twice" is judged on the later one's last action
unfoldable pub program_twice24 : List ℕ → List ℕ → ℕ → ℕ → Bool
program_twice24 acts lengths p k = also (eqb (k + 1) (length_at lengths p)) (not (new_program acts lengths p))

abbrev pub second_by : Action → List ℕ → List ℕ → List ℕ → ℕ → ℕ → ℕ → ℕ
second_by a acts lengths locs count p k =
    pick (location_past a count) 23
    (pick (program_twice24 acts lengths p k) 24
    (pick (not (kind_fits a.op (location_at locs a.loc).kind)) 25
    0))

-- action k of program p
unfoldable pub action_second : List ℕ → List ℕ → List ℕ → ℕ → ℕ → ℕ → ℕ
action_second acts lengths locs count p k = second_by (action_at acts p k) acts lengths locs count p k

-- number 0, or a refusal at an action of one program
pub record Within : Type 0 where
  pub number : ℕ
  pub at : ℕ

abbrev pub within : ℕ → ℕ → Within
within n k = record { number = n; at = k }

abbrev pub within_in : {A : Type 0} → Result A Place → Within
within_in (Ok a) = within 0 0
within_in (Err x) = within (number_of x.refusal) x.at

-- the first of n actions from k on that is refused
unfoldable pub within_from : ℕ → ℕ → (ℕ → ℕ) → Within
within_from zero k f = within 0 0
within_from (suc n) k f = pick (eqb (f k) 0) (within_from n (k + 1) f) (within (f k) k)

unfoldable pub program_reading : List ℕ → List ℕ → List ℕ → ℕ → ℕ → Within
program_reading acts lengths locs count p = within_from (length_at lengths p) 0 (λ k. action_second acts lengths locs count p k)

-- n programs from p on, the actions of p standing from a line on
unfoldable pub programs_from : ℕ → ℕ → ℕ → (ℕ → Within) → List ℕ → Second
programs_from zero p line f lengths = refusal 0 0
programs_from (suc n) p line f lengths =
    pick (eqb (f p).number 0)
    (programs_from n (p + 1) (line + length_at lengths p) f lengths)
    (refusal (f p).number (line + (f p).at))

unfoldable pub programs_reading : List ℕ → Draft → Second
programs_reading acts d =
    programs_from d.programs 0 (line_of_label d.count) (λ p. program_reading acts d.lengths d.locations d.location_count p) d.lengths

abbrev pub codes_then : ℕ → List ℕ → Draft → Second
codes_then e acts d = pick (ltb e d.count) (refusal 23 (line_of_label e)) (programs_reading acts d)

unfoldable pub second_reading : List ℕ → List ℕ → Draft → Second
second_reading l acts d = codes_then (first_bad_code l d.count d.programs) acts d
