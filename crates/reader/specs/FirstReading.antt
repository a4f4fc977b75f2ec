-- "First reading: the first bad line, its lowest number, as far as earlier lines tell."
use Rattle.std.specs.Prelude.{ℕ, ◌+◌, List, [], ◌∷◌, length, take, eqb, ltb, Option, Some, None, Result, Ok, Err}
use Rattle.terms.specs.Base.{pick, Held}
use Rattle.lines.specs.Base.{byte_at}
use Rattle.lines.specs.Line.{cut_line, lines_of}
use Rattle.reader.specs.Numbers.{fields_of}
use Rattle.reader.specs.Drafts.{fresh_draft, lined}
use Rattle.reader.specs.VLine.{version_line}
use Rattle.reader.specs.ELine.{term_line}
use Rattle.reader.specs.ALine.{action_line}
use Rattle.reader.specs.MLine.{machine_line}
use Rattle.reader.specs.LLine.{location_line}
use Rattle.reader.specs.TLine.{thread_line}
use Rattle.reader.specs.CLine.{claim_line}
use Rattle.reader.specs.Numbers.{Fields}
use Rattle.reader.specs.declared.draft.Draft.{Draft}
use Rattle.reader.specs.Drafts.{Lined}
use Rattle.reader.specs.declared.refusal.Fault.{Fault}
use Rattle.reader.specs.Refused.{number_of}

-- an answer, and the two lent tables as they are left: the terms and the actions
pub record Kept (A : Type 0) : Type 0 where
  pub out : A
  pub terms : List ℕ
  pub actions : List ℕ

abbrev pub kept : {A : Type 0} → A → List ℕ → List ℕ → Kept A
kept r l acts = record { out = r; terms = l; actions = acts }

-- a line that may change one of them
abbrev pub on_terms : Held Lined → List ℕ → Kept Lined
on_terms r acts = kept r.out r.table acts

abbrev pub on_actions : Held Lined → List ℕ → Kept Lined
on_actions r l = kept r.out l r.table

-- "Each line opens with one of seven record letters": V 86, E 69, A 65, M 77, L 76, T 84, C 67
abbrev pub by_letter : ℕ → Fields → List ℕ → List ℕ → Draft → Kept Lined
by_letter letter f l acts d =
    pick (eqb letter 86) (kept (version_line d f) l acts)
    (pick (eqb letter 69) (on_terms (term_line l d f) acts)
    (pick (eqb letter 65) (on_actions (action_line acts d f) l)
    (pick (eqb letter 77) (kept (machine_line d f) l acts)
    (pick (eqb letter 76) (kept (location_line l d f) l acts)
    (pick (eqb letter 84) (kept (thread_line d f) l acts)
    (pick (eqb letter 67) (kept (claim_line d f) l acts)
    (kept (lined 20 d) l acts)))))))

-- one line, its LF taken off
unfoldable pub one_line : List ℕ → List ℕ → Draft → List ℕ → Kept Lined
one_line l acts d line = by_letter (byte_at line 0) (fields_of line) l acts d

-- "LF after each line": bytes with no LF behind them are a line of bad form
abbrev pub cut_by : Option ℕ → List ℕ → List ℕ → Draft → List ℕ → Kept Lined
cut_by (Some n) l acts d s = one_line l acts d (take n s)
cut_by None l acts d s = kept (lined 20 d) l acts

-- the first line of some bytes
unfoldable pub next_line : List ℕ → List ℕ → Draft → List ℕ → Kept Lined
next_line l acts d s = cut_by (cut_line s) l acts d s

-- the first reading's answer: number 0, or a refusal with its line, and the draft after the lines that were good
pub record Read : Type 0 where
  pub number : ℕ
  pub line : ℕ
  pub draft : Draft

abbrev pub read_answer : ℕ → ℕ → Draft → Read
read_answer n line d = record { number = n; line = line; draft = d }

-- what the code's answer says, beside the draft as it is left
abbrev pub read_in : {A : Type 0} → Result A Fault → Draft → Read
read_in (Ok a) d = read_answer 0 0 d
read_in (Err f) d = read_answer (number_of f.refusal) f.line d

-- after the last line: "no C (one past the last line)" is 21
unfoldable pub whole_read : ℕ → Draft → Read
whole_read n d = pick (eqb d.group 7) (read_answer 0 0 d) (read_answer 21 n d)

-- a bad line, number n, ends the reading
abbrev pub go_on : Kept Lined → ℕ → (List ℕ → List ℕ → Draft → Kept Read) → Kept Read
go_on r n further =
    pick (eqb r.out.number 0)
    (further r.terms r.actions r.out.draft)
    (kept (read_answer r.out.number n r.out.draft) r.terms r.actions)

-- line after line, the first of them being number n
unfoldable pub read_from : ℕ → List (List ℕ) → List ℕ → List ℕ → Draft → Kept Read
read_from n [] l acts d = kept (whole_read n d) l acts
read_from n (s ∷ ss) l acts d = go_on (next_line l acts d s) n (λ m bs e. read_from (n + 1) ss m bs e)

-- "At most 65,536 bytes": "26 too long (line 0)"
abbrev pub reading_on : List ℕ → List ℕ → List ℕ → Draft → Kept Read
reading_on file l acts d = pick (ltb 65536 (length file)) (kept (read_answer 26 0 d) l acts) (read_from 1 (lines_of file) l acts d)

unfoldable pub first_reading : List ℕ → List ℕ → List ℕ → Kept Read
first_reading file l acts = reading_on file l acts fresh_draft
