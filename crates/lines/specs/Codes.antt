-- "All R lines at the end": one decimal up to 65,535 each. R is byte 82.
use Rattle.std.specs.Prelude.{ℕ, ◌+◌, List, [], ◌∷◌, length, take, drop, ltb, eqb, Option, Some, None, Result, Ok, Err}
use Rattle.lines.specs.Base.{pick, Refusal, refusal}
use Rattle.lines.specs.Line.{cut_line, lines_of}
use Rattle.lines.specs.Field as F
use Rattle.lines.specs.Field.{Field, field_of, opens_with}
use Rattle.lines.specs.Tail.{before_run, start_of, fault_number, fault_line}
use Rattle.lines.specs.declared.codes.Code as code
use Rattle.lines.specs.declared.codes.BadLine.{BadLine}
use Rattle.lines.specs.declared.tail.Fault.{Fault}
use Rattle.lines.specs.declared.tail.Fault.TheVariants as A

-- what a rest of R lines opens with: a code, behind whose line the next one starts at a place; nothing; anything else
pub data Code : Type 0 where
  Next : ℕ → ℕ → Code
  End : Code
  Bad : Code

-- a reader's answer to a line
abbrev pub line_read : Result code.Code BadLine → Code
line_read (Ok c) = Next c.code c.next
line_read (Err e) = Bad

-- and to a rest
abbrev pub code_read : Result (Option code.Code) BadLine → Code
code_read (Ok (Some c)) = Next c.code c.next
code_read (Ok None) = End
code_read (Err e) = Bad

-- the one field ends the line
abbrev pub code_by : Field → ℕ → Code
code_by (F.Last v) next = Next v next
code_by (F.More v n) next = Bad
code_by F.Bad next = Bad

-- an R line without its LF, behind which the next line starts at a place
unfoldable pub code_in : List ℕ → ℕ → Code
code_in line next = pick (opens_with line 82) (code_by (field_of (drop 2 line) 65535) next) Bad

abbrev pub code_cut : Option ℕ → List ℕ → Code
code_cut (Some n) s = code_in (take n s) (n + 1)
code_cut None s = Bad

-- the first line of a rest of R lines
unfoldable pub next_code : List ℕ → Code
next_code s = pick (eqb (length s) 0) End (code_cut (cut_line s) s)

abbrev pub judge_by : Code → ℕ → Option ℕ → Option ℕ
judge_by (Next v n) i rest = rest
judge_by End i rest = None
judge_by Bad i rest = Some i

-- the first bad one of lines, the first of them being number i
unfoldable pub judge_from : ℕ → List (List ℕ) → Option ℕ
judge_from i [] = None
judge_from i (l ∷ ls) = judge_by (next_code l) i (judge_from (i + 1) ls)

unfoldable pub judged : List ℕ → Option ℕ
judged s = judge_from 0 (lines_of s)

-- the model is what stands before the run, n lines; "a bad .. R line (20)" names its own line
abbrev pub codes_by : Option ℕ → ℕ → ℕ → Result ℕ Fault
codes_by None at n = Ok at
codes_by (Some i) at n = Err (A.Bad (n + i + 1))

-- the run is all lines but the first n
abbrev pub codes_after : ℕ → List (List ℕ) → Result ℕ Fault
codes_after n ls = codes_by (judge_from 0 (drop n ls)) (start_of n ls) n

-- "The whole input keeps to 65,536 bytes (26, line 0)"
unfoldable pub last_codes : List ℕ → Result ℕ Fault
last_codes s = pick (ltb 65536 (length s)) (Err A.Long) (codes_after (before_run 82 (lines_of s)) (lines_of s))

-- the paper's number and line for each case
abbrev pub codes_refusal : Result ℕ Fault → Refusal
codes_refusal (Ok at) = refusal 0 0
codes_refusal (Err f) = refusal (fault_number f) (fault_line f)
