-- A last G line: "G 3 1000 (bound, budget)", the bound from 1 to 24, and "a budget may pass 65,535". G is byte 71.
use Rattle.std.specs.Prelude.{ℕ, ◌+◌, ◌-◌, List, length, take, drop, ltb, eqb, Option, Some, None, Result, Ok, Err}
use Rattle.lines.specs.Base.{pick, Refusal, refusal}
use Rattle.lines.specs.Line.{cut_line, lines_of}
use Rattle.lines.specs.Field.{Field, More, Last, Bad, field_of, opens_with}
use Rattle.lines.specs.Tail.{opens, start_of, last_of, fault_number, fault_line}
use Rattle.lines.specs.declared.goal.Pair.{Pair}
use Rattle.lines.specs.declared.goal.Goal.{Goal}
use Rattle.lines.specs.declared.tail.Fault.{Fault}
use Rattle.lines.specs.declared.tail.Fault.TheVariants as A

abbrev pub pair : ℕ → ℕ → Pair
pair bound budget = record { bound = bound; budget = budget }

abbrev pub goal : ℕ → ℕ → ℕ → Goal
goal at bound budget = record { at = at; bound = bound; budget = budget }

-- the second field ends the line
abbrev pub budget_by : Field → ℕ → Option Pair
budget_by (Last budget) bound = Some (pair bound budget)
budget_by (More v n) bound = None
budget_by Bad bound = None

unfoldable pub budget_of : ℕ → List ℕ → Option Pair
budget_of bound s = budget_by (field_of s 4294967295) bound

-- the first field has another behind it
abbrev pub bound_by : Field → List ℕ → Option Pair
bound_by (More bound n) s = pick (eqb bound 0) None (budget_of bound (drop n s))
bound_by (Last v) s = None
bound_by Bad s = None

unfoldable pub pair_of : List ℕ → Option Pair
pair_of s = bound_by (field_of s 24) s

abbrev pub goal_in : List ℕ → Option Pair
goal_in line = pick (opens_with line 71) (pair_of (drop 2 line)) None

abbrev pub goal_cut : Option ℕ → List ℕ → Option Pair
goal_cut (Some n) s = goal_in (take n s)
goal_cut None s = None

-- a whole G line, its LF too
unfoldable pub goal_line : List ℕ → Option Pair
goal_line s = goal_cut (cut_line s) s

-- the model is what stands before the last line, which has number n; "a bad G .. (20)" names that line
abbrev pub goal_by : Option Pair → ℕ → ℕ → Result Goal Fault
goal_by (Some p) at n = Ok (goal at p.bound p.budget)
goal_by None at n = Err (A.Bad n)

-- "No G line (20, one past the end)"
abbrev pub goal_of : List (List ℕ) → Result Goal Fault
goal_of ls = pick (opens 71 (last_of ls)) (goal_by (goal_line (last_of ls)) (start_of (length ls - 1) ls) (length ls)) (Err (A.Bad (length ls + 1)))

-- "The whole input keeps to 65,536 bytes (26, line 0)"
unfoldable pub last_goal : List ℕ → Result Goal Fault
last_goal s = pick (ltb 65536 (length s)) (Err A.Long) (goal_of (lines_of s))

-- the paper's number and line for each case
abbrev pub goal_refusal : Result Goal Fault → Refusal
goal_refusal (Ok g) = refusal 0 0
goal_refusal (Err f) = refusal (fault_number f) (fault_line f)
