-- The end of an input: its last line, and the longest run of lines at its end whose first byte is one letter.
use Rattle.std.specs.Prelude.{ℕ, ◌+◌, ◌-◌, Bool, true, List, [], ◌∷◌, length, get_or, take, eqb}
use Rattle.lines.specs.Base.{pick, also, byte_at}
use Rattle.lines.specs.Line.{lines_of, joined}
use Rattle.lines.specs.declared.tail.Tail.{Tail}
use Rattle.lines.specs.declared.tail.Fault.{Fault}
use Rattle.lines.specs.declared.tail.Fault.TheVariants as A

-- the paper's number and line for each fault
abbrev pub fault_number : Fault → ℕ
fault_number (A.Bad n) = 20
fault_number A.Long = 26

abbrev pub fault_line : Fault → ℕ
fault_line (A.Bad n) = n
fault_line A.Long = 0

-- a line belongs to a letter by its first byte, whatever follows
abbrev pub opens : ℕ → List ℕ → Bool
opens letter l = eqb (byte_at l 0) letter

unfoldable pub all_open : ℕ → List (List ℕ) → Bool
all_open letter [] = true
all_open letter (l ∷ ls) = also (opens letter l) (all_open letter ls)

-- how many lines stand before the longest run of such lines at the end
unfoldable pub before_run : ℕ → List (List ℕ) → ℕ
before_run letter [] = 0
before_run letter (l ∷ ls) = pick (all_open letter (l ∷ ls)) 0 (before_run letter ls + 1)

-- where line k starts, lines being numbered from 0
abbrev pub start_of : ℕ → List (List ℕ) → ℕ
start_of k ls = length (joined (take k ls))

-- the last line, empty where there is none
abbrev pub last_of : List (List ℕ) → List ℕ
last_of ls = get_or ls (length ls - 1) []

abbrev pub tail : ℕ → ℕ → ℕ → ℕ → Tail
tail n last start before = record { lines = n; last = last; start = start; before = before }

abbrev pub tail_in : ℕ → List (List ℕ) → Tail
tail_in letter ls = tail (length ls) (start_of (length ls - 1) ls) (start_of (before_run letter ls) ls) (before_run letter ls)

unfoldable pub tail_of : ℕ → List ℕ → Tail
tail_of letter s = tail_in letter (lines_of s)

-- a line from at up to next, the n-th, after what t says of the lines before it
unfoldable pub tail_with : Tail → ℕ → ℕ → ℕ → Bool → Tail
tail_with t at next n same = pick same (tail n at t.start t.before) (tail n at next n)
