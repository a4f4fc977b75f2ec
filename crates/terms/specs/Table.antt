-- The table of terms: a list of lines of which the first `count` hold terms. A label is a line's place.
use Rattle.std.specs.Prelude.{ℕ, ◌+◌, ◌-◌, ◌≤◌, max, ◌≡◌, true, List, [], ◌∷◌, take, drop, set, replicate, ltb, eqb, Option, None, Some, Result, Ok, Err}
use Rattle.terms.specs.Base.{pick, filled, Held, held}
use Rattle.terms.specs.Term.{term, after_parts}
use Rattle.terms.specs.Line.{grade, packed}
use Rattle.terms.specs.Grade.{grade_of}
use Rattle.terms.specs.Outcome.{Outcome, Listed, New, Deep, Full, Added}
use Rattle.terms.specs.declared.term.Term.{Term}
use Rattle.terms.specs.declared.line.Grade.{Grade}
use Rattle.terms.specs.declared.table.Table.{Table}
use Rattle.terms.specs.declared.table.Size.{Size}
use Rattle.terms.specs.declared.table.Size.TheVariants as Z
use Rattle.terms.specs.declared.table.Entry.{Entry}
use Rattle.terms.specs.declared.table.Entry.TheVariants as E
use Rattle.terms.specs.declared.table.Added as A

-- "Labels 0, 1, 2 are always number 0, sinit, dinit", which are kinds 0, 1, 2
unfoldable pub fixed_line : ℕ → ℕ
fixed_line i = packed (term i 0 0) (grade 1 true)

unfoldable pub fresh_table : Table
fresh_table = record { lines = set (set (set (replicate 512 0) 0 (fixed_line 0)) 1 (fixed_line 1)) 2 (fixed_line 2); count = 3 }

unfoldable pub used_of : ℕ → ℕ
used_of c = pick (ltb c 512) c 512

pub record Used (c r : ℕ) : Type 0 where
  pub is : r ≡ used_of c
  pub small : r ≤ 512

-- how many terms more the table can take: the one place where that is decided
unfoldable pub free_of : ℕ → ℕ
free_of c = pick (ltb c 512) (512 - c) 0

pub record Free (c r : ℕ) : Type 0 where
  pub is : r ≡ free_of c
  pub within : r + c ≤ max c 512

-- the first line that is n, the list's own first line having label i
unfoldable pub find_in : ℕ → List ℕ → ℕ → Option ℕ
find_in i [] n = None
find_in i (m ∷ ms) n = pick (eqb m n) (Some i) (find_in (i + 1) ms n)

-- of the first c lines, those from label i on
unfoldable pub find_line : List ℕ → ℕ → ℕ → ℕ → Option ℕ
find_line l i c n = find_in i (drop i (take c l)) n

-- "Parts are labels of earlier terms": a term is looked for behind its parts
abbrev pub find_by : Grade → List ℕ → ℕ → Term → Option ℕ
find_by g l c x = pick (ltb 16 g.depth) None (find_line l (after_parts x) c (packed x g))

unfoldable pub find_term : List ℕ → ℕ → Term → Option ℕ
find_term l c x = find_by (grade_of l x) l c x

abbrev pub added : Outcome → ℕ → Added
added o c = record { outcome = o; count = c }

-- the same as the code answers it, of a term added to c terms: a refusal leaves the count
abbrev pub outcome_at : Entry → Outcome
outcome_at (E.Listed i) = Listed i
outcome_at (E.New i) = New i

abbrev pub label_of : Entry → ℕ
label_of (E.Listed i) = i
label_of (E.New i) = i

abbrev pub outcome_of : Size → Outcome
outcome_of Z.Deep = Deep
outcome_of Z.Full = Full

abbrev pub added_in : ℕ → Result A.Added Size → Added
added_in c (Ok r) = added (outcome_at r.entry) r.count
added_in c (Err z) = added (outcome_of z) c

-- the line n, which was looked for, is entered where it was not found and there is room
abbrev pub add_by : Option ℕ → List ℕ → ℕ → ℕ → Held Added
add_by (Some i) l c n = held (added (Listed i) c) l
add_by None l c n = pick (eqb (free_of c) 0) (held (added Full c) l) (held (added (New c) (c + 1)) (set l c n))

abbrev pub add_graded : Grade → List ℕ → ℕ → Term → Held Added
add_graded g l c x = pick (ltb 16 g.depth) (held (added Deep c) l) (add_by (find_line l (after_parts x) c (packed x g)) l c (packed x g))

unfoldable pub add_to : List ℕ → ℕ → Term → Held Added
add_to l c x = add_graded (grade_of l x) l c x

-- from a count back to an earlier one: the lines between the two are zero
unfoldable pub cut_to : List ℕ → ℕ → ℕ → List ℕ
cut_to l earlier c = filled 0 (used_of c - earlier) earlier l
