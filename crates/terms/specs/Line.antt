-- A line of the table: one exact number for a term, its depth and its ground mark.
use Rattle.std.specs.Prelude.{ℕ, ◌+◌, ◌*◌, ◌/◌, ◌%◌, Bool, true, false, List, get_or, eqb}
use Rattle.terms.specs.Term.{term}
use Rattle.terms.specs.declared.term.Term.{Term}
use Rattle.terms.specs.declared.line.Grade.{Grade}

abbrev pub grade : ℕ → Bool → Grade
grade d g = record { depth = d; grounded = g }

abbrev pub bit_of : Bool → ℕ
bit_of true = 1
bit_of false = 0

unfoldable pub packed : Term → Grade → ℕ
packed x g = bit_of g.grounded * 281474976710656 + g.depth * 1099511627776 + x.kind * 4294967296 + x.a * 65536 + x.b

unfoldable pub term_in : ℕ → Term
term_in n = term (n / 4294967296 % 256) (n / 65536 % 65536) (n % 65536)

unfoldable pub depth_in : ℕ → ℕ
depth_in n = n / 1099511627776 % 256

unfoldable pub ground_in : ℕ → Bool
ground_in n = eqb (n / 281474976710656 % 2) 1

-- the line at a label, 0 where there is none
abbrev pub line_at : List ℕ → ℕ → ℕ
line_at l i = get_or l i 0

-- the term that stands at a label
abbrev pub term_at : List ℕ → ℕ → Term
term_at l i = term_in (line_at l i)

-- its depth, and whether it is ground
abbrev pub depth_at : List ℕ → ℕ → ℕ
depth_at l i = depth_in (line_at l i)

abbrev pub ground_at : List ℕ → ℕ → Bool
ground_at l i = ground_in (line_at l i)
