-- The soundness of a table, as a test on every list of numbers and every count, in the order of the code.
use Rattle.std.specs.Prelude.{ℕ, ◌<◌, ◌≤◌, ◌≡◌, Bool, true, false, List, [], ◌∷◌, drop, ltb, eqb, Option, None, Some}
use Rattle.terms.specs.Base.{pick}
use Rattle.terms.specs.Each.{each}
use Rattle.terms.specs.Term.{in_limits, parts_below}
use Rattle.terms.specs.Line.{line_at, term_at, packed}
use Rattle.terms.specs.Grade.{grade_of}
use Rattle.terms.specs.Table.{find_line, fixed_line}
use Rattle.terms.specs.declared.line.Grade.{Grade}

-- "Labels 0, 1, 2 are always number 0, sinit, dinit"
unfoldable pub fixed_first : List ℕ → Bool
fixed_first l =
    pick (eqb (line_at l 0) (fixed_line 0))
    (pick (eqb (line_at l 1) (fixed_line 1)) (eqb (line_at l 2) (fixed_line 2)) false)
    false

abbrev pub is_new : Option ℕ → Bool
is_new (Some i) = false
is_new None = true

-- depth at most 16, depth and ground mark right, and no earlier line alike
abbrev pub line_by : Grade → List ℕ → ℕ → Bool
line_by g l i =
    pick (ltb 16 g.depth) false
    (pick (eqb (packed (term_at l i) g) (line_at l i)) (is_new (find_line l 0 i (line_at l i))) false)

-- the line at label i, judged by the lines before it
unfoldable pub line_sound : List ℕ → ℕ → Bool
line_sound l i =
    pick (in_limits (term_at l i))
    (pick (parts_below (term_at l i) i) (line_by (grade_of l (term_at l i)) l i) false)
    false

unfoldable pub all_zero : List ℕ → Bool
all_zero [] = true
all_zero (m ∷ ms) = pick (eqb m 0) (all_zero ms) false

unfoldable pub sound_test : List ℕ → ℕ → Bool
sound_test l c =
    pick (ltb c 3) false
    (pick (ltb 512 c) false
    (pick (fixed_first l) (pick (each c (line_sound l)) (all_zero (drop c l)) false) false))

-- The same said as facts: what a sound table is. `test_sound` and `sound_test_lem` of proofs/Check.antt tie the two.
pub record Sound (l : List ℕ) (c : ℕ) : Type 0 where
  pub some : 3 ≤ c
  -- "The table holds at most 512 terms"
  pub room : c ≤ 512
  -- "Labels 0, 1, 2 are always number 0, sinit, dinit"
  pub fixed : (i : ℕ) → i < 3 → line_at l i ≡ fixed_line i
  -- known kinds, unused fields 0, variables below 16, functions below 256
  pub limits : (i : ℕ) → i < c → in_limits (term_at l i) ≡ true
  -- "Parts are labels of earlier terms"
  pub parts : (i : ℕ) → i < c → parts_below (term_at l i) i ≡ true
  -- "depth is at most 16"
  pub shallow : (i : ℕ) → i < c → (grade_of l (term_at l i)).depth ≤ 16
  -- a line is its term with the depth and the ground mark that the term has
  pub lines : (i : ℕ) → i < c → packed (term_at l i) (grade_of l (term_at l i)) ≡ line_at l i
  -- terms distinct
  pub distinct : (i j : ℕ) → i < c → j < c → term_at l i ≡ term_at l j → i ≡ j
  -- entries past the count zero
  pub zeros : (i : ℕ) → c ≤ i → line_at l i ≡ 0
