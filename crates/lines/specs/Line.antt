-- The lines of an input: "LF after each line". LF is byte 10. Bytes after the last LF are one more line.
use Rattle.std.specs.Prelude.{ℕ, ◌+◌, ◌≤◌, ◌<◌, Bool, not, List, [], ◌∷◌, ◌++◌, ◌≡◌, length, ltb, eqb, Option, Some, None}
use Rattle.lines.specs.Base.{pick}

-- how many bytes a list opens with that pass a test
unfoldable pub span : (ℕ → Bool) → List ℕ → ℕ
span p [] = 0
span p (b ∷ s) = pick (p b) (span p s + 1) 0

unfoldable pub no_lf : ℕ → Bool
no_lf b = not (eqb b 10)

-- what a rest of an input opens with: a line of so many bytes and then its LF, or bytes with no LF
unfoldable pub cut_line : List ℕ → Option ℕ
cut_line s = pick (ltb (span no_lf s) (length s)) (Some (span no_lf s)) None

abbrev pub width_by : Option ℕ → List ℕ → ℕ
width_by (Some n) s = n + 1
width_by None s = length s

-- how many bytes its first line has, the LF with them
unfoldable pub width_of : List ℕ → ℕ
width_of s = width_by (cut_line s) s

pub record Width (s : List ℕ) (r : ℕ) : Type 0 where
  pub is : r ≡ width_of s
  pub within : r ≤ length s
  pub some : 0 < length s → 0 < r

-- a byte more in front of the first line
abbrev pub on_first : ℕ → List (List ℕ) → List (List ℕ)
on_first b [] = (b ∷ []) ∷ []
on_first b (l ∷ ls) = (b ∷ l) ∷ ls

-- the lines of an input, each with its LF
unfoldable pub lines_of : List ℕ → List (List ℕ)
lines_of [] = []
lines_of (b ∷ s) = pick (eqb b 10) ((b ∷ []) ∷ lines_of s) (on_first b (lines_of s))

-- lines one after the other
unfoldable pub joined : List (List ℕ) → List ℕ
joined [] = []
joined (l ∷ ls) = l ++ joined ls
