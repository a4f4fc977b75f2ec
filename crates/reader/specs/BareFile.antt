-- The listing of the model Bare in document 01, as bytes.
use Rattle.std.specs.Prelude.{ℕ, List, [], ◌∷◌}

-- its lines in their order; n is the digit of the program whose code is label 3
abbrev pub bare_file : ℕ → List ℕ
bare_file n =
    86 ∷ 9 ∷ 49 ∷ 10 ∷
    69 ∷ 9 ∷ 51 ∷ 9 ∷ 56 ∷ 9 ∷ n ∷ 9 ∷ 48 ∷ 10 ∷
    65 ∷ 9 ∷ 48 ∷ 9 ∷ 49 ∷ 57 ∷ 9 ∷ 48 ∷ 9 ∷ 51 ∷ 9 ∷ 48 ∷ 10 ∷
    65 ∷ 9 ∷ 49 ∷ 9 ∷ 49 ∷ 55 ∷ 9 ∷ 48 ∷ 9 ∷ 48 ∷ 9 ∷ 48 ∷ 10 ∷
    77 ∷ 9 ∷ 48 ∷ 9 ∷ 48 ∷ 9 ∷ 48 ∷ 9 ∷ 48 ∷ 10 ∷
    84 ∷ 9 ∷ 49 ∷ 9 ∷ 48 ∷ 9 ∷ 49 ∷ 10 ∷
    67 ∷ 9 ∷ 48 ∷ 9 ∷ 49 ∷ 9 ∷ 48 ∷ 9 ∷ 48 ∷ 10 ∷
    []
